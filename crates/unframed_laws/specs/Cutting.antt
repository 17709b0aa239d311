-- How a stream of messages without lengths is cut, and what stands at its front.
use Rattle.std.specs.Prelude.{◌≡◌, ◌<◌, ℕ, List, length, take}
use Rattle.protocol_traits.specs.declared.fault.Fault.{Fault}
use Rattle.protocol_traits.specs.declared.fault.Reason.TheVariants as reasons
use Rattle.stream_messages.specs.declared.scan.Wire.{Wire}
use Rattle.stream_messages.specs.Fronts.{cut, IsFront}
use Rattle.stream_messages.specs.Messages.{Tail, Messages}

-- each shorter front is found cut
abbrev pub IsCutBefore : Wire → List ℕ → Type 0
IsCutBefore wire front = (k : ℕ) → k < length front → IsFront wire cut (take k front)

-- a fault stands in the front, another one than that it is cut or that something trails
abbrev pub HasFault : (List ℕ → Fault → Type 0) → List ℕ → Type 0
HasFault FaultAt front = (f : Fault) × FaultAt front f × (f.reason ≡ reasons.Truncated → ⊥) × (f.reason ≡ reasons.Trailing → ⊥)

-- whole messages and a tail
pub record Pieces : Type 0 where
  pub messages : List (List ℕ)
  pub tail : Tail

-- the stream is cut into these
abbrev pub ArePieces : Wire → ℕ → List ℕ → Pieces → Type 0
ArePieces wire limit stream x = Messages wire limit stream x.messages x.tail
