use Rattle.std.proofs.Common.{length, ◌-◌, ◌≡◌, ◌≤◌, ◌++◌, ℕ, List, Bool, take}
use Rattle.stream_messages.specs.declared.scan.Wire.{Wire}
use Rattle.stream_messages.specs.Framing.{Stands, IsOut}
use Rattle.stream_messages.proofs.framer.Framer.hand_out.Given as goal

abbrev pub invariant-loop-count : goal.invariant-loop-count
invariant-loop-count l = record {
  within : l.count ≤ length l.into;
  stands : (wire : Wire) (limit : ℕ) (received given : List ℕ) (ended : Bool) → Stands wire limit l.fn.self received ended given → Stands wire limit l.self received ended (given ++ take l.count l.into);
  none : l.count ≡ 0 → l.self ≡ l.fn.self;
  out : IsOut l.fn.self → l.count ≡ 0;
}

abbrev pub decreases-loop-count : goal.decreases-loop-count
decreases-loop-count l = length l.initial.into - l.count
