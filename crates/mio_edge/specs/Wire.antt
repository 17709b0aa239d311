-- What a stream tells: the bytes that went over it, and how it came to its end.
use Rattle.std.specs.Prelude.{◌≡◌, ℕ, List, [], ◌++◌, length, take, Bool, true, false, ◌||◌, nat_lt, if◌then◌else◌, ⊤}
use Rattle.mio_edge.specs.declared.network.Accepted.{Accepted}
use Rattle.mio_edge.specs.declared.network.Accepted.TheVariants as accepted
use Rattle.gate_hub.specs.declared.hub.LinkGot.{LinkGot}
use Rattle.gate_hub.specs.declared.hub.LinkGot.TheVariants as got
use Rattle.gate_hub.specs.declared.hub.LinkPut.{LinkPut}
use Rattle.gate_hub.specs.declared.hub.LinkPut.TheVariants as put

-- The bytes that its reads gave and that its writes took; whether a read found the peer's end, a read or a write failed, and
-- the peer was told that no more will come. It is readable once that was reported, until a read finds the last of what came:
-- one that would have to wait, or that leaves room. It is writable once that was reported, until a write isn't taken whole.
pub record Wire : Type 0 where
  pub received : List ℕ
  pub sent : List ℕ
  pub ended : Bool
  pub failed : Bool
  pub shut : Bool
  pub readable : Bool
  pub writable : Bool

-- a stream over which nothing went
abbrev pub new_wire : Wire
new_wire = record { received = []; sent = []; ended = false; failed = false; shut = false; readable = false; writable = false }

-- the same once it was reported to be so
abbrev pub heard : Bool → Bool → Wire → Wire
heard readable writable a = record a { readable = a.readable || readable; writable = a.writable || writable }

-- whether there may be more, where there was so before, after so many bytes went of as many as could have
abbrev pub more_after : Bool → ℕ → ℕ → Bool
more_after before count most = if nat_lt count most then false else before

-- each meaning that was told leads to one that is told, and the two differ so
abbrev pub Moves : {A : Type 0} → (A → Type 0) → (A → Type 0) → (A → A → Type 0) → Type 0
Moves {A} old new Step = (a : A) → old a → ((b : A) × new b × Step a b)

-- what was told is told still
abbrev pub Stays : {A : Type 0} → (A → Type 0) → (A → Type 0) → Type 0
Stays {A} old new = (a : A) → old a → new a

-- of a read into a slice of so many bytes, which begins with these now
abbrev pub WireReads : ℕ → List ℕ → LinkGot → Wire → Wire → Type 0
WireReads room into (got.Bytes n) a b = b ≡ record a { received = a.received ++ take n into; readable = more_after a.readable n room }
WireReads room into got.NotReady a b = b ≡ record a { readable = false }
WireReads room into got.End a b = b ≡ record a { ended = true }
WireReads room into got.Failed a b = b ≡ record a { failed = true }

-- of a write of these bytes
abbrev pub WireWrites : List ℕ → LinkPut → Wire → Wire → Type 0
WireWrites from (put.Took n) a b = b ≡ record a { sent = a.sent ++ take n from; writable = more_after a.writable n (length from) }
WireWrites from put.NotReady a b = b ≡ record a { writable = false }
WireWrites from put.Failed a b = b ≡ record a { failed = true }

abbrev pub WireShuts : Wire → Wire → Type 0
WireShuts a b = b ≡ record a { shut = true }

-- this holds of the stream that was accepted, if one was
abbrev pub IfCame : {S : Type 0} → Accepted S → (S → Type 0) → Type 0
IfCame (accepted.Came stream number) P = P stream
IfCame accepted.Handed P = ⊤
IfCame accepted.Nothing P = ⊤
IfCame accepted.Gone P = ⊤
IfCame accepted.Failed P = ⊤
