-- What became of a connection that waited.
use Rattle.std.specs.Prelude.{ℕ, ⊤}
use Rattle.mio_edge.specs.declared.listening.Admitted.{Admitted}
use Rattle.mio_edge.specs.declared.listening.Admitted.TheVariants as admitted

-- this holds of its number, if it is a session here
abbrev pub IfHere : Admitted → (ℕ → Type 0) → Type 0
IfHere (admitted.Here k) P = P k
IfHere admitted.Handed P = ⊤
IfHere admitted.Nothing P = ⊤

-- this holds, unless it is a session here
abbrev pub IfNotHere : Admitted → Type 0 → Type 0
IfNotHere (admitted.Here k) P = ⊤
IfNotHere admitted.Handed P = P
IfNotHere admitted.Nothing P = P
