-- A text that is written in pieces, of which the last wait in a buffer.
use Rattle.std.specs.Prelude.{◌≡◌, ℕ, ◌≤◌, List, ◌++◌, Bool, true, false, Option}
use Rattle.std.specs.Io.KnownBytes.{Appends}
use Rattle.gate_base.specs.Causes.{Rose}

-- the bytes that wait, and whether a write has failed
pub record Waiting : Type 0 where
  pub bytes : List ℕ
  pub broken : Bool

-- an output: the bytes that were written, where it tells them, and how often it has failed
pub record Output : Type 0 where
  pub written : Option (List ℕ)
  pub faults : ℕ

abbrev pub output : Option (List ℕ) → ℕ → Output
output written faults = record { written = written; faults = faults }

-- From a beginning on this text was told: a front of it was written, and the rest waits, unless a write has failed.
pub record Told (from now : Output) (line : Waiting) (text : List ℕ) : Type 0 where
  pub sent : List ℕ
  pub rest : List ℕ
  pub whole : text ≡ sent ++ rest
  pub written : Appends from.written now.written sent
  pub waits : line.broken ≡ false → rest ≡ line.bytes
  pub later : from.faults ≤ now.faults
  pub cause : line.broken ≡ true → Rose from.faults now.faults

-- one more piece was told
abbrev pub Tells : Output → Waiting → Output → Waiting → List ℕ → Type 0
Tells old before new after piece = (from : Output) (text : List ℕ) → Told from old before text → Told from new after (text ++ piece)

-- the same of a sink, by what it tells and how often it has failed
abbrev pub TellsTo : {O : Type 0} → (O → Option (List ℕ)) → (O → ℕ) → O → O → Waiting → Waiting → List ℕ → Type 0
TellsTo written faults old new before after piece = Tells (output (written old) (faults old)) before (output (written new) (faults new)) after piece
