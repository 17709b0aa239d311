-- What a teller has written on the way from one moment to a later one.
use Rattle.std.specs.Prelude.{◌≡◌, ℕ, ◌≤◌, ◌⊎◌, List, [], Option}
use Rattle.std.specs.Io.KnownBytes.{Appends}
use Rattle.gate_base.specs.Causes.{Rose}
use Rattle.gate_io.specs.Fronts.{AppendsFront}
use Rattle.gate_io.specs.declared.writing.Wrote.{Wrote}
use Rattle.gate_io.specs.declared.writing.Wrote.TheVariants as wrote
use Rattle.session_core.specs.Notes.{Note}
use Rattle.refusal_teller.specs.Refused.{refusal_lines}

-- all of these lines were written, or a front of them
abbrev pub Writes : Wrote → Option (List ℕ) → Option (List ℕ) → List ℕ → Type 0
Writes wrote.All old new lines = Appends old new lines
Writes wrote.Failed old new lines = AppendsFront old new lines

-- the same where nothing is written behind a write that failed
abbrev pub WritesBehind : Wrote → Wrote → Option (List ℕ) → Option (List ℕ) → List ℕ → Type 0
WritesBehind wrote.All now old new lines = Writes now old new lines
WritesBehind wrote.Failed now old new lines = (now ≡ wrote.Failed) × Appends old new []

-- where a teller stands: which output and which buffer it has, how it spells lines and for which session; what was written,
-- whether each line was, and how often the output has failed
pub record Stand : Type 0 where
  pub output : ℕ
  pub line : ℕ
  pub room : ℕ
  pub text : ℕ → Note → List ℕ
  pub number : ℕ
  pub wrote : Wrote
  pub written : Option (List ℕ)
  pub faults : ℕ

-- on the way from one to a later one it was told these, and wrote their lines
pub record Tells (a b : Stand) (notes : List Note) : Type 0 where
  pub output : b.output ≡ a.output
  pub line : b.line ≡ a.line
  pub room : b.room ≡ a.room
  pub text : b.text ≡ a.text
  pub number : b.number ≡ a.number
  pub writes : WritesBehind a.wrote b.wrote a.written b.written (refusal_lines a.text a.number notes)
  pub later : a.faults ≤ b.faults
  pub cause : b.wrote ≡ wrote.Failed → (a.wrote ≡ wrote.Failed) ⊎ Rose a.faults b.faults
