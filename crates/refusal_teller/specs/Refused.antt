-- The lines of what is told of a session.
use Rattle.std.specs.Prelude.{ℕ, List}
use Rattle.std.specs.List.{flat_map}
use Rattle.session_core.specs.Notes.{Note}

-- the lines of what is told of the session of this number, by how one is spelled
abbrev pub refusal_lines : (ℕ → Note → List ℕ) → ℕ → List Note → List ℕ
refusal_lines text number notes = flat_map (text number) notes
