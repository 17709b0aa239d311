-- The lines of the report, and those of the output that say of a frame that it meets what is declared of it.
use Rattle.std.specs.Prelude.{ℕ, ℤ, List, [], ◌∷◌, ◌++◌, codes, decimal}
use Rattle.std.specs.List.{flat_map}
use Rattle.std.specs.Fmt.{signed_decimal}
use Rattle.conform_check.specs.declared.step.Step.{Step}
use Rattle.conform_check.specs.declared.step.Step.TheVariants as steps
use Rattle.conform_check.specs.Checking.{Broken}
use Rattle.conform_check.specs.Texts.{breach_text}
use Rattle.line_transport.specs.declared.transport.Excess.{Excess}
use Rattle.line_transport.specs.declared.transport.Excess.TheVariants as excesses

-- frame NUMBER: at PLACE: CAUSE
unfoldable pub refusal_text : ℕ → ℕ → List ℕ → List ℕ
refusal_text number place cause = codes "frame " ++ decimal number ++ codes ": at " ++ decimal place ++ codes ": " ++ cause ++ codes "\n"

-- stream: frame NUMBER: length N
unfoldable pub too_large_text : ℕ → ℤ → List ℕ
too_large_text number length = codes "stream: frame " ++ decimal number ++ codes ": length " ++ signed_decimal length ++ codes "\n"

-- stream: frame NUMBER: over F bytes
unfoldable pub over_text : ℕ → ℕ → List ℕ
over_text number limit = codes "stream: frame " ++ decimal number ++ codes ": over " ++ decimal limit ++ codes " bytes\n"

-- of a frame its length, of a line that it is longer than so many bytes
abbrev pub excess_text : ℕ → ℕ → Excess → List ℕ
excess_text limit number (excesses.Length n) = too_large_text number n
excess_text limit number excesses.Line = over_text number limit

-- stream: N bytes after frame NUMBER
unfoldable pub left_text : ℕ → ℕ → List ℕ
left_text frames count = codes "stream: " ++ decimal count ++ codes " bytes after frame " ++ decimal frames ++ codes "\n"

-- frame NUMBER: meets
unfoldable pub meets_text : ℕ → List ℕ
meets_text number = codes "frame " ++ decimal number ++ codes ": meets\n"

-- a field as its id, a place in a container in brackets
unfoldable pub step_text : Step → List ℕ
step_text (steps.Field id) = signed_decimal id
step_text (steps.Item place) = codes "item[" ++ decimal place ++ codes "]"
step_text (steps.Key place) = codes "key[" ++ decimal place ++ codes "]"
step_text (steps.Part place) = codes "value[" ++ decimal place ++ codes "]"

-- a step behind others
abbrev pub next_text : Step → List ℕ
next_text step = codes "/" ++ step_text step

-- the steps with a `/` between each two; the message's own path is a dot
unfoldable pub path_text : List Step → List ℕ
path_text [] = codes "."
path_text (step ∷ steps) = step_text step ++ flat_map next_text steps

-- frame NUMBER: at PATH: TEXT
unfoldable pub breach_line : ℕ → Broken → List ℕ
breach_line number b = codes "frame " ++ decimal number ++ codes ": at " ++ path_text b.path ++ codes ": " ++ breach_text b.breach ++ codes "\n"
