-- What the files in memory do, exactly.
use Rattle.std.specs.Prelude.{◌≡◌, ◌≤◌, ℕ, List, [], ◌∷◌, length, Option, Some, None, true, false, if◌then◌else◌, nat_eq, ⊤}
use Rattle.std.specs.Global.{Vec}
use Rattle.std.specs.Cmp.Lexicographic.{pointwise}
use Rattle.gate_base.specs.Causes.{one_more}
use Rattle.gate_memory.specs.Streams.{is_told_to_fail}
use Rattle.gate_io.specs.Fetching.{longest_file}
use Rattle.gate_io.specs.declared.files.Fetched.{Fetched}
use Rattle.gate_io.specs.declared.files.Fetched.TheVariants as fetched

-- each name with its bytes
pub record FilesState : Type 0 where
  pub texts : List (List ℕ × List ℕ)
  pub calls : ℕ
  pub fail : List ℕ
  pub faults : ℕ

-- the names as lists
abbrev pub by_name : List (Vec ℕ × List ℕ) → List (List ℕ × List ℕ)
by_name [] = []
by_name (e ∷ es) = (e.0.items, e.1) ∷ by_name es

abbrev pub AllShort : List (List ℕ × List ℕ) → Type 0
AllShort [] = ⊤
AllShort (e ∷ es) = (length e.1 ≤ longest_file) × AllShort es

-- the bytes of the file of this name
abbrev pub text_of : List (List ℕ × List ℕ) → List ℕ → Option (List ℕ)
text_of [] name = None
text_of (e ∷ es) name = if pointwise nat_eq name e.0 then Some e.1 else text_of es name

-- the files once the one of this name has these bytes
abbrev pub with_text : List (List ℕ × List ℕ) → List ℕ → List ℕ → List (List ℕ × List ℕ)
with_text [] name text = (name, text) ∷ []
with_text (e ∷ es) name text = if pointwise nat_eq name e.0 then (e.0, text) ∷ es else e ∷ with_text es name text

-- a fetch fails where it is told to; want of memory leaves all as it was
abbrev pub MemoryFetches : FilesState → FilesState → List ℕ → Fetched → Type 0
MemoryFetches old new name (fetched.Found text) =
    (is_told_to_fail old.fail old.calls ≡ false) × (text_of old.texts name ≡ Some text) × (new ≡ record old { calls = one_more old.calls })
MemoryFetches old new name fetched.Absent =
    (is_told_to_fail old.fail old.calls ≡ false) × (text_of old.texts name ≡ None) × (new ≡ record old { calls = one_more old.calls })
MemoryFetches old new name fetched.Failed =
    (is_told_to_fail old.fail old.calls ≡ true) × (new ≡ record old { calls = one_more old.calls; faults = one_more old.faults })
MemoryFetches old new name fetched.OutOfMemory = (is_told_to_fail old.fail old.calls ≡ false) × (new ≡ old)
