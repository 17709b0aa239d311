-- What a fetch says of the files.
use Rattle.std.specs.Prelude.{◌≡◌, ◌≤◌, ℕ, List, length, Option, Some, None, ⊤}
use Rattle.gate_io.specs.declared.files.Fetched.{Fetched}
use Rattle.gate_io.specs.declared.files.Fetched.TheVariants as fetched

-- where the files tell their bytes
abbrev pub FetchesOf : (List ℕ → Option (List ℕ)) → List ℕ → Fetched → Type 0
FetchesOf files name (fetched.Found text) = files name ≡ Some text
FetchesOf files name fetched.Absent = files name ≡ None
FetchesOf files name fetched.Failed = ⊤
FetchesOf files name fetched.OutOfMemory = ⊤

abbrev pub Fetches : Option (List ℕ → Option (List ℕ)) → List ℕ → Fetched → Type 0
Fetches None name answer = ⊤
Fetches (Some files) name answer = FetchesOf files name answer

-- the most bytes that a file may have
abbrev pub longest_file : ℕ
longest_file = 16777216

abbrev pub IsShort : Fetched → Type 0
IsShort (fetched.Found text) = length text ≤ longest_file
IsShort fetched.Absent = ⊤
IsShort fetched.Failed = ⊤
IsShort fetched.OutOfMemory = ⊤
