-- The name under which a file is included.
use Rattle.std.specs.Prelude.{ℕ, suc, ◌+◌, ◌==◌, List, [], ◌∷◌, take, drop, Bool, ◌||◌, if◌then◌else◌, Option, Some, None, nat_eq}
use Rattle.std.specs.Cmp.Lexicographic.{pointwise}

abbrev pub last_by : Bool → Option ℕ → Option ℕ
last_by here (Some place) = Some (suc place)
last_by here None = if here then Some 0 else None

-- the place of the last of these bytes
abbrev pub last_place : ℕ → List ℕ → Option ℕ
last_place mark [] = None
last_place mark (b ∷ bs) = last_by (b == mark) (last_place mark bs)

-- what stands before a place, or all where there is none
abbrev pub before : Option ℕ → List ℕ → List ℕ
before None bytes = bytes
before (Some place) bytes = take place bytes

-- what stands behind it, or all
abbrev pub behind : Option ℕ → List ℕ → List ℕ
behind None bytes = bytes
behind (Some place) bytes = drop (place + 1) bytes

-- the part of a path after its last slash
abbrev pub last_segment : List ℕ → List ℕ
last_segment path = behind (last_place 47 path) path

-- `.` and `..`
abbrev pub is_dots : List ℕ → Bool
is_dots segment = pointwise nat_eq segment (46 ∷ []) || pointwise nat_eq segment (46 ∷ 46 ∷ [])

abbrev pub base_by : List ℕ → Option (List ℕ)
base_by segment = if is_dots segment then None else Some (before (last_place 46 segment) segment)

-- the last segment of a path, cut before its last dot; the segments `.` and `..` name no file
unfoldable pub base_name : List ℕ → Option (List ℕ)
base_name path = base_by (last_segment path)
