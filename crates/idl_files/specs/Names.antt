-- The name of an included file.
use Rattle.std.specs.Prelude.{ℕ, ◌==◌, ◌-◌, List, [], ◌∷◌, ◌++◌, Bool, false, not, ◌&&◌, if◌then◌else◌, length, take, nat_eq}
use Rattle.std.specs.Cmp.Lexicographic.{pointwise}
use Rattle.std.specs.List.{fold}

-- the segments of a name lie between its slashes: those that a slash ends, after the one that has begun
abbrev pub ended_from : List ℕ → List ℕ → List (List ℕ)
ended_from begun [] = []
ended_from begun (b ∷ bs) = if b == 47 then begun ∷ ended_from [] bs else ended_from (begun ++ b ∷ []) bs

-- and the last one
abbrev pub last_from : List ℕ → List ℕ → List ℕ
last_from begun [] = begun
last_from begun (b ∷ bs) = if b == 47 then last_from [] bs else last_from (begun ++ b ∷ []) bs

-- the segments of a file's directory, which are all but the last of its name
abbrev pub directory : List ℕ → List (List ℕ)
directory name = ended_from [] name

abbrev pub segments : List ℕ → List (List ℕ)
segments name = ended_from [] name ++ last_from [] name ∷ []

abbrev pub is_here : List ℕ → Bool
is_here segment = pointwise nat_eq segment (46 ∷ [])

abbrev pub is_up : List ℕ → Bool
is_up segment = pointwise nat_eq segment (46 ∷ 46 ∷ [])

-- a segment that a `..` behind it takes away
abbrev pub is_plain : List ℕ → Bool
is_plain [] = false
is_plain (b ∷ bs) = not (is_up (b ∷ bs))

abbrev pub ends_plain : List (List ℕ) → Bool
ends_plain [] = false
ends_plain (s ∷ []) = is_plain s
ends_plain (s ∷ t ∷ rest) = ends_plain (t ∷ rest)

abbrev pub kept_with : List (List ℕ) → List ℕ → List (List ℕ)
kept_with kept segment =
    if is_here segment then kept
    else if is_up segment && ends_plain kept then take (length kept - 1) kept
    else kept ++ segment ∷ []

-- the segments without `.`, and without each one that a `..` takes away together with that `..`
abbrev pub settled : List (List ℕ) → List (List ℕ)
settled segments = fold kept_with [] segments

abbrev pub behind : List (List ℕ) → List ℕ
behind [] = []
behind (s ∷ ss) = 47 ∷ (s ++ behind ss)

-- segments with slashes between them
abbrev pub spelled : List (List ℕ) → List ℕ
spelled [] = []
spelled (s ∷ ss) = s ++ behind ss

abbrev pub is_absolute : List ℕ → Bool
is_absolute [] = false
is_absolute (b ∷ bs) = b == 47

-- the segments before those of an include's path: a path that begins with a slash stands for itself
abbrev pub base : List ℕ → List ℕ → List (List ℕ)
base file path = if is_absolute path then [] else directory file

-- the name of the file that this path in this file means
unfoldable pub included_name : List ℕ → List ℕ → List ℕ
included_name file path = spelled (settled (base file path ++ segments path))
