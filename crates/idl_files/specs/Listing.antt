-- The files that were fetched so far, in the order of their first mention.
use Rattle.std.specs.Prelude.{ℕ, zero, suc, ◌+◌, List, [], ◌∷◌, Option, Some, None, Bool, false, if◌then◌else◌, length, map, nat_eq, nat_lt}
use Rattle.std.specs.Global.{Vec}
use Rattle.std.specs.Cmp.Lexicographic.{pointwise}
use Rattle.idl_document.specs.Trees.{DocumentTree}
use Rattle.idl_names.specs.Files.{FileTree}

abbrev pub later : Option ℕ → Option ℕ
later None = None
later (Some n) = Some (1 + n)

-- the place of the file of this name
abbrev pub place_of : List ℕ → List FileTree → Option ℕ
place_of name [] = None
place_of name (f ∷ fs) = if pointwise nat_eq name f.name then Some 0 else later (place_of name fs)

-- a file whose includes are being read: the places of its includes are not told yet
abbrev pub is_open : FileTree → Bool
is_open f = nat_lt (length f.includes) (length f.document.includes)

abbrev pub is_open_at : ℕ → List FileTree → Bool
is_open_at place [] = false
is_open_at zero (f ∷ fs) = is_open f
is_open_at (suc place) (f ∷ fs) = is_open_at place fs

-- a file that was just parsed
abbrev pub fresh : List ℕ → DocumentTree → FileTree
fresh name document = record { name = name; document = document; includes = [] }

-- the file at this place has these includes
abbrev pub with_includes : ℕ → List ℕ → List FileTree → List FileTree
with_includes place includes [] = []
with_includes zero includes (f ∷ fs) = record f { includes = includes } ∷ fs
with_includes (suc place) includes (f ∷ fs) = f ∷ with_includes place includes fs

abbrev pub file_names : List FileTree → List (List ℕ)
file_names files = map (λ f. f.name) files

abbrev pub key_names : List (Vec ℕ) → List (List ℕ)
key_names keys = map (λ k. k.items) keys
