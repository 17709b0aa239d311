-- Files in the list, by their places.
use Rattle.std.proofs.Common.{◌≡◌, ℕ, zero, suc, ◌<◌, List, [], ◌∷◌, ◌++◌, length, Option, Some, None, get_or, slice_set, Bool, true, false, cond, position, nat_eq, nat_lt, refl, ap, sym, ◌∙◌, arith, Vec, Global}
use Rattle.std.specs.Cmp.Lexicographic.{pointwise}
use Rattle.std.specs.List.{position_or_len, list_any}
use Rattle.idl_names.specs.Files.{FileTree}
use Rattle.idl_files.specs.Listing.{later, key_names, file_names, place_of, is_open_at, with_includes}
use Rattle.idl_names.specs.Files.{file_trees}
use Rattle.idl_names.specs.declared.documents.FileDoc.{FileDoc}
use Rattle.idl_files.proofs.Cutting.{position_behind}

-- the place of a name among names
name_place : List ℕ → List (List ℕ) → Option ℕ
name_place name [] = None
name_place name (n ∷ ns) = cond (pointwise nat_eq name n) (Some 0) (later (name_place name ns))

among_keys : (name : List ℕ) (keys : List (Vec ℕ Global)) → position (λ k. pointwise nat_eq name k.items) keys ≡ name_place name (key_names keys)
unfolding name_place
among_keys name [] = refl
among_keys name (k ∷ ks) =
    position_behind (pointwise nat_eq name k.items) (position_or_len (λ k. pointwise nat_eq name k.items) ks) (length ks)
    ∙ ap (λ (rest : Option ℕ). cond (pointwise nat_eq name k.items) (Some 0) (later rest)) (among_keys name ks)

among_files : (name : List ℕ) (files : List FileTree) → name_place name (file_names files) ≡ place_of name files
unfolding name_place
among_files name [] = refl
among_files name (f ∷ fs) = ap (λ (rest : Option ℕ). cond (pointwise nat_eq name f.name) (Some 0) (later rest)) (among_files name fs)

-- the place that the index gives
pub found : (name : List ℕ) (keys : List (Vec ℕ Global)) (files : List FileTree) → key_names keys ≡ file_names files → position (λ k. pointwise nat_eq name k.items) keys ≡ place_of name files
found name keys files e = among_keys name keys ∙ ap (name_place name) e ∙ among_files name files

none_by : (t : Bool) (o : Option ℕ) → cond t (Some 0) (later o) ≡ None → (t ≡ false) × (o ≡ None)
none_by true o h = (cc, cc)
none_by false None h = (refl, refl)
none_by false (Some m) h = (refl, cc)

absent_key : (key : Vec ℕ Global) (keys : List (Vec ℕ Global)) → name_place key.items (key_names keys) ≡ None → list_any (λ k. pointwise nat_eq key.items k.items) keys ≡ false
unfolding name_place
absent_key key [] e = refl
absent_key key (k ∷ ks) e =
    let parts = none_by (pointwise nat_eq key.items k.items) (name_place key.items (key_names ks)) e in
    rw parts.0 (absent_key key ks parts.1)

-- a new name is no key
pub absent : (key : Vec ℕ Global) (keys : List (Vec ℕ Global)) (files : List FileTree) (name : List ℕ) → key.items ≡ name → key_names keys ≡ file_names files → place_of name files ≡ None →
    list_any (λ k. pointwise nat_eq key.items k.items) keys ≡ false
absent key keys files name k e n =
    absent_key key keys (ap (name_place key.items) e ∙ ap (λ (m : List ℕ). name_place m (file_names files)) k ∙ among_files name files ∙ n)

names_behind : (files : List FileDoc) (f : FileDoc) → file_names (file_trees (files ++ f ∷ [])) ≡ file_names (file_trees files) ++ f.name ∷ []
names_behind [] f = refl
names_behind (g ∷ gs) f = ap (λ (ns : List (List ℕ)). g.name ∷ ns) (names_behind gs f)

keys_behind : (keys : List (Vec ℕ Global)) (key : Vec ℕ Global) → key_names (keys ++ key ∷ []) ≡ key_names keys ++ key.items ∷ []
keys_behind [] key = refl
keys_behind (k ∷ ks) key = ap (λ (ns : List (List ℕ)). k.items ∷ ns) (keys_behind ks key)

-- the index after a file was put
pub names_pushed : (keys new : List (Vec ℕ Global)) (key : Vec ℕ Global) (files pushed : List FileDoc) (f : FileDoc) → new ≡ cond (list_any (λ k. pointwise nat_eq key.items k.items) keys) keys (keys ++ key ∷ []) →
    key.items ≡ f.name → key_names keys ≡ file_names (file_trees files) → place_of f.name (file_trees files) ≡ None → pushed ≡ files ++ f ∷ [] → key_names new ≡ file_names (file_trees pushed)
names_pushed keys new key files pushed f e k i n p =
    ap key_names e
    ∙ ap (λ (t : Bool). key_names (cond t keys (keys ++ key ∷ []))) (absent key keys (file_trees files) f.name k i n)
    ∙ keys_behind keys key
    ∙ ap (λ (ns : List (List ℕ)). ns ++ key.items ∷ []) i
    ∙ ap (λ (m : List ℕ). file_names (file_trees files) ++ m ∷ []) k
    ∙ sym (names_behind files f)
    ∙ ap (λ (fs : List FileDoc). file_names (file_trees fs)) (sym p)

-- whether the file at this place is open
pub open_at : (files : List FileDoc) (place : ℕ) (f : FileDoc) → place < length files → f ≡ get_or files place f → nat_lt (length f.includes) (length f.document.includes) ≡ is_open_at place (file_trees files)
open_at [] place f h e = absurd (omega arith)
open_at (g ∷ gs) zero f h e = ap (λ (x : FileDoc). nat_lt (length x.includes) (length x.document.includes)) e
open_at (g ∷ gs) (suc place) f h e = open_at gs place f (omega arith) e

-- the file at this place gets these includes
pub set_trees : (files : List FileDoc) (place : ℕ) (f : FileDoc) (includes : List ℕ) → place < length files → f ≡ get_or files place f →
    file_trees (slice_set files place (record { name = f.name; document = f.document; includes = includes })) ≡ with_includes place includes (file_trees files)
set_trees [] place f includes h e = absurd (omega arith)
set_trees (g ∷ gs) zero f includes h e = ap (λ (x : FileDoc). file_trees (record { name = x.name; document = x.document; includes = includes } ∷ gs)) e
set_trees (g ∷ gs) (suc place) f includes h e = ap (λ (fs : List FileTree). fs_with g fs) (set_trees gs place f includes (omega arith) e)
  where
    fs_with : FileDoc → List FileTree → List FileTree
    fs_with g fs = file_trees (g ∷ []) ++ fs

names_kept : (files : List FileTree) (place : ℕ) (includes : List ℕ) → file_names (with_includes place includes files) ≡ file_names files
names_kept [] place includes = refl
names_kept (f ∷ fs) zero includes = refl
names_kept (f ∷ fs) (suc place) includes = ap (λ (ns : List (List ℕ)). f.name ∷ ns) (names_kept fs place includes)

-- and keeps its name
pub names_set : (files : List FileDoc) (place : ℕ) (f : FileDoc) (includes : List ℕ) → place < length files → f ≡ get_or files place f →
    file_names (file_trees (slice_set files place (record { name = f.name; document = f.document; includes = includes }))) ≡ file_names (file_trees files)
names_set files place f includes h e = ap file_names (set_trees files place f includes h e) ∙ names_kept (file_trees files) place includes
