-- Values that are judged one after another.
use Rattle.std.proofs.Common.{◌≡◌, ◌∙◌, refl, ap, sym, subst, ℕ, ◌+◌, ◌<◌, suc, List, [], ◌∷◌, ◌++◌, map, drop, drop-cons, add-one, get_or, length, Option, None, Some, inl, inr, arith}
use Rattle.std.proofs.lemmas.List.{drop-map}
use Rattle.idl_document.specs.Trees.{definition_trees}
use Rattle.idl_names.specs.declared.documents.FileDoc.{FileDoc}
use Rattle.idl_names.specs.Files.{FileTree, file_tree, file_trees}
use Rattle.idl_consts.specs.declared.row.ConstRow.{ConstRow}
use Rattle.idl_consts.specs.declared.survey.ConstRef.{ConstRef}
use Rattle.idl_consts.specs.Course.{Course}
use Rattle.idl_consts.specs.Following.{Fault, IsFirst, IsFree, IsWrong}
use Rattle.idl_consts.specs.Meant.{meant_at}
use Rattle.idl_consts.specs.Pieces.{chained}
use Rattle.idl_consts.specs.Told.{Asked, Told, IsLeast, IsTold, told_by, lesser, all_values}

-- some values, and then others
pub least_append : (d : List FileTree) (file : ℕ) (before mid told : Option Fault) (xs ys : List Asked) → IsLeast d file before xs mid → IsLeast d file mid ys told
    → IsLeast d file before (xs ++ ys) told
least_append d file before mid told [] ys first second = subst (λ (m : Option Fault). IsLeast d file m ys told) first second
least_append d file before mid told (x ∷ xs) ys first second = (first.0, first.1, least_append d file (lesser before first.0) mid told xs ys first.2 second)

-- what stands at a place, and what stands behind it
drop_at : {X : Type 0} → (xs : List X) (i : ℕ) (x : X) → i < length xs → x ≡ get_or xs i x → drop i xs ≡ x ∷ drop (i + 1) xs
drop_at xs i x h is = rw (add-one, drop-cons xs i x) (ap (λ (y : _). y ∷ drop (suc i) xs) (sym is))

-- one thing of a list was judged, whose values come first
pub one_judged : {X : Type 0} → (f : List X → List Asked) (g : X → List Asked) → ((y : X) (ys : List X) → f (y ∷ ys) ≡ g y ++ f ys)
    → (d : List FileTree) (file : ℕ) (xs : List X) (i : ℕ) (x : X) → i < length xs → x ≡ get_or xs i x → (least next before : Option Fault)
    → ((told : Option Fault) → IsLeast d file least (f (drop i xs)) told → IsLeast d file before (f xs) told)
    → IsLeast d file least (g x) next → (told : Option Fault) → IsLeast d file next (f (drop (i + 1) xs)) told → IsLeast d file before (f xs) told
one_judged f g each d file xs i x h is least next before so_far step told more =
    let first : f (drop i xs) ≡ g x ++ f (drop (i + 1) xs) = ap f (drop_at xs i x h is) ∙ each x (drop (i + 1) xs) in
    so_far told (subst (λ (vs : List Asked). IsLeast d file least vs told) (sym first) (least_append d file least next told (g x) (f (drop (i + 1) xs)) step more))

-- a name through which nothing is refused is passed
pub name_passed : (d : List FileTree) (ss : List ConstRef) (i : ℕ) (s : ConstRef) (k : Course) (told : Option Fault) → i < length ss → s ≡ get_or ss i s
    → IsFree d s.constant (meant_at d s.ty) → IsFirst d (chained d (drop (i + 1) ss) k) told → IsFirst d (chained d (drop i ss) k) told
name_passed d ss i s k told h is free first =
    subst (λ (left : List ConstRef). IsFirst d (chained d left k) told) (sym (drop_at ss i s h is)) (inl (free, first))

pub name_wrong : (d : List FileTree) (ss : List ConstRef) (i : ℕ) (s : ConstRef) (k : Course) (row : ConstRow) → i < length ss → s ≡ get_or ss i s
    → IsWrong d s.constant (meant_at d s.ty) row → IsFirst d (chained d (drop i ss) k) (Some (s.at, row))
name_wrong d ss i s k row h is wrong =
    subst (λ (left : List ConstRef). IsFirst d (chained d left k) (Some (s.at, row))) (sym (drop_at ss i s h is)) (inr (row, wrong, refl))

-- a file is a tree of the documents
next_file : (files : List FileDoc) (i : ℕ) (f : FileDoc) → i < length files → f ≡ get_or files i f → drop i (file_trees files) ≡ file_tree f ∷ drop (i + 1) (file_trees files)
next_file files i f h is =
    drop-map file_tree i files ∙ ap (map file_tree) (drop_at files i f h is) ∙ ap (λ (rest : List FileTree). file_tree f ∷ rest) (sym (drop-map file_tree (i + 1) files))

-- a file was judged
pub file_judged : (files : List FileDoc) (i : ℕ) (f : FileDoc) (least : Option Fault) (told : Option Told) → i < length files → f ≡ get_or files i f
    → IsLeast (file_trees files) i None (all_values (definition_trees f.document.definitions)) least
    → told_by f.name least (IsTold (file_trees files) (i + 1) (drop (i + 1) (file_trees files))) told
    → IsTold (file_trees files) i (drop i (file_trees files)) told
file_judged files i f least told h is found by =
    let d = file_trees files in
    let e : i + 1 ≡ suc i = omega arith in
    let later = subst (λ (j : ℕ). told_by f.name least (IsTold d j (drop (i + 1) d)) told) e by in
    subst (λ (fs : List FileTree). IsTold d i fs told) (sym (next_file files i f h is)) (least, found, later)
