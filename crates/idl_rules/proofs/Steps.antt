-- One step of a walk along a list that notes what is refused of each item, and its end.
use Rattle.std.proofs.Common.{◌≡◌, ℕ, suc, ◌+◌, ◌<◌, ◌≤◌, List, [], ◌∷◌, ◌++◌, length, get_or, drop, ap, sym, ◌∙◌, add-one, drop-cons, Option, map, refl}
use Rattle.std.proofs.lemmas.List.{drop_all}
use Rattle.idl_document.specs.declared.document.FieldDecl.{FieldDecl}
use Rattle.idl_document.specs.declared.document.Function.{Function}
use Rattle.idl_document.specs.declared.document.Name.{Name}
use Rattle.idl_document.specs.Trees.{FunctionTree, function_trees, FieldTree, field_trees}
use Rattle.idl_rules.specs.Leasts.{least_on, none_lesser}
use Rattle.idl_rules.specs.Order.{Refusal, lesser, least_of}

-- what is refused here is noted, and the rest is left
pub noted : (old new whole : Option Refusal) (here rest all : List Refusal) → all ≡ here ++ rest → new ≡ lesser old (least_of here) → lesser old (least_of all) ≡ whole →
    lesser new (least_of rest) ≡ whole
noted old new whole here rest all parts told before =
    ap (λ (o : Option Refusal). lesser o (least_of rest)) told ∙ least_on old here rest ∙ ap (λ (l : List Refusal). lesser old (least_of l)) (sym parts) ∙ before

pub next : {X : Type 0} (xs : List X) (i : ℕ) (x : X) → i < length xs → x ≡ get_or xs i x → drop i xs ≡ x ∷ drop (i + 1) xs
next {X} xs i x below is = rw (add-one) (drop-cons xs i x below ∙ ap (λ (y : X). y ∷ drop (suc i) xs) (sym is))

-- what is refused of the rest, where the next item is known
pub opened : {X : Type 0} (xs : List X) (i : ℕ) (x : X) (F : List X → List Refusal) (old whole : Option Refusal) → i < length xs → x ≡ get_or xs i x →
    lesser old (least_of (F (drop i xs))) ≡ whole → lesser old (least_of (F (x ∷ drop (i + 1) xs))) ≡ whole
opened {X} xs i x F old whole below is before = ap (λ (l : List X). lesser old (least_of (F l))) (sym (next xs i x below is)) ∙ before

-- nothing is left
pub ends : {X : Type 0} (xs : List X) (i : ℕ) (F : List X → List Refusal) (least whole : Option Refusal) → F [] ≡ [] → length xs ≤ i →
    lesser least (least_of (F (drop i xs))) ≡ whole → least ≡ whole
ends {X} xs i F least whole empty over all =
    sym (none_lesser least) ∙ ap (λ (l : List Refusal). lesser least (least_of l)) (sym empty)
    ∙ ap (λ (l : List X). lesser least (least_of (F l))) (sym (drop_all i xs over)) ∙ all

-- two checks, one after the other
pub joined : (old mid new : Option Refusal) (a b : List Refusal) → mid ≡ lesser old (least_of a) → new ≡ lesser mid (least_of b) → new ≡ lesser old (least_of (a ++ b))
joined old mid new a b first second = second ∙ ap (λ (o : Option Refusal). lesser o (least_of b)) first ∙ least_on old a b

pub field_names : (fs : List FieldDecl) → map (λ (f : FieldTree). f.name) (field_trees fs) ≡ map (λ (f : FieldDecl). f.name) fs
field_names [] = refl
field_names (f ∷ fs) = ap (λ (ns : List Name). f.name ∷ ns) (field_names fs)

pub function_names : (fs : List Function) → map (λ (f : FunctionTree). f.name) (function_trees fs) ≡ map (λ (f : Function). f.name) fs
function_names [] = refl
function_names (f ∷ fs) = ap (λ (ns : List Name). f.name ∷ ns) (function_names fs)
