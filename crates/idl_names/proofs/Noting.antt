-- One step of a walk along a list that notes what is refused of each item, and its end.
use Rattle.std.proofs.Common.{◌≡◌, ℕ, suc, ◌+◌, ◌<◌, ◌≤◌, List, [], ◌∷◌, ◌++◌, length, get_or, drop, ap, sym, ◌∙◌, add-one, drop-cons, Option, refl}
use Rattle.std.proofs.lemmas.List.{drop_all}
use Rattle.idl_document.specs.declared.document.TypeExpr.{TypeExpr}
use Rattle.idl_document.specs.declared.document.TypeForm.{TypeForm}
use Rattle.idl_document.specs.declared.document.TypeForm.TheVariants as types
use Rattle.idl_document.specs.Trees.{type_tree, form_tree}
use Rattle.idl_rules.specs.Leasts.{least_on, none_lesser}
use Rattle.idl_rules.specs.Order.{Refusal, lesser, least_of}
use Rattle.idl_names.specs.Refusals.{offset_of}

-- what is refused here is noted, and the rest is left
pub noted : (old new whole : Option Refusal) (here rest : List Refusal) → new ≡ lesser old (least_of here) → lesser old (least_of (here ++ rest)) ≡ whole →
    lesser new (least_of rest) ≡ whole
noted old new whole here rest told before = ap (λ (o : Option Refusal). lesser o (least_of rest)) told ∙ least_on old here rest ∙ before

pub next : {X : Type 0} (xs : List X) (i : ℕ) (x : X) → i < length xs → x ≡ get_or xs i x → drop i xs ≡ x ∷ drop (i + 1) xs
next {X} xs i x below is = rw (add-one) (drop-cons xs i x below ∙ ap (λ (y : X). y ∷ drop (suc i) xs) (sym is))

-- what is refused of the rest, where the next item is known
pub opened : {X : Type 0} (xs : List X) (i : ℕ) (x : X) (F : List X → List Refusal) (old whole : Option Refusal) → i < length xs → x ≡ get_or xs i x →
    lesser old (least_of (F (drop i xs))) ≡ whole → lesser old (least_of (F (x ∷ drop (i + 1) xs))) ≡ whole
opened {X} xs i x F old whole below is before = ap (λ (l : List X). lesser old (least_of (F l))) (sym (next xs i x below is)) ∙ before

-- nothing is left
pub ends : {X : Type 0} (xs : List X) (i : ℕ) (F : List X → List Refusal) (least whole : Option Refusal) → F [] ≡ [] → length xs ≤ i →
    lesser least (least_of (F (drop i xs))) ≡ whole → least ≡ whole
ends {X} xs i F least whole empty over all =
    sym (none_lesser least) ∙ ap (λ (l : List Refusal). lesser least (least_of l)) (sym empty)
    ∙ ap (λ (l : List X). lesser least (least_of (F l))) (sym (drop_all i xs over)) ∙ all

-- two checks, one after the other
pub joined : (old mid new : Option Refusal) (a b : List Refusal) → mid ≡ lesser old (least_of a) → new ≡ lesser mid (least_of b) → new ≡ lesser old (least_of (a ++ b))
joined old mid new a b first second = second ∙ ap (λ (o : Option Refusal). lesser o (least_of b)) first ∙ least_on old a b

offset_form : (at : ℕ) (form : TypeForm) → offset_of (form_tree at form) ≡ at
offset_form at (types.Base word) = refl
offset_form at (types.Named name) = refl
offset_form at (types.Map' p key_at key q value_at value) = refl
offset_form at (types.Set' p element_at element) = refl
offset_form at (types.List' p element_at element) = refl

pub offset_is : (ty : TypeExpr) → offset_of (type_tree ty) ≡ ty.at
offset_is ty = offset_form ty.at ty.form
