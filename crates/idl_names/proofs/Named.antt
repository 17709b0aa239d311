-- Look-ups in a map whose keys are bytes.
use Rattle.std.proofs.Common.{◌≡◌, ℕ, List, [], ◌∷◌, ◌++◌, refl, ap, ◌∙◌, Bool, true, false, cond, Option, Some, None, nat_eq, Vec, Global}
use Rattle.indexmap.specs.IndexMap.{insert_entry}
use Rattle.std.specs.Cmp.Lexicographic.{pointwise}
use Rattle.std.specs.Map.{lookup}
use Rattle.idl_names.specs.Places.{named, place_of}

pub found : (word : List ℕ) (es : List (Vec ℕ Global × ℕ)) → lookup (λ k. pointwise nat_eq word k.items) es ≡ place_of word (named es)
found word [] = refl
found word (e ∷ es) = ap (λ (rest : Option ℕ). cond (pointwise nat_eq word e.0.items) (Some e.1) rest) (found word es)

none_by : (t : Bool) (n : ℕ) (o : Option ℕ) → cond t (Some n) o ≡ None → (t ≡ false) × (o ≡ None)
none_by true n o h = (cc, cc)
none_by false n o h = (refl, h)

-- a new name goes last
pub appended : (es : List (Vec ℕ Global × ℕ)) (key : Vec ℕ Global) (place : ℕ) → place_of key.items (named es) ≡ None →
    insert_entry (λ x y. pointwise nat_eq x.items y.items) es key place ≡ es ++ (key, place) ∷ []
appended [] key place n = refl
appended (e ∷ es) key place n =
    let parts = none_by (pointwise nat_eq key.items e.0.items) e.1 (place_of key.items (named es)) n in
    rw parts.0 (ap (λ (rest : List (Vec ℕ Global × ℕ)). e ∷ rest) (appended es key place parts.1))

pub named_push : (es : List (Vec ℕ Global × ℕ)) (key : Vec ℕ Global) (place : ℕ) → named (es ++ (key, place) ∷ []) ≡ named es ++ (key.items, place) ∷ []
named_push [] key place = refl
named_push (e ∷ es) key place = ap (λ (rest : List (List ℕ × ℕ)). (e.0.items, e.1) ∷ rest) (named_push es key place)

-- a new name in the table is one more at the end
pub pushed : (es new : List (Vec ℕ Global × ℕ)) (old : List (List ℕ × ℕ)) (name : List ℕ) (key : Vec ℕ Global) (place : ℕ) → named es ≡ old → key.items ≡ name →
    place_of name old ≡ None → new ≡ insert_entry (λ x y. pointwise nat_eq x.items y.items) es key place → named new ≡ old ++ (name, place) ∷ []
pushed es new old name key place v k n e =
    let fresh : place_of key.items (named es) ≡ None = ap (λ (m : List ℕ). place_of m (named es)) k ∙ ap (place_of name) v ∙ n in
    ap named (e ∙ appended es key place fresh) ∙ named_push es key place ∙ ap (λ (xs : List (List ℕ × ℕ)). xs ++ (key.items, place) ∷ []) v ∙ ap (λ (m : List ℕ). old ++ (m, place) ∷ []) k
