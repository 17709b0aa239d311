-- What is told and what is left of a body, by steps.
use Rattle.std.proofs.Common.{◌≡◌, ◌+◌, ◌<◌, ◌^◌, List, [], ◌∷◌, ◌++◌, map, length, refl, sym, ap, ◌∙◌, subst, append_assoc, length-append, arith, IfSome, Option, Some}
use Rattle.std.proofs.lemmas.List.{map-append, append-nil, length-map}
use Rattle.thrift_value.specs.declared.kind.Kind.{Kind}
use Rattle.thrift_value.specs.declared.event.Event.{Event}
use Rattle.value_trees.specs.declared.events.Rest.{Rest}
use Rattle.value_trees.specs.declared.value.Value.{Value}
use Rattle.value_trees.specs.declared.value.Value.TheVariants as values
use Rattle.thrift_value.specs.Items.{Item, item_of}
use Rattle.thrift_value.specs.Trees.{Trees, Pairs, count_of_trees, count_of_pairs, IsValue}
use Rattle.value_trees.specs.Views.{tree_of, trees_of, pairs_of}
use Rattle.value_trees.specs.Telling.{items_left, left_in, all_left, IsRest, AreRests}

pub trees-counted : (vs : List Value) → count_of_trees (trees_of vs) ≡ length vs
trees-counted [] = refl
trees-counted (v ∷ vs) = omega (arith, trees-counted vs)

pub pairs-counted : (ps : List (Value × Value)) → count_of_pairs (pairs_of ps) ≡ length ps
pairs-counted [] = refl
pairs-counted (p ∷ ps) = omega (arith, pairs-counted ps)

pub pairs-fit : (v : Value) (key value : Kind) (ps : Pairs) (list : List (Value × Value)) → v ≡ values.Map key value ps → pairs_of list ≡ ps → IsValue (tree_of v) → length list < 2 ^ 32
pairs-fit v key value ps list is same valid =
    let parts : IsValue (tree_of (values.Map key value ps)) = subst (λ (x : Value). IsValue (tree_of x)) is valid in
    omega (arith, parts.1, pairs-counted list, ap count_of_pairs same)

pub set-fits : (v : Value) (kind : Kind) (ts : Trees) (list : List Value) → v ≡ values.Set kind ts → trees_of list ≡ ts → IsValue (tree_of v) → length list < 2 ^ 32
set-fits v kind ts list is same valid =
    let parts : IsValue (tree_of (values.Set kind ts)) = subst (λ (x : Value). IsValue (tree_of x)) is valid in
    omega (arith, parts.0, trees-counted list, ap count_of_trees same)

pub list-fits : (v : Value) (kind : Kind) (ts : Trees) (list : List Value) → v ≡ values.List kind ts → trees_of list ≡ ts → IsValue (tree_of v) → length list < 2 ^ 32
list-fits v kind ts list is same valid =
    let parts : IsValue (tree_of (values.List kind ts)) = subst (λ (x : Value). IsValue (tree_of x)) is valid in
    omega (arith, parts.0, trees-counted list, ap count_of_trees same)

pub left-pushed : (rs : List Rest) (r : Rest) → all_left (rs ++ r ∷ []) ≡ items_left r ++ all_left rs
left-pushed [] r = sym (append-nil (items_left r))
left-pushed (q ∷ qs) r = ap (λ (xs : List Item). xs ++ items_left q) (left-pushed qs r) ∙ append_assoc (items_left r) (all_left qs) (items_left q)

pub rests-pushed : (rs : List Rest) (r : Rest) → AreRests rs → IsRest r → AreRests (rs ++ r ∷ [])
rests-pushed [] r all one = (one, tt)
rests-pushed (q ∷ qs) r all one = (all.0, rests-pushed qs r all.1 one)

pub rests-popped : (rs : List Rest) (r : Rest) → AreRests (rs ++ r ∷ []) → AreRests rs × IsRest r
rests-popped [] r all = (tt, all.0)
rests-popped (q ∷ qs) r all = ((all.0, (rests-popped qs r all.1).0), (rests-popped qs r all.1).1)

-- an event was told, and what is behind it waits
pub told-on : (told' told : List Event) (e : Event) (waiting' waiting : List Rest) (r : Rest) (its : List Item) → told' ≡ told ++ e ∷ [] → waiting' ≡ waiting ++ r ∷ [] → item_of e ∷ items_left r ≡ its → map item_of told' ++ all_left waiting' ≡ map item_of told ++ (its ++ all_left waiting)
told-on told' told e waiting' waiting r its on behind is = rw (on, behind, map-append item_of told (e ∷ []), left-pushed waiting r, ← is) (append_assoc (map item_of told) (item_of e ∷ []) (items_left r ++ all_left waiting))

pub begun-on : (told' told : List Event) (e : Event) (waiting' waiting : List Rest) (o : Option Rest) (r : Rest) (its : List Item) → told' ≡ told ++ e ∷ [] → waiting' ≡ waiting ++ r ∷ [] → o ≡ Some r → item_of e ∷ left_in o ≡ its → map item_of told' ++ all_left waiting' ≡ map item_of told ++ (its ++ all_left waiting)
begun-on told' told e waiting' waiting o r its on behind some is = told-on told' told e waiting' waiting r its on behind (subst (λ (x : Option Rest). item_of e ∷ left_in x ≡ its) some is)

pub begun-rests : (waiting' waiting : List Rest) (o : Option Rest) (r : Rest) → waiting' ≡ waiting ++ r ∷ [] → o ≡ Some r → IfSome o IsRest → AreRests waiting → AreRests waiting'
begun-rests waiting' waiting o r behind some one all = subst AreRests (sym behind) (rests-pushed waiting r all (subst (λ (x : Option Rest). IfSome x IsRest) some one))

-- an event was told that is all of what was left
pub told-all : (told' told : List Event) (e : Event) (waiting : List Rest) (its : List Item) → told' ≡ told ++ e ∷ [] → item_of e ∷ [] ≡ its → map item_of told' ++ all_left waiting ≡ map item_of told ++ (its ++ all_left waiting)
told-all told' told e waiting its on is = rw (on, map-append item_of told (e ∷ []), ← is) (append_assoc (map item_of told) (item_of e ∷ []) (all_left waiting))

regrouped : (a b c d : List Item) → a ++ (b ++ (c ++ d)) ≡ a ++ ((b ++ c) ++ d)
regrouped a b c d = ap (λ (xs : List Item). a ++ xs) (sym (append_assoc b c d))

-- more waits
pub rests-on : (waiting' waiting : List Rest) (r : Rest) → waiting' ≡ waiting ++ r ∷ [] → AreRests waiting → IsRest r → AreRests waiting'
rests-on waiting' waiting r behind all one = subst AreRests (sym behind) (rests-pushed waiting r all one)

-- what comes first was begun, and the rest of it waits
pub value-on : (now : List Item) (told : List Event) (waiting' waiting : List Rest) (r : Rest) (its all : List Item) → now ≡ map item_of told ++ (its ++ all_left waiting') → waiting' ≡ waiting ++ r ∷ [] → its ++ items_left r ≡ all → now ≡ map item_of told ++ (all ++ all_left waiting)
value-on now told waiting' waiting r its all begun behind is = rw (begun, behind, left-pushed waiting r, ← is) (regrouped (map item_of told) its (items_left r) (all_left waiting))

pub field-on : (now : List Item) (told' told : List Event) (e : Event) (waiting' waiting : List Rest) (r : Rest) (its all : List Item) → now ≡ map item_of told' ++ (its ++ all_left waiting') → told' ≡ told ++ e ∷ [] → waiting' ≡ waiting ++ r ∷ [] → item_of e ∷ (its ++ items_left r) ≡ all → now ≡ map item_of told ++ (all ++ all_left waiting)
field-on now told' told e waiting' waiting r its all begun on behind is =
    rw (begun, on, behind, left-pushed waiting r, map-append item_of told (e ∷ []), ← is)
    (append_assoc (map item_of told) (item_of e ∷ []) (its ++ (items_left r ++ all_left waiting)) ∙ regrouped (map item_of told) (item_of e ∷ its) (items_left r) (all_left waiting))

-- a turn of the loop
pub left-popped : (old waiting : List Rest) (r : Rest) → old ≡ waiting ++ r ∷ [] → items_left r ++ all_left waiting ≡ all_left old
left-popped old waiting r is = rw (is, left-pushed waiting r) refl

pub left-falls : (told' told : List Event) (waiting' waiting old : List Rest) (r : Rest) → old ≡ waiting ++ r ∷ [] → map item_of told' ++ all_left waiting' ≡ map item_of told ++ (items_left r ++ all_left waiting) → length told < length told' → length (all_left waiting') < length (all_left old)
left-falls told' told waiting' waiting old r is on more =
    let all : length (map item_of told') + length (all_left waiting') ≡ length (map item_of told) + (length (items_left r) + length (all_left waiting)) = simp length-append at (ap length on) in
    omega (arith, all, length-map told item_of, length-map told' item_of, simp length-append at (ap length (left-popped old waiting r is)))

pub told-kept : (told' told : List Event) (waiting' waiting old : List Rest) (r : Rest) (all : List Item) → old ≡ waiting ++ r ∷ [] → map item_of told' ++ all_left waiting' ≡ map item_of told ++ (items_left r ++ all_left waiting) → map item_of told ++ all_left old ≡ all → map item_of told' ++ all_left waiting' ≡ all
told-kept told' told waiting' waiting old r all is on before = on ∙ ap (λ (xs : List Item). map item_of told ++ xs) (left-popped old waiting r is) ∙ before
