-- One event more.
use Rattle.std.proofs.Common.{◌≡◌, ℕ, ◌+◌, ◌<◌, List, [], ◌∷◌, ◌++◌, map, length, take, get_or, refl, sym, ap, ◌∙◌, subst, arith, None, IsTrue, true, false}
use Rattle.std.proofs.lemmas.List.{map_more, take-map, length-map, take_all}
use Rattle.thrift_value.specs.declared.event.Event.{Event}
use Rattle.thrift_value.specs.Items.{Item, item_of}
use Rattle.value_trees.specs.Gathering.{Stand, onward, run, at_first, body_at, IsRefused, StopsAt}

pub run-on : (s : Stand) (xs : List Item) (x : Item) → run s (xs ++ x ∷ []) ≡ onward (run s xs) x
run-on s [] x = refl
run-on s (y ∷ ys) x = run-on (onward s y) ys x

pub more : (events : List Event) (place : ℕ) (d : Event) (s now : Stand) → place < length events → s ≡ run at_first (map item_of (take place events)) → now ≡ onward s (item_of (get_or events place d)) → now ≡ run at_first (map item_of (take (place + 1) events))
more events place d s now within before on =
    on ∙ ap (λ (t : Stand). onward t (item_of (get_or events place d))) before ∙ sym (run-on at_first (map item_of (take place events)) (item_of (get_or events place d))) ∙ sym (ap (run at_first) (map_more item_of events place d within))

pub stops : (events : List Event) (place : ℕ) (s now : Stand) → place < length events → s ≡ run at_first (map item_of (take place events)) → (IsRefused s → ⊥) → now ≡ run at_first (map item_of (take (place + 1) events)) → IsRefused now → StopsAt (map item_of events) place
stops events place s now within before goes after refused = record {
  front = λ h. goes (subst IsRefused (sym before) (subst (λ (xs : List Item). IsRefused (run at_first xs)) (take-map item_of place events) h));
  within = omega (arith, length-map events item_of);
  broken = λ h. subst (λ (xs : List Item). IsRefused (run at_first xs)) (sym (take-map item_of (place + 1) events)) (subst IsRefused after refused);
  short = λ h. absurd (omega (arith, h, length-map events item_of));
}

pub whole : (events : List Event) (place : ℕ) (s : Stand) → place ≡ length events → s ≡ run at_first (map item_of (take place events)) → s ≡ run at_first (map item_of events)
whole events place s is stand = stand ∙ ap (λ (xs : List Event). run at_first (map item_of xs)) (ap (λ (n : ℕ). take n events) is ∙ take_all (length events) events (omega arith))

pub short : (events : List Event) (place other : ℕ) (s : Stand) → place ≡ length events → s ≡ run at_first (map item_of (take place events)) → (IsRefused s → ⊥) → body_at s ≡ None → other ≡ length events → StopsAt (map item_of events) other
short events place other s is stand goes none at = record {
  front = λ h. goes (subst IsRefused (sym stand) (subst (λ (xs : List Item). IsRefused (run at_first xs)) (take-map item_of place events) (subst (λ (n : ℕ). IsRefused (run at_first (take n (map item_of events)))) (at ∙ sym is) h)));
  within = omega (arith, length-map events item_of);
  broken = λ h. absurd (omega (arith, h, length-map events item_of));
  short = λ h. ap body_at (sym (whole events place s is stand)) ∙ none;
}

pub not_true : IsTrue false → ⊥
not_true h = absurd (cc)

pub is_true : IsTrue true
is_true = refl
