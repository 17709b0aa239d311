-- A frame is read or refused, in one way.
use Rattle.std.proofs.Common.{◌≡◌, ℕ, zero, suc, ◌+◌, ◌<◌, ◌≤◌, Bool, true, false, cond, List, [], ◌∷◌, length, Ok, Err, IfOk, refl, ap, ◌∙◌, sym, subst, arith, ◌⊎◌, inl, inr}
use Rattle.std.specs.Prelude.{◌==◌}
use Rattle.thrift_value.specs.Items.{Item, field, stop, bool_value, i8_value, i16_value, i32_value, i64_value, double_value, text, number_text, unknown_text, struct_begin, empty_map, map_begin, set_begin, list_begin, end, uuid_value}
use Rattle.protocol_traits.specs.declared.fault.Fault.{Fault}
use Rattle.protocol_traits.specs.Heads.{Header}
use Rattle.protocol_traits.specs.Room.{weight}
use Rattle.protocol_traits.specs.Steps.{Step}
use Rattle.protocol_traits.specs.Stack.{first_of}
use Rattle.compact_protocol.specs.Laws.{reads_pays, reads_none}
use Rattle.compact_protocol.specs.Reading.{State, ahead, begun, reads, reads_head, reads_end}
use Rattle.compact_laws.specs.Reads.{Reads, IsRead}
use Rattle.compact_laws.specs.Refused.{Refuses, IsRefused}
use Rattle.compact_laws.proofs.Steps.{is_step, is_bad, same_answer, same_blame, no_levels}

-- ---- one way

-- no more items are read here
abbrev pub Stops : State → Type 0
Stops s = (f : Fault) × (reads s ≡ Err f)

pub no_nest : (s : State) → s.nest ≡ [] → Stops s
no_nest s e = (_, reads_none s (ap first_of e))

pub refuses_stops : (s : State) (f : Fault) → Refuses s f → Stops s
refuses_stops s f (inl (some, e)) = (f, e)
refuses_stops s f (inr (none, e)) = no_nest s none

pub both : (s t : State) (item : Item) (f : Fault) → reads s ≡ Ok (item, t) → reads s ≡ Err f → ⊥
both s t item f a b = let wrong = sym a ∙ b in absurd (cc)

record Same (xs ys : List Item) (a b : State) : Type 0 where
  items : xs ≡ ys
  last : a ≡ b

one_way : (xs ys : List Item) (s a b : State) → Reads s xs a → Reads s ys b → Stops a → Stops b → Same xs ys a b
one_way [] [] s a b p q u v = record { items = refl; last = sym p ∙ q }
one_way [] (y ∷ ys) s a b p (next, e, q) u v = absurd (both s next y u.0 e (ap reads p ∙ u.1))
one_way (x ∷ xs) [] s a b (next, e, p) q u v = absurd (both s next x v.0 e (ap reads q ∙ v.1))
one_way (x ∷ xs) (y ∷ ys) s a b (n, e, p) (m, g, q) u v =
    let same = same_answer x y n m (sym e ∙ g) in
    let more = one_way xs ys n a b p (subst (λ t. Reads t ys b) (sym same.1) q) u v in
    record { items = ap (λ i. i ∷ xs) same.0 ∙ ap (λ l. y ∷ l) more.items; last = more.last }

-- where the end is good, no level is open, and nothing is left
ended_by : (a b : Bool) (s last : State) (f g : Fault) → cond a (cond b (is_step {X = Unit {0}} (tt, s)) (is_bad f)) (is_bad g) ≡ is_step (tt, last) → (a ≡ true) × (b ≡ true)
ended_by true true s last f g e = (refl, refl)
ended_by true false s last f g e = absurd (cc)
ended_by false b s last f g e = absurd (cc)

tests_of : (s last : State) → reads_end s ≡ Ok (tt, last) → ((length s.nest == 0) ≡ true) × ((s.place == length s.frame) ≡ true)
unfolding reads_end
tests_of s last e = ended_by (length s.nest == 0) (s.place == length s.frame) s last _ _ e

end_nest : (s last : State) → reads_end s ≡ Ok (tt, last) → s.nest ≡ []
end_nest s last e = no_levels s.nest (tests_of s last e).0

-- and the state stays
ended : (s last : State) → reads_end s ≡ Ok (tt, last) → reads_end s ≡ Ok (tt, s)
unfolding reads_end
ended s last e = let t = tests_of s last e in rw (t.0, t.1) refl

pub never_both : (bytes : List ℕ) (header : Header) (items : List Item) (f : Fault) → IsRead bytes header items → IsRefused bytes f → ⊥
never_both bytes header items f (first, last, head, body, good) (inl e) = let wrong = sym head ∙ e in absurd (cc)
never_both bytes header items f (first, last, head, body, good) (inr (h, xs, start, halt, other, more, refuses)) =
    let one = same_answer header h first start (sym head ∙ other) in
    let none = end_nest last last good in
    let same = one_way items xs first last halt body (subst (λ s. Reads s xs halt) (sym one.1) more) (no_nest last none) (refuses_stops halt f refuses) in
    by_refusal (subst (λ s. Refuses s f) (sym same.last) refuses) none
  where
    by_refusal : Refuses last f → last.nest ≡ [] → ⊥
    by_refusal (inl (some, e)) none = some none
    by_refusal (inr (empty, e)) none = let wrong = sym good ∙ e in absurd (cc)

same_refusal : (s : State) (f g : Fault) → Refuses s f → Refuses s g → f ≡ g
same_refusal s f g (inl (a, e)) (inl (b, h)) = same_blame {X = Item} f g (sym e ∙ h)
same_refusal s f g (inl (a, e)) (inr (b, h)) = absurd (a b)
same_refusal s f g (inr (a, e)) (inl (b, h)) = absurd (b a)
same_refusal s f g (inr (a, e)) (inr (b, h)) = same_blame {X = Unit {0}} f g (sym e ∙ h)

pub one_fault : (bytes : List ℕ) (f g : Fault) → IsRefused bytes f → IsRefused bytes g → f ≡ g
one_fault bytes f g (inl e) (inl h) = same_blame {X = Header} f g (sym e ∙ h)
one_fault bytes f g (inl e) (inr (h, xs, start, halt, other, more, refuses)) = let wrong = sym e ∙ other in absurd (cc)
one_fault bytes f g (inr (h, xs, start, halt, other, more, refuses)) (inl e) = let wrong = sym e ∙ other in absurd (cc)
one_fault bytes f g (inr (h, xs, s, a, p, q, r)) (inr (k, ys, t, b, u, v, w)) =
    let one = same_answer h k s t (sym p ∙ u) in
    let same = one_way xs ys s a b q (subst (λ z. Reads z ys b) (sym one.1) v) (refuses_stops a f r) (refuses_stops b g w) in
    same_refusal a f g r (subst (λ z. Refuses z g) (sym same.last) w)

pub one_reading : (bytes : List ℕ) (h k : Header) (xs ys : List Item) → IsRead bytes h xs → IsRead bytes k ys → (h ≡ k) × (xs ≡ ys)
one_reading bytes h k xs ys (s, a, p, q, r) (t, b, u, v, w) =
    let one = same_answer h k s t (sym p ∙ u) in
    (one.0, (one_way xs ys s a b q (subst (λ z. Reads z ys b) (sym one.1) v) (no_nest a (end_nest a a r)) (no_nest b (end_nest b b w))).items)

-- ---- in some way

abbrev Outcome : State → Type 0
Outcome s = (items : List Item) × (last : State) × Reads s items last × (((last.nest ≡ []) × (reads_end last ≡ Ok (tt, last))) ⊎ ((f : Fault) × Refuses last f))

weighs : (item : Item) → 1 ≤ weight item
weighs (field id kind) = omega arith
weighs stop = omega arith
weighs (bool_value b) = omega arith
weighs (i8_value n) = omega arith
weighs (i16_value n) = omega arith
weighs (i32_value n) = omega arith
weighs (i64_value n) = omega arith
weighs (double_value l) = omega arith
weighs (text l) = omega arith
weighs (number_text l) = omega arith
weighs (unknown_text l) = omega arith
weighs struct_begin = omega arith
weighs empty_map = omega arith
weighs (map_begin key value size) = omega arith
weighs (set_begin kind size) = omega arith
weighs (list_begin kind size) = omega arith
weighs end = omega arith
weighs (uuid_value l) = omega arith

at_end : (s : State) → s.nest ≡ [] → Outcome s
at_end s none = by_end (reads_end s) refl
  where
    by_end : (step : Step State (Unit {0})) → reads_end s ≡ step → Outcome s
    by_end (Ok x) e = ([], s, refl, inl (none, ended s x.1 e))
    by_end (Err f) e = ([], s, refl, inr (f, inr (none, e)))

some_nest : (s : State) → (length s.nest == 0) ≡ false → s.nest ≡ [] → ⊥
some_nest s e none = let wrong = sym e ∙ ap (λ n. length n == 0) none in absurd (cc)

longer : (s next : State) (item : Item) → reads s ≡ Ok (item, next) → Outcome next → Outcome s
longer s next item e (items, last, more, how) = (item ∷ items, last, (next, e, more), how)

goes_on : (fuel : ℕ) (s : State) → ahead s < fuel → Outcome s
goes_on zero s h = absurd (omega (arith, h))
goes_on (suc fuel) s h = by_nest (length s.nest == 0) refl (λ next item e less. longer s next item e (goes_on fuel next (omega (arith, less, h, weighs item))))
  where
    by_read : (step : Step State Item) → reads s ≡ step → IfOk step (λ x. weight x.0 + ahead x.1 ≤ ahead s) → (length s.nest == 0) ≡ false
        → ((next : State) (item : Item) → reads s ≡ Ok (item, next) → weight item + ahead next ≤ ahead s → Outcome s) → Outcome s
    by_read (Ok x) e pays some go = go x.1 x.0 e pays
    by_read (Err f) e pays some go = ([], s, refl, inr (f, inl (some_nest s some, e)))

    by_nest : (b : Bool) → (length s.nest == 0) ≡ b → ((next : State) (item : Item) → reads s ≡ Ok (item, next) → weight item + ahead next ≤ ahead s → Outcome s) → Outcome s
    by_nest true p go = at_end s (no_levels s.nest p)
    by_nest false p go = by_read (reads s) refl (reads_pays s) p go

pub read_or_refused : (bytes : List ℕ) → ((header : Header) × (items : List Item) × IsRead bytes header items) ⊎ ((f : Fault) × IsRefused bytes f)
read_or_refused bytes = by_head (reads_head (begun bytes)) refl
  where
    by_outcome : (h : Header) (first : State) → reads_head (begun bytes) ≡ Ok (h, first) → Outcome first → ((header : Header) × (items : List Item) × IsRead bytes header items) ⊎ ((f : Fault) × IsRefused bytes f)
    by_outcome h first e (items, last, body, inl (none, good)) = inl (h, items, (first, last, e, body, good))
    by_outcome h first e (items, last, body, inr (f, refuses)) = inr (f, inr (h, items, first, last, e, body, refuses))

    by_head : (step : Step State Header) → reads_head (begun bytes) ≡ step → ((header : Header) × (items : List Item) × IsRead bytes header items) ⊎ ((f : Fault) × IsRefused bytes f)
    by_head (Ok x) e = by_outcome x.0 x.1 e (goes_on (suc (ahead x.1)) x.1 (omega arith))
    by_head (Err f) e = inr (f, inl e)
