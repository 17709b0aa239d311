-- A frame is read or refused, in one way.
use Rattle.std.proofs.Common.{◌≡◌, ℕ, zero, suc, ◌+◌, ◌<◌, ◌≤◌, Bool, true, false, List, [], ◌∷◌, length, Option, Ok, Err, IfOk, refl, ap, ◌∙◌, sym, subst, arith, ◌⊎◌, inl, inr}
use Rattle.std.specs.Prelude.{◌==◌}
use Rattle.std.proofs.lemmas.Bool.Decides.{nat_tests}
use Rattle.thrift_value.specs.Items.{Item, field, stop, bool_value, i8_value, i16_value, i32_value, i64_value, double_value, text, number_text, unknown_text, struct_begin, empty_map, map_begin, set_begin, list_begin, end, uuid_value}
use Rattle.thrift_value.specs.Trees.{Message, depth_of_members}
use Rattle.protocol_traits.specs.declared.fault.Fault.{Fault}
use Rattle.protocol_traits.specs.declared.nest.Slot.{Slot}
use Rattle.protocol_traits.specs.Heads.{Header}
use Rattle.protocol_traits.specs.Room.{weight}
use Rattle.protocol_traits.specs.Steps.{Step}
use Rattle.protocol_traits.specs.Stack.{first_of}
use Rattle.type_tables.specs.declared.declared.StructId.{StructId}
use Rattle.type_tables.specs.Declarations.{Declarations}
use Rattle.type_walk.specs.Positions.{Position, hint_of, after, start}
use Rattle.json_protocol.specs.Laws.{reads_pays, reads_none}
use Rattle.json_protocol.specs.Scan.{Scan}
use Rattle.json_protocol.specs.Reading.{State, ahead, begun, rest, reads}
use Rattle.json_protocol.specs.Head.{reads_head, end_scan, ended, reads_end}
use Rattle.json_protocol.specs.Grammar.{SpellsMessage}
use Rattle.json_laws.specs.Positions.{declared_of, body_of}
use Rattle.json_laws.specs.Reads.{Reads, IsRead}
use Rattle.json_laws.specs.Refused.{behind, Refuses, IsRefused}
use Rattle.json_laws.proofs.Spelled.{spelled_read}
use Rattle.json_laws.proofs.Sound.{same_step}

abbrev pub is_bad : {X : Type 0} → Fault → Step State X
is_bad f = Err f

abbrev blame : {X : Type 0} → Fault → Step State X → Fault
blame d (Ok p) = d
blame d (Err f) = f

pub same_blame : {X : Type 0} → (f g : Fault) → is_bad {X = X} f ≡ is_bad g → f ≡ g
same_blame {X} f g e = ap (λ (r : Step State X). blame f r) e

-- ---- one way

-- no more items are read here
abbrev Stops : Position → State → Type 0
Stops p s = (f : Fault) × (reads s (hint_of p) ≡ Err f)

no_nest : (p : Position) (s : State) → s.nest ≡ [] → Stops p s
no_nest p s e = (_, reads_none s (hint_of p) (ap first_of e))

refuses_stops : (p : Position) (s : State) (f : Fault) → Refuses p s f → Stops p s
refuses_stops p s f (inl (some, e)) = (f, e)
refuses_stops p s f (inr (none, e)) = no_nest p s none

both : (p : Position) (s t : State) (item : Item) (f : Fault) → reads s (hint_of p) ≡ Ok (item, t) → reads s (hint_of p) ≡ Err f → ⊥
both p s t item f a b = let wrong = sym a ∙ b in absurd (cc)

record Same (xs ys : List Item) (a b : State) : Type 0 where
  items : xs ≡ ys
  last : a ≡ b

one_way : (xs ys : List Item) (p : Position) (s a b : State) → Reads p s xs a → Reads p s ys b → Stops (behind p xs) a → Stops (behind p ys) b → Same xs ys a b
one_way [] [] p s a b q r u v = record { items = refl; last = sym q ∙ r }
one_way [] (y ∷ ys) p s a b q (next, e, r) u v = absurd (both p s next y u.0 e (ap (λ x. reads x (hint_of p)) q ∙ u.1))
one_way (x ∷ xs) [] p s a b (next, e, q) r u v = absurd (both p s next x v.0 e (ap (λ x. reads x (hint_of p)) r ∙ v.1))
one_way (x ∷ xs) (y ∷ ys) p s a b (n, e, q) (m, g, r) u v =
    let same = same_step x y n m (sym e ∙ g) in
    let turned = subst (λ t. Reads (after p x) t ys b) (sym same.1) (subst (λ i. Reads (after p i) m ys b) (sym same.0) r) in
    let stops = subst (λ i. Stops (behind (after p i) ys) b) (sym same.0) v in
    let more = one_way xs ys (after p x) n a b q turned u stops in
    record { items = ap (λ i. i ∷ xs) same.0 ∙ ap (λ l. y ∷ l) more.items; last = more.last }

pub never_both : (p : Position) (bytes : List ℕ) (header : Header) (items : List Item) (f : Fault) → IsRead p bytes header items → IsRefused p bytes f → ⊥
never_both p bytes header items f (first, last, head, body, none, good) (inl e) = let wrong = sym head ∙ e in absurd (cc)
never_both p bytes header items f (first, last, head, body, none, good) (inr (h, xs, s, halt, other, more, refuses)) =
    let one = same_step header h first s (sym head ∙ other) in
    let same = one_way items xs p first last halt body (subst (λ t. Reads p t xs halt) (sym one.1) more) (no_nest (behind p items) last none) (refuses_stops (behind p xs) halt f refuses) in
    by_refusal (behind p xs) (subst (λ t. Refuses (behind p xs) t f) (sym same.last) refuses)
  where
    by_refusal : (q : Position) → Refuses q last f → ⊥
    by_refusal q (inl (some, e)) = some none
    by_refusal q (inr (empty, e)) = let wrong = sym good ∙ e in absurd (cc)

same_refusal : (p : Position) (s : State) (f g : Fault) → Refuses p s f → Refuses p s g → f ≡ g
same_refusal p s f g (inl (a, e)) (inl (b, h)) = same_blame {X = Item} f g (sym e ∙ h)
same_refusal p s f g (inl (a, e)) (inr (b, h)) = absurd (a b)
same_refusal p s f g (inr (a, e)) (inl (b, h)) = absurd (b a)
same_refusal p s f g (inr (a, e)) (inr (b, h)) = same_blame {X = Unit {0}} f g (sym e ∙ h)

pub one_fault : (p : Position) (bytes : List ℕ) (f g : Fault) → IsRefused p bytes f → IsRefused p bytes g → f ≡ g
one_fault p bytes f g (inl e) (inl h) = same_blame {X = Header} f g (sym e ∙ h)
one_fault p bytes f g (inl e) (inr (h, xs, s, halt, other, more, refuses)) = let wrong = sym e ∙ other in absurd (cc)
one_fault p bytes f g (inr (h, xs, s, halt, other, more, refuses)) (inl e) = let wrong = sym e ∙ other in absurd (cc)
one_fault p bytes f g (inr (h, xs, s, a, head, q, r)) (inr (k, ys, t, b, u, v, w)) =
    let one = same_step h k s t (sym head ∙ u) in
    let same = one_way xs ys p s a b q (subst (λ z. Reads p z ys b) (sym one.1) v) (refuses_stops (behind p xs) a f r) (refuses_stops (behind p ys) b g w) in
    same_refusal (behind p xs) a f g r (subst (λ l. Refuses (behind p l) a g) (sym same.items) (subst (λ z. Refuses (behind p ys) z g) (sym same.last) w))

pub one_reading : (p : Position) (bytes : List ℕ) (h k : Header) (xs ys : List Item) → IsRead p bytes h xs → IsRead p bytes k ys → (h ≡ k) × (xs ≡ ys)
one_reading p bytes h k xs ys (s, a, head, q, none, r) (t, b, u, v, empty, w) =
    let one = same_step h k s t (sym head ∙ u) in
    (one.0, (one_way xs ys p s a b q (subst (λ z. Reads p z ys b) (sym one.1) v) (no_nest (behind p xs) a none) (no_nest (behind p ys) b empty)).items)

-- ---- in some way

abbrev Outcome : Position → State → Type 0
Outcome p s = (items : List Item) × (last : State) × Reads p s items last × (((last.nest ≡ []) × (reads_end last ≡ Ok (tt, last))) ⊎ ((f : Fault) × Refuses (behind p items) last f))

pub weighs : (item : Item) → 1 ≤ weight item
weighs (field id kind) = omega arith
weighs stop = omega arith
weighs (bool_value b) = omega arith
weighs (i8_value n) = omega arith
weighs (i16_value n) = omega arith
weighs (i32_value n) = omega arith
weighs (i64_value n) = omega arith
weighs (double_value l) = omega arith
weighs (text l) = omega arith
weighs (number_text l) = omega arith
weighs (unknown_text l) = omega arith
weighs struct_begin = omega arith
weighs empty_map = omega arith
weighs (map_begin key value size) = omega arith
weighs (set_begin kind size) = omega arith
weighs (list_begin kind size) = omega arith
weighs end = omega arith
weighs (uuid_value l) = omega arith

-- the end is good or a fault, and a good one leaves the state as it is
by_scan : (s : State) (scan : Scan (Unit {0})) → (ended s scan ≡ Ok (tt, s)) ⊎ ((f : Fault) × (ended s scan ≡ Err f))
by_scan s (Ok x) = inl refl
by_scan s (Err f) = inr (_, refl)

either_end : (s : State) → (reads_end s ≡ Ok (tt, s)) ⊎ ((f : Fault) × (reads_end s ≡ Err f))
unfolding reads_end
either_end s = by_scan s (end_scan (rest s))

at_end : (p : Position) (s : State) → s.nest ≡ [] → Outcome p s
at_end p s none = by_end (either_end s)
  where
    by_end : (reads_end s ≡ Ok (tt, s)) ⊎ ((f : Fault) × (reads_end s ≡ Err f)) → Outcome p s
    by_end (inl e) = ([], s, refl, inl (none, e))
    by_end (inr (f, e)) = ([], s, refl, inr (f, inr (none, e)))

no_levels : (nest : List Slot) → (length nest == 0) ≡ true → nest ≡ []
no_levels [] e = refl
no_levels (slot ∷ up) e = absurd (grind (arith, nat_tests))

some_nest : (s : State) → (length s.nest == 0) ≡ false → s.nest ≡ [] → ⊥
some_nest s e none = let wrong = sym e ∙ ap (λ n. length n == 0) none in absurd (cc)

longer : (p : Position) (s next : State) (item : Item) → reads s (hint_of p) ≡ Ok (item, next) → Outcome (after p item) next → Outcome p s
longer p s next item e (items, last, more, how) = (item ∷ items, last, (next, e, more), how)

goes_on : (fuel : ℕ) (p : Position) (s : State) → ahead s < fuel → Outcome p s
goes_on zero p s h = absurd (omega (arith, h))
goes_on (suc fuel) p s h = by_nest (length s.nest == 0) refl (λ next item e less. longer p s next item e (goes_on fuel (after p item) next (omega (arith, less, h, weighs item))))
  where
    by_read : (step : Step State Item) → reads s (hint_of p) ≡ step → IfOk step (λ x. weight x.0 + ahead x.1 ≤ ahead s) → (length s.nest == 0) ≡ false
        → ((next : State) (item : Item) → reads s (hint_of p) ≡ Ok (item, next) → weight item + ahead next ≤ ahead s → Outcome p s) → Outcome p s
    by_read (Ok x) e pays some go = go x.1 x.0 e pays
    by_read (Err f) e pays some go = ([], s, refl, inr (f, inl (some_nest s some, e)))

    by_nest : (b : Bool) → (length s.nest == 0) ≡ b → ((next : State) (item : Item) → reads s (hint_of p) ≡ Ok (item, next) → weight item + ahead next ≤ ahead s → Outcome p s) → Outcome p s
    by_nest true t go = at_end p s (no_levels s.nest t)
    by_nest false t go = by_read (reads s (hint_of p)) refl (reads_pays s (hint_of p)) t go

abbrev Either : Position → List ℕ → Type 0
Either p bytes = ((header : Header) × (items : List Item) × IsRead p bytes header items) ⊎ ((f : Fault) × IsRefused p bytes f)

pub read_or_refused : (p : Position) (bytes : List ℕ) → Either p bytes
read_or_refused p bytes = by_head (reads_head (begun bytes)) refl
  where
    by_outcome : (h : Header) (first : State) → reads_head (begun bytes) ≡ Ok (h, first) → Outcome p first → Either p bytes
    by_outcome h first e (items, last, body, inl (none, good)) = inl (h, items, (first, last, e, body, none, good))
    by_outcome h first e (items, last, body, inr (f, refuses)) = inr (f, inr (h, items, first, last, e, body, refuses))

    by_head : (step : Step State Header) → reads_head (begun bytes) ≡ step → Either p bytes
    by_head (Ok x) e = by_outcome x.0 x.1 e (goes_on (suc (ahead x.1)) p x.1 (omega arith))
    by_head (Err f) e = inr (f, inl e)

pub refused_spells_none : (d : Declarations) (body : Option StructId) (m : Message) (bytes : List ℕ) (f : Fault) → IsRefused (start d body) bytes f → SpellsMessage (declared_of d) (body_of body) m bytes → depth_of_members m.body < 256 → ⊥
refused_spells_none d body m bytes f r s deep = never_both (start d body) bytes _ _ f (spelled_read d body m bytes s deep) r
