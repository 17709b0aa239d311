-- A walk from one definition along what it leads to, which stops at known ones.
use Rattle.std.proofs.Common.{◌≡◌, ◌⊎◌, inl, inr, ℕ, ◌+◌, ◌<◌, List, [], ap, refl, sym, ◌∙◌, arith, subst, Bool, true, false, cond, slice_get, Some, None}
use Rattle.std.specs.Prelude.{◌||◌}
use Rattle.std.proofs.lemmas.Bool.{cases_eq}
use Rattle.idl_names.specs.declared.documents.Spot.{Spot}
use Rattle.idl_names.specs.declared.marks.Marks.{Marks}
use Rattle.idl_names.specs.Cycles.{IsOnCycle, IsReached, LeadsTo, at_once, onward, next_spots}
use Rattle.idl_names.specs.Files.{FileTree}
use Rattle.idl_names.specs.Marks.{AreMarked, IsBeyond, IsKnown, fresh_spots, knows, no_marks}
use Rattle.idl_names.specs.Sets.{Has, is_among, with_all}
use Rattle.idl_names.proofs.Spots.{kept, added, among_has, from_all, get_kept, get_back, get_has, has_among, below_end, place_of_spot}

-- all that is reached is led to, and the spots before this place that are not known have been gone on from
pub record IsReaching (files : List FileTree) (marks : Marks) (from : Spot) (set : List Spot) (i : ℕ) : Type 0 where
  pub sound : (to : Spot) → Has set to → LeadsTo files from to
  pub first : (to : Spot) → Has (next_spots files from) to → Has set to
  pub closed : (k : ℕ) (s : Spot) → k < i → slice_get set k ≡ Some s → IsKnown marks s ⊎ ((to : Spot) → Has (next_spots files s) to → Has set to)

module _ (marks : Marks) (spot : Spot) where
  pub known : knows marks spot ≡ true → IsKnown marks spot
  known e = by (is_among spot marks.absent) (is_among spot marks.ahead) (is_among spot marks.on) refl refl refl e
    where
      by : (a b c : Bool) → is_among spot marks.absent ≡ a → is_among spot marks.ahead ≡ b → is_among spot marks.on ≡ c → (a || (b || c)) ≡ true → IsKnown marks spot
      by true b c f g h e = inl (among_has spot marks.absent f)
      by false true c f g h e = inr (inl (among_has spot marks.ahead g))
      by false false c f g h e = inr (inr (among_has spot marks.on (h ∙ e)))

  or_first : (a b : Bool) → a ≡ true → (a || b) ≡ true
  or_first true b e = refl
  or_first false b e = let no : ⊥ = cc in absurd no

  or_later : (a b : Bool) → b ≡ true → (a || b) ≡ true
  or_later true b e = refl
  or_later false b e = e

  pub knows_it : IsKnown marks spot → knows marks spot ≡ true
  knows_it (inl h) = or_first (is_among spot marks.absent) (is_among spot marks.ahead || is_among spot marks.on) (has_among spot marks.absent h)
  knows_it (inr (inl h)) = or_later (is_among spot marks.absent) (is_among spot marks.ahead || is_among spot marks.on) (or_first (is_among spot marks.ahead) (is_among spot marks.on) (has_among spot marks.ahead h))
  knows_it (inr (inr h)) = or_later (is_among spot marks.absent) (is_among spot marks.ahead || is_among spot marks.on) (or_later (is_among spot marks.ahead) (is_among spot marks.on) (has_among spot marks.on h))

  pub unknown : knows marks spot ≡ false → IsKnown marks spot → ⊥
  unknown e h = let there = knows_it h in let no : ⊥ = cc in no

pub none_known : (spot : Spot) → IsKnown no_marks spot → ⊥
none_known spot (inl h) = h
none_known spot (inr (inl h)) = h
none_known spot (inr (inr h)) = h

module _ (files : List FileTree) where
  pub leads_on : (from mid to : Spot) → LeadsTo files from mid → Has (next_spots files mid) to → LeadsTo files from to
  leads_on from mid to (at_once a b h) g = onward a b to h (at_once b to g)
  leads_on from mid to (onward a m b h l) g = onward a m to h (leads_on m b to l g)

  pub leads_along : (from mid to : Spot) → LeadsTo files from mid → LeadsTo files mid to → LeadsTo files from to
  leads_along from mid to (at_once a b h) g = onward a b to h g
  leads_along from mid to (onward a m b h l) g = onward a m to h (leads_along m b to l g)

module _ (files : List FileTree) (marks : Marks) where
  fresh_by : (spot : Spot) → IsKnown marks spot ⊎ (fresh_spots files marks spot ≡ next_spots files spot)
  unfolding fresh_spots
  fresh_by spot = by (knows marks spot) refl
    where
      by : (b : Bool) → knows marks spot ≡ b → IsKnown marks spot ⊎ (cond b [] (next_spots files spot) ≡ next_spots files spot)
      by true e = inl (known marks spot e)
      by false e = inr refl

  fresh_next : (spot to : Spot) → Has (fresh_spots files marks spot) to → Has (next_spots files spot) to
  unfolding fresh_spots
  fresh_next spot to h = by (knows marks spot) h
    where
      by : (b : Bool) → Has (cond b [] (next_spots files spot)) to → Has (next_spots files spot) to
      by true g = absurd g
      by false g = g

  either_first : (from to : Spot) → Has [] to ⊎ Has (next_spots files from) to → LeadsTo files from to
  either_first from to (inl h) = absurd h
  either_first from to (inr h) = at_once from to h

  pub reaching_first : (from : Spot) (empty set : List Spot) → empty ≡ [] → set ≡ with_all empty (next_spots files from) → IsReaching files marks from set 0
  reaching_first from empty set n e =
      let whole : with_all [] (next_spots files from) ≡ set = ap (λ (xs : List Spot). with_all xs (next_spots files from)) (sym n) ∙ sym e in
      let start : IsReaching files marks from (with_all [] (next_spots files from)) 0 = record {
        sound = λ to h. either_first from to (from_all [] (next_spots files from) to h);
        first = λ to h. added [] (next_spots files from) to h;
        closed = λ k s below g. absurd (omega arith);
      } in
      subst (λ (xs : List Spot). IsReaching files marks from xs 0) whole start

  either_on : (from spot to : Spot) (set : List Spot) → ((t : Spot) → Has set t → LeadsTo files from t) → Has set spot → Has set to ⊎ Has (fresh_spots files marks spot) to → LeadsTo files from to
  either_on from spot to set sound here (inl h) = sound to h
  either_on from spot to set sound here (inr h) = leads_on files from spot to (sound spot here) (fresh_next spot to h)

  -- a spot that was gone on from stays so
  lifted : (set more : List Spot) (s : Spot) → IsKnown marks s ⊎ ((to : Spot) → Has (next_spots files s) to → Has set to) →
      IsKnown marks s ⊎ ((to : Spot) → Has (next_spots files s) to → Has (with_all set more) to)
  lifted set more s (inl h) = inl h
  lifted set more s (inr f) = inr (λ to h. kept set more to (f to h))

  here_closed : (set : List Spot) (spot : Spot) → IsKnown marks spot ⊎ (fresh_spots files marks spot ≡ next_spots files spot) →
      IsKnown marks spot ⊎ ((to : Spot) → Has (next_spots files spot) to → Has (with_all set (fresh_spots files marks spot)) to)
  here_closed set spot (inl h) = inl h
  here_closed set spot (inr e) = inr (λ to h. added set (fresh_spots files marks spot) to (subst (λ (xs : List Spot). Has xs to) (sym e) h))

  closed_on : (from : Spot) (set : List Spot) (i : ℕ) (spot : Spot) → slice_get set i ≡ Some spot → IsReaching files marks from set i →
      (k : ℕ) (s : Spot) → k < i + 1 → slice_get (with_all set (fresh_spots files marks spot)) k ≡ Some s → (k ≡ i) ⊎ (k ≡ i → ⊥) →
      IsKnown marks s ⊎ ((to : Spot) → Has (next_spots files s) to → Has (with_all set (fresh_spots files marks spot)) to)
  closed_on from set i spot e r k s below g (inl same) =
      let whole = with_all set (fresh_spots files marks spot) in
      let there : slice_get whole k ≡ Some spot = ap (slice_get whole) same ∙ get_kept set (fresh_spots files marks spot) i spot e in
      let equal : spot ≡ s = cc in
      subst (λ (t : Spot). IsKnown marks t ⊎ ((to : Spot) → Has (next_spots files t) to → Has whole to)) equal (here_closed set spot (fresh_by spot))
  closed_on from set i spot e r k s below g (inr other) =
      let less : k < i = omega arith in
      lifted set (fresh_spots files marks spot) s (r.closed k s less (sym (get_back set (fresh_spots files marks spot) k i spot e less) ∙ g))

  pub reaching_more : (from : Spot) (set new : List Spot) (i : ℕ) (spot : Spot) → slice_get set i ≡ Some spot → new ≡ with_all set (fresh_spots files marks spot) → IsReaching files marks from set i →
      IsReaching files marks from new (i + 1)
  reaching_more from set new i spot e n r =
      let next = fresh_spots files marks spot in
      let more : IsReaching files marks from (with_all set next) (i + 1) = record {
        sound = λ to h. either_on from spot to set r.sound (get_has set i spot e) (from_all set next to h);
        first = λ to h. kept set next to (r.first to h);
        closed = λ k s below g. closed_on from set i spot e r k s below g (cases_eq k i);
      } in
      subst (λ (xs : List Spot). IsReaching files marks from xs (i + 1)) (sym n) more

  -- where nothing is left to go on from, the set is closed
  pub all_beyond : (from : Spot) (set : List Spot) (i : ℕ) → slice_get set i ≡ None → IsReaching files marks from set i → IsBeyond files marks from set
  all_beyond from set i n r = record {
    sound = r.sound;
    first = r.first;
    closed = λ s h. (let p = place_of_spot set s h in r.closed p.0 s (below_end set p.0 i s p.1 n) p.1);
  }

  module _ (from : Spot) (set : List Spot) (m : AreMarked files marks) (b : IsBeyond files marks from set) where
    step_closed : (s to : Spot) → Has (next_spots files s) to → IsKnown marks s ⊎ ((t : Spot) → Has (next_spots files s) t → Has set t) → Has set to ⊎ IsKnown marks to
    step_closed s to g (inl k) = inr (m.closed s to k g)
    step_closed s to g (inr f) = inl (f to g)

    step : (s to : Spot) → Has set s ⊎ IsKnown marks s → Has (next_spots files s) to → Has set to ⊎ IsKnown marks to
    step s to (inl h) g = step_closed s to g (b.closed s h)
    step s to (inr k) g = inr (m.closed s to k g)

    within : (s to : Spot) → Has set s ⊎ IsKnown marks s → LeadsTo files s to → Has set to ⊎ IsKnown marks to
    within s to h (at_once x y g) = step x y h g
    within s to h (onward x mid y g l) = within mid y (step x mid h g) l

    -- what one leads to stands in the set or is known
    pub led : (to : Spot) → LeadsTo files from to → Has set to ⊎ IsKnown marks to
    led to (at_once x y g) = inl (b.first y g)
    led to (onward x mid y g l) = within mid y (inl (b.first mid g)) l

    pub not_on : is_among from set ≡ false → knows marks from ≡ false → IsOnCycle files from → ⊥
    not_on e f l = by (led from l)
      where
        by : Has set from ⊎ IsKnown marks from → ⊥
        by (inl h) = let there = has_among from set h in let no : ⊥ = cc in no
        by (inr k) = unknown marks from f k

module _ (files : List FileTree) where
  pub none_marked : AreMarked files no_marks
  none_marked = record {
    absent = λ s h l. h;
    ahead = λ s h. absurd h;
    on = λ s h. absurd h;
    closed = λ s t h g. absurd (none_known s h);
  }

  pub all_reached : (from : Spot) (set : List Spot) → IsBeyond files no_marks from set → IsReached files from set
  all_reached from set b to = (b.sound to, λ l. by (led files no_marks from set none_marked b to l))
    where
      by : Has set to ⊎ IsKnown no_marks to → Has set to
      by (inl h) = h
      by (inr k) = absurd (none_known to k)
