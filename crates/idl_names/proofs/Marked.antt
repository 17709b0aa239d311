-- What is marked, walk by walk.
use Rattle.std.proofs.Common.{◌≡◌, ◌⊎◌, inl, inr, ℕ, ◌+◌, ◌<◌, List, [], ◌∷◌, ap, refl, sym, ◌∙◌, arith, subst, Bool, true, false, slice_get, Some, None}
use Rattle.std.specs.Prelude.{◌||◌}
use Rattle.std.proofs.lemmas.Bool.{cases_eq}
use Rattle.idl_names.specs.declared.documents.Spot.{Spot}
use Rattle.idl_names.specs.declared.marks.Marks.{Marks}
use Rattle.idl_names.specs.Cycles.{AreAmong, IsOnCycle, LeadsIntoCycle, LeadsTo, at_once, onward, next_spots}
use Rattle.idl_names.specs.Files.{FileTree}
use Rattle.idl_names.specs.Marks.{AreCovered, AreMarked, Gains, IsBeyond, IsKnown, IsRound, is_covered, knows}
use Rattle.idl_names.specs.Sets.{Has, is_among, with_all, with_spot}
use Rattle.idl_names.proofs.Reaching.{known, unknown, leads_along}
use Rattle.idl_names.proofs.Spots.{added, among_has, has_among, below_end, from_all, kept, place_of_spot}

abbrev marks_of : List Spot → List Spot → List Spot → Marks
marks_of absent ahead on = record { absent = absent; ahead = ahead; on = on }

same_marks : (a b : Marks) → a.absent ≡ b.absent → a.ahead ≡ b.ahead → a.on ≡ b.on → a ≡ b
same_marks a b e f g = let whole : marks_of a.absent a.ahead a.on ≡ marks_of b.absent b.ahead b.on = cc in whole

module _ (marks : Marks) (others : List Spot) (spot : Spot) where
  nor_by : (a b : Bool) → knows marks spot ≡ a → is_among spot others ≡ b → (a || b) ≡ false → IsKnown marks spot ⊎ Has others spot → ⊥
  nor_by true b e f h = let no : ⊥ = cc in absurd no
  nor_by false true e f h = let no : ⊥ = cc in absurd no
  nor_by false false e f h = by
    where
      by : IsKnown marks spot ⊎ Has others spot → ⊥
      by (inl k) = unknown marks spot e k
      by (inr g) = let there = has_among spot others g in let no : ⊥ = cc in no

  -- it is among none of these
  pub nor_among : is_covered marks others spot ≡ false → IsKnown marks spot ⊎ Has others spot → ⊥
  nor_among h = nor_by (knows marks spot) (is_among spot others) refl refl h

  or_by : (a b : Bool) → knows marks spot ≡ a → is_among spot others ≡ b → (a || b) ≡ true → IsKnown marks spot ⊎ Has others spot
  or_by true b e f h = inl (known marks spot e)
  or_by false b e f h = inr (among_has spot others (f ∙ h))

  pub or_among : is_covered marks others spot ≡ true → IsKnown marks spot ⊎ Has others spot
  or_among h = or_by (knows marks spot) (is_among spot others) refl refl h

pub covered_by_none : (set : List Spot) (marks : Marks) (none : List Spot) (b : Bool) → b ≡ true → none ≡ [] → AreCovered set marks none b → AreCovered set marks [] true
covered_by_none set marks none b e f c = subst (λ (xs : List Spot). AreCovered set marks xs true) f (subst (AreCovered set marks none) e c)

pub not_among : (others : List Spot) (spot : Spot) → is_among spot others ≡ false → Has others spot → ⊥
not_among others spot f h = let there = has_among spot others h in let no : ⊥ = cc in no

-- a walk along a list that has found each so far
module _ (P : Spot → Type 0) (set : List Spot) (i : ℕ) where
  pub covered_more : (spot : Spot) → slice_get set i ≡ Some spot → P spot → ((k : ℕ) (s : Spot) → k < i → slice_get set k ≡ Some s → P s) → (k : ℕ) (s : Spot) → k < i + 1 → slice_get set k ≡ Some s → P s
  covered_more spot e p before k s below g = by (cases_eq k i)
    where
      by : (k ≡ i) ⊎ (k ≡ i → ⊥) → P s
      by (inl same) =
          let there : slice_get set k ≡ Some spot = ap (slice_get set) same ∙ e in
          let equal : spot ≡ s = cc in
          subst P equal p
      by (inr other) = let less : k < i = omega arith in before k s less g

  pub covered_all : slice_get set i ≡ None → ((k : ℕ) (s : Spot) → k < i → slice_get set k ≡ Some s → P s) → (s : Spot) → Has set s → P s
  covered_all n before s h = let p = place_of_spot set s h in before p.0 s (below_end set p.0 i s p.1 n) p.1

module _ (files : List FileTree) where
  -- what is known more leads to known ones
  closed_more : (old new : Marks) (P : Spot → Type 0) → AreMarked files old → ((s : Spot) → IsKnown old s → IsKnown new s) → ((s : Spot) → IsKnown new s → IsKnown old s ⊎ P s) →
      ((s to : Spot) → P s → Has (next_spots files s) to → IsKnown new to) → (s to : Spot) → IsKnown new s → Has (next_spots files s) to → IsKnown new to
  closed_more old new P m keeps news leads s to h g = by (news s h)
    where
      by : IsKnown old s ⊎ P s → IsKnown new to
      by (inl k) = keeps to (m.closed s to k g)
      by (inr p) = leads s to p g

  module _ (marks : Marks) (spot : Spot) (set : List Spot) (m : AreMarked files marks) (b : IsBeyond files marks spot set) where
    covered_known : AreCovered set marks [] true → (s : Spot) → Has set s → IsKnown marks s
    covered_known c s h = by (c s h)
      where
        by : IsKnown marks s ⊎ Has [] s → IsKnown marks s
        by (inl k) = k
        by (inr g) = absurd g

    or_spot : (xs : List Spot) (s : Spot) → Has (with_spot xs spot) s → Has xs s ⊎ (s ≡ spot)
    or_spot xs s h = by (from_all xs (spot ∷ []) s h)
      where
        by : Has xs s ⊎ Has (spot ∷ []) s → Has xs s ⊎ (s ≡ spot)
        by (inl g) = inl g
        by (inr (inl e)) = inr e
        by (inr (inr g)) = absurd g

    -- it leads to absent ones alone
    absent_here : AreAmong set marks.absent true → LeadsIntoCycle files spot → ⊥
    absent_here among l = by l.0 (l.1).0 (l.1).1
      where
        by : (other : Spot) → LeadsTo files spot other → IsOnCycle files other → ⊥
        by other (at_once x y h) on = m.absent y (among y (b.first y h)) (y, (on, on))
        by other (onward x mid y h g) on = m.absent mid (among mid (b.first mid h)) (y, (g, on))

    -- it leads to one that is known and not absent
    ahead_by : (s : Spot) → LeadsTo files spot s → IsKnown marks s → (Has marks.absent s → ⊥) → LeadsIntoCycle files spot
    ahead_by s l (inl h) off = absurd (off h)
    ahead_by s l (inr (inl h)) off = let c = (m.ahead s h).0 in (c.0, (leads_along files spot s c.0 l (c.1).0, (c.1).1))
    ahead_by s l (inr (inr h)) off = (s, (l, m.on s h))

    ahead_here : AreCovered set marks [] true → AreAmong set marks.absent false → LeadsIntoCycle files spot
    ahead_here c among = ahead_by among.0 (b.sound among.0 (among.1).0) (covered_known c among.0 (among.1).0) (among.1).1

    pub absent_more : (new : Marks) → new.absent ≡ with_spot marks.absent spot → new.ahead ≡ marks.ahead → new.on ≡ marks.on → AreCovered set marks [] true → AreAmong set marks.absent true → AreMarked files new
    absent_more new e f g c among =
        let all : AreMarked files whole = record {
          absent = λ s h l. absent_by s (or_spot marks.absent s h) l;
          ahead = m.ahead;
          on = m.on;
          closed = closed_more marks whole (λ s. s ≡ spot) m keeps news (λ s to e h. keeps to (covered_known c to (b.first to (subst (λ (t : Spot). Has (next_spots files t) to) e h))));
        } in
        let same : whole ≡ new = same_marks whole new (sym e) (sym f) (sym g) in
        subst (AreMarked files) same all
      where
        whole : Marks
        whole = record { absent = with_spot marks.absent spot; ahead = marks.ahead; on = marks.on }

        absent_by : (s : Spot) → Has marks.absent s ⊎ (s ≡ spot) → LeadsIntoCycle files s → ⊥
        absent_by s (inl h) l = m.absent s h l
        absent_by s (inr e) l = absent_here among (subst (λ (t : Spot). LeadsIntoCycle files t) e l)

        keeps : (s : Spot) → IsKnown marks s → IsKnown whole s
        keeps s (inl h) = inl (kept marks.absent (spot ∷ []) s h)
        keeps s (inr h) = inr h

        news : (s : Spot) → IsKnown whole s → IsKnown marks s ⊎ (s ≡ spot)
        news s (inl h) = by (or_spot marks.absent s h)
          where
            by : Has marks.absent s ⊎ (s ≡ spot) → IsKnown marks s ⊎ (s ≡ spot)
            by (inl g) = inl (inl g)
            by (inr e) = inr e
        news s (inr h) = inl (inr h)

    pub ahead_more : (new : Marks) → new.absent ≡ marks.absent → new.ahead ≡ with_spot marks.ahead spot → new.on ≡ marks.on → AreCovered set marks [] true → AreAmong set marks.absent false → (IsOnCycle files spot → ⊥) → AreMarked files new
    ahead_more new e f g c among off =
        let all : AreMarked files whole = record {
          absent = m.absent;
          ahead = λ s h. ahead_at s (or_spot marks.ahead s h);
          on = m.on;
          closed = closed_more marks whole (λ s. s ≡ spot) m keeps news (λ s to e h. keeps to (covered_known c to (b.first to (subst (λ (t : Spot). Has (next_spots files t) to) e h))));
        } in
        let same : whole ≡ new = same_marks whole new (sym e) (sym f) (sym g) in
        subst (AreMarked files) same all
      where
        whole : Marks
        whole = record { absent = marks.absent; ahead = with_spot marks.ahead spot; on = marks.on }

        ahead_at : (s : Spot) → Has marks.ahead s ⊎ (s ≡ spot) → LeadsIntoCycle files s × (IsOnCycle files s → ⊥)
        ahead_at s (inl h) = m.ahead s h
        ahead_at s (inr e) = subst (λ (t : Spot). LeadsIntoCycle files t × (IsOnCycle files t → ⊥)) (sym e) (ahead_here c among, off)

        keeps : (s : Spot) → IsKnown marks s → IsKnown whole s
        keeps s (inl h) = inl h
        keeps s (inr (inl h)) = inr (inl (kept marks.ahead (spot ∷ []) s h))
        keeps s (inr (inr h)) = inr (inr h)

        news : (s : Spot) → IsKnown whole s → IsKnown marks s ⊎ (s ≡ spot)
        news s (inl h) = inl (inl h)
        news s (inr (inl h)) = by (or_spot marks.ahead s h)
          where
            by : Has marks.ahead s ⊎ (s ≡ spot) → IsKnown marks s ⊎ (s ≡ spot)
            by (inl g) = inl (inr (inl g))
            by (inr e) = inr e
        news s (inr (inr h)) = inl (inr (inr h))

    -- those that it leads to and that lead to it
    round_at : (round : List Spot) → Has set spot → IsRound files spot set round → (s : Spot) → Has round s → IsOnCycle files s
    round_at round here r s h = by (r s h).1
      where
        there : LeadsTo files spot s
        there = b.sound s (r s h).0

        by : (s ≡ spot) ⊎ LeadsTo files s spot → IsOnCycle files s
        by (inl e) = subst (λ (t : Spot). LeadsTo files t t) (sym e) (b.sound spot here)
        by (inr l) = leads_along files s spot s l there

    pub round_more : (new : Marks) (round : List Spot) → new.absent ≡ marks.absent → new.ahead ≡ marks.ahead → new.on ≡ with_all marks.on round → Has set spot → IsRound files spot set round →
        AreCovered set marks round true → AreMarked files new
    round_more new round e f g here r c =
        let all : AreMarked files whole = record {
          absent = m.absent;
          ahead = m.ahead;
          on = λ s h. on_by s (from_all marks.on round s h);
          closed = closed_more marks whole (Has round) m keeps news (λ s to h n. leads s to (r s h).0 n (b.closed s (r s h).0));
        } in
        let same : whole ≡ new = same_marks whole new (sym e) (sym f) (sym g) in
        subst (AreMarked files) same all
      where
        whole : Marks
        whole = record { absent = marks.absent; ahead = marks.ahead; on = with_all marks.on round }

        on_by : (s : Spot) → Has marks.on s ⊎ Has round s → IsOnCycle files s
        on_by s (inl h) = m.on s h
        on_by s (inr h) = round_at round here r s h

        keeps : (s : Spot) → IsKnown marks s → IsKnown whole s
        keeps s (inl h) = inl h
        keeps s (inr (inl h)) = inr (inl h)
        keeps s (inr (inr h)) = inr (inr (kept marks.on round s h))

        either : (s : Spot) → IsKnown marks s ⊎ Has round s → IsKnown whole s
        either s (inl k) = keeps s k
        either s (inr h) = inr (inr (added marks.on round s h))

        news : (s : Spot) → IsKnown whole s → IsKnown marks s ⊎ Has round s
        news s (inl h) = inl (inl h)
        news s (inr (inl h)) = inl (inr (inl h))
        news s (inr (inr h)) = by (from_all marks.on round s h)
          where
            by : Has marks.on s ⊎ Has round s → IsKnown marks s ⊎ Has round s
            by (inl g) = inl (inr (inr g))
            by (inr g) = inr g

        leads : (s to : Spot) → Has set s → Has (next_spots files s) to → IsKnown marks s ⊎ ((t : Spot) → Has (next_spots files s) t → Has set t) → IsKnown whole to
        leads s to h n (inl k) = keeps to (m.closed s to k n)
        leads s to h n (inr f) = either to (c to (f to n))

  -- the walk back from one of a set
  pub round_first : (from : Spot) (set empty round : List Spot) → empty ≡ [] → round ≡ with_spot empty from → Has set from → IsRound files from set round
  round_first from set empty round n e here s h = by (from_all [] (from ∷ []) s (subst (λ (xs : List Spot). Has xs s) (e ∙ ap (λ (xs : List Spot). with_spot xs from) n) h))
    where
      by : Has [] s ⊎ Has (from ∷ []) s → Has set s × ((s ≡ from) ⊎ LeadsTo files s from)
      by (inl g) = absurd g
      by (inr (inl e)) = (subst (Has set) (sym e) here, inl e)
      by (inr (inr g)) = absurd g

  back : (from s to : Spot) → Has (next_spots files s) to → (to ≡ from) ⊎ LeadsTo files to from → LeadsTo files s from
  back from s to h (inl e) = at_once s from (subst (Has (next_spots files s)) e h)
  back from s to h (inr l) = onward s to from h l

  pub round_on_more : (from to : Spot) (set old new : List Spot) → Has old to → IsRound files from set old → Gains files set to old new → IsRound files from set new
  round_on_more from to set old new here r gains s h = by (gains s h)
    where
      by : Has old s ⊎ (Has set s × Has (next_spots files s) to) → Has set s × ((s ≡ from) ⊎ LeadsTo files s from)
      by (inl g) = r s g
      by (inr g) = (g.0, inr (back from s to g.1 (r to here).1))

  pub gains_none : (set : List Spot) (to : Spot) (old : List Spot) → Gains files set to old old
  gains_none set to old s h = inl h

  pub gains_more : (set : List Spot) (to : Spot) (old mid new : List Spot) → Gains files set to old mid → Gains files set to mid new → Gains files set to old new
  gains_more set to old mid new f g s h = by (g s h)
    where
      by : Has mid s ⊎ (Has set s × Has (next_spots files s) to) → Has old s ⊎ (Has set s × Has (next_spots files s) to)
      by (inl k) = f s k
      by (inr k) = inr k

  pub gains_one : (set : List Spot) (to source : Spot) (old new : List Spot) → new ≡ with_spot old source → is_among source set ≡ true → is_among to (with_all [] (next_spots files source)) ≡ true → Gains files set to old new
  gains_one set to source old new e f g s h = by (from_all old (source ∷ []) s (subst (λ (xs : List Spot). Has xs s) e h))
    where
      next : Has [] to ⊎ Has (next_spots files source) to → Has (next_spots files source) to
      next (inl k) = absurd k
      next (inr k) = k

      by : Has old s ⊎ Has (source ∷ []) s → Has old s ⊎ (Has set s × Has (next_spots files s) to)
      by (inl k) = inl k
      by (inr (inl k)) =
          inr (subst (λ (t : Spot). Has set t × Has (next_spots files t) to) (sym k) (among_has source set f, next (from_all [] (next_spots files source) to (among_has to (with_all [] (next_spots files source)) g))))
      by (inr (inr k)) = absurd k
