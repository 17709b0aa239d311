-- What is told of cycles, definition by definition and file by file.
use Rattle.std.proofs.Common.{◌≡◌, ◌⊎◌, inl, inr, ℕ, zero, suc, ◌+◌, ◌<◌, ◌≤◌, List, [], ◌∷◌, ◌++◌, length, refl, ap, sym, ◌∙◌, arith, subst, Bool, true, false, slice_get, Option, Some, None, option_and_then}
use Rattle.std.specs.Prelude.{unwrap_or}
use Rattle.std.proofs.lemmas.Bool.{cases_eq}
use Rattle.std.proofs.lemmas.List.{length_push}
use Rattle.idl_names.specs.declared.cycles.Cycle.{Cycle}
use Rattle.idl_names.specs.declared.cycles.Cycle.TheVariants as cycles
use Rattle.idl_names.specs.declared.documents.Spot.{Spot}
use Rattle.idl_names.specs.Cycles.{AreAmong, IsOnCycle, IsReached, IsTold, LeadsIntoCycle, LeadsTo, RowTells, TellsAny, TellsCycles, TellsRound, at_once, onward, cycle_at, next_spots, spots_by}
use Rattle.idl_names.specs.Files.{FileTree}
use Rattle.idl_names.specs.Meaning.{spot_at}
use Rattle.idl_names.specs.Sets.{Has, is_among}
use Rattle.idl_names.specs.Targets.{definition_at}
use Rattle.idl_names.proofs.Spots.{among_has, has_among, below_end, place_of_spot}

module _ (files : List FileTree) where
  pub round_on : (spot : Spot) (set : List Spot) → IsReached files spot set → is_among spot set ≡ true → IsOnCycle files spot
  round_on spot set r e = (r spot).0 (among_has spot set e)

  pub not_round : (spot : Spot) (set : List Spot) → IsReached files spot set → is_among spot set ≡ false → IsOnCycle files spot → ⊥
  not_round spot set r e l =
      let there : is_among spot set ≡ true = has_among spot set ((r spot).1 l) in
      let no : ⊥ = cc in
      no

  pub tells_round : (spot : Spot) (set : List Spot) (round : Bool) → IsReached files spot set → is_among spot set ≡ round → TellsRound files spot round
  tells_round spot set true r e = round_on spot set r e
  tells_round spot set false r e = not_round spot set r e

  pub round_ahead : (spot : Spot) (set : List Spot) → IsReached files spot set → TellsAny files set true → LeadsIntoCycle files spot
  round_ahead spot set r t = (t.0, ((r t.0).0 (t.1).0, (t.1).1))

  pub round_absent : (spot : Spot) (set : List Spot) → IsReached files spot set → TellsAny files set false → LeadsIntoCycle files spot → ⊥
  round_absent spot set r t l = t l.0 ((r l.0).1 (l.1).0) (l.1).1

  -- a walk along a list that has found each so far
  pub each_more : (next set : List Spot) (i : ℕ) (spot : Spot) → slice_get next i ≡ Some spot → is_among spot set ≡ true → ((k : ℕ) (s : Spot) → k < i → slice_get next k ≡ Some s → Has set s) →
      (k : ℕ) (s : Spot) → k < i + 1 → slice_get next k ≡ Some s → Has set s
  each_more next set i spot e m before k s below g = by (cases_eq k i)
    where
      by : (k ≡ i) ⊎ (k ≡ i → ⊥) → Has set s
      by (inl same) =
          let there : slice_get next k ≡ Some spot = ap (slice_get next) same ∙ e in
          let equal : spot ≡ s = cc in
          subst (Has set) equal (among_has spot set m)
      by (inr other) = let less : k < i = omega arith in before k s less g

  pub each_all : (next set : List Spot) (i : ℕ) → slice_get next i ≡ None → ((k : ℕ) (s : Spot) → k < i → slice_get next k ≡ Some s → Has set s) → AreAmong next set true
  each_all next set i e before other h =
      let p = place_of_spot next other h in
      before p.0 other (below_end next p.0 i other p.1 e) p.1

  -- a walk along a list that has found none so far
  pub none_more : (set : List Spot) (i : ℕ) (spot : Spot) → slice_get set i ≡ Some spot → (IsOnCycle files spot → ⊥) → ((k : ℕ) (s : Spot) → k < i → slice_get set k ≡ Some s → IsOnCycle files s → ⊥) →
      (k : ℕ) (s : Spot) → k < i + 1 → slice_get set k ≡ Some s → IsOnCycle files s → ⊥
  none_more set i spot e n before k s below g l = by (cases_eq k i)
    where
      by : (k ≡ i) ⊎ (k ≡ i → ⊥) → ⊥
      by (inl same) =
          let there : slice_get set k ≡ Some spot = ap (slice_get set) same ∙ e in
          let equal : s ≡ spot = cc in
          n (subst (IsOnCycle files) equal l)
      by (inr other) = let less : k < i = omega arith in before k s less g l

  pub none_at_all : (set : List Spot) (i : ℕ) → slice_get set i ≡ None → ((k : ℕ) (s : Spot) → k < i → slice_get set k ≡ Some s → IsOnCycle files s → ⊥) → TellsAny files set false
  none_at_all set i n before spot h l = let p = place_of_spot set spot h in before p.0 spot (below_end set p.0 i spot p.1 n) p.1 l

pub get_last : {X : Type 0} (xs : List X) (x : X) → slice_get (xs ++ x ∷ []) (length xs) ≡ Some x
get_last [] x = refl
get_last (y ∷ ys) x = get_last ys x

pub get_earlier : {X : Type 0} (xs : List X) (x : X) (k : ℕ) → k < length xs → slice_get (xs ++ x ∷ []) k ≡ slice_get xs k
get_earlier [] x k h = absurd (omega arith)
get_earlier (y ∷ ys) x zero h = refl
get_earlier (y ∷ ys) x (suc k) h = get_earlier ys x k (omega arith)

module _ (files : List FileTree) (file : ℕ) where
  pub row_none : (row : List Cycle) → row ≡ [] → RowTells files file 0 row
  row_none row e = (ap (λ (r : List Cycle). length r) e, λ place h. absurd (omega arith))

  pub row_more : (old new : List Cycle) (cycle : Cycle) (i : ℕ) → new ≡ old ++ cycle ∷ [] → RowTells files file i old → IsTold files (spot_at file i) cycle → RowTells files file (i + 1) new
  row_more old new cycle i e t told =
      subst (λ (row : List Cycle). RowTells files file (i + 1) row) (sym e) (length_push old cycle ∙ ap (λ (n : ℕ). n + 1) t.0, λ place h. by place h (cases_eq place i))
    where
      by : (place : ℕ) → place < i + 1 → (place ≡ i) ⊎ (place ≡ i → ⊥) → IsTold files (spot_at file place) (unwrap_or (slice_get (old ++ cycle ∷ []) place) cycles.Absent)
      by place h (inl same) =
          let at : place ≡ length old = same ∙ sym t.0 in
          let there : slice_get (old ++ cycle ∷ []) place ≡ Some cycle = ap (slice_get (old ++ cycle ∷ [])) at ∙ get_last old cycle in
          subst (λ (o : Option Cycle). IsTold files (spot_at file place) (unwrap_or o cycles.Absent)) (sym there) (subst (λ (n : ℕ). IsTold files (spot_at file n) cycle) (sym same) told)
      by place h (inr other) =
          let count : length old ≡ i = t.0 in
          let less : place < i = omega arith in
          let within : place < length old = omega arith in
          subst (λ (o : Option Cycle). IsTold files (spot_at file place) (unwrap_or o cycles.Absent)) (sym (get_earlier old cycle place within)) (t.1 place less)

pub past : {X : Type 0} (xs : List X) (k : ℕ) → length xs ≤ k → slice_get xs k ≡ None
past [] k h = refl
past (x ∷ xs) zero h = absurd (omega arith)
past (x ∷ xs) (suc k) h = past xs k (omega arith)

either : (a b : ℕ) → (a < b) ⊎ (b ≤ a)
either a zero = inr (omega arith)
either zero (suc b) = inl (omega arith)
either (suc a) (suc b) = deeper (either a b)
  where
    deeper : (a < b) ⊎ (b ≤ a) → (suc a < suc b) ⊎ (suc b ≤ suc a)
    deeper (inl h) = inl (omega arith)
    deeper (inr h) = inr (omega arith)

-- what is told of the first files
abbrev pub FilesTold : List FileTree → ℕ → List (List Cycle) → Type 0
FilesTold files count told = (length told ≡ count) × ((spot : Spot) → spot.file < count → IsTold files spot (cycle_at told spot))

module _ (files : List FileTree) where
  none_next : (spot : Spot) → definition_at files spot ≡ None → next_spots files spot ≡ []
  unfolding next_spots
  none_next spot e = ap (spots_by files spot.file) e

  no_step : (from to : Spot) → next_spots files from ≡ [] → LeadsTo files from to → ⊥
  no_step from to e (at_once a b h) = subst (λ (ss : List Spot). Has ss b) e h
  no_step from to e (onward a m b h l) = subst (λ (ss : List Spot). Has ss m) e h

  -- where there is no definition nothing leads round
  nothing_there : (spot : Spot) → definition_at files spot ≡ None → LeadsIntoCycle files spot → ⊥
  nothing_there spot e l = no_step spot l.0 (none_next spot e) (l.1).0

  past_row : (tree : FileTree) (spot : Spot) → slice_get files spot.file ≡ Some tree → length tree.document.definitions ≤ spot.definition → definition_at files spot ≡ None
  past_row tree spot e h = ap (option_and_then (λ (t : FileTree). slice_get t.document.definitions spot.definition)) e ∙ past tree.document.definitions spot.definition h

  pub rows_none : (told : List (List Cycle)) → told ≡ [] → FilesTold files 0 told
  rows_none told e = (ap (λ (r : List (List Cycle)). length r) e, λ spot h. absurd (omega arith))

  in_row : (row : List Cycle) (tree : FileTree) (spot : Spot) → slice_get files spot.file ≡ Some tree → RowTells files spot.file (length tree.document.definitions) row →
      (spot.definition < length tree.document.definitions) ⊎ (length tree.document.definitions ≤ spot.definition) → IsTold files spot (unwrap_or (slice_get row spot.definition) cycles.Absent)
  in_row row tree spot e t (inl h) = t.1 spot.definition h
  in_row row tree spot e t (inr h) =
      let over : length row ≤ spot.definition = let count = t.0 in omega arith in
      subst (λ (o : Option Cycle). IsTold files spot (unwrap_or o cycles.Absent)) (sym (past row spot.definition over)) (nothing_there spot (past_row tree spot e h))

  pub rows_more : (old new : List (List Cycle)) (row : List Cycle) (tree : FileTree) (count i : ℕ) → new ≡ old ++ row ∷ [] → FilesTold files i old → Some tree ≡ slice_get files i → count ≡ length tree.document.definitions →
      RowTells files i count row → FilesTold files (i + 1) new
  rows_more old new row tree count i e t g n told =
      subst (λ (rows : List (List Cycle)). FilesTold files (i + 1) rows) (sym e) (length_push old row ∙ ap (λ (n : ℕ). n + 1) t.0, λ spot h. by spot h (cases_eq spot.file i))
    where
      by : (spot : Spot) → spot.file < i + 1 → (spot.file ≡ i) ⊎ (spot.file ≡ i → ⊥) → IsTold files spot (cycle_at (old ++ row ∷ []) spot)
      by spot h (inl same) =
          let at : spot.file ≡ length old = same ∙ sym t.0 in
          let there : slice_get (old ++ row ∷ []) spot.file ≡ Some row = ap (slice_get (old ++ row ∷ [])) at ∙ get_last old row in
          let here : slice_get files spot.file ≡ Some tree = ap (slice_get files) same ∙ sym g in
          let whole : RowTells files i (length tree.document.definitions) row = subst (λ (m : ℕ). RowTells files i m row) n told in
          let mine : RowTells files spot.file (length tree.document.definitions) row = subst (λ (m : ℕ). RowTells files m (length tree.document.definitions) row) (sym same) whole in
          subst (λ (o : Option (List Cycle)). IsTold files spot (unwrap_or (option_and_then (λ r. slice_get r spot.definition) o) cycles.Absent)) (sym there)
          (in_row row tree spot here mine (either spot.definition (length tree.document.definitions)))
      by spot h (inr other) =
          let count_old : length old ≡ i = t.0 in
          let less : spot.file < i = omega arith in
          let within : spot.file < length old = omega arith in
          subst (λ (o : Option (List Cycle)). IsTold files spot (unwrap_or (option_and_then (λ r. slice_get r spot.definition) o) cycles.Absent)) (sym (get_earlier old row spot.file within)) (t.1 spot less)

  pub rows_all : (told : List (List Cycle)) (i : ℕ) → length files ≤ i → FilesTold files i told → TellsCycles files told
  rows_all told i h t spot = by (either spot.file i)
    where
      by : (spot.file < i) ⊎ (i ≤ spot.file) → IsTold files spot (cycle_at told spot)
      by (inl below) = t.1 spot below
      by (inr over) =
          let count : length told ≡ i = t.0 in
          let far : length told ≤ spot.file = omega arith in
          let beyond : length files ≤ spot.file = omega arith in
          subst (λ (o : Option (List Cycle)). IsTold files spot (unwrap_or (option_and_then (λ r. slice_get r spot.definition) o) cycles.Absent)) (sym (past told spot.file far))
          (nothing_there spot (ap (option_and_then (λ (u : FileTree). slice_get u.document.definitions spot.definition)) (past files spot.file beyond)))
