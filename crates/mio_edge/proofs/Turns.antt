-- The queues of a table once one of its sessions has changed.
use Rattle.std.proofs.Common.{◌≡◌, ◌≢◌, ℕ, zero, suc, ◌+◌, ◌<◌, ◌≤◌, List, [], ◌∷◌, ◌++◌, length, get_or, set, true, false, true≢false, Option, None, Some, IsSome, is_some, cond, count_by, ◌⊎◌, inl, inr, refl, sym, ap, ◌∙◌, subst, arith, append_assoc}
use Rattle.std.proofs.lemmas.List.{append-nil, length-append}
use Rattle.std.proofs.lemmas.List.Sums.{sum_by-cons}
use Rattle.std.specs.VecDeque.{deque_capacity}
use Rattle.slab.specs.Slab.{Slab, get, Updates, slab_len, with_value}
use Rattle.slab.proofs.SlabLemmas.{Updates-with_value}
use Rattle.mio_edge.specs.Turns.{Has, AreApart, HasRoom, Pushes, IsQueuedAt, IsIdleAt, Stands, QueuesStand}
use Rattle.mio_edge.specs.declared.queue.Queue.{Queue}
use Rattle.mio_edge.specs.declared.session.Session.{Session}
use Rattle.mio_edge.proofs.Sessions.{decide}
use Rattle.mio_edge.proofs.Entries.{some_same}

-- ---- what stands in a list

pub has_left : (xs ys : List ℕ) (x : ℕ) → Has xs x → Has (xs ++ ys) x
has_left [] ys x has = absurd has
has_left (z ∷ xs) ys x (inl e) = inl e
has_left (z ∷ xs) ys x (inr has) = inr (has_left xs ys x has)

pub has_right : (xs ys : List ℕ) (x : ℕ) → Has ys x → Has (xs ++ ys) x
has_right [] ys x has = has
has_right (z ∷ xs) ys x has = inr (has_right xs ys x has)

pub has_either : (xs ys : List ℕ) (x : ℕ) → Has (xs ++ ys) x → Has xs x ⊎ Has ys x
has_either [] ys x has = inr has
has_either (z ∷ xs) ys x (inl e) = inl (inl e)
has_either (z ∷ xs) ys x (inr has) = by (has_either xs ys x has)
  where
    by : Has xs x ⊎ Has ys x → Has (z ∷ xs) x ⊎ Has ys x
    by (inl h) = inl (inr h)
    by (inr h) = inr h

pub has_or : (x : ℕ) (xs : List ℕ) → Has xs x ⊎ (Has xs x → ⊥)
has_or x [] = inr (λ has. has)
has_or x (y ∷ ys) = by (decide y x) (has_or x ys)
  where
    by : (y ≡ x) ⊎ (y ≢ x) → Has ys x ⊎ (Has ys x → ⊥) → Has (y ∷ ys) x ⊎ (Has (y ∷ ys) x → ⊥)
    by (inl e) rest = inl (inl e)
    by (inr off) (inl has) = inl (inr has)
    by (inr off) (inr absent) = inr never
      where
        never : Has (y ∷ ys) x → ⊥
        never (inl e) = off e
        never (inr has) = absent has

-- one number has come into a list, and none has gone
record Adds (p : ℕ) (xs ys : List ℕ) : Type 0 where
  pub there : Has ys p
  pub keeps : (x : ℕ) → Has xs x → Has ys x
  pub from : (x : ℕ) → Has ys x → (p ≡ x) ⊎ Has xs x
  pub apart : AreApart xs → (Has xs p → ⊥) → AreApart ys

middle_from : (p : ℕ) (xs ys : List ℕ) (x : ℕ) → Has ((xs ++ p ∷ []) ++ ys) x → (p ≡ x) ⊎ Has (xs ++ ys) x
middle_from p [] ys x has = has
middle_from p (z ∷ xs) ys x (inl e) = inr (inl e)
middle_from p (z ∷ xs) ys x (inr has) = by (middle_from p xs ys x has)
  where
    by : (p ≡ x) ⊎ Has (xs ++ ys) x → (p ≡ x) ⊎ Has (z ∷ (xs ++ ys)) x
    by (inl e) = inl e
    by (inr h) = inr (inr h)

middle_keeps : (p : ℕ) (xs ys : List ℕ) (x : ℕ) → Has (xs ++ ys) x → Has ((xs ++ p ∷ []) ++ ys) x
middle_keeps p [] ys x has = inr has
middle_keeps p (z ∷ xs) ys x (inl e) = inl e
middle_keeps p (z ∷ xs) ys x (inr has) = inr (middle_keeps p xs ys x has)

middle_there : (p : ℕ) (xs ys : List ℕ) → Has ((xs ++ p ∷ []) ++ ys) p
middle_there p [] ys = inl refl
middle_there p (z ∷ xs) ys = inr (middle_there p xs ys)

middle_apart : (p : ℕ) (xs ys : List ℕ) → AreApart (xs ++ ys) → (Has (xs ++ ys) p → ⊥) → AreApart ((xs ++ p ∷ []) ++ ys)
middle_apart p [] ys apart new = (new, apart)
middle_apart p (z ∷ xs) ys apart new = (λ has. never (middle_from p xs ys z has), middle_apart p xs ys apart.1 (λ has. new (inr has)))
  where
    never : (p ≡ z) ⊎ Has (xs ++ ys) z → ⊥
    never (inl e) = new (inl (sym e))
    never (inr has) = apart.0 has

adds_middle : (p : ℕ) (xs ys : List ℕ) → Adds p (xs ++ ys) ((xs ++ p ∷ []) ++ ys)
adds_middle p xs ys = record { there = middle_there p xs ys; keeps = middle_keeps p xs ys; from = middle_from p xs ys; apart = middle_apart p xs ys }

adds_last : (p : ℕ) (xs ys : List ℕ) → Adds p (xs ++ ys) (xs ++ (ys ++ p ∷ []))
adds_last p xs ys =
    subst (λ zs. Adds p (xs ++ ys) zs) (append_assoc xs ys (p ∷ []))
    (subst (λ zs. Adds p (xs ++ ys) zs) (append-nil ((xs ++ ys) ++ p ∷ []))
    (subst (λ zs. Adds p zs (((xs ++ ys) ++ p ∷ []) ++ [])) (append-nil (xs ++ ys)) (adds_middle p (xs ++ ys) [])))

apart_left : (xs ys : List ℕ) → AreApart (xs ++ ys) → AreApart xs
apart_left [] ys apart = tt
apart_left (x ∷ xs) ys apart = (λ has. apart.0 (has_left xs ys x has), apart_left xs ys apart.1)

apart_right : (xs ys : List ℕ) → AreApart (xs ++ ys) → AreApart ys
apart_right [] ys apart = apart
apart_right (x ∷ xs) ys apart = apart_right xs ys apart.1

-- a number is taken out of a list
record Pulls (x : ℕ) (xs : List ℕ) : Type 0 where
  pub rest : List ℕ
  pub long : length xs ≡ length rest + 1
  pub keeps : (q : ℕ) → Has rest q → Has xs q
  pub apart : AreApart xs → (Has rest x → ⊥) × AreApart rest

pull : (x : ℕ) (xs : List ℕ) → Has xs x → Pulls x xs
pull x [] has = absurd has
pull x (y ∷ ys) (inl e) = record { rest = ys; long = omega arith; keeps = λ q h. inr h; apart = λ a. (subst (λ z. Has ys z → ⊥) e a.0, a.1) }
pull x (y ∷ ys) (inr has) =
    let more = pull x ys has in record {
      rest = y ∷ more.rest;
      long = omega (arith, more.long);
      keeps = λ q h. keeps more q h;
      apart = λ a. (λ h. never more a h, (λ h. a.0 (more.keeps y h), (more.apart a.1).1));
    }
  where
    keeps : (more : Pulls x ys) (q : ℕ) → Has (y ∷ more.rest) q → Has (y ∷ ys) q
    keeps more q (inl e) = inl e
    keeps more q (inr h) = inr (more.keeps q h)

    never : (more : Pulls x ys) → AreApart (y ∷ ys) → Has (y ∷ more.rest) x → ⊥
    never more a (inl e) = a.0 (subst (λ z. Has ys z) (sym e) has)
    never more a (inr h) = (more.apart a.1).0 h

-- numbers below n of which none stands twice are at most n
less_than : (n q : ℕ) → (q ≡ n → ⊥) → q < suc n → q < n
less_than n q off under = by (decide q n)
  where
    by : (q ≡ n) ⊎ (q ≢ n) → q < n
    by (inl e) = absurd (off e)
    by (inr differs) = omega (arith, differs, under)

few : (n : ℕ) (xs : List ℕ) → AreApart xs → ((q : ℕ) → Has xs q → q < n) → length xs ≤ n
few zero [] apart below = omega arith
few zero (x ∷ xs) apart below = absurd (omega (arith, below x (inl refl)))
few (suc n) xs apart below = by (few n) (has_or n xs)
  where
    by : ((ys : List ℕ) → AreApart ys → ((q : ℕ) → Has ys q → q < n) → length ys ≤ n) → Has xs n ⊎ (Has xs n → ⊥) → length xs ≤ suc n
    by fewer (inl has) =
        let more = pull n xs has in
        omega (arith, more.long, fewer more.rest (more.apart apart).1 (λ q h. less_than n q (λ e. (more.apart apart).0 (subst (λ z. Has more.rest z) e h)) (below q (more.keeps q h))))
    by fewer (inr absent) = omega (arith, fewer xs apart (λ q h. less_than n q (λ e. absent (subst (λ z. Has xs z) e h)) (below q h)))

-- ---- one session has changed

module _ {S : Type 0} where
  pub put : (slab : Slab (Session S)) (place : ℕ) (a b : Session S) → get slab place ≡ Some a → Updates slab (with_value slab place b) place (Some b)
  put slab place a b was = Updates-with_value slab place b (subst (λ (o : Option (Session S)). IsSome o) (sym was) refl)

  pub stands_change : (old new : Slab (Session S)) (place : ℕ) (a b : Session S) (turns turns' written written' : List ℕ) (room : ℕ) → get old place ≡ Some a → Updates old new place (Some b)
      → (b.is_queued ≡ true → Has turns' place) → (Has turns' place → b.is_queued ≡ true)
      → ((q : ℕ) → q ≢ place → Has turns q → Has turns' q) → ((q : ℕ) → q ≢ place → Has turns' q → Has turns q) → AreApart turns'
      → (b.is_written ≡ true → Has written' place) → ((q : ℕ) → q ≢ place → Has written q → Has written' q)
      → Stands old turns written room → Stands new turns' written' room
  stands_change old new place a b turns turns' written written' room was updates to from keeps back apart notes keeps_notes stands = record {
    queued = λ q s is queued. queues q s is queued (decide q place);
    marked = λ q has. marks q has (decide q place);
    apart = apart;
    noted = λ q s is noted. writes q s is noted (decide q place);
    below = λ q s is. under q s is (decide q place);
  }
    where
      new_is : (q : ℕ) (s : Session S) → q ≡ place → get new q ≡ Some s → s ≡ b
      new_is q s e is = some_same (get new q) s b is (ap (get new) e ∙ updates.changed)

      old_is : (q : ℕ) (s : Session S) → q ≢ place → get new q ≡ Some s → get old q ≡ Some s
      old_is q s off is = sym (updates.others q off) ∙ is

      queues : (q : ℕ) (s : Session S) → get new q ≡ Some s → s.is_queued ≡ true → (q ≡ place) ⊎ (q ≢ place) → Has turns' q
      queues q s is queued (inl e) = subst (λ z. Has turns' z) (sym e) (to (ap (λ (x : Session S). x.is_queued) (sym (new_is q s e is)) ∙ queued))
      queues q s is queued (inr off) = keeps q off (stands.queued q s (old_is q s off is) queued)

      marks : (q : ℕ) → Has turns' q → (q ≡ place) ⊎ (q ≢ place) → IsQueuedAt new q
      marks q has (inl e) = (b, ap (get new) e ∙ updates.changed, from (subst (λ z. Has turns' z) e has))
      marks q has (inr off) = let at = stands.marked q (back q off has) in (at.0, updates.others q off ∙ at.1, at.2)

      writes : (q : ℕ) (s : Session S) → get new q ≡ Some s → s.is_written ≡ true → (q ≡ place) ⊎ (q ≢ place) → Has written' q
      writes q s is noted (inl e) = subst (λ z. Has written' z) (sym e) (notes (ap (λ (x : Session S). x.is_written) (sym (new_is q s e is)) ∙ noted))
      writes q s is noted (inr off) = keeps_notes q off (stands.noted q s (old_is q s off is) noted)

      under : (q : ℕ) (s : Session S) → get new q ≡ Some s → (q ≡ place) ⊎ (q ≢ place) → q < room
      under q s is (inl e) = subst (λ z. z < room) (sym e) (stands.below place a was)
      under q s is (inr off) = stands.below q s (old_is q s off is)

  -- a session that stands in no queue isn't among the turns
  pub not_turning : (slab : Slab (Session S)) (place : ℕ) (a : Session S) (turns written : List ℕ) (room : ℕ) → Stands slab turns written room → get slab place ≡ Some a → a.is_queued ≡ false → Has turns place → ⊥
  not_turning slab place a turns written room stands was idle has =
      let at = stands.marked place has in
      absurd (true≢false (sym at.2 ∙ (ap (λ (x : Session S). x.is_queued) (some_same (get slab place) at.0 a at.1 was) ∙ idle)))

  -- the same session in the same queues
  pub stands_still : (old new : Slab (Session S)) (place : ℕ) (a b : Session S) (turns written : List ℕ) (room : ℕ) → get old place ≡ Some a → Updates old new place (Some b) → b.is_queued ≡ a.is_queued → b.is_written ≡ a.is_written → Stands old turns written room → Stands new turns written room
  stands_still old new place a b turns written room was updates queued noted stands =
      stands_change old new place a b turns turns written written room was updates (λ e. stands.queued place a was (sym queued ∙ e)) (λ has. queued ∙ turning (stands.marked place has)) (λ q off h. h) (λ q off h. h) stands.apart
      (λ e. stands.noted place a was (sym noted ∙ e)) (λ q off h. h) stands
    where
      turning : IsQueuedAt old place → a.is_queued ≡ true
      turning at = ap (λ (x : Session S). x.is_queued) (some_same (get old place) a at.0 was at.1) ∙ at.2

  -- one that stood in no queue is to have a turn
  stands_added : (old new : Slab (Session S)) (place : ℕ) (a b : Session S) (turns turns' written : List ℕ) (room : ℕ) → get old place ≡ Some a → Updates old new place (Some b) → a.is_queued ≡ false → b.is_queued ≡ true → b.is_written ≡ a.is_written → Adds place turns turns' → Stands old turns written room → Stands new turns' written room
  stands_added old new place a b turns turns' written room was updates idle queued noted adds stands =
      stands_change old new place a b turns turns' written written room was updates (λ e. adds.there) (λ has. queued) (λ q off h. adds.keeps q h) (λ q off h. back q off (adds.from q h)) (adds.apart stands.apart (not_turning old place a turns written room stands was idle))
      (λ e. stands.noted place a was (sym noted ∙ e)) (λ q off h. h) stands
    where
      back : (q : ℕ) → q ≢ place → (place ≡ q) ⊎ Has turns q → Has turns q
      back q off (inl e) = absurd (off (sym e))
      back q off (inr h) = h

  pub stands_ready : (old new : Slab (Session S)) (place : ℕ) (a b : Session S) (ready ready' behind written : List ℕ) (room : ℕ) → get old place ≡ Some a → Updates old new place (Some b) → a.is_queued ≡ false → b.is_queued ≡ true → b.is_written ≡ a.is_written → ready' ≡ ready ++ place ∷ [] → Stands old (ready ++ behind) written room → Stands new (ready' ++ behind) written room
  stands_ready old new place a b ready ready' behind written room was updates idle queued noted is stands =
      subst (λ xs. Stands new (xs ++ behind) written room) (sym is)
      (stands_added old new place a b (ready ++ behind) ((ready ++ place ∷ []) ++ behind) written room was updates idle queued noted (adds_middle place ready behind) stands)

  pub stands_behind : (old new : Slab (Session S)) (place : ℕ) (a b : Session S) (ready behind behind' written : List ℕ) (room : ℕ) → get old place ≡ Some a → Updates old new place (Some b) → a.is_queued ≡ false → b.is_queued ≡ true → b.is_written ≡ a.is_written → behind' ≡ behind ++ place ∷ [] → Stands old (ready ++ behind) written room → Stands new (ready ++ behind') written room
  stands_behind old new place a b ready behind behind' written room was updates idle queued noted is stands =
      subst (λ xs. Stands new (ready ++ xs) written room) (sym is)
      (stands_added old new place a b (ready ++ behind) (ready ++ (behind ++ place ∷ [])) written room was updates idle queued noted (adds_last place ready behind) stands)

  -- the first one has its turn
  pub stands_popped : (old new : Slab (Session S)) (place : ℕ) (a b : Session S) (ready rest behind written : List ℕ) (room : ℕ) → get old place ≡ Some a → Updates old new place (Some b) → b.is_queued ≡ false → b.is_written ≡ a.is_written → ready ≡ place ∷ rest → Stands old (ready ++ behind) written room → Stands new (rest ++ behind) written room
  stands_popped old new place a b ready rest behind written room was updates idle noted is stands =
      let stood : Stands old (place ∷ (rest ++ behind)) written room = subst (λ xs. Stands old (xs ++ behind) written room) is stands in
      stands_change old new place a b (place ∷ (rest ++ behind)) (rest ++ behind) written written room was updates (λ e. absurd (true≢false (sym e ∙ idle))) (λ has. absurd (stood.apart.0 has)) (λ q off h. other q off h) (λ q off h. inr h) stood.apart.1
      (λ e. stood.noted place a was (sym noted ∙ e)) (λ q off h. h) stood
    where
      other : (q : ℕ) → q ≢ place → Has (place ∷ (rest ++ behind)) q → Has (rest ++ behind) q
      other q off (inl e) = absurd (off (sym e))
      other q off (inr h) = h

  -- one is to be sent
  pub stands_written : (old new : Slab (Session S)) (place : ℕ) (a b : Session S) (turns written written' : List ℕ) (room : ℕ) → get old place ≡ Some a → Updates old new place (Some b) → b.is_queued ≡ a.is_queued → written' ≡ written ++ place ∷ [] → Stands old turns written room → Stands new turns written' room
  stands_written old new place a b turns written written' room was updates queued is stands =
      subst (λ xs. Stands new turns xs room) (sym is)
      (stands_change old new place a b turns turns written (written ++ place ∷ []) room was updates (λ e. stands.queued place a was (sym queued ∙ e)) (λ has. queued ∙ turning (stands.marked place has)) (λ q off h. h) (λ q off h. h) stands.apart
      (λ e. has_right written (place ∷ []) place (inl refl)) (λ q off h. has_left written (place ∷ []) q h) stands)
    where
      turning : IsQueuedAt old place → a.is_queued ≡ true
      turning at = ap (λ (x : Session S). x.is_queued) (some_same (get old place) a at.0 was at.1) ∙ at.2

  -- one was taken to be sent
  pub stands_taken : (old new : Slab (Session S)) (place : ℕ) (a b : Session S) (turns written written' : List ℕ) (room : ℕ) → get old place ≡ Some a → Updates old new place (Some b) → b.is_queued ≡ a.is_queued → b.is_written ≡ false → written ≡ place ∷ written' → Stands old turns written room → Stands new turns written' room
  stands_taken old new place a b turns written written' room was updates queued idle is stands =
      let stood : Stands old turns (place ∷ written') room = subst (λ xs. Stands old turns xs room) is stands in
      stands_change old new place a b turns turns (place ∷ written') written' room was updates (λ e. stood.queued place a was (sym queued ∙ e)) (λ has. queued ∙ turning (stood.marked place has)) (λ q off h. h) (λ q off h. h) stood.apart
      (λ e. absurd (true≢false (sym e ∙ idle))) (λ q off h. other q off h) stood
    where
      turning : IsQueuedAt old place → a.is_queued ≡ true
      turning at = ap (λ (x : Session S). x.is_queued) (some_same (get old place) a at.0 was at.1) ∙ at.2

      other : (q : ℕ) → q ≢ place → Has (place ∷ written') q → Has written' q
      other q off (inl e) = absurd (off (sym e))
      other q off (inr h) = h

  -- a place that is free was taken to be sent
  pub stands_passed : (slab : Slab (Session S)) (place : ℕ) (turns written written' : List ℕ) (room : ℕ) → get slab place ≡ None → written ≡ place ∷ written' → Stands slab turns written room → Stands slab turns written' room
  stands_passed slab place turns written written' room free is stands = record {
    queued = stands.queued;
    marked = stands.marked;
    apart = stands.apart;
    noted = λ q s at noted. other q s at (subst (λ xs. Has xs q) is (stands.noted q s at noted));
    below = stands.below;
  }
    where
      other : (q : ℕ) (s : Session S) → get slab q ≡ Some s → Has (place ∷ written') q → Has written' q
      other q s at (inl e) = absurd (no_session (sym free ∙ (ap (get slab) e ∙ at)))
        where
          no_session : None ≡ Some s → ⊥
          no_session e = absurd (cc)
      other q s at (inr h) = h

  -- one that stands in no queue has come
  pub stands_begun : (old new : Slab (Session S)) (place : ℕ) (b : Session S) (turns written : List ℕ) (room : ℕ) → get old place ≡ None → Updates old new place (Some b) → b.is_queued ≡ false → b.is_written ≡ false → place < room → Stands old turns written room → Stands new turns written room
  stands_begun old new place b turns written room free updates idle blank within stands = record {
    queued = λ q s is queued. queues q s is queued (decide q place);
    marked = λ q has. marks q has (decide q place);
    apart = stands.apart;
    noted = λ q s is noted. writes q s is noted (decide q place);
    below = λ q s is. under q s is (decide q place);
  }
    where
      new_is : (q : ℕ) (s : Session S) → q ≡ place → get new q ≡ Some s → s ≡ b
      new_is q s e is = some_same (get new q) s b is (ap (get new) e ∙ updates.changed)

      queues : (q : ℕ) (s : Session S) → get new q ≡ Some s → s.is_queued ≡ true → (q ≡ place) ⊎ (q ≢ place) → Has turns q
      queues q s is queued (inl e) = absurd (true≢false (sym queued ∙ (ap (λ (x : Session S). x.is_queued) (new_is q s e is) ∙ idle)))
      queues q s is queued (inr off) = stands.queued q s (sym (updates.others q off) ∙ is) queued

      marks : (q : ℕ) → Has turns q → (q ≡ place) ⊎ (q ≢ place) → IsQueuedAt new q
      marks q has (inl e) = let at = stands.marked q has in absurd (no_session at.0 (sym free ∙ (ap (get old) (sym e) ∙ at.1)))
        where
          no_session : (s : Session S) → None ≡ Some s → ⊥
          no_session s e = absurd (cc)
      marks q has (inr off) = let at = stands.marked q has in (at.0, updates.others q off ∙ at.1, at.2)

      writes : (q : ℕ) (s : Session S) → get new q ≡ Some s → s.is_written ≡ true → (q ≡ place) ⊎ (q ≢ place) → Has written q
      writes q s is noted (inl e) = absurd (true≢false (sym noted ∙ (ap (λ (x : Session S). x.is_written) (new_is q s e is) ∙ blank)))
      writes q s is noted (inr off) = stands.noted q s (sym (updates.others q off) ∙ is) noted

      under : (q : ℕ) (s : Session S) → get new q ≡ Some s → (q ≡ place) ⊎ (q ≢ place) → q < room
      under q s is (inl e) = subst (λ z. z < room) (sym e) within
      under q s is (inr off) = stands.below q s (sym (updates.others q off) ∙ is)

  -- one that stands in no queue has gone
  pub stands_freed : (old new : Slab (Session S)) (place : ℕ) (turns written : List ℕ) (room : ℕ) → Updates old new place None → IsIdleAt old place → Stands old turns written room → Stands new turns written room
  stands_freed old new place turns written room updates idle stands = record {
    queued = λ q s is queued. stands.queued q s (stood q s is (decide q place)) queued;
    marked = λ q has. marks q has (decide q place);
    apart = stands.apart;
    noted = λ q s is noted. stands.noted q s (stood q s is (decide q place)) noted;
    below = λ q s is. stands.below q s (stood q s is (decide q place));
  }
    where
      stood : (q : ℕ) (s : Session S) → get new q ≡ Some s → (q ≡ place) ⊎ (q ≢ place) → get old q ≡ Some s
      stood q s is (inl e) = absurd (no_session (sym updates.changed ∙ (ap (get new) (sym e) ∙ is)))
        where
          no_session : None ≡ Some s → ⊥
          no_session e = absurd (cc)
      stood q s is (inr off) = sym (updates.others q off) ∙ is

      marks : (q : ℕ) → Has turns q → (q ≡ place) ⊎ (q ≢ place) → IsQueuedAt new q
      marks q has (inl e) = absurd (not_turning old place idle.0 turns written room stands idle.1 idle.3 (subst (λ z. Has turns z) e has))
      marks q has (inr off) = let at = stands.marked q has in (at.0, updates.others q off ∙ at.1, at.2)

  -- ---- there is room in the queues

  fits_in : (slab : Slab (Session S)) (place : ℕ) (a : Session S) (turns written list : List ℕ) (room : ℕ) → Stands slab turns written room → get slab place ≡ Some a → a.is_queued ≡ false → AreApart list → ((q : ℕ) → Has list q → Has turns q) → length list < room
  fits_in slab place a turns written list room stands was idle apart within =
      omega (arith, few room (place ∷ list) (λ has. not_turning slab place a turns written room stands was idle (within place has), apart) below)
    where
      below : (q : ℕ) → Has (place ∷ list) q → q < room
      below q (inl e) = subst (λ z. z < room) e (stands.below place a was)
      below q (inr h) = let at = stands.marked q (within q h) in stands.below q at.0 at.1

  pub ready_room : (slab : Slab (Session S)) (ready behind written : Queue) (spare place : ℕ) (a : Session S) → QueuesStand slab ready behind written spare → get slab place ≡ Some a → a.is_queued ≡ false → HasRoom ready
  ready_room slab ready behind written spare place a stand was idle =
      omega (arith, ready.places.ok.0, stand.ready_room, fits_in slab place a (ready.places.items ++ behind.places.items) written.places.items ready.places.items slab.capacity stand.stands was idle (apart_left ready.places.items behind.places.items stand.stands.apart) (λ q h. has_left ready.places.items behind.places.items q h))

  pub behind_room : (slab : Slab (Session S)) (ready behind written : Queue) (spare place : ℕ) (a : Session S) → QueuesStand slab ready behind written spare → get slab place ≡ Some a → a.is_queued ≡ false → HasRoom behind
  behind_room slab ready behind written spare place a stand was idle =
      omega (arith, behind.places.ok.0, stand.behind_room, fits_in slab place a (ready.places.items ++ behind.places.items) written.places.items behind.places.items slab.capacity stand.stands was idle (apart_right ready.places.items behind.places.items stand.stands.apart) (λ q h. has_right ready.places.items behind.places.items q h))

  -- and for one that comes from the queue behind
  pub recall_room : (slab : Slab (Session S)) (ready behind written : Queue) (spare place : ℕ) (rest : List ℕ) → QueuesStand slab ready behind written spare → behind.places.items ≡ place ∷ rest → HasRoom ready
  recall_room slab ready behind written spare place rest stand is =
      omega (arith, ready.places.ok.0, stand.ready_room, length-append ready.places.items (place ∷ []), few slab.capacity (ready.places.items ++ place ∷ []) (apart_left (ready.places.items ++ place ∷ []) rest (subst AreApart all stand.stands.apart)) below)
    where
      all : ready.places.items ++ behind.places.items ≡ (ready.places.items ++ place ∷ []) ++ rest
      all = ap (λ xs. ready.places.items ++ xs) is ∙ sym (append_assoc ready.places.items (place ∷ []) rest)

      below : (q : ℕ) → Has (ready.places.items ++ place ∷ []) q → q < slab.capacity
      below q has = let at = stand.stands.marked q (subst (λ xs. Has xs q) (sym all) (has_left (ready.places.items ++ place ∷ []) rest q has)) in stand.stands.below q at.0 at.1

  -- as many of the slots have a value
  same_count : (slots : List (Option (Session S))) (key : ℕ) (b : Session S) → IsSome (get_or slots key None) → count_by is_some (set slots key (Some b)) ≡ count_by is_some slots
  same_count [] key b some = refl
  same_count (None ∷ rest) zero b some = absurd (cc)
  same_count (Some x ∷ rest) zero b some =
      let f : Option (Session S) → ℕ = λ o. cond (is_some o) 1 0 in
      omega (arith, sum_by-cons f (Some b) rest, sum_by-cons f (Some x) rest)
  same_count (slot ∷ rest) (suc key) b some =
      let f : Option (Session S) → ℕ = λ o. cond (is_some o) 1 0 in
      omega (arith, same_count rest key b some, sum_by-cons f slot (set rest key (Some b)), sum_by-cons f slot rest)

  pub same_len : (slab : Slab (Session S)) (place : ℕ) (a b : Session S) → get slab place ≡ Some a → slab_len (with_value slab place b) ≡ slab_len slab
  same_len slab place a b was = same_count slab.slots place b (subst (λ (o : Option (Session S)). IsSome o) (sym was) refl)

  -- ---- the queues of a table

  pub queues_still : (slab : Slab (Session S)) (ready behind written : Queue) (spare place : ℕ) (a b : Session S) → get slab place ≡ Some a → b.is_queued ≡ a.is_queued → b.is_written ≡ a.is_written → QueuesStand slab ready behind written spare → QueuesStand (with_value slab place b) ready behind written spare
  queues_still slab ready behind written spare place a b was queued noted stand = record {
    stands = stands_still slab (with_value slab place b) place a b (ready.places.items ++ behind.places.items) written.places.items slab.capacity was (put slab place a b was) queued noted stand.stands;
    ready_room = stand.ready_room;
    behind_room = stand.behind_room;
    fits = omega (arith, stand.fits, same_len slab place a b was);
  }

  -- the session has stood in a queue, if it stood in none
  pub queues_ready : (slab : Slab (Session S)) (ready ready' behind written : Queue) (spare place : ℕ) (a b : Session S) → get slab place ≡ Some a → a.is_queued ≡ false → b.is_queued ≡ true → b.is_written ≡ a.is_written → Pushes place ready ready' → QueuesStand slab ready behind written spare → QueuesStand (with_value slab place b) ready' behind written spare
  queues_ready slab ready ready' behind written spare place a b was idle queued noted pushes stand = record {
    stands = stands_ready slab (with_value slab place b) place a b ready.places.items ready'.places.items behind.places.items written.places.items slab.capacity was (put slab place a b was) idle queued noted pushes.items stand.stands;
    ready_room = omega (arith, stand.ready_room, pushes.room);
    behind_room = stand.behind_room;
    fits = omega (arith, stand.fits, same_len slab place a b was);
  }

  pub queues_behind : (slab : Slab (Session S)) (ready behind behind' written : Queue) (spare place : ℕ) (a b : Session S) → get slab place ≡ Some a → a.is_queued ≡ false → b.is_queued ≡ true → b.is_written ≡ a.is_written → Pushes place behind behind' → QueuesStand slab ready behind written spare → QueuesStand (with_value slab place b) ready behind' written spare
  queues_behind slab ready behind behind' written spare place a b was idle queued noted pushes stand = record {
    stands = stands_behind slab (with_value slab place b) place a b ready.places.items behind.places.items behind'.places.items written.places.items slab.capacity was (put slab place a b was) idle queued noted pushes.items stand.stands;
    ready_room = stand.ready_room;
    behind_room = omega (arith, stand.behind_room, pushes.room);
    fits = omega (arith, stand.fits, same_len slab place a b was);
  }

  pub queues_written : (slab : Slab (Session S)) (ready behind written written' : Queue) (spare place : ℕ) (a b : Session S) → get slab place ≡ Some a → b.is_queued ≡ a.is_queued → Pushes place written written' → QueuesStand slab ready behind written spare → QueuesStand (with_value slab place b) ready behind written' spare
  queues_written slab ready behind written written' spare place a b was queued pushes stand = record {
    stands = stands_written slab (with_value slab place b) place a b (ready.places.items ++ behind.places.items) written.places.items written'.places.items slab.capacity was (put slab place a b was) queued pushes.items stand.stands;
    ready_room = stand.ready_room;
    behind_room = stand.behind_room;
    fits = omega (arith, stand.fits, same_len slab place a b was);
  }

  pub queues_popped : (slab : Slab (Session S)) (ready ready' behind written : Queue) (spare place : ℕ) (a b : Session S) → get slab place ≡ Some a → b.is_queued ≡ false → b.is_written ≡ a.is_written → ready.places.items ≡ place ∷ ready'.places.items → deque_capacity ready'.places ≡ deque_capacity ready.places → QueuesStand slab ready behind written spare → QueuesStand (with_value slab place b) ready' behind written spare
  queues_popped slab ready ready' behind written spare place a b was idle noted is room stand = record {
    stands = stands_popped slab (with_value slab place b) place a b ready.places.items ready'.places.items behind.places.items written.places.items slab.capacity was (put slab place a b was) idle noted is stand.stands;
    ready_room = omega (arith, stand.ready_room, room);
    behind_room = stand.behind_room;
    fits = omega (arith, stand.fits, same_len slab place a b was);
  }

  pub queues_taken : (slab : Slab (Session S)) (ready behind written written' : Queue) (spare place : ℕ) (a b : Session S) → get slab place ≡ Some a → b.is_queued ≡ a.is_queued → b.is_written ≡ false → written.places.items ≡ place ∷ written'.places.items → QueuesStand slab ready behind written spare → QueuesStand (with_value slab place b) ready behind written' spare
  queues_taken slab ready behind written written' spare place a b was queued idle is stand = record {
    stands = stands_taken slab (with_value slab place b) place a b (ready.places.items ++ behind.places.items) written.places.items written'.places.items slab.capacity was (put slab place a b was) queued idle is stand.stands;
    ready_room = stand.ready_room;
    behind_room = stand.behind_room;
    fits = omega (arith, stand.fits, same_len slab place a b was);
  }

  -- the queue of those that are to be sent has the same places
  pub queues_renewed : (slab : Slab (Session S)) (ready behind written written' : Queue) (spare : ℕ) → written'.places.items ≡ written.places.items → QueuesStand slab ready behind written spare → QueuesStand slab ready behind written' spare
  queues_renewed slab ready behind written written' spare same stand = record {
    stands = subst (λ xs. Stands slab (ready.places.items ++ behind.places.items) xs slab.capacity) (sym same) stand.stands;
    ready_room = stand.ready_room;
    behind_room = stand.behind_room;
    fits = stand.fits;
  }

  -- a place where no session stands has left it
  pub queues_passed : (slab : Slab (Session S)) (ready behind written written' : Queue) (spare place : ℕ) → get slab place ≡ None → written.places.items ≡ place ∷ written'.places.items → QueuesStand slab ready behind written spare → QueuesStand slab ready behind written' spare
  queues_passed slab ready behind written written' spare place free is stand = record {
    stands = record {
      queued = stand.stands.queued;
      marked = stand.stands.marked;
      apart = stand.stands.apart;
      noted = λ q session at down. by q session at (subst (λ xs. Has xs q) is (stand.stands.noted q session at down));
      below = stand.stands.below;
    };
    ready_room = stand.ready_room;
    behind_room = stand.behind_room;
    fits = stand.fits;
  }
    where
      no_value : (s : Session S) → None ≡ Some s → ⊥
      no_value s e = absurd (cc)

      by : (q : ℕ) (session : Session S) → get slab q ≡ Some session → Has (place ∷ written'.places.items) q → Has written'.places.items q
      by q session at (inl same) = absurd (no_value session (sym free ∙ (ap (get slab) same ∙ at)))
      by q session at (inr has) = has

  -- a session is put over another one at the same place
  pub put_over : (slab : Slab (Session S)) (place : ℕ) (a b : Session S) → get slab place ≡ Some a → get (with_value slab place b) place ≡ Some b
  put_over slab place a b was = (put slab place a b was).changed
