-- What a table tells once one of its sessions has moved.
use Rattle.std.proofs.Common.{◌≡◌, ◌≢◌, ℕ, zero, suc, ◌+◌, ◌<◌, ◌≤◌, ◌==◌, List, [], ◌∷◌, ◌++◌, length, take, drop, true, false, true≢false, Option, None, Some, IsSome, IfSome, Result, Ok, Err, IfOk, OnOk, IsOk, not, ◌⊎◌, inl, inr, refl, sym, ap, ◌∙◌, subst, arith}
use Rattle.std.specs.List.{slice_get, filter}
use Rattle.std.specs.Result.{result_ok}
use Rattle.std.specs.Global.{Vec}
use Rattle.std.proofs.lemmas.List.{append-nil}
use Rattle.slab.specs.Slab.{Slab, get, Updates, with_value, slab_len, HasRoomFor}
use Rattle.slab.proofs.SlabLemmas.{Updates-with_value}
use Rattle.gate_hub.specs.Meaning.{Link, unasked}
use Rattle.gate_hub.specs.declared.hub.LinkGot.TheVariants as got
use Rattle.gate_hub.specs.declared.hub.LinkPut.TheVariants as put
use Rattle.mio_edge.specs.Wire.{Wire, Moves, Stays}
use Rattle.mio_edge.specs.Moving.{PortTells, PortTellsBy, noted}
use Rattle.mio_edge.specs.Sessions.{Links, SessionTells, TellsUnsent, TellsAt, AtPort, IsSame, IsStill, IsAwaited, IsUnsentAt, PortsTell, new_links, named_links}
use Rattle.mio_edge.specs.Turns.{IsIdleAt, Stands, QueuesStand, TableStands}
use Rattle.mio_edge.specs.Tables.{World, place_of, RisesFrom, TellsPlace, SpareTells, IsClosedAt, IsPrepared, IsNew, Tells, TableTells, HasVacancy, AtSession, Shuts, Opens, Names, MovesAt}
use Rattle.mio_edge.specs.declared.port.Port.{Port}
use Rattle.mio_edge.specs.declared.session.Session.{Session}
use Rattle.mio_edge.specs.declared.table.Table.{Table}
use Rattle.mio_edge.specs.declared.table.Entry.{Entry}
use Rattle.mio_edge.proofs.Sessions.{decide, pushed_cases, none_awaited}
use Rattle.mio_edge.proofs.Turns.{stands_begun, stands_freed}
use Rattle.mio_edge.proofs.Entries.{some_same, place_at, cut_out, pushed_here, pushed_other, rises_pushed, get_last, get_front, filtered}

-- what is left behind so many and one more
pub drop_one : (n : ℕ) (xs : List ℕ) → drop 1 (drop n xs) ≡ drop (n + 1) xs
drop_one zero xs = refl
drop_one (suc n) [] =
    let long : suc n + 1 ≡ suc (n + 1) = omega arith in let none : List ℕ = [] in ap (λ k. drop k none) (sym long)
drop_one (suc n) (x ∷ xs) =
    let long : suc n + 1 ≡ suc (n + 1) = omega arith in drop_one n xs ∙ ap (λ k. drop k (x ∷ xs)) (sym long)

-- the session that stands at the place of a number has that number
module _ {S : Type 0} (tells : S → Wire → Type 0) where
  -- ---- the slab: one session is another

  same_place : (old new : Slab (Session S)) (place : ℕ) (a b : Session S) (q : ℕ) (s : Session S) → get old place ≡ Some a → Updates old new place (Some b) → get new q ≡ Some s → ((q ≡ place) × (s ≡ b)) ⊎ ((q ≢ place) × (get old q ≡ Some s))
  same_place old new place a b q s was updates is = by (decide q place)
    where
      by : (q ≡ place) ⊎ (q ≢ place) → ((q ≡ place) × (s ≡ b)) ⊎ ((q ≢ place) × (get old q ≡ Some s))
      by (inl e) = inl (e, some_same (get new q) s b is (ap (get new) e ∙ updates.changed))
      by (inr off) = inr (off, sym (updates.others q off) ∙ is)

  -- what stands at a place, told by other links
  placed_stays : (old new : Slab (Session S)) (place : ℕ) (a b : Session S) (k : ℕ) (at : Option ℕ) (links : Option Links) → get old place ≡ Some a → Updates old new place (Some b) → IsSame a b → Stays (SessionTells tells a) (SessionTells tells b) → TellsPlace tells old k at links → TellsPlace tells new k at links
  placed_stays old new place a b k None links was updates same stays told = told
  placed_stays old new place a b k (Some q) None was updates same stays told = absurd told.4
  placed_stays old new place a b k (Some q) (Some links) was updates same stays (s, is, number, entries, told) = by (decide q place)
    where
      by : (q ≡ place) ⊎ (q ≢ place) → TellsPlace tells new k (Some q) (Some links)
      by (inl e) =
          let s_is : s ≡ a = some_same (get old q) s a is (ap (get old) e ∙ was) in
          (b, ap (get new) e ∙ updates.changed, same.number ∙ (ap (λ (x : Session S). x.number) (sym s_is) ∙ number), same.is_open ∙ (ap (λ (x : Session S). x.is_open) (sym s_is) ∙ entries), stays links (subst (λ (x : Session S). SessionTells tells x links) s_is told))
      by (inr off) = (s, updates.others q off ∙ is, number, entries, told)

  closed_stays : (old new : Slab (Session S)) (place : ℕ) (a b : Session S) (q : ℕ) → get old place ≡ Some a → Updates old new place (Some b) → b.is_open ≡ a.is_open → IsClosedAt old q → IsClosedAt new q
  closed_stays old new place a b q was updates same (s, is, shut) = by (decide q place)
    where
      by : (q ≡ place) ⊎ (q ≢ place) → IsClosedAt new q
      by (inl e) =
          let s_is : s ≡ a = some_same (get old q) s a is (ap (get old) e ∙ was) in
          (b, ap (get new) e ∙ updates.changed, same ∙ (ap (λ (x : Session S). x.is_open) (sym s_is) ∙ shut))
      by (inr off) = (s, updates.others q off ∙ is, shut)

  listed_stays : (old new : Slab (Session S)) (entries : List Entry) (place : ℕ) (a b : Session S) → get old place ≡ Some a → Updates old new place (Some b) → IsSame a b
      → ((q : ℕ) (s : Session S) → get old q ≡ Some s → s.is_open ≡ true → place_of entries s.number ≡ Some q)
      → (q : ℕ) (s : Session S) → get new q ≡ Some s → s.is_open ≡ true → place_of entries s.number ≡ Some q
  listed_stays old new entries place a b was updates same listed q s is open_is = by (same_place old new place a b q s was updates is)
    where
      by : ((q ≡ place) × (s ≡ b)) ⊎ ((q ≢ place) × (get old q ≡ Some s)) → place_of entries s.number ≡ Some q
      by (inl (e, s_is)) =
          ap (λ (x : Session S). place_of entries x.number) s_is ∙ (ap (place_of entries) same.number
          ∙ (listed place a was (sym same.is_open ∙ (ap (λ (x : Session S). x.is_open) (sym s_is) ∙ open_is)) ∙ ap Some (sym e)))
      by (inr (off, was')) = listed q s was' open_is

  -- a session tells what it told, and so do all
  pub updated : (old new : Slab (Session S)) (entries : List Entry) (closed : List ℕ) (spare : List (Vec (Port S))) (place : ℕ) (a b : Session S) → get old place ≡ Some a → Updates old new place (Some b) → IsSame a b → Stays (SessionTells tells a) (SessionTells tells b) → Stays (Tells tells old entries closed spare) (Tells tells new entries closed spare)
  updated old new entries closed spare place a b was updates same stays world told = record {
    told = λ k. placed_stays old new place a b k (place_of entries k) (world k) was updates same stays (told.told k);
    rising = told.rising;
    listed = listed_stays old new entries place a b was updates same told.listed;
    closed = λ n q is. closed_stays old new place a b q was updates same.is_open (told.closed n q is);
    spare = told.spare;
  }

  pub written : (slab : Slab (Session S)) (place : ℕ) (a b : Session S) → get slab place ≡ Some a → Updates slab (with_value slab place b) place (Some b)
  written slab place a b was = Updates-with_value slab place b (subst (λ (o : Option (Session S)). IsSome o) (sym was) refl)

  pub kept_at : (slab : Slab (Session S)) (entries : List Entry) (closed : List ℕ) (spare : List (Vec (Port S))) (place : ℕ) (a b : Session S) → get slab place ≡ Some a → IsSame a b → Stays (SessionTells tells a) (SessionTells tells b) → Stays (Tells tells slab entries closed spare) (Tells tells (with_value slab place b) entries closed spare)
  kept_at slab entries closed spare place a b was same stays = updated slab (with_value slab place b) entries closed spare place a b was (written slab place a b was) same stays

  -- ---- a call at an open session

  is_told : (o : Option Links) → IsSome o → (links : Links) × (o ≡ Some links)
  is_told None some = absurd (cc)
  is_told (Some links) some = (links, refl)

  -- where the open session k stands
  pub found : (sessions : Slab (Session S)) (entries : List Entry) (closed : List ℕ) (spare : List (Vec (Port S))) (world : World) (k : ℕ) (links : Links) → Tells tells sessions entries closed spare world → world k ≡ Some links → (place : ℕ) × (session : Session S) × (place_of entries k ≡ Some place) × (get sessions place ≡ Some session) × (session.number ≡ k) × (session.is_open ≡ true) × SessionTells tells session links
  found sessions entries closed spare world k links told is = by (place_of entries k) refl (subst (λ (o : Option Links). TellsPlace tells sessions k (place_of entries k) o) is (told.told k))
    where
      by : (at : Option ℕ) → place_of entries k ≡ at → TellsPlace tells sessions k at (Some links) → (place : ℕ) × (session : Session S) × (place_of entries k ≡ Some place) × (get sessions place ≡ Some session) × (session.number ≡ k) × (session.is_open ≡ true) × SessionTells tells session links
      by None at none = absurd (cc)
      by (Some place) at (s, stands, number, open_is, tells_links) = (place, s, at, stands, number, open_is, tells_links)

  -- other sessions than the one at this place are told as before
  others_stay : (old new : Slab (Session S)) (place : ℕ) (a : Session S) (slot : Option (Session S)) (k : ℕ) (at : Option ℕ) (links : Option Links) → get old place ≡ Some a → Updates old new place slot → a.number ≢ k → TellsPlace tells old k at links → TellsPlace tells new k at links
  others_stay old new place a slot k None links was updates off told = told
  others_stay old new place a slot k (Some q) links was updates off (s, is, number, entries, told) =
      (s, updates.others q (λ e. off (ap (λ (x : Session S). x.number) (sym (some_same (get old q) s a is (ap (get old) e ∙ was))) ∙ number)) ∙ is, number, entries, told)

  -- the links of one number are others
  abbrev swap : {j k : ℕ} → (j ≡ k) ⊎ (j ≢ k) → Option Links → Option Links → Option Links
  swap (inl e) x y = x
  swap (inr e) x y = y

  swap_here : {k : ℕ} (d : (k ≡ k) ⊎ (k ≢ k)) (x y : Option Links) → swap d x y ≡ x
  swap_here (inl e) x y = refl
  swap_here (inr e) x y = absurd (e refl)

  swap_other : {j k : ℕ} (d : (j ≡ k) ⊎ (j ≢ k)) (x y : Option Links) → j ≢ k → swap d x y ≡ y
  swap_other (inl e) x y off = absurd (off e)
  swap_other (inr e) x y off = refl

  pub at_session : (old new : Slab (Session S)) (entries : List Entry) (closed : List ℕ) (spare : List (Vec (Port S))) (k port place : ℕ) (a b : Session S) (Step : Link → Link → Type 0) → place_of entries k ≡ Some place → get old place ≡ Some a → Updates old new place (Some b) → IsSame a b → Moves (SessionTells tells a) (SessionTells tells b) (AtPort port Step) → MovesAt k (Tells tells old entries closed spare) (Tells tells new entries closed spare) (AtSession k port Step)
  at_session old new entries closed spare k port place a b Step at was updates same moves world told some =
      let opened = is_told (world k) some in
      let links = opened.0 in
      let there = found old entries closed spare world k links told opened.1 in
      let same_at : place ≡ there.0 = some_same (place_of entries k) place there.0 at there.2 in
      let s_is : there.1 ≡ a = some_same (get old place) there.1 a (ap (get old) same_at ∙ there.3) was in
      let moved = moves links (subst (λ (x : Session S). SessionTells tells x links) s_is there.6) in
      let number : a.number ≡ k = ap (λ (x : Session S). x.number) (sym s_is) ∙ there.4 in
      let open_is : a.is_open ≡ true = ap (λ (x : Session S). x.is_open) (sym s_is) ∙ there.5 in (
        (λ j. swap (decide j k) (Some moved.0) (world j)),
        record {
          told = λ j. all j (decide j k) moved.0 number open_is moved.1;
          rising = told.rising;
          listed = listed_stays old new entries place a b was updates same told.listed;
          closed = λ n q is. closed_stays old new place a b q was updates same.is_open (told.closed n q is);
          spare = told.spare;
        },
        record {
          before = links;
          after = moved.0;
          was = opened.1;
          now = swap_here (decide k k) (Some moved.0) (world k);
          step = moved.2;
          others = λ j off. swap_other (decide j k) (Some moved.0) (world j) off;
        },
      )
    where
      all : (j : ℕ) (d : (j ≡ k) ⊎ (j ≢ k)) (links : Links) → a.number ≡ k → a.is_open ≡ true → SessionTells tells b links → TellsPlace tells new j (place_of entries j) (swap d (Some links) (world j))
      all j (inl e) links number open_is now =
          subst (λ (o : Option ℕ). TellsPlace tells new j o (Some links)) (sym (ap (place_of entries) e ∙ at))
          (b, updates.changed, same.number ∙ (number ∙ sym e), same.is_open ∙ open_is, now)
      all j (inr off) links number open_is now = others_stay old new place a (Some b) j (place_of entries j) (world j) was updates (λ e. off (sym e ∙ number)) (told.told j)

  -- ---- sessions are opened and closed

  -- a session that isn't open is another, and stands open or closed besides
  shut_other : (old new : Slab (Session S)) (place : ℕ) (a : Session S) (slot : Option (Session S)) (j : ℕ) (at : Option ℕ) (links : Option Links) → get old place ≡ Some a → a.is_open ≡ false → Updates old new place slot → TellsPlace tells old j at links → TellsPlace tells new j at links
  shut_other old new place a slot j None links was shut updates told = told
  shut_other old new place a slot j (Some q) links was shut updates (s, is, number, entries, told) =
      (s, updates.others q (λ e. absurd (true≢false (sym entries ∙ (ap (λ (x : Session S). x.is_open) (some_same (get old q) s a is (ap (get old) e ∙ was)) ∙ shut)))) ∙ is, number, entries, told)

  none_listed : (entries : List Entry) (sessions : Slab (Session S)) (k : ℕ) (links : Option Links) → links ≡ None → TellsPlace tells sessions k (place_of entries k) links → place_of entries k ≡ None
  none_listed entries sessions k links none told = by (place_of entries k) (subst (λ (o : Option Links). TellsPlace tells sessions k (place_of entries k) o) none told)
    where
      by : (at : Option ℕ) → TellsPlace tells sessions k at None → at ≡ None
      by None told = refl
      by (Some q) told = absurd told.4

  -- the prepared session is announced: its number is above those of all that are open
  pub announced : (old new : Slab (Session S)) (entries : List Entry) (closed : List ℕ) (spare : List (Vec (Port S))) (k place : ℕ) (a b : Session S) (e : Entry) (world : World)
      → get old place ≡ Some a → a.number ≡ k → a.is_open ≡ false → SessionTells tells a new_links → ((n : ℕ) → slice_get closed n ≢ Some place)
      → Updates old new place (Some b) → b ≡ record a { is_open = true } → e ≡ record { number = k; place = place }
      → ((j : ℕ) → IsSome (world j) → j < k) → Tells tells old entries closed spare world
      → (world' : World) × Tells tells new (entries ++ e ∷ []) closed spare world' × Opens k world world'
  announced old new entries closed spare k place a b e world was number shut new_told apart updates b_is e_is above told = (
    (λ j. swap (decide j k) (Some new_links) (world j)),
    record {
      told = λ j. all j (decide j k);
      rising = rises_pushed 0 entries e told.rising (λ n x is. below n x is) (omega arith);
      listed = λ q s is open_is. lists q s open_is (same_place old new place a b q s was updates is);
      closed = λ n q is. keeps_closed n q is (told.closed n q is);
      spare = told.spare;
    },
    record { here = swap_here (decide k k) (Some new_links) (world k); others = λ j off. swap_other (decide j k) (Some new_links) (world j) off },
  )
    where
      e_number : e.number ≡ k
      e_number = ap (λ (x : Entry). x.number) e_is

      e_place : e.place ≡ place
      e_place = ap (λ (x : Entry). x.place) e_is

      b_number : b.number ≡ k
      b_number = ap (λ (x : Session S). x.number) b_is ∙ number

      b_open : b.is_open ≡ true
      b_open = ap (λ (x : Session S). x.is_open) b_is

      b_told : SessionTells tells b new_links
      b_told = subst (λ (x : Session S). SessionTells tells x new_links) (sym b_is) (record { ports = new_told.ports; awaited = new_told.awaited; unsent = new_told.unsent })

      known : (j q : ℕ) (at : Option ℕ) → at ≡ Some q → TellsPlace tells old j at (world j) → IsSome (world j)
      known j q None is t = absurd (cc)
      known j q (Some p) is t = some (world j) t
        where
          some : (o : Option Links) → TellsPlace tells old j (Some p) o → IsSome o
          some None t = absurd t.4
          some (Some l) t = refl

      below : (n : ℕ) (x : Entry) → slice_get entries n ≡ Some x → x.number < e.number
      below n x is =
          omega (arith, e_number, above x.number (known x.number x.place (place_of entries x.number) (place_at 0 entries n x told.rising is).1 (told.told x.number)))

      free : place_of entries k ≡ None
      free = by (place_of entries k) refl
        where
          by : (at : Option ℕ) → place_of entries k ≡ at → at ≡ None
          by None is = refl
          by (Some q) is = absurd (omega (arith, above k (known k q (place_of entries k) is (told.told k))))

      here : place_of (entries ++ e ∷ []) k ≡ Some place
      here = subst (λ (n : ℕ). place_of (entries ++ e ∷ []) n ≡ Some place) e_number (pushed_here entries e (ap (place_of entries) e_number ∙ free) ∙ ap Some e_place)

      away : (j : ℕ) → j ≢ k → place_of (entries ++ e ∷ []) j ≡ place_of entries j
      away j off = pushed_other entries e j (λ is. off (is ∙ e_number))

      all : (j : ℕ) (d : (j ≡ k) ⊎ (j ≢ k)) → TellsPlace tells new j (place_of (entries ++ e ∷ []) j) (swap d (Some new_links) (world j))
      all j (inl is) =
          subst (λ (o : Option ℕ). TellsPlace tells new j o (Some new_links)) (sym (ap (place_of (entries ++ e ∷ [])) is ∙ here))
          (b, updates.changed, b_number ∙ sym is, b_open, b_told)
      all j (inr off) =
          subst (λ (o : Option ℕ). TellsPlace tells new j o (world j)) (sym (away j off))
          (shut_other old new place a (Some b) j (place_of entries j) (world j) was shut updates (told.told j))

      lists : (q : ℕ) (s : Session S) → s.is_open ≡ true → ((q ≡ place) × (s ≡ b)) ⊎ ((q ≢ place) × (get old q ≡ Some s)) → place_of (entries ++ e ∷ []) s.number ≡ Some q
      lists q s open_is (inl (is, s_is)) =
          ap (λ (x : Session S). place_of (entries ++ e ∷ []) x.number) s_is ∙ (ap (place_of (entries ++ e ∷ [])) b_number ∙ (here ∙ ap Some (sym is)))
      lists q s open_is (inr (off, is)) =
          let listed = told.listed q s is open_is in
          away s.number (λ same. absurd (none_some q (sym free ∙ (ap (place_of entries) (sym same) ∙ listed)))) ∙ listed
        where
          none_some : (q : ℕ) → None ≡ Some q → ⊥
          none_some q e = absurd (cc)

      keeps_closed : (n q : ℕ) → slice_get closed n ≡ Some q → IsClosedAt old q → IsClosedAt new q
      keeps_closed n q is (s, stands, s_shut) = (s, updates.others q (λ same. apart n (is ∙ ap Some same)) ∙ stands, s_shut)

  -- the session of an entry is closed
  pub closes : (old new : Slab (Session S)) (entries : List Entry) (closed closed' : List ℕ) (spare : List (Vec (Port S))) (at : ℕ) (e : Entry) (a b : Session S) (world : World)
      → slice_get entries at ≡ Some e → get old e.place ≡ Some a → Updates old new e.place (Some b) → b ≡ record a { is_open = false }
      → ((n q : ℕ) → slice_get closed' n ≡ Some q → (slice_get closed n ≡ Some q) ⊎ (q ≡ e.place))
      → Tells tells old entries closed spare world
      → (world' : World) × Tells tells new (take at entries ++ drop (suc at) entries) closed' spare world' × Shuts e.number world world'
  closes old new entries closed closed' spare at e a b world listed_at was updates b_is from told = (
    (λ j. swap (decide j e.number) None (world j)),
    record {
      told = λ j. all j (decide j e.number);
      rising = cut.0;
      listed = λ q s is open_is. lists q s open_is (same_place old new e.place a b q s was updates is);
      closed = λ n q is. shut n q is;
      spare = told.spare;
    },
    record { closed = swap_here (decide e.number e.number) None (world e.number); others = λ j off. swap_other (decide j e.number) None (world j) off },
  )
    where
      rest : List Entry
      rest = take at entries ++ drop (suc at) entries

      cut : RisesFrom 0 rest × ((j : ℕ) → j ≢ e.number → place_of rest j ≡ place_of entries j) × (place_of rest e.number ≡ None)
      cut = cut_out 0 entries at e told.rising listed_at

      here : place_of entries e.number ≡ Some e.place
      here = (place_at 0 entries at e told.rising listed_at).1

      a_number : a.number ≡ e.number
      a_number = by (world e.number) (subst (λ (o : Option ℕ). TellsPlace tells old e.number o (world e.number)) here (told.told e.number))
        where
          by : (o : Option Links) → TellsPlace tells old e.number (Some e.place) o → a.number ≡ e.number
          by o (s, is, number, open_is, t) = ap (λ (x : Session S). x.number) (some_same (get old e.place) a s was is) ∙ number

      all : (j : ℕ) (d : (j ≡ e.number) ⊎ (j ≢ e.number)) → TellsPlace tells new j (place_of rest j) (swap d None (world j))
      all j (inl is) = subst (λ (o : Option ℕ). TellsPlace tells new j o None) (sym (ap (place_of rest) is ∙ cut.2)) refl
      all j (inr off) =
          subst (λ (o : Option ℕ). TellsPlace tells new j o (world j)) (sym (cut.1 j off))
          (others_stay old new e.place a (Some b) j (place_of entries j) (world j) was updates (λ is. off (sym is ∙ a_number)) (told.told j))

      b_shut : b.is_open ≡ false
      b_shut = ap (λ (x : Session S). x.is_open) b_is

      lists : (q : ℕ) (s : Session S) → s.is_open ≡ true → ((q ≡ e.place) × (s ≡ b)) ⊎ ((q ≢ e.place) × (get old q ≡ Some s)) → place_of rest s.number ≡ Some q
      lists q s open_is (inl (is, s_is)) = absurd (true≢false (sym open_is ∙ (ap (λ (x : Session S). x.is_open) s_is ∙ b_shut)))
      lists q s open_is (inr (off, is)) =
          let listed = told.listed q s is open_is in
          cut.1 s.number (λ same. off (some_same (place_of entries s.number) q e.place listed (ap (place_of entries) same ∙ here))) ∙ listed

      old_shut : (q : ℕ) → IsClosedAt old q → IsClosedAt new q
      old_shut q (s, is, s_shut) = by (decide q e.place)
        where
          by : (q ≡ e.place) ⊎ (q ≢ e.place) → IsClosedAt new q
          by (inl same) = (b, ap (get new) same ∙ updates.changed, b_shut)
          by (inr off) = (s, updates.others q off ∙ is, s_shut)

      shut : (n q : ℕ) → slice_get closed' n ≡ Some q → IsClosedAt new q
      shut n q is = by (from n q is)
        where
          by : (slice_get closed n ≡ Some q) ⊎ (q ≡ e.place) → IsClosedAt new q
          by (inl old_is) = old_shut q (told.closed n q old_is)
          by (inr same) = (b, ap (get new) same ∙ updates.changed, b_shut)

  -- a session that isn't open has moved
  pub shut_moved : (old new : Slab (Session S)) (entries : List Entry) (closed : List ℕ) (spare : List (Vec (Port S))) (place : ℕ) (a b : Session S) → get old place ≡ Some a → a.is_open ≡ false → Updates old new place (Some b) → IsSame a b → Stays (Tells tells old entries closed spare) (Tells tells new entries closed spare)
  shut_moved old new entries closed spare place a b was shut updates same world told = record {
    told = λ k. shut_other old new place a (Some b) k (place_of entries k) (world k) was shut updates (told.told k);
    rising = told.rising;
    listed = listed_stays old new entries place a b was updates same told.listed;
    closed = λ n q is. closed_stays old new place a b q was updates same.is_open (told.closed n q is);
    spare = told.spare;
  }

  -- the place of a session that isn't open is freed
  pub released : (old new : Slab (Session S)) (entries : List Entry) (closed closed' : List ℕ) (spare spare' : List (Vec (Port S))) (place : ℕ) (a : Session S) → get old place ≡ Some a → a.is_open ≡ false → Updates old new place None
      → ((n q : ℕ) → slice_get closed' n ≡ Some q → (m : ℕ) × (slice_get closed m ≡ Some q) × (q ≢ place))
      → ((n : ℕ) → ((m : ℕ) → SpareTells tells (slice_get spare m)) → SpareTells tells (slice_get spare' n))
      → Stays (Tells tells old entries closed spare) (Tells tells new entries closed' spare')
  released old new entries closed closed' spare spare' place a was shut updates fewer spares world told = record {
    told = λ k. shut_other old new place a None k (place_of entries k) (world k) was shut updates (told.told k);
    rising = told.rising;
    listed = λ q s is open_is. lists q s open_is is (decide q place);
    closed = λ n q is. keeps q (fewer n q is);
    spare = λ n. spares n told.spare;
  }
    where
      lists : (q : ℕ) (s : Session S) → s.is_open ≡ true → get new q ≡ Some s → (q ≡ place) ⊎ (q ≢ place) → place_of entries s.number ≡ Some q
      lists q s open_is is (inl same) = absurd (no_value (sym updates.changed ∙ (ap (get new) (sym same) ∙ is)))
        where
          no_value : None ≡ Some s → ⊥
          no_value e = absurd (cc)
      lists q s open_is is (inr off) = told.listed q s (sym (updates.others q off) ∙ is) open_is

      keeps : (q : ℕ) → (m : ℕ) × (slice_get closed m ≡ Some q) × (q ≢ place) → IsClosedAt new q
      keeps q (m, is, off) = let held = told.closed m q is in (held.0, updates.others q off ∙ held.1, held.2)

  -- a session that isn't open is put where none stood
  pub begun : (old new : Slab (Session S)) (entries : List Entry) (closed : List ℕ) (spare spare' : List (Vec (Port S))) (place : ℕ) (b : Session S) → get old place ≡ None → Updates old new place (Some b) → b.is_open ≡ false
      → ((n : ℕ) → ((m : ℕ) → SpareTells tells (slice_get spare m)) → SpareTells tells (slice_get spare' n))
      → Stays (Tells tells old entries closed spare) (Tells tells new entries closed spare')
  begun old new entries closed spare spare' place b free updates shut spares world told = record {
    told = λ k. all k (place_of entries k) (world k) (told.told k);
    rising = told.rising;
    listed = λ q s is open_is. lists q s open_is is (decide q place);
    closed = λ n q is. keeps q (told.closed n q is);
    spare = λ n. spares n told.spare;
  }
    where
      taken : (q : ℕ) (s : Session S) → get old q ≡ Some s → q ≢ place
      taken q s is same = no_value (sym free ∙ (ap (get old) (sym same) ∙ is))
        where
          no_value : None ≡ Some s → ⊥
          no_value e = absurd (cc)

      all : (k : ℕ) (at : Option ℕ) (links : Option Links) → TellsPlace tells old k at links → TellsPlace tells new k at links
      all k None links t = t
      all k (Some q) links (s, is, number, open_is, t) = (s, updates.others q (taken q s is) ∙ is, number, open_is, t)

      lists : (q : ℕ) (s : Session S) → s.is_open ≡ true → get new q ≡ Some s → (q ≡ place) ⊎ (q ≢ place) → place_of entries s.number ≡ Some q
      lists q s open_is is (inl same) =
          absurd (true≢false (sym open_is ∙ (ap (λ (x : Session S). x.is_open) (some_same (get new q) s b is (ap (get new) same ∙ updates.changed)) ∙ shut)))
      lists q s open_is is (inr off) = told.listed q s (sym (updates.others q off) ∙ is) open_is

      keeps : (q : ℕ) → IsClosedAt old q → IsClosedAt new q
      keeps q (s, is, s_shut) = (s, updates.others q (taken q s is) ∙ is, s_shut)

  -- ---- as the functions of the table ask

  -- the ports of a session are the same, in as many queues, and all that it tells
  pub same_ports : (a b : Session S) → b.ports ≡ a.ports → (a.is_queued ≡ true → b.is_queued ≡ true) → (a.is_written ≡ true → b.is_written ≡ true) → Stays (SessionTells tells a) (SessionTells tells b)
  same_ports a b is queued noted links told = record {
    ports = subst (λ (v : Vec (Port S)). PortsTell tells v.items links) (sym is) told.ports;
    awaited = λ p w. queued (told.awaited p (subst (λ (v : Vec (Port S)). IsAwaited (slice_get v.items p) (links p)) is w));
    unsent = λ p u. by (told.unsent p (subst (λ (v : Vec (Port S)). IsUnsentAt (slice_get v.items p)) is u));
  }
    where
      by : (a.is_queued ≡ true) ⊎ (a.is_written ≡ true) → (b.is_queued ≡ true) ⊎ (b.is_written ≡ true)
      by (inl e) = inl (queued e)
      by (inr e) = inr (noted e)

  -- a session that is sent
  pub unsent_from : (a b : Session S) → b.ports ≡ a.ports → b.is_queued ≡ a.is_queued → Stays (SessionTells tells a) (TellsUnsent tells b)
  unsent_from a b is queued links told =
      (subst (λ (v : Vec (Port S)). PortsTell tells v.items links) (sym is) told.ports, λ p w. queued ∙ told.awaited p (subst (λ (v : Vec (Port S)). IsAwaited (slice_get v.items p) (links p)) is w))

  -- a port of which nothing was asked since
  port_named : (port : Port S) (link : Link) → PortTells tells port link → PortTells tells port (unasked link)
  port_named port link told = by port.stream told
    where
      no_got : None ≡ Some got.Failed → ⊥
      no_got e = absurd (cc)

      no_put : None ≡ Some put.Failed → ⊥
      no_put e = absurd (cc)

      by : (o : Option S) → PortTellsBy tells o port link → PortTellsBy tells o port (unasked link)
      by None untouched = record { received = untouched.received; sent = untouched.sent; ended = untouched.ended; incoming = untouched.incoming; outgoing = untouched.outgoing }
      by (Some s) (wire, says, joins) = (
        wire,
        says,
        record {
          received = joins.received;
          sent = joins.sent;
          ended = joins.ended;
          over = joins.over;
          unread = joins.unread;
          unsent = joins.unsent;
          failed_read = λ e. absurd (no_got e);
          failed_write = λ e. absurd (no_put e);
          idle = joins.idle;
          blocked = joins.blocked;
          begun = joins.begun;
          shut = joins.shut;
        },
      )

  -- a session that is named, where nothing of it waits to be sent or it is to be sent
  pub session_named : (a b : Session S) → b.ports ≡ a.ports → ((p : ℕ) → IsUnsentAt (slice_get a.ports.items p) → (b.is_queued ≡ true) ⊎ (b.is_written ≡ true)) → (links : Links) → SessionTells tells a links → SessionTells tells b (named_links links)
  session_named a b is unsent links told = record {
    ports = subst (λ (v : Vec (Port S)). PortsTell tells v.items (named_links links)) (sym is) (λ p. by (slice_get a.ports.items p) (links p) (told.ports p));
    awaited = λ p w. absurd (none_awaited (slice_get b.ports.items p) (unasked (links p)) refl refl w);
    unsent = λ p u. unsent p (subst (λ (v : Vec (Port S)). IsUnsentAt (slice_get v.items p)) is u);
  }
    where
      by : (o : Option (Port S)) (link : Link) → TellsAt tells o link → TellsAt tells o (unasked link)
      by None link told = told
      by (Some port) link told = port_named port link told

  pub same_still : (a b : Session S) → IsStill a b → IsSame a b
  same_still a b still = record { number = still.number; is_open = still.is_open }

  pub then_is : (a b c : Session S) → IsSame a b → IsSame b c → IsSame a c
  then_is a b c first second = record { number = second.number ∙ first.number; is_open = second.is_open ∙ first.is_open }

  -- what stands at a closed place is not open
  pub shut_at : (slab : Slab (Session S)) (place : ℕ) (a : Session S) → get slab place ≡ Some a → IsClosedAt slab place → a.is_open ≡ false
  shut_at slab place a was (s, is, shut) = ap (λ (x : Session S). x.is_open) (some_same (get slab place) a s was is) ∙ shut

  pub moved_at : (slab : Slab (Session S)) (entries : List Entry) (closed : List ℕ) (spare : List (Vec (Port S))) (place : ℕ) (a b : Session S) → get slab place ≡ Some a → IsSame a b → IsClosedAt slab place → Stays (Tells tells slab entries closed spare) (Tells tells (with_value slab place b) entries closed spare)
  moved_at slab entries closed spare place a b was same is = shut_moved slab (with_value slab place b) entries closed spare place a b was (shut_at slab place a was is) (written slab place a b was) same

  pub idle_closed : (slab : Slab (Session S)) (place : ℕ) → IsIdleAt slab place → IsClosedAt slab place
  idle_closed slab place (s, is, shut, idle) = (s, is, shut)

  pub idle_at : (slab : Slab (Session S)) (place : ℕ) (a : Session S) → get slab place ≡ Some a → IsIdleAt slab place → (a.is_open ≡ false) × (a.is_queued ≡ false)
  idle_at slab place a was (s, is, shut, idle) =
      let same = some_same (get slab place) a s was is in (ap (λ (x : Session S). x.is_open) same ∙ shut, ap (λ (x : Session S). x.is_queued) same ∙ idle)

  pub still_idle : (slab : Slab (Session S)) (place : ℕ) (a b : Session S) → get slab place ≡ Some a → IsStill a b → IsIdleAt slab place → IsIdleAt (with_value slab place b) place
  still_idle slab place a b was still idle =
      let at = idle_at slab place a was idle in (b, (written slab place a b was).changed, still.is_open ∙ at.0, still.queued ∙ at.1)

  pub still_closed : (slab : Slab (Session S)) (place : ℕ) (a b : Session S) → get slab place ≡ Some a → IsSame a b → IsClosedAt slab place → IsClosedAt (with_value slab place b) place
  still_closed slab place a b was same is = (b, (written slab place a b was).changed, same.is_open ∙ shut_at slab place a was is)

  -- session k is open, so it is found
  pub not_lost : (slab : Slab (Session S)) (entries : List Entry) (closed : List ℕ) (spare : List (Vec (Port S))) (world : World) (k : ℕ) → Tells tells slab entries closed spare world → IsSome (world k) → place_of entries k ≡ None → ⊥
  not_lost slab entries closed spare world k told some none =
      let opened = is_told (world k) some in
      absurd (no_place (found slab entries closed spare world k opened.0 told opened.1).0 (sym none ∙ (found slab entries closed spare world k opened.0 told opened.1).2))
    where
      no_place : (q : ℕ) → None ≡ Some q → ⊥
      no_place q e = absurd (cc)

  pub not_empty : (slab : Slab (Session S)) (entries : List Entry) (closed : List ℕ) (spare : List (Vec (Port S))) (world : World) (k place : ℕ) → Tells tells slab entries closed spare world → IsSome (world k) → place_of entries k ≡ Some place → get slab place ≡ None → ⊥
  not_empty slab entries closed spare world k place told some at none =
      let opened = is_told (world k) some in
      let there = found slab entries closed spare world k opened.0 told opened.1 in
      absurd (no_session there.1 (sym none ∙ (ap (get slab) (some_same (place_of entries k) place there.0 at there.2) ∙ there.3)))
    where
      no_session : (s : Session S) → None ≡ Some s → ⊥
      no_session s e = absurd (cc)

  pub at_open : (slab : Slab (Session S)) (entries : List Entry) (closed : List ℕ) (spare : List (Vec (Port S))) (k port place : ℕ) (a b : Session S) (Step : Link → Link → Type 0) → ((world : World) → Tells tells slab entries closed spare world → place_of entries k ≡ Some place) → get slab place ≡ Some a → IsSame a b → Moves (SessionTells tells a) (SessionTells tells b) (AtPort port Step) → MovesAt k (Tells tells slab entries closed spare) (Tells tells (with_value slab place b) entries closed spare) (AtSession k port Step)
  at_open slab entries closed spare k port place a b Step at was same moves world told some =
      at_session slab (with_value slab place b) entries closed spare k port place a b Step (at world told) was (written slab place a b was) same moves world told some

  pub then_stays : (k : ℕ) (x y z : World → Type 0) (Step : World → World → Type 0) → MovesAt k x y Step → Stays y z → MovesAt k x z Step
  then_stays k x y z Step moves stays world told some = let moved = moves world told some in (moved.0, stays moved.0 moved.1, moved.2)

  -- one list more of ports over which nothing went
  pub spare_pushed : (spare spare' : List (Vec (Port S))) (ports : Vec (Port S)) → spare' ≡ spare ++ ports ∷ [] → PortsTell tells ports.items new_links → (n : ℕ) → ((m : ℕ) → SpareTells tells (slice_get spare m)) → SpareTells tells (slice_get spare' n)
  spare_pushed spare spare' ports is new n all = subst (λ (xs : List (Vec (Port S))). SpareTells tells (slice_get xs n)) (sym is) (by (pushed_cases spare ports n))
    where
      by : (slice_get (spare ++ ports ∷ []) n ≡ slice_get spare n) ⊎ (slice_get (spare ++ ports ∷ []) n ≡ Some ports) → SpareTells tells (slice_get (spare ++ ports ∷ []) n)
      by (inl e) = subst (λ (o : Option (Vec (Port S))). SpareTells tells o) (sym e) (all n)
      by (inr e) = subst (λ (o : Option (Vec (Port S))). SpareTells tells o) (sym e) new

  -- and one fewer
  pub spare_popped : (spare rest : List (Vec (Port S))) (ports : Vec (Port S)) → spare ≡ rest ++ ports ∷ [] → ((m : ℕ) → SpareTells tells (slice_get spare m)) → ((n : ℕ) → SpareTells tells (slice_get rest n)) × PortsTell tells ports.items new_links
  spare_popped spare rest ports is all = ((λ n. by n (slice_get rest n) refl (now n)), subst (λ (o : Option (Vec (Port S))). SpareTells tells o) (get_last rest ports) (now (length rest)))
    where
      now : (m : ℕ) → SpareTells tells (slice_get (rest ++ ports ∷ []) m)
      now m = subst (λ (xs : List (Vec (Port S))). SpareTells tells (slice_get xs m)) is (all m)

      by : (n : ℕ) (o : Option (Vec (Port S))) → slice_get rest n ≡ o → SpareTells tells (slice_get (rest ++ ports ∷ []) n) → SpareTells tells (slice_get rest n)
      by n None e t = subst (λ (o : Option (Vec (Port S))). SpareTells tells o) (sym e) tt
      by n (Some x) e t = subst (λ (o : Option (Vec (Port S))). SpareTells tells o) (get_front rest ports n x e ∙ sym e) t

  -- the spare ports are fewer
  pub fewer : (slab : Slab (Session S)) (entries : List Entry) (closed : List ℕ) (spare rest : List (Vec (Port S))) (ports : Vec (Port S)) → spare ≡ rest ++ ports ∷ [] → Stays (Tells tells slab entries closed spare) (Tells tells slab entries closed rest)
  fewer slab entries closed spare rest ports is world told = record {
    told = told.told;
    rising = told.rising;
    listed = told.listed;
    closed = told.closed;
    spare = (spare_popped spare rest ports is told.spare).0;
  }

  pub as_many : (slab : Slab (Session S)) (entries : List Entry) (closed : List ℕ) (spare rest : List (Vec (Port S))) → spare ≡ rest ++ [] → Stays (Tells tells slab entries closed spare) (Tells tells slab entries closed rest)
  as_many slab entries closed spare rest is world told = subst (λ (xs : List (Vec (Port S))). Tells tells slab entries closed xs world) (is ∙ append-nil rest) told

  pub freed : (slab slab' : Slab (Session S)) (entries : List Entry) (closed closed' : List ℕ) (spare spare' : List (Vec (Port S))) (place : ℕ) (a : Session S) → get slab place ≡ Some a → Updates slab slab' place None → closed' ≡ filter (λ other. not (other == place)) closed
      → ((n : ℕ) → ((m : ℕ) → SpareTells tells (slice_get spare m)) → SpareTells tells (slice_get spare' n))
      → IsIdleAt slab place → Stays (Tells tells slab entries closed spare) (Tells tells slab' entries closed' spare')
  freed slab slab' entries closed closed' spare spare' place a was updates is spares shut =
      released slab slab' entries closed closed' spare spare' place a was (shut_at slab place a was (idle_closed slab place shut)) updates
      (λ n q at. filtered place closed n q (subst (λ (xs : List ℕ). slice_get xs n ≡ Some q) is at)) spares

  pub nothing_freed : (slab slab' : Slab (Session S)) (entries : List Entry) (closed closed' : List ℕ) (spare : List (Vec (Port S))) (place : ℕ) → get slab place ≡ None → IsIdleAt slab place → ⊥
  nothing_freed slab slab' entries closed closed' spare place none (s, is, shut, idle) = absurd (no_session s (sym none ∙ is))
    where
      no_session : (s : Session S) → None ≡ Some s → ⊥
      no_session s e = absurd (cc)

  -- a session was prepared where none stood
  pub prepared : (table : Table S) (place k : ℕ) (b : Session S) (old : Slab (Session S)) (entries : List Entry) (spare : List (Vec (Port S))) (world : World) → get old place ≡ None → Tells tells old entries table.closed.items spare world → get table.sessions place ≡ Some b → b.number ≡ k → IsNew tells b → IsPrepared tells table place k
  prepared table place k b old entries spare world free told is number new = record {
    session = b;
    stands = is;
    number = number;
    shut = new.0;
    quiet = new.2;
    links = new.1;
    new = λ n at. let held = told.closed n place at in no_session held.0 (sym free ∙ held.1);
  }
    where
      no_session : (s : Session S) → None ≡ Some s → ⊥
      no_session s e = absurd (cc)

  pub attached : (a b : Table S) (place k : ℕ) (x y : Session S) → get a.sessions place ≡ Some x → b.sessions ≡ with_value a.sessions place y → b.closed ≡ a.closed → IsStill x y → (SessionTells tells x new_links → SessionTells tells y new_links) → IsPrepared tells a place k → IsPrepared tells b place k
  attached a b place k x y was now same_closed same begins ready =
      let x_is : ready.session ≡ x = some_same (get a.sessions place) ready.session x ready.stands was in record {
        session = y;
        stands = ap (λ (l : Slab (Session S)). get l place) now ∙ (written a.sessions place x y was).changed;
        number = same.number ∙ (ap (λ (s : Session S). s.number) (sym x_is) ∙ ready.number);
        shut = same.is_open ∙ (ap (λ (s : Session S). s.is_open) (sym x_is) ∙ ready.shut);
        quiet = same.queued ∙ (ap (λ (s : Session S). s.is_queued) (sym x_is) ∙ ready.quiet);
        links = begins (subst (λ (s : Session S). SessionTells tells s new_links) x_is ready.links);
        new = λ n at. ready.new n (subst (λ (v : Vec ℕ). slice_get v.items n ≡ Some place) same_closed at);
      }

  pub announces : (table : Table S) (k place : ℕ) (a b : Session S) (entries : List Entry) (world : World) → get table.sessions place ≡ Some a → b ≡ record a { is_open = true } → entries ≡ table.entries.items ++ (record { number = k; place = place }) ∷ [] → IsPrepared tells table place k → Tells tells table.sessions table.entries.items table.closed.items table.spare.items world → ((j : ℕ) → IsSome (world j) → j < k)
      → (world' : World) × Tells tells (with_value table.sessions place b) entries table.closed.items table.spare.items world' × Opens k world world'
  announces table k place a b entries world was b_is entries_is ready told above =
      let a_is : ready.session ≡ a = some_same (get table.sessions place) ready.session a ready.stands was in
      let done = announced table.sessions (with_value table.sessions place b) table.entries.items table.closed.items table.spare.items k place a b (record { number = k; place = place }) world was
      (ap (λ (s : Session S). s.number) (sym a_is) ∙ ready.number) (ap (λ (s : Session S). s.is_open) (sym a_is) ∙ ready.shut) (subst (λ (s : Session S). SessionTells tells s new_links) a_is ready.links) ready.new
      (written table.sessions place a b was) b_is refl above told in
      (done.0, subst (λ (es : List Entry). Tells tells (with_value table.sessions place b) es table.closed.items table.spare.items done.0) (sym entries_is) done.1, done.2)

  -- the entry at a place is of a session
  pub entry_holds : (slab : Slab (Session S)) (entries : List Entry) (closed : List ℕ) (spare : List (Vec (Port S))) (at : ℕ) (e : Entry) (world : World) → Tells tells slab entries closed spare world → slice_get entries at ≡ Some e → get slab e.place ≡ None → ⊥
  entry_holds slab entries closed spare at e world told is none =
      holds (world e.number) (subst (λ (o : Option ℕ). TellsPlace tells slab e.number o (world e.number)) (place_at 0 entries at e told.rising is).1 (told.told e.number))
    where
      holds : (o : Option Links) → TellsPlace tells slab e.number (Some e.place) o → ⊥
      holds o (s, stands, number, open_is, t) = absurd (no_session s (sym none ∙ stands))
        where
          no_session : (s : Session S) → None ≡ Some s → ⊥
          no_session s e = absurd (cc)

  pub shuts_entry : (slab : Slab (Session S)) (entries entries' : List Entry) (closed closed' : List ℕ) (spare : List (Vec (Port S))) (at : ℕ) (e r : Entry) (a b : Session S) (world : World)
      → slice_get entries at ≡ Some e → slice_get entries at ≡ Some r → get slab r.place ≡ Some a → b ≡ record a { is_open = false } → entries' ≡ take at entries ++ drop (at + 1) entries
      → ((n q : ℕ) → slice_get closed' n ≡ Some q → (slice_get closed n ≡ Some q) ⊎ (q ≡ r.place))
      → Tells tells slab entries closed spare world
      → (world' : World) × Tells tells (with_value slab r.place b) entries' closed' spare world' × Shuts e.number world world'
  shuts_entry slab entries entries' closed closed' spare at e r a b world is_e is_r was b_is cut from told =
      let same : r ≡ e = some_same (slice_get entries at) r e is_r is_e in
      let long : at + 1 ≡ suc at = omega arith in
      let done = closes slab (with_value slab r.place b) entries closed closed' spare at r a b world is_r was (written slab r.place a b was) b_is from told in (
        done.0,
        subst (λ (es : List Entry). Tells tells (with_value slab r.place b) es closed' spare done.0) (sym (cut ∙ ap (λ n. take at entries ++ drop n entries) long)) done.1,
        subst (λ (x : Entry). Shuts x.number world done.0) same done.2,
      )

  pub inserted : (old new : Slab (Session S)) (entries : List Entry) (closed : List ℕ) (spare : List (Vec (Port S))) (place : ℕ) (b : Session S) → get old place ≡ None → Updates old new place (Some b) → b.is_open ≡ false → Stays (Tells tells old entries closed spare) (Tells tells new entries closed spare)
  inserted old new entries closed spare place b free updates shut = begun old new entries closed spare spare place b free updates shut (λ n all. all n)

  same_slab : (old new : Slab (Session S)) (key : ℕ) → new ≡ record old { capacity = new.capacity } → get old key ≡ get new key
  same_slab old new key is = ap (λ (s : Slab (Session S)). get s key) (sym is)

  pub not_inserted : (old new : Slab (Session S)) (entries : List Entry) (closed : List ℕ) (spare : List (Vec (Port S))) → new ≡ record old { capacity = new.capacity } → Stays (Tells tells old entries closed spare) (Tells tells new entries closed spare)
  not_inserted old new entries closed spare is world told =
      subst (λ (s : Slab (Session S)). Tells tells s entries closed spare world) (sym is) (record {
        told = told.told;
        rising = told.rising;
        listed = told.listed;
        closed = told.closed;
        spare = told.spare;
      })

  -- what an insertion leaves, by its answer: there was room
  pub insert_keeps : (table : Table S) (new : Slab (Session S)) (b : Session S) {E : Type 0} (r : Result ℕ E) → IfOk r (λ key. get table.sessions key ≡ None) → IfOk r (λ key. Updates table.sessions new key (Some b)) → OnOk r (slab_len new ≡ slab_len table.sessions + 1) → IfOk r (λ key. key < new.capacity)
      → (HasRoomFor table.sessions 1 → IsOk r) → (HasRoomFor table.sessions 1 → new.capacity ≡ table.sessions.capacity) → IsNew tells b → Stays (HasVacancy tells table) (TableTells tells (record table { sessions = new }))
  insert_keeps table new b {E} r free updates len within succeeds room fresh world vacant = by r free updates len within (succeeds has)
    where
      has : HasRoomFor table.sessions 1
      has = omega (arith, vacant.1)

      by : (r : Result ℕ E) → IfOk r (λ key. get table.sessions key ≡ None) → IfOk r (λ key. Updates table.sessions new key (Some b)) → OnOk r (slab_len new ≡ slab_len table.sessions + 1) → IfOk r (λ key. key < new.capacity) → IsOk r → TableTells tells (record table { sessions = new }) world
      by (Ok key) free updates len within ok = (
        inserted table.sessions new table.entries.items table.closed.items table.spare.items key b free updates fresh.0 world vacant.0.0,
        record {
          stands = subst (λ n. Stands new (table.ready.places.items ++ table.behind.places.items) table.written.places.items n) (sym (room has))
              (stands_begun table.sessions new key b (table.ready.places.items ++ table.behind.places.items) table.written.places.items table.sessions.capacity free updates fresh.2 fresh.3 (omega (arith, within, room has)) vacant.0.1.stands);
          ready_room = omega (arith, vacant.0.1.ready_room, room has);
          behind_room = omega (arith, vacant.0.1.behind_room, room has);
          fits = omega (arith, vacant.1, len, room has);
        },
      )
      by (Err e) free updates len within ok = absurd (cc)

  pub insert_prepares : (table : Table S) (old : Slab (Session S)) (b : Session S) {E : Type 0} (r : Result ℕ E) (o : Option ℕ) (world : World) → o ≡ result_ok r → IfOk r (λ key. get old key ≡ None) → IfOk r (λ key. Updates old table.sessions key (Some b)) → IsNew tells b → Tells tells old table.entries.items table.closed.items table.spare.items world → IfSome o (λ place. IsPrepared tells table place b.number)
  insert_prepares table old b r o world is free updates new told = subst (λ (x : Option ℕ). IfSome x (λ place. IsPrepared tells table place b.number)) (sym is) (by r free updates)
    where
      by : {E : Type 0} (r : Result ℕ E) → IfOk r (λ key. get old key ≡ None) → IfOk r (λ key. Updates old table.sessions key (Some b)) → IfSome (result_ok r) (λ place. IsPrepared tells table place b.number)
      by (Ok key) free updates = prepared table key b.number b old table.entries.items table.spare.items world free told updates.changed refl new
      by (Err e) free updates = tt

  -- a free place is given up
  pub freed_queues : (slab slab' : Slab (Session S)) (table : Table S) (place spare : ℕ) → slab ≡ table.sessions → Updates slab slab' place None → slab_len slab' + 1 ≡ slab_len slab → slab'.capacity ≡ slab.capacity → spare ≤ length table.spare.items + 1 → IsIdleAt slab place → TableStands table → QueuesStand slab' table.ready table.behind table.written spare
  freed_queues slab slab' table place spare is updates len room most idle stand =
      let stood : QueuesStand slab table.ready table.behind table.written (length table.spare.items) = subst (λ x. QueuesStand x table.ready table.behind table.written (length table.spare.items)) (sym is) stand in record {
        stands = subst (λ n. Stands slab' (table.ready.places.items ++ table.behind.places.items) table.written.places.items n) (sym room)
            (stands_freed slab slab' place (table.ready.places.items ++ table.behind.places.items) table.written.places.items slab.capacity updates idle stood.stands);
        ready_room = omega (arith, stood.ready_room, room);
        behind_room = omega (arith, stood.behind_room, room);
        fits = omega (arith, stood.fits, len, room, most);
      }

  -- ---- a session has its turn

  -- the links of the open session at this place are others
  pub named_at : (slab : Slab (Session S)) (entries : List Entry) (closed : List ℕ) (spare : List (Vec (Port S))) (place : ℕ) (a b : Session S) (world : World) → get slab place ≡ Some a → a.is_open ≡ true → IsSame a b → ((links : Links) → SessionTells tells a links → SessionTells tells b (named_links links)) → Tells tells slab entries closed spare world
      → (world' : World) × Tells tells (with_value slab place b) entries closed spare world' × Names a.number world world'
  named_at slab entries closed spare place a b world was open_is same moves told = by (world a.number) refl (subst (λ (o : Option ℕ). TellsPlace tells slab a.number o (world a.number)) here (told.told a.number))
    where
      updates : Updates slab (with_value slab place b) place (Some b)
      updates = written slab place a b was

      here : place_of entries a.number ≡ Some place
      here = told.listed place a was open_is

      all : (j : ℕ) (d : (j ≡ a.number) ⊎ (j ≢ a.number)) (links : Links) → SessionTells tells b links → TellsPlace tells (with_value slab place b) j (place_of entries j) (swap d (Some links) (world j))
      all j (inl e) links now =
          subst (λ (o : Option ℕ). TellsPlace tells (with_value slab place b) j o (Some links)) (sym (ap (place_of entries) e ∙ here))
          (b, updates.changed, same.number ∙ sym e, same.is_open ∙ open_is, now)
      all j (inr off) links now = others_stay slab (with_value slab place b) place a (Some b) j (place_of entries j) (world j) was updates (λ e. off (sym e)) (told.told j)

      by : (o : Option Links) → world a.number ≡ o → TellsPlace tells slab a.number (Some place) o → (world' : World) × Tells tells (with_value slab place b) entries closed spare world' × Names a.number world world'
      by None is t = absurd t.4
      by (Some links) is (s, stands, number, open_s, t) =
          let s_is : s ≡ a = some_same (get slab place) s a stands was in
          let now = moves links (subst (λ (x : Session S). SessionTells tells x links) s_is t) in (
            (λ j. swap (decide j a.number) (Some (named_links links)) (world j)),
            record {
              told = λ j. all j (decide j a.number) (named_links links) now;
              rising = told.rising;
              listed = listed_stays slab (with_value slab place b) entries place a b was updates same told.listed;
              closed = λ n q at. closed_stays slab (with_value slab place b) place a b q was updates same.is_open (told.closed n q at);
              spare = told.spare;
            },
            record {
              links = links;
              was = is;
              now = swap_here (decide a.number a.number) (Some (named_links links)) (world a.number);
              others = λ j off. swap_other (decide j a.number) (Some (named_links links)) (world j) off;
            },
          )
