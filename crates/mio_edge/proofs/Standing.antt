-- What a table tells, and how its queues stand, once one of its sessions has stood in one of them.
use Rattle.std.proofs.Common.{◌≡◌, ℕ, zero, suc, ◌≤◌, ◌==◌, List, [], ◌∷◌, ◌++◌, length, get_or, set, is_some, count_by, Bool, true, false, true≢false, append_assoc, Option, None, Some, not, inl, refl, sym, ap, ◌∙◌, subst, arith}
use Rattle.std.specs.List.{slice_get}
use Rattle.std.specs.Global.{Vec}
use Rattle.slab.specs.Slab.{Slab, get, with_value}
use Rattle.mio_edge.specs.Wire.{Wire, Stays}
use Rattle.std.specs.VecDeque.{deque_capacity}
use Rattle.mio_edge.specs.Moving.{noted, is_news}
use Rattle.mio_edge.specs.Sessions.{SessionTells, IsSame, IsStill, PortsTell}
use Rattle.mio_edge.specs.Turns.{Has, HasRoom, Pushes, IsIdleAt, Stands, QueuesStand}
use Rattle.mio_edge.specs.declared.queue.Queue.{Queue}
use Rattle.mio_edge.specs.Tables.{SpareTells, IsClosedAt, Tells, TableTells, HasNoted}
use Rattle.mio_edge.specs.declared.network.Readiness.{Readiness}
use Rattle.mio_edge.specs.declared.port.Port.{Port}
use Rattle.mio_edge.specs.declared.session.Session.{Session}
use Rattle.mio_edge.specs.declared.table.Table.{Table}
use Rattle.mio_edge.specs.declared.table.Entry.{Entry}
use Rattle.mio_edge.proofs.Sessions.{session_queued}
use Rattle.mio_edge.proofs.Turns.{queues_still, queues_ready, queues_behind, queues_written, ready_room, behind_room, put}
use Rattle.mio_edge.proofs.Entries.{some_same}
use Rattle.mio_edge.proofs.Tables.{kept_at, same_ports, same_still, shut_at, moved_at}

module _ {S : Type 0} (tells : S → Wire → Type 0) where
  -- ---- as the functions of the table ask, with its queues

  pub still_kept : (table : Table S) (place : ℕ) (a b : Session S) → get table.sessions place ≡ Some a → IsStill a b → Stays (SessionTells tells a) (SessionTells tells b) → Stays (TableTells tells table) (TableTells tells (record table { sessions = with_value table.sessions place b }))
  still_kept table place a b was still stays world told = (
    kept_at tells table.sessions table.entries.items table.closed.items table.spare.items place a b was (same_still tells a b still) stays world told.0,
    queues_still table.sessions table.ready table.behind table.written (length table.spare.items) place a b was still.queued still.written told.1,
  )

  pub closed_moved : (table : Table S) (place : ℕ) (a b : Session S) → get table.sessions place ≡ Some a → IsStill a b → IsClosedAt table.sessions place → Stays (TableTells tells table) (TableTells tells (record table { sessions = with_value table.sessions place b }))
  closed_moved table place a b was still shut world told = (
    moved_at tells table.sessions table.entries.items table.closed.items table.spare.items place a b was (same_still tells a b still) shut world told.0,
    queues_still table.sessions table.ready table.behind table.written (length table.spare.items) place a b was still.queued still.written told.1,
  )

  -- a session has stood in a queue, and may be another one in the same queues by now
  pub record Stood (slab : Slab (Session S)) (ready behind sent : Queue) (spare place : ℕ) (a b : Session S) : Type 0 where
    pub queued : b.is_queued ≡ true
    pub keeps : Stays (SessionTells tells a) (SessionTells tells b)
    pub stands : (c : Session S) → c.is_queued ≡ b.is_queued → c.is_written ≡ a.is_written → QueuesStand (with_value slab place c) ready behind sent spare

  stood_tells : (a b : Session S) → b ≡ record a { is_queued = b.is_queued } → b.is_queued ≡ true → Stays (SessionTells tells a) (SessionTells tells b)
  stood_tells a b rest queued links told = session_queued tells b links (subst (λ (v : Vec (Port S)). PortsTell tells v.items links) (sym (ap (λ (x : Session S). x.ports) rest)) told.ports) queued

  pub stood_behind : (slab : Slab (Session S)) (ready behind behind' sent : Queue) (spare place : ℕ) (a b : Session S) → get slab place ≡ Some a → (a.is_queued ≡ true → (b ≡ a) × (behind' ≡ behind)) → (a.is_queued ≡ false → HasRoom behind → (b.is_queued ≡ true) × Pushes place behind behind') → b ≡ record a { is_queued = b.is_queued }
      → QueuesStand slab ready behind sent spare → Stood slab ready behind' sent spare place a b
  stood_behind slab ready behind behind' sent spare place a b was stood stands rest queues = by a.is_queued refl
    where
      by : (t : Bool) → a.is_queued ≡ t → Stood slab ready behind' sent spare place a b
      by true is =
          let same = stood is in
          let queued : b.is_queued ≡ true = ap (λ (x : Session S). x.is_queued) same.0 ∙ is in record {
            queued = queued;
            keeps = stood_tells a b rest queued;
            stands = λ c to noted. subst (λ (q : Queue). QueuesStand (with_value slab place c) ready q sent spare) (sym same.1) (queues_still slab ready behind sent spare place a c was (to ∙ ap (λ (x : Session S). x.is_queued) same.0) noted queues);
          }
      by false is =
          let now = stands is (behind_room slab ready behind sent spare place a queues was is) in record {
            queued = now.0;
            keeps = stood_tells a b rest now.0;
            stands = λ c to noted. queues_behind slab ready behind behind' sent spare place a c was is (to ∙ now.0) noted now.1 queues;
          }

  pub stood_ready : (slab : Slab (Session S)) (ready ready' behind sent : Queue) (spare place : ℕ) (a b : Session S) → get slab place ≡ Some a → (a.is_queued ≡ true → (b ≡ a) × (ready' ≡ ready)) → (a.is_queued ≡ false → HasRoom ready → (b.is_queued ≡ true) × Pushes place ready ready') → b ≡ record a { is_queued = b.is_queued }
      → QueuesStand slab ready behind sent spare → Stood slab ready' behind sent spare place a b
  stood_ready slab ready ready' behind sent spare place a b was stood stands rest queues = by a.is_queued refl
    where
      by : (t : Bool) → a.is_queued ≡ t → Stood slab ready' behind sent spare place a b
      by true is =
          let same = stood is in
          let queued : b.is_queued ≡ true = ap (λ (x : Session S). x.is_queued) same.0 ∙ is in record {
            queued = queued;
            keeps = stood_tells a b rest queued;
            stands = λ c to noted. subst (λ (q : Queue). QueuesStand (with_value slab place c) q behind sent spare) (sym same.1) (queues_still slab ready behind sent spare place a c was (to ∙ ap (λ (x : Session S). x.is_queued) same.0) noted queues);
          }
      by false is =
          let now = stands is (ready_room slab ready behind sent spare place a queues was is) in record {
            queued = now.0;
            keeps = stood_tells a b rest now.0;
            stands = λ c to noted. queues_ready slab ready ready' behind sent spare place a c was is (to ∙ now.0) noted now.1 queues;
          }

  pub rest_same : (a b : Session S) → b ≡ record a { is_queued = b.is_queued } → IsSame a b
  rest_same a b rest = record { number = ap (λ (x : Session S). x.number) rest; is_open = ap (λ (x : Session S). x.is_open) rest }

  pub rest_written : (a b : Session S) → b ≡ record a { is_queued = b.is_queued } → b.is_written ≡ a.is_written
  rest_written a b rest = ap (λ (x : Session S). x.is_written) rest

  -- the queue behind comes back
  pub recalled : (slab : Slab (Session S)) (ready ready' behind behind' sent : Queue) (spare place : ℕ) → behind.places.items ≡ place ∷ behind'.places.items → Pushes place ready ready' → deque_capacity behind'.places ≡ deque_capacity behind.places → QueuesStand slab ready behind sent spare
      → QueuesStand slab ready' behind' sent spare × (ready'.places.items ++ behind'.places.items ≡ ready.places.items ++ behind.places.items)
  recalled slab ready ready' behind behind' sent spare place is pushes room queues = (
    record {
      stands = subst (λ xs. Stands slab xs sent.places.items slab.capacity) (sym same) queues.stands;
      ready_room = omega (arith, queues.ready_room, pushes.room);
      behind_room = omega (arith, queues.behind_room, room);
      fits = queues.fits;
    },
    same,
  )
    where
      same : ready'.places.items ++ behind'.places.items ≡ ready.places.items ++ behind.places.items
      same = ap (λ xs. xs ++ behind'.places.items) pushes.items ∙ (append_assoc ready.places.items (place ∷ []) behind'.places.items ∙ ap (λ xs. ready.places.items ++ xs) (sym is))

  pub fewer_spare : (slab : Slab (Session S)) (ready behind sent : Queue) (n m : ℕ) → m ≤ n → QueuesStand slab ready behind sent n → QueuesStand slab ready behind sent m
  fewer_spare slab ready behind sent n m most queues = record { stands = queues.stands; ready_room = queues.ready_room; behind_room = queues.behind_room; fits = omega (arith, queues.fits, most) }

  -- ---- a table of which no place is used

  pub no_session : (slab : Slab (Session S)) → slab.slots ≡ [] → (place : ℕ) (s : Session S) → get slab place ≡ Some s → ⊥
  no_session slab none place s is = by (sym (ap (λ (xs : List (Option (Session S))). get_or xs place None) none) ∙ is)
    where
      by : None ≡ Some s → ⊥
      by e = absurd (cc)

  pub empty_tells : (slab : Slab (Session S)) (entries : List Entry) (closed : List ℕ) (spare : List (Vec (Port S))) → slab.slots ≡ [] → entries ≡ [] → closed ≡ [] → ((n : ℕ) → SpareTells tells (slice_get spare n)) → Tells tells slab entries closed spare (λ k. None)
  empty_tells slab entries closed spare none no_entries no_closed new =
      subst (λ es. Tells tells slab es closed spare (λ k. None)) (sym no_entries) (subst (λ cs. Tells tells slab [] cs spare (λ k. None)) (sym no_closed) (record {
        told = λ k. refl;
        rising = tt;
        listed = λ place s is open_is. absurd (no_session slab none place s is);
        closed = λ n place at. absurd (cc);
        spare = new;
      }))

  pub empty_queues : (slab : Slab (Session S)) (ready behind sent : Queue) (spare : ℕ) → slab.slots ≡ [] → ready.places.items ≡ [] → behind.places.items ≡ [] → sent.places.items ≡ [] → slab.capacity ≤ deque_capacity ready.places → slab.capacity ≤ deque_capacity behind.places → spare ≤ slab.capacity → QueuesStand slab ready behind sent spare
  empty_queues slab ready behind sent spare none no_ready no_behind no_sent first second most = record {
    stands = subst (λ xs. Stands slab xs sent.places.items slab.capacity) (sym (ap (λ xs. xs ++ behind.places.items) no_ready ∙ no_behind)) (record {
      queued = λ place s is queued. absurd (no_session slab none place s is);
      marked = λ place has. absurd has;
      apart = tt;
      noted = λ place s is queued. absurd (no_session slab none place s is);
      below = λ place s is. absurd (no_session slab none place s is);
    });
    ready_room = first;
    behind_room = second;
    fits = omega (arith, most, ap (λ (xs : List (Option (Session S))). count_by is_some xs) none);
  }

  -- a session that may move bytes still
  pub unspent : (a : Session S) (spent : Bool) → spent ≡ (a.allowance == 0) → spent ≡ false → a.allowance ≡ 0 → ⊥
  unspent a spent is not none = absurd (true≢false (sym (ap (λ n. n == 0) none) ∙ (sym is ∙ not)))

  -- a session was written down to be sent, if it wasn't
  pub down_same : (a b : Session S) → b ≡ record a { is_written = b.is_written } → IsSame a b
  down_same a b rest = record { number = ap (λ (x : Session S). x.number) rest; is_open = ap (λ (x : Session S). x.is_open) rest }

  pub down_allowance : (a b : Session S) → b ≡ record a { is_written = b.is_written } → b.allowance ≡ a.allowance
  down_allowance a b rest = ap (λ (x : Session S). x.allowance) rest

  pub down_queued : (a b : Session S) → b ≡ record a { is_written = b.is_written } → b.is_queued ≡ a.is_queued
  down_queued a b rest = ap (λ (x : Session S). x.is_queued) rest

  pub down_tells : (a b : Session S) → b ≡ record a { is_written = b.is_written } → b.is_written ≡ true → Stays (SessionTells tells a) (SessionTells tells b)
  down_tells a b rest noted = same_ports tells a b (ap (λ (x : Session S). x.ports) rest) (λ e. down_queued a b rest ∙ e) (λ e. noted)

  -- it stands there, and may be another one in the same queues by now
  pub written_down : (slab : Slab (Session S)) (ready behind sent sent' : Queue) (spare place : ℕ) (a b c : Session S) → get slab place ≡ Some a → (a.is_written ≡ true → (b ≡ a) × (sent' ≡ sent)) → (a.is_written ≡ false → Pushes place sent sent') → b.is_written ≡ true → b ≡ record a { is_written = b.is_written } → c.is_queued ≡ b.is_queued → c.is_written ≡ b.is_written
      → QueuesStand slab ready behind sent spare → QueuesStand (with_value slab place c) ready behind sent' spare
  written_down slab ready behind sent sent' spare place a b c was stood pushed noted rest to stays queues = by a.is_written refl
    where
      by : (t : Bool) → a.is_written ≡ t → QueuesStand (with_value slab place c) ready behind sent' spare
      by true is =
          let same = stood is in
          subst (λ (q : Queue). QueuesStand (with_value slab place c) ready behind q spare) (sym same.1) (queues_still slab ready behind sent spare place a c was (to ∙ down_queued a b rest) (stays ∙ (noted ∙ sym is)) queues)
      by false is = queues_written slab ready behind sent sent' spare place a c was (to ∙ down_queued a b rest) (pushed is) queues

  -- one that couldn't be written down is the same
  pub not_down : (a b : Session S) (answer : Bool) → answer ≡ b.is_written → answer ≡ false → (a.is_written ≡ true → b ≡ a) → b ≡ record a { is_written = b.is_written } → b ≡ a
  not_down a b answer is not stood rest = by a.is_written refl
    where
      by : (t : Bool) → a.is_written ≡ t → b ≡ a
      by true w = stood w
      by false w = rest ∙ ap (λ t. record a { is_written = t }) (sym is ∙ (not ∙ sym w))

  pub stood_from : (slab : Slab (Session S)) (ready behind behind' sent : Queue) (spare place : ℕ) (a b c : Session S) → b ≡ a → get slab place ≡ Some a → (b.is_queued ≡ true → (c ≡ b) × (behind' ≡ behind)) → (b.is_queued ≡ false → HasRoom behind → (c.is_queued ≡ true) × Pushes place behind behind') → c ≡ record b { is_queued = c.is_queued }
      → QueuesStand slab ready behind sent spare → Stood slab ready behind' sent spare place a c
  stood_from slab ready behind behind' sent spare place a b c same was stood stands rest queues =
      stood_behind slab ready behind behind' sent spare place a c was (subst (λ (x : Session S). x.is_queued ≡ true → (c ≡ x) × (behind' ≡ behind)) same stood)
      (subst (λ (x : Session S). x.is_queued ≡ false → HasRoom behind → (c.is_queued ≡ true) × Pushes place behind behind') same stands) (subst (λ (x : Session S). c ≡ record x { is_queued = c.is_queued }) same rest) queues

  pub from_rest : (a b c : Session S) → b ≡ a → c ≡ record b { is_queued = c.is_queued } → c ≡ record a { is_queued = c.is_queued }
  from_rest a b c same rest = subst (λ (x : Session S). c ≡ record x { is_queued = c.is_queued }) same rest

  -- a closed session that is to have no turn
  pub put_idle : (slab : Slab (Session S)) (place : ℕ) (a b : Session S) → get slab place ≡ Some a → IsStill a b → IsClosedAt slab place → b.is_queued ≡ false → IsIdleAt (with_value slab place b) place
  put_idle slab place a b was still shut idle = (b, (put slab place a b was).changed, still.is_open ∙ shut_at tells slab place a was shut, idle)

  -- the first place that is to have a turn is used
  pub not_free : (slab : Slab (Session S)) (ready behind sent : Queue) (spare place : ℕ) (rest : List ℕ) → QueuesStand slab ready behind sent spare → ready.places.items ≡ place ∷ rest → get slab place ≡ None → ⊥
  not_free slab ready behind sent spare place rest queues is none =
      let at = queues.stands.marked place (subst (λ xs. Has (xs ++ behind.places.items) place) (sym is) (inl refl)) in no_value at.0 (sym none ∙ at.1)
    where
      no_value : (s : Session S) → None ≡ Some s → ⊥
      no_value s e = absurd (cc)

  set_twice : (slots : List (Option (Session S))) (place : ℕ) (a b : Option (Session S)) → set (set slots place a) place b ≡ set slots place b
  set_twice [] place a b = refl
  set_twice (x ∷ slots) zero a b = refl
  set_twice (x ∷ slots) (suc place) a b = ap (λ xs. x ∷ xs) (set_twice slots place a b)

  -- a session is put over another one at the same place, and a third one over it
  pub put_twice : (slab : Slab (Session S)) (place : ℕ) (a b : Session S) → with_value (with_value slab place a) place b ≡ with_value slab place b
  put_twice slab place a b = ap (λ xs. record slab { slots = xs }) (set_twice slab.slots place (Some a) (Some b))

  pub put_over : (slab : Slab (Session S)) (place : ℕ) (a b : Session S) → get slab place ≡ Some a → get (with_value slab place b) place ≡ Some b
  put_over slab place a b was = (put slab place a b was).changed

  -- a queue with the same places and room
  pub same_behind : (slab : Slab (Session S)) (ready behind behind' sent : Queue) (spare : ℕ) → behind'.places.items ≡ behind.places.items → deque_capacity behind'.places ≡ deque_capacity behind.places → QueuesStand slab ready behind sent spare → QueuesStand slab ready behind' sent spare
  same_behind slab ready behind behind' sent spare items room queues = record {
    stands = subst (λ xs. Stands slab (ready.places.items ++ xs) sent.places.items slab.capacity) (sym items) queues.stands;
    ready_room = queues.ready_room;
    behind_room = omega (arith, queues.behind_room, room);
    fits = queues.fits;
  }

  -- ---- what is reported at a place

  -- the session there has taken note of it
  pub notes_at : (slab : Slab (Session S)) (news : Readiness) (place port : ℕ) (a d : Session S) → get slab place ≡ Some a → ((x : Port S) → slice_get a.ports.items port ≡ Some x → slice_get d.ports.items port ≡ Some (noted news x))
      → (s : Session S) (x : Port S) → get slab place ≡ Some s → slice_get s.ports.items port ≡ Some x → HasNoted news port x (get (with_value slab place d) place)
  notes_at slab news place port a d was notes s x is at =
      subst (λ (o : Option (Session S)). HasNoted news port x o) (sym (put slab place a d was).changed) (notes x (subst (λ (y : Session S). slice_get y.ports.items port ≡ Some x) (some_same (get slab place) s a is was) at))

  pub news_at : (slab : Slab (Session S)) (news : Readiness) (place port : ℕ) (a : Session S) (answer : Bool) → get slab place ≡ Some a → ((x : Port S) → slice_get a.ports.items port ≡ Some x → answer ≡ is_news news x)
      → (s : Session S) (x : Port S) → get slab place ≡ Some s → slice_get s.ports.items port ≡ Some x → is_news news x ≡ true → answer ≡ true
  news_at slab news place port a answer was says s x is at new = says x (subst (λ (y : Session S). slice_get y.ports.items port ≡ Some x) (some_same (get slab place) s a is was) at) ∙ new
