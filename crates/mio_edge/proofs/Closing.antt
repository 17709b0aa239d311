-- What closed ports and sessions tell once they have gone on with their end.
use Rattle.std.proofs.Common.{◌≡◌, ◌≢◌, ℕ, ◌+◌, ◌<◌, ◌≤◌, ◌⊎◌, inl, inr, List, [], ◌++◌, length, get_or, set, Bool, true, false, true≢false, Option, None, Some, IsSome, IfOk, OnErr, Result, Ok, Err, refl, sym, ap, ◌∙◌, subst, arith}
use Rattle.std.specs.List.{slice_get}
use Rattle.std.specs.Result.{result_ok}
use Rattle.std.specs.Global.{Vec}
use Rattle.std.proofs.lemmas.List.{append-nil, get_or-set_same, get_or-set_other}
use Rattle.std.proofs.lemmas.Option.{slice_get_cases}
use Rattle.slab.specs.Slab.{Slab, get, Updates, with_value}
use Rattle.gate_hub.specs.Meaning.{Link}
use Rattle.mio_edge.specs.Wire.{Wire, Moves, Stays}
use Rattle.mio_edge.specs.Moving.{PortTells, PortTellsBy, IsUnsent, HasSent}
use Rattle.mio_edge.specs.Sessions.{Links, TellsAt, PortsTell, AtEach, PortsAre, IsUnsentAt}
use Rattle.mio_edge.specs.Tables.{World, place_of, TellsPlace, Tells, IsClosedAt}
use Rattle.mio_edge.specs.Closing.{IsSettled, TellsItsEnd, IsSettledAt, AreSettled, AreFlushed, HoldsFlushed, KeepsSent, KeepAllSent, WindsUp, WindsAt, WoundOn, Winds, HoldsSettled, OthersStay, WindsBeside, WindsBesideIfAny, PutsAt, winds_on}
use Rattle.mio_edge.specs.declared.port.Port.{Port}
use Rattle.mio_edge.specs.declared.port.Sending.TheVariants as sending
use Rattle.mio_edge.specs.declared.session.Session.{Session}
use Rattle.mio_edge.specs.declared.table.Entry.{Entry}
use Rattle.mio_edge.proofs.Sessions.{decide}
use Rattle.mio_edge.proofs.Entries.{some_same, place_at}
use Rattle.mio_edge.proofs.Turns.{put}

-- ---- one port

-- what was sent as far as its stream took it isn't to be sent now
pub none_unsent : {S : Type 0} (port : Port S) → HasSent port → IsUnsent port → ⊥
none_unsent {S} port (inl none) unsent = absurd (omega (arith, unsent.1, ap length none))
none_unsent {S} port (inr (inl gone)) unsent = no_stream (subst (λ (o : Option S). IsSome o) gone unsent.0)
  where
    no_stream : IsSome {T = S} None → ⊥
    no_stream some = absurd (cc)
none_unsent {S} port (inr (inr blocked)) unsent = blocked unsent.2

-- a port that has told its end holds nothing
pub still_unsent : {S : Type 0} (a b : Port S) (sent : Bool) → (sent ≡ true → b.outgoing.bytes ≡ []) → (sent ≡ false → b ≡ a) → IsUnsent b → IsUnsent a
still_unsent {S} a b true empty kept unsent = absurd (none_unsent b (inl (empty refl)) unsent)
still_unsent {S} a b false empty kept unsent = subst (λ (p : Port S). IsUnsent p) (kept refl) unsent

-- a port that has told its end, or holds bytes still
pub tells_its_end : {S : Type 0} (port : Port S) (sent : Bool) → (sent ≡ true → port.sending ≡ sending.Shut) → (sent ≡ false → port.outgoing.bytes ≢ []) → TellsItsEnd port
tells_its_end port true told holds = inr (inl (told refl))
tells_its_end port false told holds = inl (holds refl)

pub then_stays : {A : Type 0} (x y z : A → Type 0) (Step : A → A → Type 0) → Moves x y Step → Stays y z → Moves x z Step
then_stays x y z Step moves stays a told = let moved = moves a told in (moved.0, stays moved.0 moved.1, moved.2)

-- what was received and not handed out is passed over: the link has received it
pub passes_over : {S : Type 0} (tells : S → Wire → Type 0) (a b : Port S) → b ≡ record a { incoming = b.incoming; room_in = b.room_in } → b.incoming.bytes ≡ [] → Moves (PortTells tells a) (PortTells tells b) KeepsSent
passes_over {S} tells a b same none link told = (next, subst (λ (p : Port S). PortTells tells p next) (sym same) (by a.stream told), refl)
  where
    next : Link
    next = record link { received = link.received ++ a.incoming.bytes }

    all : next.received ≡ next.received ++ b.incoming.bytes
    all = sym (append-nil next.received) ∙ ap (λ xs. next.received ++ xs) (sym none)

    by : (o : Option S) → PortTellsBy tells o a link → PortTellsBy tells o (record a { incoming = b.incoming; room_in = b.room_in }) next
    by None untouched = record {
      received = ap (λ xs. xs ++ a.incoming.bytes) untouched.received ∙ untouched.incoming;
      sent = untouched.sent;
      ended = untouched.ended;
      incoming = none;
      outgoing = untouched.outgoing;
    }
    by (Some s) (wire, says, joins) = (
      wire,
      says,
      record {
        received = joins.received ∙ all;
        sent = joins.sent;
        ended = joins.ended;
        over = λ e. ((joins.over e).0, none);
        unread = joins.unread;
        unsent = joins.unsent;
        failed_read = joins.failed_read;
        failed_write = joins.failed_write;
        idle = joins.idle;
        blocked = joins.blocked;
        begun = joins.begun;
        shut = joins.shut;
      },
    )

-- ---- the ports of a session

pub each_sends : {S : Type 0} (tells : S → Wire → Type 0) (a b : List (Port S)) → PortsAre (WindsUp tells) a b → Moves (PortsTell tells a) (PortsTell tells b) KeepAllSent
each_sends {S} tells a b each links told = ((λ p. (next p).0), (λ p. (next p).1), (λ p. (next p).2))
  where
    by : (o o' : Option (Port S)) (link : Link) → AtEach (WindsUp tells) o o' → TellsAt tells o link → (l : Link) × TellsAt tells o' l × KeepsSent link l
    by None None link e t = (link, t, refl)
    by None (Some y) link e t = absurd e
    by (Some x) None link e t = absurd e
    by (Some x) (Some y) link e t = e.sends link t

    next : (p : ℕ) → (l : Link) × TellsAt tells (slice_get b p) l × KeepsSent (links p) l
    next p = by (slice_get a p) (slice_get b p) (links p) (each p) (told p)

-- so many of the first ports hold nothing that a stream takes
abbrev pub FirstSettled : {S : Type 0} → ℕ → List (Port S) → Type 0
FirstSettled {S} n ports = (p : ℕ) (d : Port S) → p < n → IsSettled (get_or ports p d)

pub settled_step : {S : Type 0} (n : ℕ) (ports : List (Port S)) (q : Port S) → n < length ports → FirstSettled n ports → IsSettled q → FirstSettled (n + 1) (set ports n q)
settled_step {S} n ports q within settled now r d less = by (decide r n)
  where
    by : (r ≡ n) ⊎ (r ≢ n) → IsSettled (get_or (set ports n q) r d)
    by (inl e) = subst (λ (i : ℕ). IsSettled (get_or (set ports n q) i d)) (sym e) (subst (λ (x : Port S). IsSettled x) (sym (get_or-set_same ports n q d within)) now)
    by (inr off) = subst (λ (x : Port S). IsSettled x) (sym (get_or-set_other ports n r q d off)) (settled r d (omega (arith, less, off)))

-- of ports that have sent what their streams may take
abbrev pub FirstFlushed : {S : Type 0} → ℕ → List (Port S) → Type 0
FirstFlushed {S} n ports = (p : ℕ) (d : Port S) → p < n → IsUnsent (get_or ports p d) → ⊥

pub flushed_step : {S : Type 0} (n : ℕ) (ports : List (Port S)) (q : Port S) → n < length ports → FirstFlushed n ports → (IsUnsent q → ⊥) → FirstFlushed (n + 1) (set ports n q)
flushed_step {S} n ports q within flushed now r d less = by (decide r n)
  where
    by : (r ≡ n) ⊎ (r ≢ n) → IsUnsent (get_or (set ports n q) r d) → ⊥
    by (inl e) = subst (λ (i : ℕ). IsUnsent (get_or (set ports n q) i d) → ⊥) (sym e) (subst (λ (x : Port S). IsUnsent x → ⊥) (sym (get_or-set_same ports n q d within)) now)
    by (inr off) = subst (λ (x : Port S). IsUnsent x → ⊥) (sym (get_or-set_other ports n r q d off)) (flushed r d (omega (arith, less, off)))

pub all_flushed : {S : Type 0} (n : ℕ) (ports : List (Port S)) → length ports ≤ n → FirstFlushed n ports → AreFlushed ports
all_flushed {S} n ports most flushed = λ p. by p (slice_get_cases ports p).1
  where
    by : (p : ℕ) → ((x : Port S) × (p < length ports) × (slice_get ports p ≡ Some x) × (get_or ports p x ≡ x)) ⊎ ((length ports ≤ p) × (slice_get ports p ≡ None)) → IsUnsentAt (slice_get ports p) → ⊥
    by p (inl (x, within, is, at)) = subst (λ (o : Option (Port S)). IsUnsentAt o → ⊥) (sym is) (subst (λ (q : Port S). IsUnsent q → ⊥) at (flushed p x (omega (arith, within, most))))
    by p (inr (past, none)) = subst (λ (o : Option (Port S)). IsUnsentAt o → ⊥) (sym none) (λ unsent. unsent)

pub all_settled : {S : Type 0} (n : ℕ) (ports : List (Port S)) → length ports ≤ n → FirstSettled n ports → AreSettled ports
all_settled {S} n ports most settled = λ p. by p (slice_get_cases ports p).1
  where
    by : (p : ℕ) → ((x : Port S) × (p < length ports) × (slice_get ports p ≡ Some x) × (get_or ports p x ≡ x)) ⊎ ((length ports ≤ p) × (slice_get ports p ≡ None)) → IsSettledAt (slice_get ports p)
    by p (inl (x, within, is, at)) = subst (λ (o : Option (Port S)). IsSettledAt o) (sym is) (subst (λ (q : Port S). IsSettled q) at (settled p x (omega (arith, within, most))))
    by p (inr (past, none)) = subst (λ (o : Option (Port S)). IsSettledAt o) (sym none) tt

-- ---- the sessions of a table

module _ {S : Type 0} (tells : S → Wire → Type 0) where
  -- the session at one place has gone on
  pub winds_moved : (slab : Slab (Session S)) (place : ℕ) (a b : Session S) → get slab place ≡ Some a → b.number ≡ a.number → (a.is_open ≡ false → b.is_open ≡ false) → Moves (PortsTell tells a.ports.items) (PortsTell tells b.ports.items) KeepAllSent → Winds tells slab (with_value slab place b)
  winds_moved slab place a b was number shut moves = record { on = λ q k links at. by q k links (decide q place) at }
    where
      by : (q k : ℕ) (links : Links) → (q ≡ place) ⊎ (q ≢ place) → WindsAt tells slab q k links → WoundOn tells (with_value slab place b) q k links
      by q k links (inl e) (s, is, has, closed, told) =
          let s_is : s ≡ a = some_same (get slab q) s a is (ap (get slab) e ∙ was) in
          let moved = moves links (subst (λ (x : Session S). PortsTell tells x.ports.items links) s_is told) in (
            moved.0,
            moved.2,
            inl (b, ap (get (with_value slab place b)) e ∙ (put slab place a b was).changed, number ∙ (ap (λ (x : Session S). x.number) (sym s_is) ∙ has), shut (ap (λ (x : Session S). x.is_open) (sym s_is) ∙ closed), moved.1),
          )
      by q k links (inr off) (s, is, has, closed, told) = (links, (λ p. refl), inl (s, (put slab place a b was).others q off ∙ is, has, closed, told))

  pub winds_stays : (slab : Slab (Session S)) (place : ℕ) (a b : Session S) → get slab place ≡ Some a → b.number ≡ a.number → b.is_open ≡ a.is_open → Stays (PortsTell tells a.ports.items) (PortsTell tells b.ports.items) → Winds tells slab (with_value slab place b)
  winds_stays slab place a b was number same stays = winds_moved slab place a b was number (λ closed. same ∙ closed) (λ links told. (links, stays links told, (λ p. refl)))

  -- its ports are the same
  pub winds_same : (slab : Slab (Session S)) (place : ℕ) (a b : Session S) → get slab place ≡ Some a → b.number ≡ a.number → (a.is_open ≡ false → b.is_open ≡ false) → b.ports ≡ a.ports → Winds tells slab (with_value slab place b)
  winds_same slab place a b was number shut ports =
      winds_moved slab place a b was number shut (λ links told. (links, subst (λ (v : Vec (Port S)). PortsTell tells v.items links) (sym ports) told, (λ p. refl)))

  -- it is open
  pub winds_open : (slab : Slab (Session S)) (place : ℕ) (a b : Session S) → get slab place ≡ Some a → a.is_open ≡ true → Winds tells slab (with_value slab place b)
  winds_open slab place a b was open_is = record { on = λ q k links at. by q k links (decide q place) at }
    where
      by : (q k : ℕ) (links : Links) → (q ≡ place) ⊎ (q ≢ place) → WindsAt tells slab q k links → WoundOn tells (with_value slab place b) q k links
      by q k links (inl e) (s, is, has, closed, told) =
          absurd (true≢false (sym open_is ∙ (ap (λ (x : Session S). x.is_open) (sym (some_same (get slab q) s a is (ap (get slab) e ∙ was))) ∙ closed)))
      by q k links (inr off) (s, is, has, closed, told) = (links, (λ p. refl), inl (s, (put slab place a b was).others q off ∙ is, has, closed, told))

  -- its place is free
  pub winds_freed : (a b : Slab (Session S)) (place : ℕ) → Updates a b place None → HoldsSettled a place → Winds tells a b
  winds_freed a b place updates settled = record { on = λ q k links at. by q k links (decide q place) at }
    where
      by : (q k : ℕ) (links : Links) → (q ≡ place) ⊎ (q ≢ place) → WindsAt tells a q k links → WoundOn tells b q k links
      by q k links (inl e) (s, is, has, closed, told) = (links, (λ p. refl), inr (s, has, closed, told, settled s (ap (get a) (sym e) ∙ is)))
      by q k links (inr off) (s, is, has, closed, told) = (links, (λ p. refl), inl (s, updates.others q off ∙ is, has, closed, told))

  -- each place has what it had
  pub winds_alike : (a b : Slab (Session S)) → ((q : ℕ) → get b q ≡ get a q) → Winds tells a b
  winds_alike a b same = record { on = λ q k links at. (links, (λ p. refl), inl (at.0, same q ∙ at.1, at.2, at.3, at.4)) }

  pub beside_winds : (place : ℕ) (a b : Slab (Session S)) → WindsBeside tells place a b → Winds tells a b
  beside_winds place a b beside = winds_on tells a beside.middle b beside.winds (record { on = λ q k links at. (links, (λ p. refl), inl (at.0, beside.others.at q (apart q at.0 at.1) ∙ at.1, at.2, at.3, at.4)) })
    where
      apart : (q : ℕ) (s : Session S) → get beside.middle q ≡ Some s → q ≢ place
      apart q s is same = no_session (sym beside.free ∙ (ap (get beside.middle) (sym same) ∙ is))
        where
          no_session : None ≡ Some s → ⊥
          no_session e = absurd (cc)

  pub beside_stays : (place : ℕ) (a b c : Slab (Session S)) → WindsBeside tells place a b → OthersStay place b c → WindsBeside tells place a c
  beside_stays place a b c beside stays = record {
    middle = beside.middle;
    winds = beside.winds;
    free = beside.free;
    others = record { at = λ q off. stays.at q off ∙ beside.others.at q off };
  }

  -- one was put somewhere, if there was room, behind what went on
  pub put_beside : (place : Option ℕ) (a b c : Slab (Session S)) → Winds tells a b → PutsAt place b c → WindsBesideIfAny tells place a c
  put_beside None a b c winds puts = winds_on tells a b c winds (winds_alike b c puts)
  put_beside (Some place) a b c winds puts = record { middle = b; winds = winds; free = puts.0; others = puts.1 }

  -- ---- an open session

  -- the session at the place of an open one is open
  pub open_at : (slab : Slab (Session S)) (entries : List Entry) (closed : List ℕ) (spare : List (Vec (Port S))) (world : World) (k place : ℕ) (a : Session S) → Tells tells slab entries closed spare world → place_of entries k ≡ Some place → get slab place ≡ Some a → a.is_open ≡ true
  open_at slab entries closed spare world k place a told at was = by (world k) (subst (λ (o : Option ℕ). TellsPlace tells slab k o (world k)) at (told.told k))
    where
      by : (o : Option Links) → TellsPlace tells slab k (Some place) o → a.is_open ≡ true
      by o (s, is, number, open_is, t) = ap (λ (x : Session S). x.is_open) (some_same (get slab place) a s was is) ∙ open_is

  -- it is closed
  pub shut_winds : (slab : Slab (Session S)) (entries : List Entry) (closed : List ℕ) (spare : List (Vec (Port S))) (at : ℕ) (e r : Entry) (a b : Session S) (world : World) (links : Links) → slice_get entries at ≡ Some e → slice_get entries at ≡ Some r → get slab r.place ≡ Some a → b ≡ record a { is_open = false }
      → world e.number ≡ Some links → Tells tells slab entries closed spare world → WindsAt tells (with_value slab r.place b) r.place e.number links
  shut_winds slab entries closed spare at e r a b world links is_e is_r was b_is links_are told =
      by (subst (λ (o : Option Links). TellsPlace tells slab e.number (Some e.place) o) links_are (subst (λ (o : Option ℕ). TellsPlace tells slab e.number o (world e.number)) (place_at 0 entries at e told.rising is_e).1 (told.told e.number)))
    where
      same : r ≡ e
      same = some_same (slice_get entries at) r e is_r is_e

      by : TellsPlace tells slab e.number (Some e.place) (Some links) → WindsAt tells (with_value slab r.place b) r.place e.number links
      by (s, is, number, open_is, t) =
          let s_is : s ≡ a = some_same (get slab e.place) s a is (ap (λ (x : Entry). get slab x.place) (sym same) ∙ was) in
          let ports : b.ports ≡ s.ports = ap (λ (x : Session S). x.ports) b_is ∙ ap (λ (x : Session S). x.ports) (sym s_is) in (
            b,
            (put slab r.place a b was).changed,
            ap (λ (x : Session S). x.number) b_is ∙ (ap (λ (x : Session S). x.number) (sym s_is) ∙ number),
            ap (λ (x : Session S). x.is_open) b_is,
            subst (λ (v : Vec (Port S)). PortsTell tells v.items links) (sym ports) t.ports,
          )

-- ---- where sessions are put

pub others_put : {S : Type 0} (slab : Slab (Session S)) (place : ℕ) (a b : Session S) → get slab place ≡ Some a → OthersStay place slab (with_value slab place b)
others_put slab place a b was = record { at = (put slab place a b was).others }

pub others_freed : {S : Type 0} (a b : Slab (Session S)) (place : ℕ) → Updates a b place None → OthersStay place a b
others_freed a b place updates = record { at = updates.others }

pub others_same : {S : Type 0} (place : ℕ) (a : Slab (Session S)) → OthersStay place a a
others_same place a = record { at = λ q off. refl }

pub others_on : {S : Type 0} (place : ℕ) (a b c : Slab (Session S)) → OthersStay place a b → OthersStay place b c → OthersStay place a c
others_on place a b c first second = record { at = λ q off. second.at q off ∙ first.at q off }

pub puts_at : {S : Type 0} {E : Type 0} (a b : Slab (Session S)) (s : Session S) (r : Result ℕ E) (o : Option ℕ) → o ≡ result_ok r → IfOk r (λ key. get a key ≡ None) → IfOk r (λ key. Updates a b key (Some s)) → OnErr r (b ≡ record a { capacity = b.capacity }) → PutsAt o a b
puts_at {S} {E} a b s r o is free updates kept = subst (λ (x : Option ℕ). PutsAt x a b) (sym is) (by r free updates kept)
  where
    by : (r : Result ℕ E) → IfOk r (λ key. get a key ≡ None) → IfOk r (λ key. Updates a b key (Some s)) → OnErr r (b ≡ record a { capacity = b.capacity }) → PutsAt (result_ok r) a b
    by (Ok key) free updates kept = (free, record { at = updates.others })
    by (Err e) free updates kept = λ q. ap (λ (x : Slab (Session S)). get x q) kept

-- the session that was put there holds nothing that a stream takes
pub settled_at : {S : Type 0} (slab : Slab (Session S)) (place : ℕ) (a b : Session S) → get slab place ≡ Some a → AreSettled b.ports.items → HoldsSettled (with_value slab place b) place
settled_at {S} slab place a b was settled = λ session is. subst (λ (x : Session S). AreSettled x.ports.items) (some_same (get (with_value slab place b) place) b session (put slab place a b was).changed is) settled

-- ---- what a closed session has sent

-- the session that was put there holds nothing that its streams may take now
pub flushed_at : {S : Type 0} (slab : Slab (Session S)) (place : ℕ) (a b : Session S) → get slab place ≡ Some a → AreFlushed b.ports.items → HoldsFlushed (with_value slab place b) place
flushed_at {S} slab place a b was flushed = λ session is. subst (λ (x : Session S). AreFlushed x.ports.items) (some_same (get (with_value slab place b) place) b session (put slab place a b was).changed is) flushed

-- no session stands there
pub flushed_none : {S : Type 0} (slab : Slab (Session S)) (place : ℕ) → get slab place ≡ None → HoldsFlushed slab place
flushed_none {S} slab place none = λ session is. absurd (no_value session (sym none ∙ is))
  where
    no_value : (s : Session S) → None ≡ Some s → ⊥
    no_value s e = absurd (cc)

-- one that is open isn't closed
pub not_shut : {S : Type 0} (slab : Slab (Session S)) (place : ℕ) (a : Session S) → get slab place ≡ Some a → a.is_open ≡ true → IsClosedAt slab place → ⊥
not_shut {S} slab place a was is_open (x, is, shut) = true≢false (sym is_open ∙ (ap (λ (s : Session S). s.is_open) (some_same (get slab place) a x was is) ∙ shut))
