-- What the calls of a turn add up to.
use Rattle.std.proofs.Common.{◌≡◌, ◌≢◌, ℕ, zero, suc, ◌+◌, ◌-◌, ◌<◌, ◌≤◌, ◌⊎◌, ◌||◌, min, nat_eq, ◌==◌, inl, inr, List, [], ◌∷◌, ◌++◌, length, take, get_or, slice_set, replicate, nat_lt, Option, None, Some, is_some, Result, Ok, Err, Bool, true, false, true≢false, if◌then◌else◌, arith, ap, sym, ◌∙◌, subst, refl, append_assoc, length-append, length-take-le}
use Rattle.std.proofs.lemmas.List.{append-nil, take_all, get_or-set_same, get_or-set_other}
use Rattle.std.proofs.lemmas.Bool.Decides.{nat_tests}
use Rattle.std.specs.Int.{from_be_bytes, w32}
use Rattle.std.specs.Prelude.{ℤ}
use Rattle.gate_hub.specs.Meaning.{Link}
use Rattle.gate_hub.specs.Hubs.{LinkReads, LinkWrites}
use Rattle.gate_fan.specs.Meaning.{Told, FanCall, Read, Wrote, Meaning}
use Rattle.gate_fan.specs.Fans.{Counts, Later, Leads, Changes, AtPort, HasPort}
use Rattle.gate_hub.specs.declared.hub.LinkGot.{LinkGot}
use Rattle.gate_hub.specs.declared.hub.LinkGot.TheVariants as got
use Rattle.gate_hub.specs.declared.hub.LinkPut.{LinkPut}
use Rattle.gate_hub.specs.declared.hub.LinkPut.TheVariants as put
use Rattle.framed_transport.specs.Front.{Part, Whole, Large, front, is_part}
use Rattle.service_router.specs.Standing.{Standing, History, inbox_of, due_to, room_of, but_at, and_received, and_sent, and_ended}
use Rattle.session_core.specs.Notes.{Note}
use Rattle.service_router.specs.Routing.{Routing}
use Rattle.service_router.specs.Judging.{rules_of}
use Rattle.service_router.specs.Telling.{FitsTold}
use Rattle.service_router.specs.Ends.{IsAtRest}
use Rattle.service_router.specs.declared.outcome.RouteOutcome.{RouteOutcome}
use Rattle.service_router.specs.Router.{Seen, rules_in, targets_of, IsSame, RestsBy, FitsAndTells}
use Rattle.service_router.proofs.Feeding.{fits_as}
use Rattle.session_core.specs.Steps.{is_none}
use Rattle.session_core.proofs.Endings.{is_none_tests}
use Rattle.route_server.specs.Calling.{piece_length, IsPiece, ArePieces, Fails, EndsFailing, Wanted, ToWrite, ToRead}
use Rattle.route_server.specs.Matching.{history_of, Matches, MatchesOn}
use Rattle.route_server.specs.Turning.{Begins, wanted, to_write, to_read, room_in, or_else, first_of, first_port, write_waits, read_waits, with_write, with_read, IsMarked, KeepsMarks, link_amount, amount_below, Grows, AllGrow, NoneFailed, Runs, Breaks, Goes, GoesTelling, HasFailed, CallDoes, IsWritten, IsRead, AreDone, AllDone, IsQuiet, IsSettled, ReadsNoMore, HasEnded, IsNotReady, HoldsFrame, no_waits, TurnDoes}
use Rattle.route_server.specs.declared.waiting.Waits.{Waits}
use Rattle.route_server.specs.declared.turn_end.RouteTurn.{RouteTurn}

-- ---- the router

-- a history that is the same at each port
pub matches_as : (r : Seen) (past : List Note) (h k : History) → ((port : ℕ) → k.received port ≡ h.received port) → ((port : ℕ) → k.sent port ≡ h.sent port) → ((port : ℕ) → k.ended port ≡ h.ended port) → Matches r past h → Matches r past k
matches_as r past h k received sent ends m = record { fits = fits_as (rules_in r) r.limit r.max_calls h k past r.standing received sent ends m.fits; rest = m.rest }

-- by a router that is the same
told_at : (r r' : Routing) (limit limit' max_calls max_calls' : ℕ) (h : History) (notes : List Note) (s : Standing) → r' ≡ r → limit' ≡ limit → max_calls' ≡ max_calls → FitsTold (rules_of r) limit max_calls h notes s → FitsTold (rules_of r') limit' max_calls' h notes s
told_at r r' limit limit' max_calls max_calls' h notes s a b d f =
    subst (λ (q : Routing). FitsTold (rules_of q) limit' max_calls' h notes s) (sym a) (subst (λ (n : ℕ). FitsTold (rules_of r) n max_calls' h notes s) (sym b) (subst (λ (n : ℕ). FitsTold (rules_of r) limit n h notes s) (sym d) f))

rest_at : (r r' : Routing) (limit limit' max_calls max_calls' : ℕ) (s : Standing) (o : Option RouteOutcome) → r' ≡ r → limit' ≡ limit → max_calls' ≡ max_calls → IsAtRest (rules_of r) limit max_calls s o → IsAtRest (rules_of r') limit' max_calls' s o
rest_at r r' limit limit' max_calls max_calls' s o a b d f =
    subst (λ (q : Routing). IsAtRest (rules_of q) limit' max_calls' s o) (sym a) (subst (λ (n : ℕ). IsAtRest (rules_of r) n max_calls' s o) (sym b) (subst (λ (n : ℕ). IsAtRest (rules_of r) limit n s o) (sym d) f))

pub matches_later : (old new : Seen) (tells : List Note → Type 0) (on : History → History) → IsSame old new → RestsBy old new → FitsAndTells old new tells on → MatchesOn old new tells on
matches_later old new tells on same rest fits = (
  fits.0,
  fits.1,
  λ past h m. record {
    fits = told_at old.routing new.routing old.limit new.limit old.max_calls new.max_calls (on h) (past ++ fits.0) new.standing same.routing same.limit same.max_calls (fits.2 h past m.fits);
    rest = rest_at old.routing new.routing old.limit new.limit old.max_calls new.max_calls new.standing new.outcome same.routing same.limit same.max_calls rest;
  },
)

pub all_taken : (n : ℕ) (bytes : List ℕ) → n ≡ length bytes → take n bytes ≡ bytes
all_taken n bytes is = take_all n bytes (omega (arith, is))

pub same_on : (a b c : Seen) → IsSame a b → IsSame b c → IsSame a c
same_on a b c p q = record { routing = q.routing ∙ p.routing; limit = q.limit ∙ p.limit; max_calls = q.max_calls ∙ p.max_calls; rooms = q.rooms ∙ p.rooms; targets = q.targets ∙ p.targets }

pub same_not : (a : Seen) → IsSame a a
same_not a = record { routing = refl; limit = refl; max_calls = refl; rooms = refl; targets = refl }

-- a port is this one or another
by_port : (x y : ℕ) (P : Type 0) → (y ≡ x → P) → (y ≢ x → P) → P
by_port x y P same other = at (nat_eq y x) refl
  where
    at : (b : Bool) → nat_eq y x ≡ b → P
    at true e = same (let is : y ≡ x = grind (arith, nat_tests, e) in is)
    at false e = other (λ is. let off : (nat_eq y x ≡ true) → ⊥ = (λ on. true≢false (sym on ∙ e)) in off (let on : nat_eq y x ≡ true = grind (arith, nat_tests, is) in on))

-- ---- from the fan's clause to the turn's words

pub goes_by : (told told' : Meaning → Type 0) (matches matches' : History → Type 0) (k port targets : ℕ) (call : FanCall) (Step : Told → Told → Type 0) (Step' : List FanCall → Told → Told → Type 0) → port ≤ targets → IsPiece k call → Leads told told' (HasPort k port targets) (Changes k call Step) → ((s t : Told) → matches (history_of s) → Step s t → Step' (call ∷ []) s t × matches' (history_of t)) → Goes told told' matches matches' k Step'
goes_by told told' matches matches' k port targets call Step Step' within is leads by = λ m tells open_at fit.
    let led = leads m tells (record { open_one = open_at; within = within }) in
    let n = led.0 in
    let does = by (m.session k) (n.session k) fit led.2.session in (
      n,
      led.1,
      does.1,
      record {
        made = call ∷ [];
        calls = led.2.calls;
        pieces = (is, tt);
        session = does.0;
        others = led.2.others;
        started = led.2.started;
        last_event = led.2.last_event;
        events = led.2.events;
      },
    )

pieces_on : (k : ℕ) (made more : List FanCall) → ArePieces k made → ArePieces k more → ArePieces k (made ++ more)
pieces_on k [] more p q = q
pieces_on k (call ∷ made) more p q = (p.0, pieces_on k made more p.1 q)

-- one after the other
pub goes_on : (told told' told'' : Meaning → Type 0) (matches matches' matches'' : History → Type 0) (k : ℕ) (P Q Both : List FanCall → Told → Told → Type 0) → ((made : List FanCall) (s t : Told) → P made s t → (t.announced ≡ s.announced) × (t.closed ≡ s.closed)) → ((made more : List FanCall) (s t u : Told) → P made s t → Q more t u → matches'' (history_of u) → Both (made ++ more) s u) → Goes told told' matches matches' k P → Goes told' told'' matches' matches'' k Q → Goes told told'' matches matches'' k Both
goes_on told told' told'' matches matches' matches'' k P Q Both same both p q = λ m tells open_at fit.
    let first = p m tells open_at fit in
    let n = first.0 in
    let a = first.3 in
    let kept = same a.made (m.session k) (n.session k) a.session in
    let second = q n first.1 (kept.0 ∙ open_at.0, kept.1 ∙ open_at.1) first.2 in
    let b = second.3 in (
      second.0,
      second.1,
      second.2,
      record {
        made = a.made ++ b.made;
        calls = b.calls ∙ (ap (λ xs. xs ++ b.made) a.calls ∙ append_assoc m.calls a.made b.made);
        pieces = pieces_on k a.made b.made a.pieces b.pieces;
        session = both a.made b.made (m.session k) (n.session k) (second.0.session k) a.session b.session second.2;
        others = λ j off. b.others j off ∙ a.others j off;
        started = b.started ∙ a.started;
        last_event = b.last_event ∙ a.last_event;
        events = b.events ∙ a.events;
      },
    )

-- nothing was done
pub goes_nowhere : (told : Meaning → Type 0) (matches : History → Type 0) (k : ℕ) (P : List FanCall → Told → Told → Type 0) → ((s : Told) → P [] s s) → Goes told told matches matches k P
goes_nowhere told matches k P stays = λ m tells open_at fit. (
  m,
  tells,
  fit,
  record { made = []; calls = sym (append-nil m.calls); pieces = tt; session = stays (m.session k); others = λ j off. refl; started = refl; last_event = refl; events = refl },
)

pub goes_weaker : (told told' : Meaning → Type 0) (matches matches' : History → Type 0) (k : ℕ) (P Q : List FanCall → Told → Told → Type 0) → ((made : List FanCall) (s t : Told) → P made s t → Q made s t) → Goes told told' matches matches' k P → Goes told told' matches matches' k Q
goes_weaker told told' matches matches' k P Q by p = λ m tells open_at fit.
    let first = p m tells open_at fit in
    let a = first.3 in (
      first.0,
      first.1,
      first.2,
      record { made = a.made; calls = a.calls; pieces = a.pieces; session = by a.made (m.session k) (first.0.session k) a.session; others = a.others; started = a.started; last_event = a.last_event; events = a.events },
    )

-- ---- with what is told

-- what was told, and then that
abbrev pub Follows : (List Note → Type 0) → (List Note → Type 0) → (List Note → Type 0) → Type 0
Follows tells tells' tells'' = (xs ys : List Note) → tells xs → tells' ys → tells'' (xs ++ ys)

pub telling_on : (tells tells' tells'' : List Note → Type 0) (told told' told'' : Meaning → Type 0) (ms ms' ms'' : List Note → History → Type 0) (k : ℕ) (P Q Both : List FanCall → Told → Told → Type 0) → Follows tells tells' tells'' → ((past mid last : List Note) → Goes told told' (ms past) (ms' mid) k P → Goes told' told'' (ms' mid) (ms'' last) k Q → Goes told told'' (ms past) (ms'' last) k Both) → GoesTelling tells told told' ms ms' k P → GoesTelling tells' told' told'' ms' ms'' k Q → GoesTelling tells'' told told'' ms ms'' k Both
telling_on tells tells' tells'' told told' told'' ms ms' ms'' k P Q Both follows join p q = (
  p.0 ++ q.0,
  follows p.0 q.0 p.1 q.1,
  λ past. subst (λ (ns : List Note). Goes told told'' (ms past) (ms'' ns) k Both) (append_assoc past p.0 q.0) (join past (past ++ p.0) ((past ++ p.0) ++ q.0) (p.2 past) (q.2 (past ++ p.0))),
)

pub telling_by : (tells : List Note → Type 0) (told told' : Meaning → Type 0) (ms ms' : List Note → History → Type 0) (k : ℕ) (P Q : List FanCall → Told → Told → Type 0) → ((past last : List Note) → Goes told told' (ms past) (ms' last) k P → Goes told told' (ms past) (ms' last) k Q) → GoesTelling tells told told' ms ms' k P → GoesTelling tells told told' ms ms' k Q
telling_by tells told told' ms ms' k P Q by p = (p.0, p.1, λ past. by past (past ++ p.0) (p.2 past))

pub telling_none : (tells : List Note → Type 0) (told told' : Meaning → Type 0) (ms ms' : List Note → History → Type 0) (k : ℕ) (P : List FanCall → Told → Told → Type 0) → tells [] → ((past : List Note) → Goes told told' (ms past) (ms' past) k P) → GoesTelling tells told told' ms ms' k P
telling_none tells told told' ms ms' k P stays go = ([], stays, λ past. subst (λ (ns : List Note). Goes told told' (ms past) (ms' ns) k P) (sym (append-nil past)) (go past))

-- by how the turn ended
pub turn_is : (tells : List Note → Type 0) (told told' : Meaning → Type 0) (ms ms' : List Note → History → Type 0) (k : ℕ) (router : Seen) (r t : RouteTurn) → r ≡ t → GoesTelling tells told told' ms ms' k (TurnDoes k router r) → GoesTelling tells told told' ms ms' k (TurnDoes k router t)
turn_is tells told told' ms ms' k router r t is p = subst (λ (x : RouteTurn). GoesTelling tells told told' ms ms' k (TurnDoes k router x)) is p

-- ---- what is wanted first

pub begins_on : (k : ℕ) (a b : Option Wanted) (made more : List FanCall) → Begins k a made → Begins k b more → Begins k (or_else a b) (made ++ more)
begins_on k None b made more p q = subst (λ (xs : List FanCall). Begins k b (xs ++ more)) (sym p) q
begins_on k (Some (ToWrite x n)) b made more p q = (p.0, p.1 ++ more, ap (λ (xs : List FanCall). xs ++ more) p.2)
begins_on k (Some (ToRead x n)) b made more p q = (p.0, p.1 ++ more, ap (λ (xs : List FanCall). xs ++ more) p.2)

pub or_same : (a x y : Option Wanted) → (a ≡ None → x ≡ y) → or_else a x ≡ or_else a y
or_same None x y e = e refl
or_same (Some w) x y e = refl

pub or_none : (a b : Option Wanted) → or_else a b ≡ None → (a ≡ None) × (b ≡ None)
or_none None b e = (refl, e)
or_none (Some w) b e = absurd (cc)

ends_in_one : (early : List FanCall) (call : FanCall) → [] ≡ early ++ call ∷ [] → ⊥
ends_in_one [] call e = cc
ends_in_one (x ∷ early) call e = cc

-- a call that failed was made, so something was wanted
pub fails_wanted : (k : ℕ) (a b : Option Wanted) (x : ℕ) (made : List FanCall) → ((v : Wanted) → a ≡ Some v → b ≡ Some v) → Begins k a made → EndsFailing k x made → Begins k b made
fails_wanted k None b x made on p last = absurd (ends_in_one last.early last.call (sym p ∙ last.calls_are))
fails_wanted k (Some v) b x made on p last = subst (λ (f : Option Wanted). Begins k f made) (sym (on v refl)) p

pub or_first : (a b : Option Wanted) (v : Wanted) → a ≡ Some v → or_else a b ≡ Some v
or_first a b v e = ap (λ (z : Option Wanted). or_else z b) e

-- what the first of fewer ports wants is wanted of more ports too
first_on : (want : ℕ → Waits → Seen → Option Wanted) (n : ℕ) (w : Waits) (r : Seen) (v : Wanted) (m : ℕ) → n ≤ m → first_of want n w r ≡ Some v → first_of want m w r ≡ Some v
first_on want n w r v zero within e = subst (λ (z : ℕ). first_of want z w r ≡ Some v) (let is : n ≡ 0 = omega (arith, within) in is) e
first_on want n w r v (suc m) within e = by_port (suc m) n (first_of want (suc m) w r ≡ Some v)
    (λ is. subst (λ (z : ℕ). first_of want z w r ≡ Some v) is e)
    (λ off. or_first (first_of want m w r) (want m w r) v (first_on want n w r v m (omega (arith, within, off)) e))

some_none : (v : Wanted) → Some v ≡ None → ⊥
some_none v e = cc

-- where nothing is wanted of more ports, nothing is of fewer
pub first_none : (want : ℕ → Waits → Seen → Option Wanted) (n m : ℕ) (w : Waits) (r : Seen) → n ≤ m → first_of want m w r ≡ None → first_of want n w r ≡ None
first_none want n m w r within none = by (first_of want n w r) refl
  where
    by : (o : Option Wanted) → first_of want n w r ≡ o → o ≡ None
    by None e = refl
    by (Some v) e = absurd (some_none v (sym (first_on want n w r v m within e) ∙ none))

-- where nothing was wanted, nothing has changed
abbrev pub Idle : Option Wanted → Seen → Seen → Waits → Waits → Type 0
Idle first s t v w = first ≡ None → (t ≡ s) × (w ≡ v)

wants_alike : (want : Waits → Seen → Option Wanted) (r r' : Seen) (v w : Waits) → r' ≡ r → w ≡ v → want w r' ≡ want v r
wants_alike want r r' v w same marks = ap (λ (z : Waits). want z r') marks ∙ ap (λ (z : Seen). want v z) same

-- what is wanted of one more port, whose call sees what the earlier ones left
first_next : (want : ℕ → Waits → Seen → Option Wanted) (n : ℕ) (r0 r : Seen) (w0 w : Waits) → Idle (first_of want n w0 r0) r0 r w0 w → or_else (first_of want n w0 r0) (want n w r) ≡ first_of want (suc n) w0 r0
first_next want n r0 r w0 w idle = or_same (first_of want n w0 r0) (want n w r) (want n w0 r0) (λ none. wants_alike (want n) r0 r w0 w (idle none).0 (idle none).1)

pub next_is : (n : ℕ) → suc n ≡ n + 1
next_is n = omega arith

pub idle_next : (want : ℕ → Waits → Seen → Option Wanted) (n : ℕ) (r0 r r' : Seen) (w0 w w' : Waits) → Idle (first_of want n w0 r0) r0 r w0 w → Idle (want n w r) r r' w w' → Idle (first_of want (n + 1) w0 r0) r0 r' w0 w'
idle_next want n r0 r r' w0 w w' before last none =
    let both = or_none (first_of want n w0 r0) (want n w0 r0) (ap (λ (z : ℕ). first_of want z w0 r0) (next_is n) ∙ none) in
    let i = before both.0 in
    let j = last (wants_alike (want n) r0 r w0 w i.0 i.1 ∙ both.1) in
    (j.0 ∙ i.0, j.1 ∙ i.1)

pub idle_wider : (want : ℕ → Waits → Seen → Option Wanted) (n m : ℕ) (r0 r : Seen) (w0 w : Waits) → n ≤ m → Idle (first_of want n w0 r0) r0 r w0 w → Idle (first_of want m w0 r0) r0 r w0 w
idle_wider want n m r0 r w0 w within idle none = idle (first_none want n m w0 r0 within none)

-- what is wanted of the first half of a round, and of both
pub wants_round : (r0 r : Seen) (w0 w : Waits) → Idle (first_port to_write w0 r0) r0 r w0 w → or_else (first_port to_write w0 r0) (first_port to_read w r) ≡ wanted w0 r0
wants_round r0 r w0 w idle = or_same (first_port to_write w0 r0) (first_port to_read w r) (first_port to_read w0 r0) (λ none. wants_alike (first_port to_read) r0 r w0 w (idle none).0 (idle none).1)

pub idle_round : (r0 r r' : Seen) (w0 w w' : Waits) → Idle (first_port to_write w0 r0) r0 r w0 w → Idle (first_port to_read w r) r r' w w' → Idle (wanted w0 r0) r0 r' w0 w'
idle_round r0 r r' w0 w w' one two none =
    let both = or_none (first_port to_write w0 r0) (first_port to_read w0 r0) none in
    let i = one both.0 in
    let j = two (wants_alike (first_port to_read) r0 r w0 w i.0 i.1 ∙ both.1) in
    (j.0 ∙ i.0, j.1 ∙ i.1)

-- what is wanted of the whole turn, where the first round is not over or its first call was made
pub want_on : (first next want : Option Wanted) → (first ≡ None → next ≡ want) → (first ≡ None) ⊎ (first ≡ want) → or_else first next ≡ want
want_on None next want e from = e refl
want_on (Some w) next want e (inl none) = absurd (cc)
want_on (Some w) next want e (inr is) = is

pub fails_behind : (k : ℕ) (x : ℕ) (made more : List FanCall) → EndsFailing k x more → EndsFailing k x (made ++ more)
fails_behind k x made more last = record { early = made ++ last.early; call = last.call; calls_are = ap (λ xs. made ++ xs) last.calls_are ∙ sym (append_assoc made last.early (last.call ∷ [])); fails = last.fails }

-- ---- what moves

grows_not : (a : Link) → Grows a a
grows_not a = record { received = ([], sym (append-nil a.received)); sent = ([], sym (append-nil a.sent)); ended = λ e. e }

grows_on : (a b c : Link) → Grows a b → Grows b c → Grows a c
grows_on a b c p q = record {
  received = (p.received.0 ++ q.received.0, q.received.1 ∙ (ap (λ xs. xs ++ q.received.0) p.received.1 ∙ append_assoc a.received p.received.0 q.received.0));
  sent = (p.sent.0 ++ q.sent.0, q.sent.1 ∙ (ap (λ xs. xs ++ q.sent.0) p.sent.1 ∙ append_assoc a.sent p.sent.0 q.sent.0));
  ended = λ e. q.ended (p.ended e);
}

all_grow_on : (r s t : Told) → AllGrow r s → AllGrow s t → AllGrow r t
all_grow_on r s t p q = record {
  announced = q.announced ∙ p.announced;
  closed = q.closed ∙ p.closed;
  ports = λ x. grows_on (r.link x) (s.link x) (t.link x) (p.ports x) (q.ports x);
}

none_failed_on : (r s t : Told) → NoneFailed r s → NoneFailed s t → NoneFailed r t
none_failed_on r s t p q = record { reads = λ x e. p.reads x (q.reads x e); writes = λ x e. p.writes x (q.writes x e) }

pub runs_not : (k targets : ℕ) (w : Waits) (s : Told) → Runs k targets None 0 w w [] s s
runs_not k targets w s = record {
  begins = refl;
  grows = record { announced = refl; closed = refl; ports = λ x. grows_not (s.link x) };
  none_failed = record { reads = λ x e. e; writes = λ x e. e };
  amount_is = omega arith;
  marked = λ m. m;
}

pub runs_on : (k targets : ℕ) (a b : Option Wanted) (n m : ℕ) (u v w : Waits) (made more : List FanCall) (r s t : Told) → Runs k targets a n u v made r s → Runs k targets b m v w more s t → Runs k targets (or_else a b) (n + m) u w (made ++ more) r t
runs_on k targets a b n m u v w made more r s t p q = record {
  begins = begins_on k a b made more p.begins q.begins;
  grows = all_grow_on r s t p.grows q.grows;
  none_failed = none_failed_on r s t p.none_failed q.none_failed;
  amount_is = omega (arith, p.amount_is, q.amount_is);
  marked = λ marked. q.marked (p.marked marked);
}

pub breaks_on : (k targets : ℕ) (a b : Option Wanted) (n : ℕ) (u v : Waits) (x : ℕ) (made more : List FanCall) (r s t : Told) → Runs k targets a n u v made r s → Breaks k b x more s t → Breaks k (or_else a b) x (made ++ more) r t
breaks_on k targets a b n u v x made more r s t p q = record {
  begins = begins_on k a b made more p.begins q.begins;
  last = fails_behind k x made more q.last;
  grows = all_grow_on r s t p.grows q.grows;
  failed = q.failed;
  others = λ y off f. had_failed y (q.others y off f);
}
  where
    had_failed : (y : ℕ) → HasFailed y s → HasFailed y r
    had_failed y (inl f) = inl (p.none_failed.reads y f)
    had_failed y (inr f) = inr (p.none_failed.writes y f)

-- one port has changed, by a call that did not fail
record LinkRuns (moved : ℕ) (a b : Link) : Type 0 where
  grows : Grows a b
  amount_is : link_amount a + moved ≤ link_amount b
  reads : b.last_read ≡ Some got.Failed → a.last_read ≡ Some got.Failed
  writes : b.last_write ≡ Some put.Failed → a.last_write ≡ Some put.Failed

-- what the marks are to say of the port
record Marks (x : ℕ) (v w : Waits) (a b : Link) : Type 0 where
  writes : (write_waits v x ≡ true → a.last_write ≡ Some put.NotReady) → write_waits w x ≡ true → b.last_write ≡ Some put.NotReady
  reads : (read_waits v x ≡ true → a.last_read ≡ Some got.NotReady) → read_waits w x ≡ true → b.last_read ≡ Some got.NotReady

record Others (x : ℕ) (v w : Waits) : Type 0 where
  writes : (y : ℕ) → y ≢ x → write_waits w y ≡ true → write_waits v y ≡ true
  reads : (y : ℕ) → y ≢ x → read_waits w y ≡ true → read_waits v y ≡ true

-- the other ports are as they were
abbrev OthersAre : ℕ → Told → Told → Type 0
OthersAre x s t = (y : ℕ) → y ≢ x → t.link y ≡ s.link y

-- what holds of a port from before to after, where it is this one or nothing of it has changed
at_each : (x : ℕ) (s t : Told) (P : Link → Link → Type 0) → OthersAre x s t → P (s.link x) (t.link x) → ((a : Link) → P a a) → (y : ℕ) → P (s.link y) (t.link y)
at_each x s t P others here stays y = by_port x y (P (s.link y) (t.link y)) (λ e. subst (λ z. P (s.link z) (t.link z)) (sym e) here) (λ off. subst (λ l. P (s.link y) l) (sym (others y off)) (stays (s.link y)))

amount_same : (n x : ℕ) (s t : Told) → OthersAre x s t → n ≤ x → amount_below n s ≡ amount_below n t
amount_same zero x s t others within = refl
amount_same (suc n) x s t others within =
    let rest = amount_same n x s t others (omega (arith, within)) in
    let one = ap link_amount (others n (λ is. absurd (omega (arith, is, within)))) in
    omega (arith, rest, one)

amount_on : (n x m : ℕ) (s t : Told) → OthersAre x s t → link_amount (s.link x) + m ≤ link_amount (t.link x) → x < n → amount_below n s + m ≤ amount_below n t
amount_on zero x m s t others more within = absurd (omega (arith, within))
amount_on (suc n) x m s t others more within = by_port x n (amount_below (suc n) s + m ≤ amount_below (suc n) t)
    (λ is. let rest = amount_same n x s t others (omega (arith, is)) in
    let one : link_amount (s.link n) + m ≤ link_amount (t.link n) = subst (λ z. link_amount (s.link z) + m ≤ link_amount (t.link z)) (sym is) more in
    omega (arith, rest, one))
    (λ off. let rest = amount_on n x m s t others more (omega (arith, within, off)) in
    let one = ap link_amount (others n off) in
    omega (arith, rest, one))

one_grows : (x : ℕ) (s t : Told) (Step : Link → Link → Type 0) → AtPort x Step s t → Grows (s.link x) (t.link x) → AllGrow s t
one_grows x s t Step at grows = record { announced = at.announced; closed = at.closed; ports = at_each x s t Grows at.others grows grows_not }

runs_in : (k targets : ℕ) (first : Option Wanted) (made : List FanCall) (x n : ℕ) (v w : Waits) (s t : Told) (Step : Link → Link → Type 0) → x ≤ targets → AtPort x Step s t → LinkRuns n (s.link x) (t.link x) → Marks x v w (s.link x) (t.link x) → Others x v w → Begins k first made → Runs k targets first n v w made s t
runs_in k targets first made x n v w s t Step within at runs marks others begins = record {
  begins = begins;
  grows = one_grows x s t Step at runs.grows;
  none_failed = record {
    reads = at_each x s t (λ a b. b.last_read ≡ Some got.Failed → a.last_read ≡ Some got.Failed) at.others runs.reads (λ a e. e);
    writes = at_each x s t (λ a b. b.last_write ≡ Some put.Failed → a.last_write ≡ Some put.Failed) at.others runs.writes (λ a e. e);
  };
  amount_is = amount_on (targets + 1) x n s t at.others runs.amount_is (omega (arith, within));
  marked = λ m. record {
    writes = λ y. by_port x y (write_waits w y ≡ true → (t.link y).last_write ≡ Some put.NotReady)
        (λ e. subst (λ z. write_waits w z ≡ true → (t.link z).last_write ≡ Some put.NotReady) (sym e) (marks.writes (m.writes x)))
        (λ off on. ap (λ (l : Link). l.last_write) (at.others y off) ∙ m.writes y (others.writes y off on));
    reads = λ y. by_port x y (read_waits w y ≡ true → (t.link y).last_read ≡ Some got.NotReady)
        (λ e. subst (λ z. read_waits w z ≡ true → (t.link z).last_read ≡ Some got.NotReady) (sym e) (marks.reads (m.reads x)))
        (λ off on. ap (λ (l : Link). l.last_read) (at.others y off) ∙ m.reads y (others.reads y off on));
  };
}

same_others : (x : ℕ) (w : Waits) → Others x w w
same_others x w = record { writes = λ y off e. e; reads = λ y off e. e }

no_flag : (X : Type 0) (b : Bool) → b ≡ false → b ≡ true → X
no_flag X b off on = absurd (true≢false (sym on ∙ off))

abbrev is_failed_put : Option LinkPut → Bool
is_failed_put None = false
is_failed_put (Some (put.Took n)) = false
is_failed_put (Some put.NotReady) = false
is_failed_put (Some put.Failed) = true

abbrev is_failed_got : Option LinkGot → Bool
is_failed_got None = false
is_failed_got (Some (got.Bytes n)) = false
is_failed_got (Some got.NotReady) = false
is_failed_got (Some got.End) = false
is_failed_got (Some got.Failed) = true

no_failed_put : (X : Type 0) (p : Option LinkPut) → is_failed_put p ≡ false → p ≡ Some put.Failed → X
no_failed_put X p off is = absurd (true≢false (ap is_failed_put (sym is) ∙ off))

no_failed_got : (X : Type 0) (p : Option LinkGot) → is_failed_got p ≡ false → p ≡ Some got.Failed → X
no_failed_got X p off is = absurd (true≢false (ap is_failed_got (sym is) ∙ off))

-- ---- what is told of the session after a call

-- a port has these bytes, and the others have theirs
but_here : {X : Type 0} (x : ℕ) (new : X) (f : ℕ → X) (g : ℕ → X) → g x ≡ new → ((y : ℕ) → y ≢ x → g y ≡ f y) → (y : ℕ) → g y ≡ but_at x new f y
but_here x new f g here others y = at (nat_eq y x) refl
  where
    at : (b : Bool) → nat_eq y x ≡ b → g y ≡ (if b then new else f y)
    at true e = (let is : y ≡ x = grind (arith, nat_tests, e) in ap g is ∙ here)
    at false e = others y (λ is. true≢false (let on : nat_eq y x ≡ true = grind (arith, nat_tests, is) in sym on ∙ e))

-- ---- each call of a turn

pub took : (k targets : ℕ) (first : Option Wanted) (call : FanCall) (x : ℕ) (from : List ℕ) (n : ℕ) (w : Waits) (r r' : Seen) (past past' : List Note) (s t : Told) → Begins k first (call ∷ []) → x ≤ targets → 0 < n → n ≤ length from → write_waits w x ≡ false → ((h : History) → Matches r past h → Matches r' past' (and_sent x h (take n from))) → Matches r past (history_of s) → AtPort x (LinkWrites from (put.Took n)) s t → Runs k targets first 1 w w (call ∷ []) s t × Matches r' past' (history_of t)
took k targets first call x from n w r r' past past' s t begins port some within free by fit does =
    let a = s.link x in
    let after : Link = record a { sent = a.sent ++ take n from; last_write = Some (put.Took n) } in
    let runs : LinkRuns 1 a after = record { grows = record { received = ([], sym (append-nil a.received)); sent = (take n from, refl); ended = λ e. e }; amount_is = omega (arith, length-append a.sent (take n from), length-take-le n from within, some); reads = λ e. e; writes = no_failed_put _ _ refl } in
    let marks : Marks x w w a after = record { writes = λ _ on. no_flag _ _ free on; reads = λ m. m } in (
      runs_in k targets first (call ∷ []) x 1 w w s t (LinkWrites from (put.Took n)) port does (subst (λ l. LinkRuns 1 a l) (sym does.changed) runs) (subst (λ l. Marks x w w a l) (sym does.changed) marks) (same_others x w) begins,
      matches_as r' past' (and_sent x (history_of s) (take n from)) (history_of t)
          (λ y. at_each x s t (λ p q. q.received ≡ p.received) does.others (ap (λ (l : Link). l.received) does.changed) (λ p. refl) y)
          (but_here x (a.sent ++ take n from) (λ y. (s.link y).sent) (λ y. (t.link y).sent) (ap (λ (l : Link). l.sent) does.changed) (λ y off. ap (λ (l : Link). l.sent) (does.others y off)))
          (λ y. at_each x s t (λ p q. q.ended ≡ p.ended) does.others (ap (λ (l : Link). l.ended) does.changed) (λ p. refl) y)
          (by (history_of s) fit),
    )

-- nothing came or went at any port
same_history : (r : Seen) (past : List Note) (x : ℕ) (s t : Told) → OthersAre x s t → (t.link x).received ≡ (s.link x).received → (t.link x).sent ≡ (s.link x).sent → (t.link x).ended ≡ (s.link x).ended → Matches r past (history_of s) → Matches r past (history_of t)
same_history r past x s t others received sent ended m = matches_as r past (history_of s) (history_of t)
    (at_each x s t (λ p q. q.received ≡ p.received) others received (λ p. refl))
    (at_each x s t (λ p q. q.sent ≡ p.sent) others sent (λ p. refl))
    (at_each x s t (λ p q. q.ended ≡ p.ended) others ended (λ p. refl)) m

others_write : (x : ℕ) (w : Waits) → Others x w (with_write x w)
others_write x w = record { writes = λ y off e. sym (get_or-set_other w.writes x y true false off) ∙ e; reads = λ y off e. e }

others_read : (x : ℕ) (w : Waits) → Others x w (with_read x w)
others_read x w = record { writes = λ y off e. e; reads = λ y off e. sym (get_or-set_other w.reads x y true false off) ∙ e }

asks_nothing : (a : Link) (read : Option LinkGot) → is_failed_got read ≡ false → LinkRuns 0 a (record a { last_read = read })
asks_nothing a read off = record {
  grows = record { received = ([], sym (append-nil a.received)); sent = ([], sym (append-nil a.sent)); ended = λ e. e };
  amount_is = omega arith;
  reads = no_failed_got _ _ off;
  writes = λ e. e;
}

tells_nothing : (a : Link) (write : Option LinkPut) → is_failed_put write ≡ false → LinkRuns 0 a (record a { last_write = write })
tells_nothing a write off = record {
  grows = record { received = ([], sym (append-nil a.received)); sent = ([], sym (append-nil a.sent)); ended = λ e. e };
  amount_is = omega arith;
  reads = λ e. e;
  writes = no_failed_put _ _ off;
}

pub write_waited : (k targets : ℕ) (first : Option Wanted) (call : FanCall) (x : ℕ) (from : List ℕ) (v w : Waits) (r : Seen) (past : List Note) (s t : Told) → Begins k first (call ∷ []) → x ≤ targets → w ≡ with_write x v → Matches r past (history_of s) → AtPort x (LinkWrites from put.NotReady) s t → Runs k targets first 0 v w (call ∷ []) s t × Matches r past (history_of t)
write_waited k targets first call x from v w r past s t begins port marks fit does =
    let a = s.link x in
    let after : Link = record a { last_write = Some put.NotReady } in
    let told : Marks x v (with_write x v) a after = record { writes = λ _ _. refl; reads = λ m on. m on } in
    subst (λ (z : Waits). Runs k targets first 0 v z (call ∷ []) s t × Matches r past (history_of t)) (sym marks) (
      runs_in k targets first (call ∷ []) x 0 v (with_write x v) s t (LinkWrites from put.NotReady) port does (subst (λ l. LinkRuns 0 a l) (sym does.changed) (tells_nothing a (Some put.NotReady) refl)) (subst (λ l. Marks x v (with_write x v) a l) (sym does.changed) told) (others_write x v) begins,
      same_history r past x s t does.others (ap (λ (l : Link). l.received) does.changed) (ap (λ (l : Link). l.sent) does.changed) (ap (λ (l : Link). l.ended) does.changed) fit,
    )

failed_others : (x : ℕ) (s t : Told) → OthersAre x s t → (y : ℕ) → y ≢ x → HasFailed y t → HasFailed y s
failed_others x s t others y off (inl f) = inl (sym (ap (λ (l : Link). l.last_read) (others y off)) ∙ f)
failed_others x s t others y off (inr f) = inr (sym (ap (λ (l : Link). l.last_write) (others y off)) ∙ f)

pub write_failed : (k : ℕ) (first : Option Wanted) (call : FanCall) (x : ℕ) (from : List ℕ) (r : Seen) (past : List Note) (s t : Told) → Begins k first (call ∷ []) → Fails k x call → Matches r past (history_of s) → AtPort x (LinkWrites from put.Failed) s t → Breaks k first x (call ∷ []) s t × Matches r past (history_of t)
write_failed k first call x from r past s t begins fails fit does =
    let a = s.link x in
    let after : Link = record a { last_write = Some put.Failed } in
    let grows : Grows a after = record { received = ([], sym (append-nil a.received)); sent = ([], sym (append-nil a.sent)); ended = λ e. e } in (
      record { begins = begins; last = record { early = []; call = call; calls_are = refl; fails = fails }; grows = one_grows x s t (LinkWrites from put.Failed) does (subst (λ l. Grows a l) (sym does.changed) grows); failed = inr (ap (λ (l : Link). l.last_write) does.changed); others = failed_others x s t does.others },
      same_history r past x s t does.others (ap (λ (l : Link). l.received) does.changed) (ap (λ (l : Link). l.sent) does.changed) (ap (λ (l : Link). l.ended) does.changed) fit,
    )

pub read_waited : (k targets : ℕ) (first : Option Wanted) (call : FanCall) (x : ℕ) (into : List ℕ) (v w : Waits) (r : Seen) (past : List Note) (s t : Told) → Begins k first (call ∷ []) → x ≤ targets → w ≡ with_read x v → Matches r past (history_of s) → AtPort x (LinkReads into got.NotReady) s t → Runs k targets first 0 v w (call ∷ []) s t × Matches r past (history_of t)
read_waited k targets first call x into v w r past s t begins port marks fit does =
    let a = s.link x in
    let after : Link = record a { last_read = Some got.NotReady } in
    let is : t.link x ≡ after = does.changed.1 in
    let told : Marks x v (with_read x v) a after = record { writes = λ m on. m on; reads = λ _ _. refl } in
    subst (λ (z : Waits). Runs k targets first 0 v z (call ∷ []) s t × Matches r past (history_of t)) (sym marks) (
      runs_in k targets first (call ∷ []) x 0 v (with_read x v) s t (LinkReads into got.NotReady) port does (subst (λ l. LinkRuns 0 a l) (sym is) (asks_nothing a (Some got.NotReady) refl)) (subst (λ l. Marks x v (with_read x v) a l) (sym is) told) (others_read x v) begins,
      same_history r past x s t does.others (ap (λ (l : Link). l.received) is) (ap (λ (l : Link). l.sent) is) (ap (λ (l : Link). l.ended) is) fit,
    )

pub read_failed : (k : ℕ) (first : Option Wanted) (call : FanCall) (x : ℕ) (into : List ℕ) (r : Seen) (past : List Note) (s t : Told) → Begins k first (call ∷ []) → Fails k x call → Matches r past (history_of s) → AtPort x (LinkReads into got.Failed) s t → Breaks k first x (call ∷ []) s t × Matches r past (history_of t)
read_failed k first call x into r past s t begins fails fit does =
    let a = s.link x in
    let after : Link = record a { last_read = Some got.Failed } in
    let is : t.link x ≡ after = does.changed.1 in
    let grows : Grows a after = record { received = ([], sym (append-nil a.received)); sent = ([], sym (append-nil a.sent)); ended = λ e. e } in (
      record { begins = begins; last = record { early = []; call = call; calls_are = refl; fails = fails }; grows = one_grows x s t (LinkReads into got.Failed) does (subst (λ l. Grows a l) (sym is) grows); failed = inl (ap (λ (l : Link). l.last_read) is); others = failed_others x s t does.others },
      same_history r past x s t does.others (ap (λ (l : Link). l.received) is) (ap (λ (l : Link). l.sent) is) (ap (λ (l : Link). l.ended) is) fit,
    )

pub got_bytes : (k targets : ℕ) (first : Option Wanted) (call : FanCall) (x : ℕ) (into : List ℕ) (n : ℕ) (w : Waits) (r r' : Seen) (past past' : List Note) (s t : Told) → Begins k first (call ∷ []) → x ≤ targets → 0 < n → n ≤ length into → read_waits w x ≡ false → ((h : History) → Matches r past h → Matches r' past' (and_received x h (take n into))) → Matches r past (history_of s) → AtPort x (LinkReads into (got.Bytes n)) s t → Runs k targets first 1 w w (call ∷ []) s t × Matches r' past' (history_of t)
got_bytes k targets first call x into n w r r' past past' s t begins port some within free by fit does =
    let a = s.link x in
    let after : Link = record a { received = a.received ++ take n into; last_read = Some (got.Bytes n) } in
    let is : t.link x ≡ after = does.changed.1 in
    let runs : LinkRuns 1 a after = record { grows = record { received = (take n into, refl); sent = ([], sym (append-nil a.sent)); ended = λ e. e }; amount_is = omega (arith, length-append a.received (take n into), length-take-le n into within, some); reads = no_failed_got _ _ refl; writes = λ e. e } in
    let marks : Marks x w w a after = record { writes = λ m. m; reads = λ _ on. no_flag _ _ free on } in (
      runs_in k targets first (call ∷ []) x 1 w w s t (LinkReads into (got.Bytes n)) port does (subst (λ l. LinkRuns 1 a l) (sym is) runs) (subst (λ l. Marks x w w a l) (sym is) marks) (same_others x w) begins,
      matches_as r' past' (and_received x (history_of s) (take n into)) (history_of t)
          (but_here x (a.received ++ take n into) (λ y. (s.link y).received) (λ y. (t.link y).received) (ap (λ (l : Link). l.received) is) (λ y off. ap (λ (l : Link). l.received) (does.others y off)))
          (at_each x s t (λ p q. q.sent ≡ p.sent) does.others (ap (λ (l : Link). l.sent) is) (λ p. refl))
          (at_each x s t (λ p q. q.ended ≡ p.ended) does.others (ap (λ (l : Link). l.ended) is) (λ p. refl))
          (by (history_of s) fit),
    )

pub got_end : (k targets : ℕ) (first : Option Wanted) (call : FanCall) (x : ℕ) (into : List ℕ) (w : Waits) (r r' : Seen) (past past' : List Note) (s t : Told) → Begins k first (call ∷ []) → x ≤ targets → (s.link x).ended ≡ false → read_waits w x ≡ false → ((h : History) → Matches r past h → Matches r' past' (and_ended x h)) → Matches r past (history_of s) → AtPort x (LinkReads into got.End) s t → Runs k targets first 1 w w (call ∷ []) s t × Matches r' past' (history_of t)
got_end k targets first call x into w r r' past past' s t begins port going free by fit does =
    let a = s.link x in
    let after : Link = record a { ended = true; last_read = Some got.End } in
    let is : t.link x ≡ after = does.changed in
    let runs : LinkRuns 1 a after = record { grows = record { received = ([], sym (append-nil a.received)); sent = ([], sym (append-nil a.sent)); ended = λ _. refl }; amount_is = omega (arith, ap {B = ℕ} (λ (b : Bool). if b then 1 else 0) going); reads = no_failed_got _ _ refl; writes = λ e. e } in
    let marks : Marks x w w a after = record { writes = λ m. m; reads = λ _ on. no_flag _ _ free on } in (
      runs_in k targets first (call ∷ []) x 1 w w s t (LinkReads into got.End) port does (subst (λ l. LinkRuns 1 a l) (sym is) runs) (subst (λ l. Marks x w w a l) (sym is) marks) (same_others x w) begins,
      matches_as r' past' (and_ended x (history_of s)) (history_of t)
          (at_each x s t (λ p q. q.received ≡ p.received) does.others (ap (λ (l : Link). l.received) is) (λ p. refl))
          (at_each x s t (λ p q. q.sent ≡ p.sent) does.others (ap (λ (l : Link). l.sent) is) (λ p. refl))
          (but_here x true (λ y. (s.link y).ended) (λ y. (t.link y).ended) (ap (λ (l : Link). l.ended) is) (λ y off. ap (λ (l : Link). l.ended) (does.others y off)))
          (by (history_of s) fit),
    )

-- a port that the router has room for has not ended
off_by : (ended over : Bool) (room : ℕ) → 0 < (if ended || over then 0 else room) → ended ≡ false
off_by true over room some = absurd (omega (arith, some))
off_by false over room some = refl

pub not_ended : (x : ℕ) (r : Seen) (past : List Note) (s : Told) → Matches r past (history_of s) → 0 < room_of r.limit r.standing (is_some r.outcome) x → (s.link x).ended ≡ false
not_ended x r past s m some = sym (m.fits.fits.ended x) ∙ off_by (inbox_of x r.standing).ended (is_some r.outcome) _ some

-- ---- the marks

pub marks_not : (w : Waits) → KeepsMarks w w
marks_not w = record { writes = λ x on. on; reads = λ x on. on }

pub marks_on : (u v w : Waits) → KeepsMarks u v → KeepsMarks v w → KeepsMarks u w
marks_on u v w p q = record { writes = λ x on. q.writes x (p.writes x on); reads = λ x on. q.reads x (p.reads x on) }

pub write_is_marked : (x : ℕ) (v w : Waits) → x < length v.writes → w ≡ with_write x v → write_waits w x ≡ true
write_is_marked x v w within is = ap (λ (z : Waits). write_waits z x) is ∙ get_or-set_same v.writes x true false within

pub read_is_marked : (x : ℕ) (v w : Waits) → x < length v.reads → w ≡ with_read x v → read_waits w x ≡ true
read_is_marked x v w within is = ap (λ (z : Waits). read_waits z x) is ∙ get_or-set_same v.reads x true false within

-- a place of a list that is set to true keeps every place that was
set_keeps : (xs : List Bool) (x y : ℕ) → x < length xs → get_or xs y false ≡ true → get_or (slice_set xs x true) y false ≡ true
set_keeps xs x y within on = by_port x y (get_or (slice_set xs x true) y false ≡ true)
    (λ is. subst (λ z. get_or (slice_set xs x true) z false ≡ true) (sym is) (get_or-set_same xs x true false within))
    (λ off. get_or-set_other xs x y true false off ∙ on)

pub marks_write : (x : ℕ) (v w : Waits) → x < length v.writes → w ≡ with_write x v → KeepsMarks v w
marks_write x v w within is = subst (λ z. KeepsMarks v z) (sym is) (record { writes = λ y on. set_keeps v.writes x y within on; reads = λ y on. on })

pub marks_read : (x : ℕ) (v w : Waits) → x < length v.reads → w ≡ with_read x v → KeepsMarks v w
marks_read x v w within is = subst (λ z. KeepsMarks v z) (sym is) (record { writes = λ y on. on; reads = λ y on. set_keeps v.reads x y within on })

pub take_of_front : (n m : ℕ) (xs : List ℕ) → n ≤ m → take n (take m xs) ≡ take n xs
take_of_front zero m xs within = refl
take_of_front (suc n) zero xs within = absurd (omega (arith, within))
take_of_front (suc n) (suc m) [] within = refl
take_of_front (suc n) (suc m) (x ∷ xs) within = ap (λ ys. x ∷ ys) (take_of_front n m xs (omega (arith, within)))

-- ---- one call behind another

pub then_runs : (told told' told'' : Meaning → Type 0) (matches matches' matches'' : History → Type 0) (k targets : ℕ) (a b : Option Wanted) (n m : ℕ) (u v w : Waits) → Goes told told' matches matches' k (Runs k targets a n u v) → Goes told' told'' matches' matches'' k (Runs k targets b m v w) → Goes told told'' matches matches'' k (Runs k targets (or_else a b) (n + m) u w)
then_runs told told' told'' matches matches' matches'' k targets a b n m u v w p q = goes_on told told' told'' matches matches' matches'' k (Runs k targets a n u v) (Runs k targets b m v w) (Runs k targets (or_else a b) (n + m) u w) (λ made s t r. (r.grows.announced, r.grows.closed)) (λ made more r s t x y _. runs_on k targets a b n m u v w made more r s t x y) p q

pub then_breaks : (told told' told'' : Meaning → Type 0) (matches matches' matches'' : History → Type 0) (k targets : ℕ) (a b : Option Wanted) (n : ℕ) (u v : Waits) (x : ℕ) → Goes told told' matches matches' k (Runs k targets a n u v) → Goes told' told'' matches' matches'' k (Breaks k b x) → Goes told told'' matches matches'' k (Breaks k (or_else a b) x)
then_breaks told told' told'' matches matches' matches'' k targets a b n u v x p q = goes_on told told' told'' matches matches' matches'' k (Runs k targets a n u v) (Breaks k b x) (Breaks k (or_else a b) x) (λ made s t r. (r.grows.announced, r.grows.closed)) (λ made more r s t y z _. breaks_on k targets a b n u v x made more r s t y z) p q

-- what failed was wanted, whatever would have been wanted behind it
pub breaks_wider : (told told' : Meaning → Type 0) (matches matches' : History → Type 0) (k : ℕ) (a b : Option Wanted) (x : ℕ) → ((v : Wanted) → a ≡ Some v → b ≡ Some v) → Goes told told' matches matches' k (Breaks k a x) → Goes told told' matches matches' k (Breaks k b x)
breaks_wider told told' matches matches' k a b x on p = goes_weaker told told' matches matches' k (Breaks k a x) (Breaks k b x) (λ made s t r. record { begins = fails_wanted k a b x made on r.begins r.last; last = r.last; grows = r.grows; failed = r.failed; others = r.others }) p

-- at what is wanted in all, and at the number of targets of the router before
pub runs_at : (told told' : Meaning → Type 0) (matches matches' : History → Type 0) (k n targets targets' : ℕ) (a b : Option Wanted) (v w : Waits) → targets' ≡ targets → a ≡ b → Goes told told' matches matches' k (Runs k targets' a n v w) → Goes told told' matches matches' k (Runs k targets b n v w)
runs_at told told' matches matches' k n targets targets' a b v w same e p = subst (λ (m : ℕ). Goes told told' matches matches' k (Runs k m b n v w)) same (subst (λ (f : Option Wanted). Goes told told' matches matches' k (Runs k targets' f n v w)) e p)

pub breaks_at : (told told' : Meaning → Type 0) (matches matches' : History → Type 0) (k targets : ℕ) (a b : Option Wanted) (v w : Waits) (x : ℕ) (result : Result ℕ ℕ) → result ≡ Err x → ((u : Wanted) → a ≡ Some u → b ≡ Some u) → Goes told told' matches matches' k (Breaks k a x) → Goes told told' matches matches' k (CallDoes k targets b result v w)
breaks_at told told' matches matches' k targets a b v w x result is on p =
    subst (λ (o : Result ℕ ℕ). Goes told told' matches matches' k (CallDoes k targets b o v w)) (sym is) (breaks_wider told told' matches matches' k a b x on p)

abbrev count_of : Result ℕ ℕ → ℕ
count_of (Ok n) = n
count_of (Err x) = 0

pub ok_is : (result : Result ℕ ℕ) (n m : ℕ) → result ≡ Ok n → result ≡ Ok m → n ≡ m
ok_is result n m p q = sym (ap count_of p) ∙ ap count_of q

-- ---- through the ports

-- the calls of the ports before and of one more
pub port_runs : (want : ℕ → Waits → Seen → Option Wanted) (told told' told'' : Meaning → Type 0) (ms ms' ms'' : History → Type 0) (r0 r : Seen) (k targets n moved more : ℕ) (w0 w w' : Waits) → targets_of r ≡ targets → Idle (first_of want n w0 r0) r0 r w0 w → Goes told told' ms ms' k (Runs k targets (first_of want n w0 r0) moved w0 w) → Goes told' told'' ms' ms'' k (Runs k (targets_of r) (want n w r) more w w') → Goes told told'' ms ms'' k (Runs k targets (first_of want (n + 1) w0 r0) (moved + more) w0 w')
port_runs want told told' told'' ms ms' ms'' r0 r k targets n moved more w0 w w' same idle p q =
    let one = subst (λ (m : ℕ). Goes told' told'' ms' ms'' k (Runs k m (want n w r) more w w')) same q in
    let next = first_next want n r0 r w0 w idle ∙ ap (λ (z : ℕ). first_of want z w0 r0) (next_is n) in
    runs_at told told'' ms ms'' k (moved + more) targets targets _ (first_of want (n + 1) w0 r0) w0 w' refl next (then_runs told told' told'' ms ms' ms'' k targets (first_of want n w0 r0) (want n w r) moved more w0 w w' p one)

-- and where the call of that one failed
pub port_breaks : (want : ℕ → Waits → Seen → Option Wanted) (told told' told'' : Meaning → Type 0) (ms ms' ms'' : History → Type 0) (r0 r : Seen) (k targets n moved x : ℕ) (w0 w w' : Waits) (result : Result ℕ ℕ) → result ≡ Err x → n ≤ targets_of r0 → Idle (first_of want n w0 r0) r0 r w0 w → Goes told told' ms ms' k (Runs k targets (first_of want n w0 r0) moved w0 w) → Goes told' told'' ms' ms'' k (Breaks k (want n w r) x) → Goes told told'' ms ms'' k (CallDoes k targets (first_port want w0 r0) result w0 w')
port_breaks want told told' told'' ms ms' ms'' r0 r k targets n moved x w0 w w' result is within idle p q =
    let a = first_of want n w0 r0 in
    let next = first_next want n r0 r w0 w idle in
    breaks_at told told'' ms ms'' k targets (or_else a (want n w r)) (first_port want w0 r0) w0 w' x result is
    (λ v e. first_on want (suc n) w0 r0 v (targets_of r0 + 1) (omega (arith, within)) (sym next ∙ e))
    (then_breaks told told' told'' ms ms' ms'' k targets a (want n w r) moved w0 w x p q)

-- one more port is done, and those before are still
pub done_next : (Is : ℕ → Seen → Waits → Type 0) (n : ℕ) (r r' : Seen) (v w : Waits) → ((x : ℕ) → Is x r v → Is x r w) → r' ≡ r → AreDone Is n r v → Is n r' w → AreDone Is (n + 1) r' w
done_next Is n r r' v w keeps same before last x within = by_port n x (Is x r' w)
    (λ is. subst (λ (z : ℕ). Is z r' w) (sym is) last)
    (λ off. subst (λ (z : Seen). Is x z w) (sym same) (keeps x (before x (omega (arith, within, off)))))

pub written_still : (r : Seen) (v w : Waits) → KeepsMarks v w → (x : ℕ) → IsWritten x r v → IsWritten x r w
written_still r v w marks x (inl none) = inl none
written_still r v w marks x (inr waits) = inr (marks.writes x waits)

pub read_still : (r : Seen) (v w : Waits) → KeepsMarks v w → (x : ℕ) → IsRead x r v → IsRead x r w
read_still r v w marks x (inl none) = inl none
read_still r v w marks x (inr waits) = inr (marks.reads x waits)

-- where so many ports are done, all are
pub done_all : (Is : ℕ → Seen → Waits → Type 0) (n : ℕ) (r : Seen) (w : Waits) → targets_of r < n → AreDone Is n r w → AllDone Is r w
done_all Is n r w past done x within = done x (omega (arith, past, within))

-- both halves of a round moved nothing
pub quiet_both : (r0 r r' : Seen) (v w : Waits) → KeepsMarks v w → (r ≡ r0) × AllDone IsWritten r v → (r' ≡ r) × AllDone IsRead r' w → (r' ≡ r0) × IsQuiet r' w
quiet_both r0 r r' v w marks one two = (two.0 ∙ one.0, (λ x within. subst (λ (z : Seen). IsWritten x z w) (sym two.0) (written_still r v w marks x (one.1 x (let below : x < targets_of r + 1 = subst (λ (z : Seen). x < targets_of z + 1) two.0 within in below))), two.1))

-- ---- a settled router

unmarked_by : (n x : ℕ) → get_or (replicate n false) x false ≡ true → ⊥
unmarked_by zero x on = absurd (true≢false (sym on))
unmarked_by (suc n) zero on = absurd (true≢false (sym on))
unmarked_by (suc n) (suc x) on = unmarked_by n x on

pub unmarked : (s : Told) → IsMarked no_waits s
unmarked s = record { writes = λ x on. absurd (unmarked_by 17 x on); reads = λ x on. absurd (unmarked_by 17 x on) }

full_by : (limit n : ℕ) (bytes : List ℕ) (z : ℤ) (frame rest : List ℕ) → limit + 4 ≤ length bytes → (a : Bool) → nat_lt (length bytes) 4 ≡ a → (b : Bool) → nat_lt limit n ≡ b → (d : Bool) → nat_lt (length bytes - 4) n ≡ d → is_part (if a then Part else if b then Large z else if d then Part else Whole frame rest) ≡ false
full_by limit n bytes z frame rest full true p b q d r = (let few : length bytes < 4 = grind (arith, nat_tests, p) in absurd (omega (arith, full, few)))
full_by limit n bytes z frame rest full false p true q d r = refl
full_by limit n bytes z frame rest full false p false q true r = (let few : length bytes - 4 < n = grind (arith, nat_tests, r) in let fits : n ≤ limit = grind (arith, nat_tests, q) in absurd (omega (arith, full, few, fits)))
full_by limit n bytes z frame rest full false p false q false r = refl

-- a buffer that is full holds a frame
full_front : (limit : ℕ) (bytes : List ℕ) → limit + 4 ≤ length bytes → is_part (front limit bytes) ≡ false
unfolding front
full_front limit bytes full = full_by limit (from_be_bytes w32 (take 4 bytes)) bytes _ _ _ full (nat_lt (length bytes) 4) refl (nat_lt limit (from_be_bytes w32 (take 4 bytes))) refl (nat_lt (length bytes - 4) (from_be_bytes w32 (take 4 bytes))) refl

no_room : (limit : ℕ) (held : List ℕ) (ended over : Bool) (link : Link) → over ≡ false → ended ≡ link.ended → (if ended || over then 0 else limit + 4 - length held) ≡ 0 → ReadsNoMore limit held link
no_room limit held true over link off is none = HasEnded (sym is)
no_room limit held false true link off is none = absurd (true≢false off)
no_room limit held false false link off is none = HoldsFrame (full_front limit held (omega (arith, none)))

reads_no_more : (x : ℕ) (r : Seen) (past : List Note) (t : Told) → r.outcome ≡ None → Matches r past (history_of t) → (room_in r x ≡ 0) ⊎ ((t.link x).last_read ≡ Some got.NotReady) → ReadsNoMore r.limit (inbox_of x r.standing).held (t.link x)
reads_no_more x r past t going m (inr waits) = IsNotReady waits
reads_no_more x r past t going m (inl none) = no_room r.limit (inbox_of x r.standing).held (inbox_of x r.standing).ended (is_some r.outcome) (t.link x) (ap is_some going) (m.fits.fits.ended x) none

or_by : {A B C : Type 0} → A ⊎ B → (B → C) → A ⊎ C
or_by (inl a) f = inl a
or_by (inr b) f = inr (f b)

pub settles : (r : Seen) (past : List Note) (k targets : ℕ) (first : Option Wanted) (n : ℕ) (w : Waits) (made : List FanCall) (s t : Told) → r.outcome ≡ None → IsQuiet r w → Matches r past (history_of t) → Runs k targets first n no_waits w made s t → AllGrow s t × NoneFailed s t × IsSettled r t
settles r past k targets first n w made s t going quiet m p =
    let marked = p.marked (unmarked s) in (
      p.grows,
      p.none_failed,
      record {
        going = going;
        still = m.rest.still;
        writes = λ x within. or_by (quiet.0 x (omega (arith, within))) (marked.writes x);
        reads = λ x within. reads_no_more x r past t going m (or_by (quiet.1 x (omega (arith, within))) (marked.reads x));
      },
    )

-- ---- when a call is wanted

pub write_is_wanted : (x : ℕ) (w : Waits) (r : Seen) (n : ℕ) → is_none (due_to x r.standing) ≡ false → write_waits w x ≡ false → n ≡ min (length (due_to x r.standing)) piece_length → to_write x w r ≡ Some (ToWrite x n)
write_is_wanted x w r n some free is =
    ap (λ b. if b || write_waits w x then None else Some (ToWrite x (min (length (due_to x r.standing)) piece_length))) some
    ∙ (ap (λ b. if b then None else Some (ToWrite x (min (length (due_to x r.standing)) piece_length))) free ∙ ap (λ m. Some (ToWrite x m)) (sym is))

pub write_is_left : (x : ℕ) (w : Waits) (r : Seen) → (is_none (due_to x r.standing) ≡ true) ⊎ (write_waits w x ≡ true) → to_write x w r ≡ None
write_is_left x w r (inl none) = ap (λ b. if b || write_waits w x then None else Some (ToWrite x (min (length (due_to x r.standing)) piece_length))) none
write_is_left x w r (inr waits) = by (is_none (due_to x r.standing)) (write_waits w x) waits
  where
    by : (a b : Bool) → b ≡ true → (if a || b then None else Some (ToWrite x (min (length (due_to x r.standing)) piece_length))) ≡ None
    by true b on = refl
    by false b on = ap (λ c. if c then None else Some (ToWrite x (min (length (due_to x r.standing)) piece_length))) on

pub read_is_wanted : (x : ℕ) (w : Waits) (r : Seen) (n : ℕ) → 0 < n → read_waits w x ≡ false → n ≡ min (room_in r x) piece_length → to_read x w r ≡ Some (ToRead x n)
read_is_wanted x w r n one free is =
    let room : 0 < room_in r x = omega (arith, one, is) in
    let test : nat_eq (room_in r x) 0 ≡ false = grind (arith, nat_tests, room) in
    ap (λ b. if b || read_waits w x then None else Some (ToRead x (min (room_in r x) piece_length))) test
    ∙ (ap (λ b. if b then None else Some (ToRead x (min (room_in r x) piece_length))) free ∙ ap (λ m. Some (ToRead x m)) (sym is))

pub read_is_left : (x : ℕ) (w : Waits) (r : Seen) → IsRead x r w → to_read x w r ≡ None
read_is_left x w r (inl none) = ap (λ n. if nat_eq n 0 || read_waits w x then None else Some (ToRead x (min n piece_length))) none
read_is_left x w r (inr waits) = by (nat_eq (room_in r x) 0) (read_waits w x) waits
  where
    by : (a b : Bool) → b ≡ true → (if a || b then None else Some (ToRead x (min (room_in r x) piece_length))) ≡ None
    by true b on = refl
    by false b on = ap (λ c. if c then None else Some (ToRead x (min (room_in r x) piece_length))) on

-- a call that was left out has done nothing
pub leaves_out : (told : Meaning → Type 0) (matches : History → Type 0) (k targets : ℕ) (first : Option Wanted) (w : Waits) → first ≡ None → Goes told told matches matches k (Runs k targets first 0 w w)
leaves_out told matches k targets first w none = subst (λ (f : Option Wanted). Goes told told matches matches k (Runs k targets f 0 w w)) (sym none) (goes_nowhere told matches k (Runs k targets None 0 w w) (runs_not k targets w))

-- a call that was made begins with what is wanted
pub writes_first : (k x n : ℕ) (answer : LinkPut) (first : Option Wanted) → first ≡ Some (ToWrite x n) → Begins k first (Wrote k x n answer ∷ [])
writes_first k x n answer first is = subst (λ (f : Option Wanted). Begins k f (Wrote k x n answer ∷ [])) (sym is) (answer, [], refl)

pub reads_first : (k x n : ℕ) (answer : LinkGot) (first : Option Wanted) → first ≡ Some (ToRead x n) → Begins k first (Read k x n answer ∷ [])
reads_first k x n answer first is = subst (λ (f : Option Wanted). Begins k f (Read k x n answer ∷ [])) (sym is) (answer, [], refl)

pub write_wants : (x : ℕ) (w : Waits) (r : Seen) (due : List ℕ) (count : ℕ) → due ≡ due_to x r.standing → (length due == 0) ≡ false → write_waits w x ≡ false → count ≡ min (length due) 4096 → (to_write x w r ≡ Some (ToWrite x (length (take count due)))) × (length (take count due) ≤ piece_length)
write_wants x w r due count same some free is =
    let long : length (take count due) ≡ count = length-take-le count due (omega (arith, is)) in
    let least : length (take count due) ≡ min (length (due_to x r.standing)) piece_length = long ∙ (is ∙ ap (λ xs. min (length xs) 4096) same) in
    (write_is_wanted x w r (length (take count due)) (sym (ap is_none same) ∙ (is_none_tests due ∙ some)) free least, omega (arith, long, is))

pub write_left_out : (x : ℕ) (w : Waits) (r : Seen) (due : List ℕ) → due ≡ due_to x r.standing → ((length due == 0) ≡ true) ⊎ (write_waits w x ≡ true) → to_write x w r ≡ None
write_left_out x w r due same (inl none) = write_is_left x w r (inl (sym (ap is_none same) ∙ (is_none_tests due ∙ none)))
write_left_out x w r due same (inr waits) = write_is_left x w r (inr waits)

pub read_wants : (x : ℕ) (w : Waits) (r : Seen) (into : List ℕ) (room n : ℕ) → room ≡ room_in r x → n ≡ min room 4096 → n ≢ 0 → read_waits w x ≡ false → length into ≡ piece_length → (to_read x w r ≡ Some (ToRead x (length (take n into)))) × (length (take n into) ≤ piece_length)
read_wants x w r into room n same is some free full =
    let long : length (take n into) ≡ n = length-take-le n into (omega (arith, is, full)) in
    let one : 0 < length (take n into) = omega (arith, long, some) in
    (read_is_wanted x w r (length (take n into)) one free (long ∙ (is ∙ ap (λ m. min m 4096) same)), omega (arith, long, is))

pub read_left_out : (x : ℕ) (w : Waits) (r : Seen) (room n : ℕ) → room ≡ room_in r x → n ≡ min room 4096 → (n ≡ 0) ⊎ (read_waits w x ≡ true) → to_read x w r ≡ None
read_left_out x w r room n same is (inl none) = read_is_left x w r (inl (omega (arith, same, is, none)))
read_left_out x w r room n same is (inr waits) = read_is_left x w r (inr waits)

-- ---- counts

pub later_on : (a b c : Counts) → Later a b → Later b c → Later a c
later_on a b c p q = record {
  faults = omega (arith, p.faults, q.faults);
  links = λ k s. omega (arith, p.links k s, q.links k s);
  waits = λ k s. omega (arith, p.waits k s, q.waits k s);
}

pub later_not : (a : Counts) → Later a a
later_not a = record { faults = omega arith; links = λ k s. omega arith; waits = λ k s. omega arith }
