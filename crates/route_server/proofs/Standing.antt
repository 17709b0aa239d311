-- What events, turns and closings do to what a server stands on.
use Rattle.std.proofs.Common.{◌≡◌, ◌≢◌, ℕ, ◌+◌, ◌<◌, ◌≤◌, ◌⊎◌, inl, inr, List, [], ◌∷◌, ◌++◌, length, Option, None, Some, Bool, true, false, true≢false, arith, ap, sym, ◌∙◌, subst, refl, length-append}
use Rattle.std.specs.Prelude.{IsSome}
use Rattle.std.specs.List.{slice_get, remove}
use Rattle.std.proofs.Math.ListN.{set as put}
use Rattle.gate_fan.specs.Meaning.{Told, FanCall, Closed, Meaning, Started, IsOpen, reopened, new_session}
use Rattle.gate_fan.specs.Fans.{Changes, Closes, Comes}
use Rattle.gate_hub.specs.declared.hub.HubNext.TheVariants as event
use Rattle.service_router.specs.Standing.{nothing}
use Rattle.session_core.specs.Notes.{Note}
use Rattle.service_router.specs.Judging.{rules_of}
use Rattle.service_router.specs.Router.{Seen, HoldsWithin, IsSame, rooms_for, rules_in, targets_of}
use Rattle.service_router.specs.declared.outcome.RouteOutcome.{RouteOutcome}
use Rattle.service_router.specs.declared.outcome.RouteOutcome.TheVariants as outcome
use Rattle.route_server.specs.Matching.{history_of, Matches}
use Rattle.route_server.specs.Turning.{Moves, AllGrow, NoneFailed, HasFailed, IsSettled}
use Rattle.route_server.specs.Saying.{Closing, Said, Ended, closings, heard_in, refusals}
use Rattle.route_server.proofs.Sayings.{closings_kept, closings_more, heard_more, heard_same, heard_ended}
use Rattle.route_server.specs.Serving.{Setting, Entry, IsHeld, IsOutcome, NotOpened, LinkFailed, OfItself, HasClosed, IsAmong, IsOpenOne, IsEndedOne, IsRising, Stands, no_more}
use Rattle.route_server.specs.Working.{Waits, IsBusy, IsNamed, Awaits}
use Rattle.route_server.specs.Calling.{EndsFailing}
use Rattle.route_server.proofs.Ordering.{broken_on, broken_more}
use Rattle.route_server.proofs.Places.{decide, some_same, get_put_same, get_put_other, put_as_it_was, get_within, get_last, get_before, behind_cases, put_cases, shift, shift_get, shift_rises, shift_elsewhere, unshift, elsewhere}
use Rattle.route_server.proofs.Tallies.{opened_work, ready_work, held_work}

-- at a wait
abbrev pub Rests : Setting → List Entry → List Closing → (ℕ → List Note) → Meaning → Type 0
Rests set held past heard m = Stands set no_more held past heard (length held) 0 m

-- a session that is closed is not one that is open
two_numbers : (m : Meaning) (i j : ℕ) → (m.session i).closed ≡ true → (m.session j).closed ≡ false → i ≢ j
two_numbers m i j on off = λ e. absurd (true≢false (sym on ∙ (ap (λ k. (m.session k).closed) e ∙ off)))

-- ---- one session changes, and all others stay

-- what is asked of the session that changes, at the place `at`
pub record Turns (set : Setting) (held : List Entry) (at : ℕ) (e e' : Entry) (heard heard' : ℕ → List Note) (busy busy' gone gone' : ℕ) (m n : Meaning) : Type 0 where
  pub was : slice_get held at ≡ Some e
  pub number : e'.number ≡ e.number
  pub before : gone ≤ at
  pub others : (j : ℕ) → j ≢ e.number → n.session j ≡ m.session j
  pub others_heard : (j : ℕ) → j ≢ e.number → heard' j ≡ heard j
  pub started : n.started ≡ m.started
  pub more : List FanCall
  pub calls : n.calls ≡ m.calls ++ more
  pub is_held : IsHeld set e'.router (heard' e.number) (n.session e.number)
  pub closed : at < gone' → (n.session e.number).closed ≡ true
  pub is_open : gone' ≤ at → (n.session e.number).closed ≡ false
  pub gone_before : (i : ℕ) → i ≢ at → i < gone' → i < gone
  pub open_before : (i : ℕ) → i ≢ at → gone' ≤ i → gone ≤ i
  pub settled : at ≢ busy' → IsSettled e'.router (n.session e.number)
  pub unfailed : at ≢ busy' → (x : ℕ) → HasFailed x (n.session e.number) → ⊥
  pub busy_before : (i : ℕ) (d : Entry) → slice_get held i ≡ Some d → i ≢ at → i ≢ busy' → i ≢ busy

pub changes : (set : Setting) (held : List Entry) (past : List Closing) (heard heard' : ℕ → List Note) (at : ℕ) (e e' : Entry) (busy busy' gone gone' : ℕ) (m n : Meaning) → Stands set no_more held past heard busy gone m → Turns set held at e e' heard heard' busy busy' gone gone' m n → Stands set no_more (put held at e') past heard' busy' gone' n
changes set held past heard heard' at e e' busy busy' gone gone' m n s t = record {
  started = subst (λ (o : Option Started). IsSome o) (sym t.started) s.started;
  rising = λ i j d f less p q.
      let a = old i d p in
      let b = old j f q in
      let r = s.rising i j a.0 b.0 less a.1 b.1 in
      omega (arith, r, a.2, b.2);
  each = λ i d p. cases (λ i d. IsHeld set d.router (heard' d.number) (n.session d.number)) (subst (λ k. IsHeld set e'.router (heard' k) (n.session k)) (sym t.number) t.is_held)
      (λ i d other p. subst (λ ns. IsHeld set d.router ns (n.session d.number)) (sym (t.others_heard d.number (elsewhere held i at d e s.rising other p t.was))) (at_old (λ u. IsHeld set d.router (heard d.number) u) i d other p (s.each i d p))) i d p;
  closed = λ i d p. cases (λ i d. i < gone' → (n.session d.number).closed ≡ true) (at_new (λ u d. at < gone' → u.closed ≡ true) t.closed) (λ i d other p under. at_old (λ u. u.closed ≡ true) i d other p (s.closed i d p (t.gone_before i other under))) i d p;
  is_open = λ i d p. cases (λ i d. gone' ≤ i → (n.session d.number).closed ≡ false) (at_new (λ u d. gone' ≤ at → u.closed ≡ false) t.is_open) (λ i d other p over. at_old (λ u. u.closed ≡ false) i d other p (s.is_open i d p (t.open_before i other over))) i d p;
  settled = λ i d p. cases (λ i d. i ≢ busy' → IsSettled d.router (n.session d.number)) (at_new (λ u d. at ≢ busy' → IsSettled d.router u) t.settled) (λ i d other p quiet. at_old (λ u. IsSettled d.router u) i d other p (s.settled i d p (t.busy_before i d p other quiet))) i d p;
  unfailed = λ i d p. cases (λ i d. i ≢ busy' → (x : ℕ) → HasFailed x (n.session d.number) → ⊥) (at_new (λ u d. at ≢ busy' → (x : ℕ) → HasFailed x u → ⊥) t.unfailed) (λ i d other p quiet. at_old (λ u. (x : ℕ) → HasFailed x u → ⊥) i d other p (s.unfailed i d p (t.busy_before i d p other quiet))) i d p;
  ended = λ i c p.
      let h = s.ended i c p in
      let other = two_numbers m c.0 e.number h.closed (s.is_open at e t.was t.before) in
      subst (λ ns. HasClosed set c.1 ns (n.session c.0)) (sym (t.others_heard c.0 other)) (subst (λ u. HasClosed set c.1 (heard c.0) u) (sym (t.others c.0 other)) h);
  once = s.once;
  apart = λ i j c d p q. let b = old j d q in λ same. s.apart i j c b.0 p b.1 (same ∙ b.2);
  broke = broken_on past m.calls n.calls t.more t.calls s.broke;
  covers = covered;
  unheard = λ k off. silent k off (decide k e.number);
}
  where
    within : at < length held
    within = get_within held at e t.was

    old : (i : ℕ) (d : Entry) → slice_get (put held at e') i ≡ Some d → ((f : Entry) × (slice_get held i ≡ Some f) × (d.number ≡ f.number))
    old i d p = by (put_cases held at e' d i within p)
      where
        by : ((i ≡ at) × (d ≡ e')) ⊎ ((i ≢ at) × (slice_get held i ≡ Some d)) → ((f : Entry) × (slice_get held i ≡ Some f) × (d.number ≡ f.number))
        by (inl c) = (e, ap (λ k. slice_get held k) c.0 ∙ t.was, ap (λ (x : Entry). x.number) c.1 ∙ t.number)
        by (inr c) = (d, c.1, refl)

    cases : (P : ℕ → Entry → Type 0) → P at e' → ((i : ℕ) (d : Entry) → i ≢ at → slice_get held i ≡ Some d → P i d) → (i : ℕ) (d : Entry) → slice_get (put held at e') i ≡ Some d → P i d
    cases P new others i d p = by (put_cases held at e' d i within p)
      where
        by : ((i ≡ at) × (d ≡ e')) ⊎ ((i ≢ at) × (slice_get held i ≡ Some d)) → P i d
        by (inl c) = subst (λ k. P k d) (sym c.0) (subst (λ x. P at x) (sym c.1) new)
        by (inr c) = others i d c.0 c.1

    at_new : (P : Told → Entry → Type 0) → P (n.session e.number) e' → P (n.session e'.number) e'
    at_new P p = subst (λ k. P (n.session k) e') (sym t.number) p

    at_old : (P : Told → Type 0) (i : ℕ) (d : Entry) → i ≢ at → slice_get held i ≡ Some d → P (m.session d.number) → P (n.session d.number)
    at_old P i d other p q = subst P (sym (t.others d.number (elsewhere held i at d e s.rising other p t.was))) q

    silent : (k : ℕ) → (n.session k).announced ≡ false → (k ≡ e.number) ⊎ (k ≢ e.number) → heard' k ≡ []
    silent k off (inl is) = absurd (true≢false (sym t.is_held.announced ∙ (ap (λ j. (n.session j).announced) (sym is) ∙ off)))
    silent k off (inr other) = t.others_heard k other ∙ s.unheard k (ap (λ (u : Told). u.announced) (sym (t.others k other)) ∙ off)

    covered : (k : ℕ) → (n.session k).announced ≡ true → ⊥ ⊎ IsAmong k (put held at e') past
    covered k announced = by (decide k e.number)
      where
        new_one : k ≡ e.number → IsAmong k (put held at e') past
        new_one is = IsOpenOne at e' (get_put_same held at e' within) (t.number ∙ sym is)

        among : IsAmong k held past → IsAmong k (put held at e') past
        among (IsEndedOne i c p q) = IsEndedOne i c p q
        among (IsOpenOne i d p q) = here (decide i at)
          where
            here : (i ≡ at) ⊎ (i ≢ at) → IsAmong k (put held at e') past
            here (inl is) = new_one (sym q ∙ ap (λ (x : Entry). x.number) (some_same (slice_get held i) d e p (ap (λ j. slice_get held j) is ∙ t.was)))
            here (inr other) = IsOpenOne i d (get_put_other held at i e' other ∙ p) q

        known : ⊥ ⊎ IsAmong k held past → ⊥ ⊎ IsAmong k (put held at e') past
        known (inl never) = absurd never
        known (inr a) = inr (among a)

        by : (k ≡ e.number) ⊎ (k ≢ e.number) → ⊥ ⊎ IsAmong k (put held at e') past
        by (inl is) = inr (new_one is)
        by (inr other) = known (s.covers k (ap (λ (u : Told). u.announced) (sym (t.others k other)) ∙ announced))

-- no session changes
pub same_all : (set : Setting) (More : ℕ → Type 0) (held : List Entry) (past : List Closing) (heard : ℕ → List Note) (busy gone : ℕ) (more : List FanCall) (m n : Meaning) → Stands set More held past heard busy gone m → ((j : ℕ) → n.session j ≡ m.session j) → n.started ≡ m.started → n.calls ≡ m.calls ++ more → Stands set More held past heard busy gone n
same_all set More held past heard busy gone more m n s same started calls = record {
  started = subst (λ (o : Option Started). IsSome o) (sym started) s.started;
  rising = s.rising;
  each = λ i e p. subst (λ u. IsHeld set e.router (heard e.number) u) (sym (same e.number)) (s.each i e p);
  closed = λ i e p under. ap (λ (u : Told). u.closed) (same e.number) ∙ s.closed i e p under;
  is_open = λ i e p over. ap (λ (u : Told). u.closed) (same e.number) ∙ s.is_open i e p over;
  settled = λ i e p other. subst (λ u. IsSettled e.router u) (sym (same e.number)) (s.settled i e p other);
  unfailed = λ i e p other. subst (λ u. (x : ℕ) → HasFailed x u → ⊥) (sym (same e.number)) (s.unfailed i e p other);
  ended = λ i c p. subst (λ u. HasClosed set c.1 (heard c.0) u) (sym (same c.0)) (s.ended i c p);
  once = s.once;
  apart = s.apart;
  broke = broken_on past m.calls n.calls more calls s.broke;
  covers = λ k announced. s.covers k (ap (λ (u : Told). u.announced) (sym (same k)) ∙ announced);
  unheard = λ k off. s.unheard k (ap (λ (u : Told). u.announced) (sym (same k)) ∙ off);
}

-- the same was heard of each session
pub heard_as : (set : Setting) (More : ℕ → Type 0) (held : List Entry) (past : List Closing) (heard heard' : ℕ → List Note) (busy gone : ℕ) (m : Meaning) → ((k : ℕ) → heard' k ≡ heard k) → Stands set More held past heard busy gone m → Stands set More held past heard' busy gone m
heard_as set More held past heard heard' busy gone m same s = record {
  started = s.started;
  rising = s.rising;
  each = λ i e p. subst (λ ns. IsHeld set e.router ns (m.session e.number)) (sym (same e.number)) (s.each i e p);
  closed = s.closed;
  is_open = s.is_open;
  settled = s.settled;
  unfailed = s.unfailed;
  ended = λ i c p. subst (λ ns. HasClosed set c.1 ns (m.session c.0)) (sym (same c.0)) (s.ended i c p);
  once = s.once;
  apart = s.apart;
  broke = s.broke;
  covers = s.covers;
  unheard = λ k off. same k ∙ s.unheard k off;
}

-- the end of a session was said
pub said_end : (set : Setting) (held : List Entry) (past : List Said) (k : ℕ) (o : RouteOutcome) (busy gone : ℕ) (m : Meaning) → Stands set no_more held (closings past ++ (k, o) ∷ []) (heard_in past) busy gone m → Stands set no_more held (closings (past ++ Ended k o ∷ [])) (heard_in (past ++ Ended k o ∷ [])) busy gone m
said_end set held past k o busy gone m s =
    subst (λ cs. Stands set no_more held cs (heard_in (past ++ Ended k o ∷ [])) busy gone m) (sym (closings_more past k o))
    (heard_as set no_more held (closings past ++ (k, o) ∷ []) (heard_in past) (heard_in (past ++ Ended k o ∷ [])) busy gone m (λ j. heard_ended past j k o) s)

-- every open session is settled: none is busy
pub is_quiet : (set : Setting) (held : List Entry) (past : List Closing) (heard : ℕ → List Note) (at busy gone : ℕ) (m : Meaning) → Stands set no_more held past heard at gone m → ((e : Entry) → slice_get held at ≡ Some e → IsSettled e.router (m.session e.number)) → ((e : Entry) → slice_get held at ≡ Some e → (x : ℕ) → HasFailed x (m.session e.number) → ⊥) → Stands set no_more held past heard busy gone m
is_quiet set held past heard at busy gone m s settles calm = record {
  started = s.started;
  rising = s.rising;
  each = s.each;
  closed = s.closed;
  is_open = s.is_open;
  settled = λ i e p _. by i e p (decide i at);
  unfailed = λ i e p _. fine i e p (decide i at);
  ended = s.ended;
  once = s.once;
  apart = s.apart;
  broke = s.broke;
  covers = s.covers;
  unheard = s.unheard;
}
  where
    by : (i : ℕ) (e : Entry) → slice_get held i ≡ Some e → (i ≡ at) ⊎ (i ≢ at) → IsSettled e.router (m.session e.number)
    by i e p (inl is) = settles e (ap (λ j. slice_get held j) (sym is) ∙ p)
    by i e p (inr other) = s.settled i e p other

    fine : (i : ℕ) (e : Entry) → slice_get held i ≡ Some e → (i ≡ at) ⊎ (i ≢ at) → (x : ℕ) → HasFailed x (m.session e.number) → ⊥
    fine i e p (inl is) = calm e (ap (λ j. slice_get held j) (sym is) ∙ p)
    fine i e p (inr other) = s.unfailed i e p other

-- ---- a session is closed

closed_failed : (x : ℕ) (t : Told) → HasFailed x t → HasFailed x (record t { closed = true })
closed_failed x t f = f

pub closed_calm : (x : ℕ) (t : Told) → HasFailed x (record t { closed = true }) → HasFailed x t
closed_calm x t f = f

closed_outcome : (set : Setting) (o : RouteOutcome) (notes : List Note) (t : Told) → IsOutcome set o notes t → IsOutcome set o notes (record t { closed = true })
closed_outcome set o notes t (NotOpened a none b calm) = NotOpened a none b (λ x f. calm x (closed_calm x t f))
closed_outcome set o notes t (LinkFailed x s a f calm fits) = LinkFailed x s a (closed_failed x t f) (λ y other g. calm y other (closed_calm y t g)) fits
closed_outcome set o notes t (OfItself s a calm fits) = OfItself s a (λ x f. calm x (closed_calm x t f)) fits

-- one more has ended: it is closed now, and was open before
pub record Ends (set : Setting) (past : List Closing) (heard : ℕ → List Note) (k : ℕ) (o : RouteOutcome) (m n : Meaning) : Type 0 where
  pub announced : (m.session k).announced ≡ true
  pub was_open : (m.session k).closed ≡ false
  pub why : IsOutcome set o (heard k) (m.session k)
  pub ended : (i : ℕ) (c : Closing) → slice_get past i ≡ Some c → HasClosed set c.1 (heard c.0) (m.session c.0)
  pub once : (i j : ℕ) (c d : Closing) → i < j → slice_get past i ≡ Some c → slice_get past j ≡ Some d → c.0 ≢ d.0
  pub change : Changes k (Closed k) Closes m n

ended_more : (set : Setting) (past : List Closing) (heard : ℕ → List Note) (k : ℕ) (o : RouteOutcome) (m n : Meaning) → Ends set past heard k o m n → (i : ℕ) (c : Closing) → slice_get (past ++ (k, o) ∷ []) i ≡ Some c → HasClosed set c.1 (heard c.0) (n.session c.0)
ended_more set past heard k o m n e i c p = by (behind_cases past (k, o) c i p)
  where
    last : HasClosed set o (heard k) (n.session k)
    last = subst (λ u. HasClosed set o (heard k) u) (sym e.change.session) (record { announced = e.announced; closed = refl; why = closed_outcome set o (heard k) (m.session k) e.why })

    by : ((i ≡ length past) × (c ≡ (k, o))) ⊎ (slice_get past i ≡ Some c) → HasClosed set c.1 (heard c.0) (n.session c.0)
    by (inl x) = subst (λ (d : Closing). HasClosed set d.1 (heard d.0) (n.session d.0)) (sym x.1) last
    by (inr x) =
        let h = e.ended i c x in
        subst (λ u. HasClosed set c.1 (heard c.0) u) (sym (e.change.others c.0 (two_numbers m c.0 k h.closed e.was_open))) h

once_more : (set : Setting) (past : List Closing) (heard : ℕ → List Note) (k : ℕ) (o : RouteOutcome) (m n : Meaning) → Ends set past heard k o m n → (i j : ℕ) (c d : Closing) → i < j → slice_get (past ++ (k, o) ∷ []) i ≡ Some c → slice_get (past ++ (k, o) ∷ []) j ≡ Some d → c.0 ≢ d.0
once_more set past heard k o m n e i j c d less p q = by (behind_cases past (k, o) c i p) (behind_cases past (k, o) d j q)
  where
    by : ((i ≡ length past) × (c ≡ (k, o))) ⊎ (slice_get past i ≡ Some c) → ((j ≡ length past) × (d ≡ (k, o))) ⊎ (slice_get past j ≡ Some d) → c.0 ≢ d.0
    by (inl x) (inl y) = absurd (omega (arith, less, x.0, y.0))
    by (inl x) (inr y) = absurd (omega (arith, less, x.0, get_within past j d y))
    by (inr x) (inl y) = subst (λ (z : Closing). c.0 ≢ z.0) (sym y.1) (two_numbers m c.0 k (e.ended i c x).closed e.was_open)
    by (inr x) (inr y) = e.once i j c d less x y

-- the session at a place has ended, and is let go
pub removes : (set : Setting) (held : List Entry) (past : List Closing) (heard : ℕ → List Note) (at : ℕ) (e : Entry) (o : RouteOutcome) (m n : Meaning) → slice_get held at ≡ Some e → Stands set no_more held past heard at 0 m → IsOutcome set o (heard e.number) (m.session e.number) → ((x : ℕ) → o ≡ outcome.LinkFault x → EndsFailing e.number x m.calls) → Changes e.number (Closed e.number) Closes m n → Stands set no_more (remove held at) (past ++ (e.number, o) ∷ []) heard (length (remove held at)) 0 n
removes set held past heard at e o m n was s why last change = record {
  started = subst (λ (x : Option Started). IsSome x) (sym change.started) s.started;
  rising = λ i j d f less p q. s.rising (shift at i) (shift at j) d f (shift_rises at i j less) (back i d p) (back j f q);
  each = λ i d p. stay (λ u. IsHeld set d.router (heard d.number) u) i d p (s.each (shift at i) d (back i d p));
  closed = λ i d p under. absurd (omega (arith, under));
  is_open = λ i d p over. stay (λ u. u.closed ≡ false) i d p (s.is_open (shift at i) d (back i d p) (omega arith));
  settled = λ i d p other. stay (λ u. IsSettled d.router u) i d p (s.settled (shift at i) d (back i d p) (shift_elsewhere at i));
  unfailed = λ i d p other. stay (λ u. (x : ℕ) → HasFailed x u → ⊥) i d p (s.unfailed (shift at i) d (back i d p) (shift_elsewhere at i));
  ended = ended_more set past heard e.number o m n ends;
  once = once_more set past heard e.number o m n ends;
  apart = apart_on;
  broke = broken_more past e.number o m.calls n.calls change.calls last s.broke;
  covers = covered;
  unheard = λ k off. s.unheard k (was_off k off (decide k e.number));
}
  where
    within : at < length held
    within = get_within held at e was

    was_off : (k : ℕ) → (n.session k).announced ≡ false → (k ≡ e.number) ⊎ (k ≢ e.number) → (m.session k).announced ≡ false
    was_off k off (inl is) = ap (λ j. (m.session j).announced) is ∙ (sym (ap (λ (u : Told). u.announced) change.session) ∙ (ap (λ j. (n.session j).announced) (sym is) ∙ off))
    was_off k off (inr other) = ap (λ (u : Told). u.announced) (sym (change.others k other)) ∙ off

    ends : Ends set past heard e.number o m n
    ends = record { announced = (s.each at e was).announced; was_open = s.is_open at e was (omega arith); why = why; ended = s.ended; once = s.once; change = change }

    back : (i : ℕ) (d : Entry) → slice_get (remove held at) i ≡ Some d → slice_get held (shift at i) ≡ Some d
    back i d p = sym (shift_get held at i within) ∙ p

    apart_on : (i j : ℕ) (c : Closing) (d : Entry) → slice_get (past ++ (e.number, o) ∷ []) i ≡ Some c → slice_get (remove held at) j ≡ Some d → c.0 ≢ d.number
    apart_on i j c d p q = by (behind_cases past (e.number, o) c i p)
      where
        by : ((i ≡ length past) × (c ≡ (e.number, o))) ⊎ (slice_get past i ≡ Some c) → c.0 ≢ d.number
        by (inl x) = λ same. elsewhere held (shift at j) at d e s.rising (shift_elsewhere at j) (back j d q) was (sym same ∙ ap (λ (z : Closing). z.0) x.1)
        by (inr x) = s.apart i (shift at j) c d x (back j d q)

    stay : (P : Told → Type 0) (i : ℕ) (d : Entry) → slice_get (remove held at) i ≡ Some d → P (m.session d.number) → P (n.session d.number)
    stay P i d p q = subst P (sym (change.others d.number (elsewhere held (shift at i) at d e s.rising (shift_elsewhere at i) (back i d p) was))) q

    covered : (k : ℕ) → (n.session k).announced ≡ true → ⊥ ⊎ IsAmong k (remove held at) (past ++ (e.number, o) ∷ [])
    covered k announced = by (decide k e.number)
      where
        among : IsAmong k held past → k ≢ e.number → IsAmong k (remove held at) (past ++ (e.number, o) ∷ [])
        among (IsEndedOne i c p q) other = IsEndedOne i c (get_before past (e.number, o) c i p) q
        among (IsOpenOne i d p q) other = here (decide i at)
          where
            here : (i ≡ at) ⊎ (i ≢ at) → IsAmong k (remove held at) (past ++ (e.number, o) ∷ [])
            here (inl is) = absurd (other (sym q ∙ ap (λ (x : Entry). x.number) (some_same (slice_get held i) d e p (ap (λ j. slice_get held j) is ∙ was))))
            here (inr off) =
                let u = unshift at i off in
                IsOpenOne u.0 d (shift_get held at u.0 within ∙ (ap (λ j. slice_get held j) u.1 ∙ p)) q

        known : ⊥ ⊎ IsAmong k held past → k ≢ e.number → ⊥ ⊎ IsAmong k (remove held at) (past ++ (e.number, o) ∷ [])
        known (inl never) other = absurd never
        known (inr a) other = inr (among a other)

        by : (k ≡ e.number) ⊎ (k ≢ e.number) → ⊥ ⊎ IsAmong k (remove held at) (past ++ (e.number, o) ∷ [])
        by (inl is) = inr (IsEndedOne (length past) (e.number, o) (get_last past (e.number, o)) (sym is))
        by (inr other) = known (s.covers k (ap (λ (u : Told). u.announced) (sym (change.others k other)) ∙ announced)) other

-- ---- a session was announced

new_unfailed : (x : ℕ) → HasFailed x new_session → ⊥
new_unfailed x (inl f) = absurd (cc)
new_unfailed x (inr f) = absurd (cc)

reopened_unfailed : (x : ℕ) (t : Told) → HasFailed x (reopened t) → ⊥
reopened_unfailed x t (inl f) = absurd (cc)
reopened_unfailed x t (inr f) = absurd (cc)

abbrev is_link_fault : RouteOutcome → Bool
is_link_fault outcome.Clean = false
is_link_fault (outcome.ClientFault n h) = false
is_link_fault (outcome.UpstreamFault u n h) = false
is_link_fault (outcome.UpstreamEnded u n) = false
is_link_fault (outcome.Unsolicited u n calls) = false
is_link_fault (outcome.LinkFault x) = true
is_link_fault outcome.Full = false
is_link_fault outcome.NoMemory = false

other_outcome : (x : ℕ) (o : RouteOutcome) → is_link_fault o ≡ false → o ≡ outcome.LinkFault x → ⊥
other_outcome x o off is = absurd (true≢false (sym (ap is_link_fault is) ∙ off))

-- and is closed at once
pub refuses : (set : Setting) (begun : Meaning) (spent : ℕ) (held : List Entry) (said : List Said) (k : ℕ) (o : RouteOutcome) (m n : Meaning) → Awaits set begun spent k held said m → (o ≡ outcome.Full) ⊎ (o ≡ outcome.NoMemory) → Changes k (Closed k) Closes m n → Stands set no_more held (closings said ++ (k, o) ∷ []) (heard_in said) (length held) 0 n
refuses set begun spent held said k o m n a why change = record {
  started = subst (λ (x : Option Started). IsSome x) (sym change.started) s.started;
  rising = s.rising;
  each = λ i d p. stay (λ u. IsHeld set d.router (heard_in said d.number) u) i d p (s.each i d p);
  closed = λ i d p under. absurd (omega (arith, under));
  is_open = λ i d p over. stay (λ u. u.closed ≡ false) i d p (s.is_open i d p over);
  settled = λ i d p other. stay (λ u. IsSettled d.router u) i d p (s.settled i d p other);
  unfailed = λ i d p other. stay (λ u. (x : ℕ) → HasFailed x u → ⊥) i d p (s.unfailed i d p other);
  ended = ended_more set (closings said) (heard_in said) k o m n ends;
  once = once_more set (closings said) (heard_in said) k o m n ends;
  apart = apart_on;
  broke = broken_more (closings said) k o m.calls n.calls change.calls (λ x is. absurd (no_link_fault x why is)) s.broke;
  covers = λ j announced. by j announced (decide j k);
  unheard = λ j off. s.unheard j (was_off j off (decide j k));
}
  where
    s : Stands set (λ j. j ≡ k) held (closings said) (heard_in said) (length held) 0 m
    s = a.stands

    was_off : (j : ℕ) → (n.session j).announced ≡ false → (j ≡ k) ⊎ (j ≢ k) → (m.session j).announced ≡ false
    was_off j off (inl is) = ap (λ i. (m.session i).announced) is ∙ (sym (ap (λ (u : Told). u.announced) change.session) ∙ (ap (λ i. (n.session i).announced) (sym is) ∙ off))
    was_off j off (inr other) = ap (λ (u : Told). u.announced) (sym (change.others j other)) ∙ off

    ends : Ends set (closings said) (heard_in said) k o m n
    ends = record { announced = ap (λ (u : Told). u.announced) a.new; was_open = ap (λ (u : Told). u.closed) a.new; why = NotOpened why a.unheard (ap history_of a.new) (subst (λ u. (x : ℕ) → HasFailed x u → ⊥) (sym a.new) new_unfailed); ended = s.ended; once = s.once; change = change }

    no_link_fault : (x : ℕ) → (o ≡ outcome.Full) ⊎ (o ≡ outcome.NoMemory) → o ≡ outcome.LinkFault x → ⊥
    no_link_fault x (inl full) is = other_outcome x outcome.Full refl (sym full ∙ is)
    no_link_fault x (inr none) is = other_outcome x outcome.NoMemory refl (sym none ∙ is)

    apart_on : (i j : ℕ) (c : Closing) (d : Entry) → slice_get (closings said ++ (k, o) ∷ []) i ≡ Some c → slice_get held j ≡ Some d → c.0 ≢ d.number
    apart_on i j c d p q = by (behind_cases (closings said) (k, o) c i p)
      where
        by : ((i ≡ length (closings said)) × (c ≡ (k, o))) ⊎ (slice_get (closings said) i ≡ Some c) → c.0 ≢ d.number
        by (inl x) = λ same. absurd (omega (arith, a.above j d q, same, ap (λ (z : Closing). z.0) x.1))
        by (inr x) = s.apart i j c d x q

    stay : (P : Told → Type 0) (i : ℕ) (d : Entry) → slice_get held i ≡ Some d → P (m.session d.number) → P (n.session d.number)
    stay P i d p q = subst P (sym (change.others d.number (λ e. absurd (omega (arith, a.above i d p, e))))) q

    known : (j : ℕ) → (j ≡ k) ⊎ IsAmong j held (closings said) → ⊥ ⊎ IsAmong j held (closings said ++ (k, o) ∷ [])
    known j (inl is) = inr (IsEndedOne (length (closings said)) (k, o) (get_last (closings said) (k, o)) (sym is))
    known j (inr (IsOpenOne i d p q)) = inr (IsOpenOne i d p q)
    known j (inr (IsEndedOne i c p q)) = inr (IsEndedOne i c (get_before (closings said) (k, o) c i p) q)

    by : (j : ℕ) → (n.session j).announced ≡ true → (j ≡ k) ⊎ (j ≢ k) → ⊥ ⊎ IsAmong j held (closings said ++ (k, o) ∷ [])
    by j announced (inl is) = known j (inl is)
    by j announced (inr other) = known j (s.covers j (ap (λ (u : Told). u.announced) (sym (change.others j other)) ∙ announced))

-- or is opened
opens : (set : Setting) (begun : Meaning) (spent : ℕ) (held : List Entry) (said : List Said) (e : Entry) (m : Meaning) → Awaits set begun spent e.number held said m → rules_in e.router ≡ set.rules → e.router.limit ≡ set.limit → e.router.max_calls ≡ set.max_calls → targets_of e.router ≡ set.targets → Matches e.router [] nothing → e.router.rooms ≡ rooms_for set.limit set.max_calls set.targets → HoldsWithin e.router → Stands set no_more (held ++ e ∷ []) (closings said) (heard_in said) (length held) 0 m
opens set begun spent held said e m a judged limited calls targets matches rooms holds = record {
  started = s.started;
  rising = rises;
  each = λ i d p. cases (λ i d. IsHeld set d.router (heard_in said d.number) (m.session d.number)) is_held s.each i d p;
  closed = λ i d p under. absurd (omega (arith, under));
  is_open = λ i d p. cases (λ i d. 0 ≤ i → (m.session d.number).closed ≡ false) (λ _. ap (λ (u : Told). u.closed) a.new) s.is_open i d p;
  settled = λ i d p. cases (λ i d. i ≢ length held → IsSettled d.router (m.session d.number)) (λ off. absurd (off refl)) s.settled i d p;
  unfailed = λ i d p. cases (λ i d. i ≢ length held → (x : ℕ) → HasFailed x (m.session d.number) → ⊥) (λ off. absurd (off refl)) s.unfailed i d p;
  ended = s.ended;
  once = s.once;
  apart = λ i j c d p q. cases (λ j d. c.0 ≢ d.number) (two_numbers m c.0 e.number (s.ended i c p).closed (ap (λ (u : Told). u.closed) a.new)) (λ j d q. s.apart i j c d p q) j d q;
  broke = s.broke;
  covers = λ j announced. known j (s.covers j announced);
  unheard = s.unheard;
}
  where
    s : Stands set (λ j. j ≡ e.number) held (closings said) (heard_in said) (length held) 0 m
    s = a.stands

    is_held : IsHeld set e.router (heard_in said e.number) (m.session e.number)
    is_held = subst (λ u. IsHeld set e.router (heard_in said e.number) u) (sym a.new) (record { announced = refl; judged = judged; limited = limited; calls = calls; targets = targets; matches = subst (λ ns. Matches e.router ns nothing) (sym a.unheard) matches; rooms = rooms; holds = holds })

    cases : (P : ℕ → Entry → Type 0) → P (length held) e → ((i : ℕ) (d : Entry) → slice_get held i ≡ Some d → P i d) → (i : ℕ) (d : Entry) → slice_get (held ++ e ∷ []) i ≡ Some d → P i d
    cases P new others i d p = by (behind_cases held e d i p)
      where
        by : ((i ≡ length held) × (d ≡ e)) ⊎ (slice_get held i ≡ Some d) → P i d
        by (inl c) = subst (λ k. P k d) (sym c.0) (subst (λ x. P (length held) x) (sym c.1) new)
        by (inr c) = others i d c

    rises : IsRising (held ++ e ∷ [])
    rises i j d f less p q = by (behind_cases held e d i p) (behind_cases held e f j q)
      where
        by : ((i ≡ length held) × (d ≡ e)) ⊎ (slice_get held i ≡ Some d) → ((j ≡ length held) × (f ≡ e)) ⊎ (slice_get held j ≡ Some f) → d.number < f.number
        by (inl x) (inl y) = absurd (omega (arith, less, x.0, y.0))
        by (inl x) (inr y) = absurd (omega (arith, less, x.0, get_within held j f y))
        by (inr x) (inl y) = subst (λ (z : Entry). d.number < z.number) (sym y.1) (a.above i d x)
        by (inr x) (inr y) = s.rising i j d f less x y

    known : (j : ℕ) → (j ≡ e.number) ⊎ IsAmong j held (closings said) → ⊥ ⊎ IsAmong j (held ++ e ∷ []) (closings said)
    known j (inl is) = inr (IsOpenOne (length held) e (get_last held e) (sym is))
    known j (inr (IsOpenOne i d p q)) = inr (IsOpenOne i d (get_before held e d i p) q)
    known j (inr (IsEndedOne i c p q)) = inr (IsEndedOne i c p q)

-- ---- events

pub announces : (set : Setting) (begun : Meaning) (spent : ℕ) (held : List Entry) (past : List Said) (k : ℕ) (m n : Meaning) → Waits set begun spent held past m → ((j : ℕ) → (m.session j).announced ≡ true → j < k) → Comes k (event.Opened k) new_session m n → Awaits set begun (spent + 1) k held past n
announces set begun spent held past k m n waits over comes = record {
  stands = record {
    started = subst (λ (x : Option Started). IsSome x) (sym comes.started) s.started;
    rising = s.rising;
    each = λ i d p. stay (λ u. IsHeld set d.router (heard_in past d.number) u) i d p (s.each i d p);
    closed = λ i d p under. absurd (omega (arith, under));
    is_open = λ i d p from. stay (λ u. u.closed ≡ false) i d p (s.is_open i d p from);
    settled = λ i d p other. stay (λ u. IsSettled d.router u) i d p (s.settled i d p other);
    unfailed = λ i d p other. stay (λ u. (x : ℕ) → HasFailed x u → ⊥) i d p (s.unfailed i d p other);
    ended = λ i c p.
        let h = s.ended i c p in
        subst (λ u. HasClosed set c.1 (heard_in past c.0) u) (sym (comes.others c.0 (λ e. absurd (omega (arith, over c.0 h.announced, e))))) h;
    once = s.once;
    apart = s.apart;
    broke = broken_on (closings past) m.calls n.calls _ comes.calls s.broke;
    covers = λ j announced. by j announced (decide j k);
    unheard = λ j off. s.unheard j (was_off j off (decide j k));
  };
  unheard = s.unheard k (not_yet (m.session k).announced refl);
  in_order = waits.in_order;
  new = comes.session;
  above = above;
  work = opened_work begun set spent (length held) (closings past) k m n waits.work over (λ i c p. (s.ended i c p).announced) comes;
}
  where
    s : Rests set held (closings past) (heard_in past) m
    s = waits.stands

    not_yet : (b : Bool) → (m.session k).announced ≡ b → (m.session k).announced ≡ false
    not_yet true is = absurd (omega (arith, over k is))
    not_yet false is = is

    was_off : (j : ℕ) → (n.session j).announced ≡ false → (j ≡ k) ⊎ (j ≢ k) → (m.session j).announced ≡ false
    was_off j off (inl is) = ap (λ i. (m.session i).announced) is ∙ not_yet (m.session k).announced refl
    was_off j off (inr other) = ap (λ (u : Told). u.announced) (sym (comes.others j other)) ∙ off

    above : (i : ℕ) (e : Entry) → slice_get held i ≡ Some e → e.number < k
    above i e p = over e.number (s.each i e p).announced

    stay : (P : Told → Type 0) (i : ℕ) (d : Entry) → slice_get held i ≡ Some d → P (m.session d.number) → P (n.session d.number)
    stay P i d p q = subst P (sym (comes.others d.number (λ e. absurd (omega (arith, above i d p, e))))) q

    known : (j : ℕ) → ⊥ ⊎ IsAmong j held (closings past) → (j ≡ k) ⊎ IsAmong j held (closings past)
    known j (inl never) = absurd never
    known j (inr x) = inr x

    by : (j : ℕ) → (n.session j).announced ≡ true → (j ≡ k) ⊎ (j ≢ k) → (j ≡ k) ⊎ IsAmong j held (closings past)
    by j announced (inl is) = inl is
    by j announced (inr other) = known j (s.covers j (ap (λ (u : Told). u.announced) (sym (comes.others j other)) ∙ announced))

pub names : (set : Setting) (begun : Meaning) (spent : ℕ) (held : List Entry) (past : List Said) (k : ℕ) (m n : Meaning) → Waits set begun spent held past m → IsOpen k m → Comes k (event.Ready k) (reopened (m.session k)) m n → IsNamed set begun (spent + 1) k held past n
names set begun spent held past k m n waits open_at comes = known (s.covers k open_at.0)
  where
    s : Rests set held (closings past) (heard_in past) m
    s = waits.stands

    here : (i : ℕ) (e : Entry) → slice_get held i ≡ Some e → e.number ≡ k → IsNamed set begun (spent + 1) k held past n
    here i e p q =
        let h = s.each i e p in
        let after : n.session e.number ≡ reopened (m.session e.number) = ap n.session q ∙ (comes.session ∙ ap (λ j. reopened (m.session j)) (sym q)) in (
          i,
          e,
          p,
          q,
          record {
            stands = subst (λ xs. Stands set no_more xs (closings past) (heard_in past) i 0 n) (put_as_it_was held i e p)
                (changes set held (closings past) (heard_in past) (heard_in past) i e e (length held) i 0 0 m n s (record {
                  was = p;
                  number = refl;
                  before = omega arith;
                  others = λ j other. comes.others j (λ is. other (is ∙ sym q));
                  others_heard = λ j other. refl;
                  started = comes.started;
                  more = _;
                  calls = comes.calls;
                  is_held = subst (λ u. IsHeld set e.router (heard_in past e.number) u) (sym after) (record { announced = h.announced; judged = h.judged; limited = h.limited; calls = h.calls; targets = h.targets; matches = h.matches; rooms = h.rooms; holds = h.holds });
                  closed = λ under. absurd (omega (arith, under));
                  is_open = λ _. ap (λ (u : Told). u.closed) after ∙ s.is_open i e p (omega arith);
                  gone_before = λ j _ under. under;
                  open_before = λ j _ from. from;
                  settled = λ off. absurd (off refl);
                  unfailed = λ off. absurd (off refl);
                  busy_before = λ j d got off _. λ is. absurd (omega (arith, get_within held j d got, is));
                }));
            going = λ d got. (s.settled i d got (λ is. absurd (omega (arith, get_within held i d got, is)))).going;
            work = ready_work begun set spent (length held) (closings past) k m n waits.work comes;
            in_order = waits.in_order;
            unfailed = λ d got. subst (λ (f : Entry). (x : ℕ) → HasFailed x (n.session f.number) → ⊥) (some_same (slice_get held i) e d p got) (subst (λ u. (x : ℕ) → HasFailed x u → ⊥) (sym after) (λ x. reopened_unfailed x (m.session e.number)));
          },
        )

    known : ⊥ ⊎ IsAmong k held (closings past) → IsNamed set begun (spent + 1) k held past n
    known (inl never) = absurd never
    known (inr (IsOpenOne i e p q)) = here i e p q
    known (inr (IsEndedOne i c p q)) = absurd (two_numbers m c.0 k (s.ended i c p).closed open_at.1 q)

-- a session that was just opened is turned
pub opens_busy : (set : Setting) (begun : Meaning) (spent : ℕ) (held : List Entry) (past : List Said) (e : Entry) (m : Meaning) → Awaits set begun spent e.number held past m → rules_in e.router ≡ set.rules → e.router.limit ≡ set.limit → e.router.max_calls ≡ set.max_calls → targets_of e.router ≡ set.targets → Matches e.router [] nothing → e.router.rooms ≡ rooms_for set.limit set.max_calls set.targets → HoldsWithin e.router → e.router.outcome ≡ None → length held < set.sessions → IsBusy set begun spent (length held) (held ++ e ∷ []) past m
opens_busy set begun spent held past e m a judged limited calls targets matches rooms holds going few = record {
  stands = opens set begun spent held past e m a judged limited calls targets matches rooms holds;
  going = λ d got. subst (λ (f : Entry). f.router.outcome ≡ None) (some_same (slice_get (held ++ e ∷ []) (length held)) e d (get_last held e) got) going;
  unfailed = λ d got. subst (λ (f : Entry). (x : ℕ) → HasFailed x (m.session f.number) → ⊥) (some_same (slice_get (held ++ e ∷ []) (length held)) e d (get_last held e) got) (subst (λ u. (x : ℕ) → HasFailed x u → ⊥) (sym a.new) new_unfailed);
  work = held_work begun set spent (length held) (length (held ++ e ∷ [])) (closings past) m a.work (omega (arith, length-append held (e ∷ []), few));
  in_order = a.in_order;
}

-- ---- turns

pub turns_on : (set : Setting) (held : List Entry) (past : List Said) (added : List Note) (at : ℕ) (e e' : Entry) (T : List FanCall → Told → Told → Type 0) (m n : Meaning) → slice_get held at ≡ Some e → e'.number ≡ e.number → IsSame e.router e'.router → HoldsWithin e'.router → Stands set no_more held (closings past) (heard_in past) at 0 m → Matches e'.router (heard_in past e.number ++ added) (history_of (n.session e.number)) → AllGrow (m.session e.number) (n.session e.number) → Moves e.number T m n → Stands set no_more (put held at e') (closings (past ++ refusals e.number added)) (heard_in (past ++ refusals e.number added)) at 0 n
turns_on set held past added at e e' T m n was number same holds s matches grows change =
    let h = s.each at e was in
    let heard' = heard_in (past ++ refusals e.number added) in
    subst (λ cs. Stands set no_more (put held at e') cs heard' at 0 n) (sym (closings_kept past e.number added))
    (changes set held (closings past) (heard_in past) heard' at e e' at at 0 0 m n s (record {
      was = was;
      number = number;
      before = omega arith;
      others = change.others;
      others_heard = λ j other. heard_same past j e.number added other;
      started = change.started;
      more = change.made;
      calls = change.calls;
      is_held = record {
        announced = grows.announced ∙ h.announced;
        judged = ap rules_of same.routing ∙ h.judged;
        limited = same.limit ∙ h.limited;
        calls = same.max_calls ∙ h.calls;
        targets = same.targets ∙ h.targets;
        matches = subst (λ ns. Matches e'.router ns (history_of (n.session e.number))) (sym (heard_more past e.number added)) matches;
        rooms = same.rooms ∙ h.rooms;
        holds = holds;
      };
      closed = λ under. absurd (omega (arith, under));
      is_open = λ _. grows.closed ∙ s.is_open at e was (omega arith);
      gone_before = λ j _ under. under;
      open_before = λ j _ from. from;
      settled = λ off. absurd (off refl);
      unfailed = λ off. absurd (off refl);
      busy_before = λ j d p off quiet. quiet;
    }))

pub was_failed : (s t : Told) → NoneFailed s t → (x : ℕ) → HasFailed x t → HasFailed x s
was_failed s t calm x (inl f) = inl (calm.reads x f)
was_failed s t calm x (inr f) = inr (calm.writes x f)

-- the entry that was written at a place, by its session
pub at_place : (held : List Entry) (at : ℕ) (e e' d : Entry) (P : Seen → Told → Type 0) (n : Meaning) → slice_get held at ≡ Some e → e'.number ≡ e.number → P e'.router (n.session e.number) → slice_get (put held at e') at ≡ Some d → P d.router (n.session d.number)
at_place held at e e' d P n was number p got =
    subst (λ (f : Entry). P f.router (n.session f.number)) (some_same (slice_get (put held at e') at) e' d (get_put_same held at e' (get_within held at e was)) got)
    (subst (λ k. P e'.router (n.session k)) (sym number) p)
