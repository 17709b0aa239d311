-- What a server has spent, and which sessions found it full, from one meaning to the next.
use Rattle.std.proofs.Common.{◌≡◌, ◌≢◌, ℕ, zero, suc, ◌+◌, ◌-◌, ◌<◌, ◌≤◌, ◌⊎◌, inl, inr, List, [], ◌∷◌, ◌++◌, length, take, Some, Bool, true, false, true≢false, if◌then◌else◌, arith, ap, sym, ◌∙◌, subst, refl, length-append}
use Rattle.std.proofs.lemmas.List.{take-append-le}
use Rattle.std.proofs.Math.Seq.{take-append_seam}
use Rattle.std.specs.List.{slice_get}
use Rattle.gate_base.specs.Causes.{one_more}
use Rattle.gate_hub.specs.Meaning.{Link}
use Rattle.gate_fan.specs.Meaning.{Told, FanCall, Closed, Meaning, new_session, reopened}
use Rattle.gate_fan.specs.Fans.{Changes, Closes, Comes}
use Rattle.gate_hub.specs.declared.hub.HubNext.TheVariants as event
use Rattle.session_core.specs.Notes.{Note}
use Rattle.service_router.specs.declared.outcome.RouteOutcome.{RouteOutcome}
use Rattle.service_router.specs.declared.outcome.RouteOutcome.TheVariants as outcome
use Rattle.route_server.specs.Turning.{Grows, AllGrow, Moves, long_turn, link_amount, amount_below, amount}
use Rattle.route_server.specs.Saying.{Closing}
use Rattle.route_server.specs.Serving.{Setting, Entry, Stands, IsAmong, IsOpenOne, IsEndedOne, is_over, no_more, ended_numbers}
use Rattle.route_server.specs.Spending.{moved_of, moved_below, HasSpent}
use Rattle.route_server.specs.Filling.{HasNotEnded, AreOpenBefore, IsFullWhere}
use Rattle.route_server.specs.Working.{Tally, IsAtWork}
use Rattle.route_server.proofs.Ordering.{pieces_close_none, order_kept, order_more}
use Rattle.route_server.proofs.Places.{decide, some_same, get_within, behind_cases}

-- ---- what moves

ends_kept : (a b : Bool) → (a ≡ true → b ≡ true) → (if a then 1 else 0) ≤ (if b then 1 else 0)
ends_kept true true p = omega arith
ends_kept true false p = absurd (true≢false (sym (p refl)))
ends_kept false true p = omega arith
ends_kept false false p = omega arith

link_grows : (a b : Link) → Grows a b → link_amount a ≤ link_amount b
link_grows a b p =
    let received = ap length p.received.1 ∙ length-append a.received p.received.0 in
    let sent = ap length p.sent.1 ∙ length-append a.sent p.sent.0 in
    omega (arith, received, sent, ends_kept a.ended b.ended p.ended)

amount_on : (n : ℕ) (s t : Told) → AllGrow s t → amount_below n s ≤ amount_below n t
amount_on zero s t p = omega arith
amount_on (suc n) s t p = omega (arith, amount_on n s t p, link_grows (s.link n) (t.link n) (p.ports n))

moved_by : (targets : ℕ) (s t : Told) (more : ℕ) → t.announced ≡ s.announced → s.announced ≡ true → amount targets s + more ≤ amount targets t → moved_of targets s + more ≤ moved_of targets t
moved_by targets s t more same on p =
    let a : moved_of targets s ≡ amount targets s = ap (λ b. if b then amount targets s else 0) on in
    let b : moved_of targets t ≡ amount targets t = ap (λ b. if b then amount targets t else 0) (same ∙ on) in
    omega (arith, a, b, p)

pub moved_on : (targets : ℕ) (s t : Told) → s.announced ≡ true → AllGrow s t → moved_of targets s ≤ moved_of targets t
moved_on targets s t on p =
    let grown = amount_on (targets + 1) s t p in
    let all = moved_by targets s t 0 p.announced on (omega (arith, grown)) in
    omega (arith, all)

pub moved_enough_on : (targets : ℕ) (s t : Told) → s.announced ≡ true → t.announced ≡ s.announced → amount targets s + long_turn ≤ amount targets t → moved_of targets s + long_turn ≤ moved_of targets t
moved_enough_on targets s t on same p = moved_by targets s t long_turn same on p

amounts_alike : (n : ℕ) (s t : Told) → ((x : ℕ) → link_amount (t.link x) ≡ link_amount (s.link x)) → amount_below n t ≡ amount_below n s
amounts_alike zero s t same = refl
amounts_alike (suc n) s t same = omega (arith, amounts_alike n s t same, same n)

-- what went over a session that is announced as it was, where as much went over each port
moved_alike : (targets : ℕ) (s t : Told) → t.announced ≡ s.announced → ((x : ℕ) → link_amount (t.link x) ≡ link_amount (s.link x)) → moved_of targets t ≡ moved_of targets s
moved_alike targets s t announced same = ap (λ b. if b then amount targets t else 0) announced ∙ ap (λ n. if s.announced then n else 0) (amounts_alike (targets + 1) s t same)

-- no session has moved less
abbrev pub MovedOn : ℕ → Meaning → Meaning → Type 0
MovedOn targets m n = (j : ℕ) → moved_of targets (m.session j) ≤ moved_of targets (n.session j)

-- each is announced as it was
abbrev pub SameOnes : Meaning → Meaning → Type 0
SameOnes m n = (j : ℕ) → (n.session j).announced ≡ (m.session j).announced

pub one_moved : (targets k : ℕ) (m n : Meaning) → ((j : ℕ) → j ≢ k → n.session j ≡ m.session j) → moved_of targets (m.session k) ≤ moved_of targets (n.session k) → MovedOn targets m n
one_moved targets k m n others p j = by (decide j k)
  where
    by : (j ≡ k) ⊎ (j ≢ k) → moved_of targets (m.session j) ≤ moved_of targets (n.session j)
    by (inl is) = subst (λ i. moved_of targets (m.session i) ≤ moved_of targets (n.session i)) (sym is) p
    by (inr other) = omega (arith, ap (moved_of targets) (others j other))

pub one_same : (k : ℕ) (m n : Meaning) → ((j : ℕ) → j ≢ k → n.session j ≡ m.session j) → (n.session k).announced ≡ (m.session k).announced → SameOnes m n
one_same k m n others p j = by (decide j k)
  where
    by : (j ≡ k) ⊎ (j ≢ k) → (n.session j).announced ≡ (m.session j).announced
    by (inl is) = subst (λ i. (n.session i).announced ≡ (m.session i).announced) (sym is) p
    by (inr other) = ap (λ (u : Told). u.announced) (others j other)

below_on : (targets b : ℕ) (m n : Meaning) → MovedOn targets m n → moved_below targets b m ≤ moved_below targets b n
below_on targets zero m n p = omega arith
below_on targets (suc b) m n p = omega (arith, below_on targets b m n p, p b)

below_wider : (targets a b : ℕ) (m : Meaning) → a ≤ b → moved_below targets a m ≤ moved_below targets b m
below_wider targets zero b m less = omega arith
below_wider targets (suc a) zero m less = absurd (omega (arith, less))
below_wider targets (suc a) (suc b) m less = by (decide a b) (λ more. below_wider targets (suc a) b m more)
  where
    by : (a ≡ b) ⊎ (a ≢ b) → (suc a ≤ b → moved_below targets (suc a) m ≤ moved_below targets b m) → moved_below targets (suc a) m ≤ moved_below targets (suc b) m
    by (inl is) next = omega (arith, ap (λ i. moved_below targets (suc i) m) is)
    by (inr other) next = omega (arith, next (omega (arith, less, other)))

below_more : (targets k b : ℕ) (m n : Meaning) → MovedOn targets m n → k < b → moved_of targets (m.session k) + long_turn ≤ moved_of targets (n.session k) → moved_below targets b m + long_turn ≤ moved_below targets b n
below_more targets k zero m n p under q = absurd (omega (arith, under))
below_more targets k (suc b) m n p under q = by (decide k b) (λ less. below_more targets k b m n p less q)
  where
    by : (k ≡ b) ⊎ (k ≢ b) → (k < b → moved_below targets b m + long_turn ≤ moved_below targets b n) → moved_below targets (suc b) m + long_turn ≤ moved_below targets (suc b) n
    by (inl is) next =
        let here : moved_of targets (m.session b) + long_turn ≤ moved_of targets (n.session b) = subst (λ i. moved_of targets (m.session i) + long_turn ≤ moved_of targets (n.session i)) is q in
        omega (arith, below_on targets b m n p, here)
    by (inr other) next = omega (arith, next (omega (arith, under, other)), p b)

-- ---- what is spent

spent_none : (m : Meaning) (targets : ℕ) → HasSpent m targets 0 m
spent_none m targets = record { named = 0; long = 0; bound = 0; sum = refl; events = (omega arith, omega arith); moved = omega arith }

spent_on : (begun : Meaning) (targets spent : ℕ) (m n : Meaning) → HasSpent begun targets spent m → MovedOn targets m n → n.events ≡ m.events → HasSpent begun targets spent n
spent_on begun targets spent m n p moved events = record {
  named = p.named;
  long = p.long;
  bound = p.bound;
  sum = p.sum;
  events = (omega (arith, p.events.0, events), omega (arith, p.events.1, events));
  moved = omega (arith, p.moved, below_on targets p.bound m n moved);
}

spent_long : (begun : Meaning) (targets spent k : ℕ) (m n : Meaning) → HasSpent begun targets spent m → MovedOn targets m n → n.events ≡ m.events → moved_of targets (m.session k) + long_turn ≤ moved_of targets (n.session k) → HasSpent begun targets (spent + 1) n
spent_long begun targets spent k m n p moved events enough =
    let bound = p.bound + suc k in record {
      named = p.named;
      long = p.long + 1;
      bound = bound;
      sum = omega (arith, p.sum);
      events = (omega (arith, p.events.0, events), omega (arith, p.events.1, events));
      moved = omega (arith, p.moved, below_wider targets p.bound bound m (omega arith), below_more targets k bound m n moved (omega arith) enough);
    }

spent_named : (begun : Meaning) (targets spent : ℕ) (m n : Meaning) → HasSpent begun targets spent m → MovedOn targets m n → n.events ≡ one_more m.events → HasSpent begun targets (spent + 1) n
spent_named begun targets spent m n p moved events = record {
  named = p.named + 1;
  long = p.long;
  bound = p.bound;
  sum = omega (arith, p.sum);
  events = (omega (arith, p.events.0, events), omega (arith, p.events.1, events));
  moved = omega (arith, p.moved, below_on targets p.bound m n moved);
}

-- ---- which sessions are open

-- the numbers of the first so many
abbrev numbers_before : ℕ → List Entry → List ℕ
numbers_before zero held = []
numbers_before (suc at) [] = []
numbers_before (suc at) (e ∷ held) = e.number ∷ numbers_before at held

before_get : (at : ℕ) (held : List Entry) (i a : ℕ) → slice_get (numbers_before at held) i ≡ Some a → (e : Entry) × (slice_get held i ≡ Some e) × (e.number ≡ a) × (i < at)
before_get zero held i a p = absurd (cc)
before_get (suc at) [] i a p = absurd (cc)
before_get (suc at) (e ∷ held) zero a p = (e, refl, some_same (Some e.number) e.number a refl p, omega arith)
before_get (suc at) (e ∷ held) (suc i) a p = let r = before_get at held i a p in (r.0, r.1, r.2, omega (arith, r.3))

before_has : (at : ℕ) (held : List Entry) (i : ℕ) (e : Entry) → slice_get held i ≡ Some e → i < at → slice_get (numbers_before at held) i ≡ Some e.number
before_has zero held i e p under = absurd (omega (arith, under))
before_has (suc at) [] i e p under = absurd (cc)
before_has (suc at) (d ∷ held) zero e p under = ap (λ (x : Entry). Some x.number) (some_same (Some d) d e refl p)
before_has (suc at) (d ∷ held) (suc i) e p under = before_has at held i e p (omega (arith, under))

before_length : (at : ℕ) (held : List Entry) → at ≤ length held → length (numbers_before at held) ≡ at
before_length zero held within = refl
before_length (suc at) [] within = absurd (omega (arith, within))
before_length (suc at) (e ∷ held) within = ap suc (before_length at held (omega (arith, within)))

-- the open sessions before session k are the first so many
open_before : (set : Setting) (More : ℕ → Type 0) (held : List Entry) (past : List Closing) (heard : ℕ → List Note) (busy k at : ℕ) (m : Meaning) → Stands set More held past heard busy 0 m → ((i : ℕ) (e : Entry) → slice_get held i ≡ Some e → i < at → e.number < k) → ((i : ℕ) (e : Entry) → slice_get held i ≡ Some e → e.number < k → i < at) → ((a : ℕ) → More a → a < k → ⊥) → AreOpenBefore k past m (numbers_before at held)
open_before set More held past heard busy k at m s below above more = record {
  rising = λ i j a b less p q.
      let d = before_get at held i a p in
      let e = before_get at held j b q in
      let r = s.rising i j d.0 e.0 less d.1 e.1 in
      omega (arith, r, d.2, e.2);
  each = λ i a p.
      let d = before_get at held i a p in
      let r = below i d.0 d.1 d.3 in (
        subst (λ j. (m.session j).announced ≡ true) d.2 (s.each i d.0 d.1).announced,
        omega (arith, r, d.2),
        (λ j c q same. absurd (true≢false (sym (s.ended j c q).closed ∙ (ap (λ x. (m.session x).closed) (same ∙ sym d.2) ∙ s.is_open i d.0 d.1 (omega arith))))),
      );
  all = λ a announced under free. known a under free (s.covers a announced);
}
  where
    among : (a : ℕ) → a < k → HasNotEnded a past → IsAmong a held past → (i : ℕ) × (slice_get (numbers_before at held) i ≡ Some a)
    among a under free (IsOpenOne i e p q) = (i, before_has at held i e p (above i e p (omega (arith, under, q))) ∙ ap Some q)
    among a under free (IsEndedOne i c p q) = absurd (free i c p q)

    known : (a : ℕ) → a < k → HasNotEnded a past → More a ⊎ IsAmong a held past → (i : ℕ) × (slice_get (numbers_before at held) i ≡ Some a)
    known a under free (inl x) = absurd (more a x under)
    known a under free (inr x) = among a under free x

-- a session that had been opened has ended
pub ended_full : (set : Setting) (held : List Entry) (past : List Closing) (heard : ℕ → List Note) (at : ℕ) (e : Entry) (o : RouteOutcome) (m : Meaning) → Stands set no_more held past heard at 0 m → slice_get held at ≡ Some e → (o ≡ outcome.Full → ⊥) → length held ≤ set.sessions → IsFullWhere set.sessions past (e.number, o) m
ended_full set held past heard at e o m s was opened few =
    let within = get_within held at e was in
    let long = before_length at held (omega (arith, within)) in record {
      numbers = numbers_before at held;
      are_open = open_before set no_more held past heard at e.number at m s (λ i d p under. s.rising i at d e under p was) above (λ a never under. never);
      within = omega (arith, long, within, few);
      full = λ is. absurd (opened is);
      only_full = λ is. absurd (omega (arith, is, long, within, few));
    }
  where
    above : (i : ℕ) (d : Entry) → slice_get held i ≡ Some d → d.number < e.number → i < at
    above i d p less = by (decide i at)
      where
        by : (i ≡ at) ⊎ (i ≢ at) → i < at
        by (inl is) = absurd (omega (arith, less, ap (λ (x : Entry). x.number) (some_same (slice_get held i) d e p (ap (λ j. slice_get held j) is ∙ was))))
        by (inr other) = over (decide (i - at) 0)
          where
            over : (i - at ≡ 0) ⊎ (i - at ≢ 0) → i < at
            over (inl none) = omega (arith, none, other)
            over (inr some) = absurd (omega (arith, less, s.rising at i e d (omega (arith, some)) was p))

-- a session is not opened
pub refused_full : (set : Setting) (held : List Entry) (past : List Closing) (heard : ℕ → List Note) (k : ℕ) (o : RouteOutcome) (m : Meaning) → Stands set (λ j. j ≡ k) held past heard (length held) 0 m → ((i : ℕ) (e : Entry) → slice_get held i ≡ Some e → e.number < k) → length held ≤ set.sessions → ((o ≡ outcome.Full) × (set.sessions ≤ length held)) ⊎ ((o ≡ outcome.NoMemory) × (length held < set.sessions)) → IsFullWhere set.sessions past (k, o) m
refused_full set held past heard k o m s above few why = by why
  where
    long : length (numbers_before (length held) held) ≡ length held
    long = before_length (length held) held (omega arith)

    ones : AreOpenBefore k past m (numbers_before (length held) held)
    ones = open_before set (λ j. j ≡ k) held past heard (length held) k (length held) m s (λ i d p under. above i d p) (λ i d p less. get_within held i d p) (λ a is under. absurd (omega (arith, is, under)))

    by : ((o ≡ outcome.Full) × (set.sessions ≤ length held)) ⊎ ((o ≡ outcome.NoMemory) × (length held < set.sessions)) → IsFullWhere set.sessions past (k, o) m
    by (inl full) = record {
      numbers = numbers_before (length held) held;
      are_open = ones;
      within = omega (arith, long, few);
      full = λ is. omega (arith, long, few, full.1);
      only_full = λ is. full.0;
    }
    by (inr none) = record {
      numbers = numbers_before (length held) held;
      are_open = ones;
      within = omega (arith, long, few);
      full = λ is. absurd (differ (sym none.0 ∙ is));
      only_full = λ is. absurd (omega (arith, long, is, none.1));
    }
      where
        differ : outcome.NoMemory ≡ outcome.Full → ⊥
        differ e = absurd (cc)

full_on : (sessions : ℕ) (earlier : List Closing) (c : Closing) (m n : Meaning) → ((a : ℕ) → a < c.0 → (n.session a).announced ≡ (m.session a).announced) → IsFullWhere sessions earlier c m → IsFullWhere sessions earlier c n
full_on sessions earlier c m n same p = record {
  numbers = p.numbers;
  are_open = record {
    rising = p.are_open.rising;
    each = λ i a got. let r = p.are_open.each i a got in (same a r.1 ∙ r.0, r.1, r.2);
    all = λ a announced under free. p.are_open.all a (sym (same a under) ∙ announced) under free;
  };
  within = p.within;
  full = p.full;
  only_full = p.only_full;
}

-- ---- the tally

pub tally_none : (set : Setting) (m : Meaning) → Tally m set 0 0 [] m
tally_none set m = record { started = refl; spends = spent_none m set.targets; few = omega arith; full = λ i c p. absurd (cc) }

pub tally_on : (begun : Meaning) (set : Setting) (spent count : ℕ) (past : List Closing) (m n : Meaning) → Tally begun set spent count past m → SameOnes m n → MovedOn set.targets m n → n.started ≡ m.started → n.events ≡ m.events → Tally begun set spent count past n
tally_on begun set spent count past m n t same moved started events = record {
  started = started ∙ t.started;
  spends = spent_on begun set.targets spent m n t.spends moved events;
  few = t.few;
  full = λ i c p. full_on set.sessions (take i past) c m n (λ a _. same a) (t.full i c p);
}

tally_long : (begun : Meaning) (set : Setting) (spent count k : ℕ) (past : List Closing) (m n : Meaning) → Tally begun set spent count past m → SameOnes m n → MovedOn set.targets m n → n.started ≡ m.started → n.events ≡ m.events → moved_of set.targets (m.session k) + long_turn ≤ moved_of set.targets (n.session k) → Tally begun set (spent + 1) count past n
tally_long begun set spent count k past m n t same moved started events enough = record {
  started = started ∙ t.started;
  spends = spent_long begun set.targets spent k m n t.spends moved events enough;
  few = t.few;
  full = λ i c p. full_on set.sessions (take i past) c m n (λ a _. same a) (t.full i c p);
}

tally_named : (begun : Meaning) (set : Setting) (spent count : ℕ) (past : List Closing) (m n : Meaning) → Tally begun set spent count past m → ((i : ℕ) (c : Closing) (a : ℕ) → slice_get past i ≡ Some c → a < c.0 → (n.session a).announced ≡ (m.session a).announced) → MovedOn set.targets m n → n.started ≡ m.started → n.events ≡ one_more m.events → Tally begun set (spent + 1) count past n
tally_named begun set spent count past m n t same moved started events = record {
  started = started ∙ t.started;
  spends = spent_named begun set.targets spent m n t.spends moved events;
  few = t.few;
  full = λ i c p. full_on set.sessions (take i past) c m n (λ a under. same i c a p under) (t.full i c p);
}

tally_more : (begun : Meaning) (set : Setting) (spent count count' : ℕ) (past : List Closing) (c : Closing) (m : Meaning) → Tally begun set spent count past m → count' ≤ set.sessions → IsFullWhere set.sessions past c m → Tally begun set spent count' (past ++ c ∷ []) m
tally_more begun set spent count count' past c m t few full = record {
  started = t.started;
  spends = t.spends;
  few = few;
  full = λ i d p. by i d (behind_cases past c d i p);
}
  where
    by : (i : ℕ) (d : Closing) → ((i ≡ length past) × (d ≡ c)) ⊎ (slice_get past i ≡ Some d) → IsFullWhere set.sessions (take i (past ++ c ∷ [])) d m
    by i d (inl x) =
        subst (λ j. IsFullWhere set.sessions (take j (past ++ c ∷ [])) d m) (sym x.0)
        (subst (λ (xs : List Closing). IsFullWhere set.sessions xs d m) (sym (take-append_seam past (c ∷ [])))
        (subst (λ (y : Closing). IsFullWhere set.sessions past y m) (sym x.1) full))
    by i d (inr x) =
        let under = get_within past i d x in
        subst (λ (xs : List Closing). IsFullWhere set.sessions xs d m) (sym (take-append-le i past (c ∷ []) (omega (arith, under)))) (t.full i d x)

pub tally_held : (begun : Meaning) (set : Setting) (spent count count' : ℕ) (past : List Closing) (m : Meaning) → Tally begun set spent count past m → count' ≤ set.sessions → Tally begun set spent count' past m
tally_held begun set spent count count' past m t few = record { started = t.started; spends = t.spends; few = few; full = t.full }

-- ---- the steps

-- a session was closed, and nothing else has changed
pub closed_tally : (begun : Meaning) (set : Setting) (spent count : ℕ) (past : List Closing) (k : ℕ) (m n : Meaning) → Tally begun set spent count past m → Changes k (Closed k) Closes m n → Tally begun set spent count past n
closed_tally begun set spent count past k m n t change =
    tally_on begun set spent count past m n t
    (one_same k m n change.others (ap (λ (u : Told). u.announced) change.session))
    (one_moved set.targets k m n change.others (omega (arith, ap (moved_of set.targets) change.session, moved_alike set.targets (m.session k) (record (m.session k) { closed = true }) refl (λ x. refl))))
    change.started change.events

-- a session has ended and was closed, and so many are held
pub ended_work : (begun : Meaning) (set : Setting) (spent count count' : ℕ) (past : List Closing) (k : ℕ) (o : RouteOutcome) (m n : Meaning) → IsAtWork begun set spent count past m → count' ≤ set.sessions → IsFullWhere set.sessions past (k, o) m → Changes k (Closed k) Closes m n → IsAtWork begun set spent count' (past ++ (k, o) ∷ []) n
ended_work begun set spent count count' past k o m n w few full change = record {
  tally = closed_tally begun set spent count' (past ++ (k, o) ∷ []) k m n (tally_more begun set spent count count' past (k, o) m w.tally few full) change;
  order = order_more begun.calls m.calls n.calls past k o change.calls w.order;
  going = ap is_over change.last_event ∙ w.going;
}

pub held_work : (begun : Meaning) (set : Setting) (spent count count' : ℕ) (past : List Closing) (m : Meaning) → IsAtWork begun set spent count past m → count' ≤ set.sessions → IsAtWork begun set spent count' past m
held_work begun set spent count count' past m w few = record { tally = tally_held begun set spent count count' past m w.tally few; order = w.order; going = w.going }

pub turned_work : (begun : Meaning) (set : Setting) (spent count : ℕ) (past : List Closing) (k : ℕ) (T : List FanCall → Told → Told → Type 0) (m n : Meaning) → IsAtWork begun set spent count past m → (m.session k).announced ≡ true → AllGrow (m.session k) (n.session k) → Moves k T m n → IsAtWork begun set spent count past n
turned_work begun set spent count past k T m n w on grows change = record {
  tally = tally_on begun set spent count past m n w.tally (one_same k m n change.others grows.announced) (one_moved set.targets k m n change.others (moved_on set.targets (m.session k) (n.session k) on grows)) change.started change.events;
  order = order_kept begun.calls m.calls n.calls change.made (ended_numbers past) change.calls (pieces_close_none k change.made change.pieces) w.order;
  going = ap is_over change.last_event ∙ w.going;
}

pub long_work : (begun : Meaning) (set : Setting) (spent count : ℕ) (past : List Closing) (k : ℕ) (T : List FanCall → Told → Told → Type 0) (m n : Meaning) → IsAtWork begun set spent count past m → (m.session k).announced ≡ true → AllGrow (m.session k) (n.session k) → amount set.targets (m.session k) + long_turn ≤ amount set.targets (n.session k) → Moves k T m n → IsAtWork begun set (spent + 1) count past n
long_work begun set spent count past k T m n w on grows enough change = record {
  tally = tally_long begun set spent count k past m n w.tally (one_same k m n change.others grows.announced) (one_moved set.targets k m n change.others (moved_on set.targets (m.session k) (n.session k) on grows)) change.started change.events (moved_enough_on set.targets (m.session k) (n.session k) on grows.announced enough);
  order = order_kept begun.calls m.calls n.calls change.made (ended_numbers past) change.calls (pieces_close_none k change.made change.pieces) w.order;
  going = ap is_over change.last_event ∙ w.going;
}

unannounced : (b : Bool) (n : ℕ) → (b ≡ true → ⊥) → (if b then n else 0) ≡ 0
unannounced true n none = absurd (none refl)
unannounced false n none = refl

-- a session was announced above all others
pub opened_work : (begun : Meaning) (set : Setting) (spent count : ℕ) (past : List Closing) (k : ℕ) (m n : Meaning) → IsAtWork begun set spent count past m → ((j : ℕ) → (m.session j).announced ≡ true → j < k) → ((i : ℕ) (c : Closing) → slice_get past i ≡ Some c → (m.session c.0).announced ≡ true) → Comes k (event.Opened k) new_session m n → IsAtWork begun set (spent + 1) count past n
opened_work begun set spent count past k m n w over known comes = record {
  tally = tally_named begun set spent count past m n w.tally
      (λ i c a p under. ap (λ (u : Told). u.announced) (comes.others a (λ is. absurd (omega (arith, is, under, over c.0 (known i c p))))))
      (one_moved set.targets k m n comes.others (let none : moved_of set.targets (m.session k) ≡ 0 = unannounced (m.session k).announced (amount set.targets (m.session k)) (λ on. absurd (omega (arith, over k on))) in omega (arith, none)))
      comes.started comes.events;
  order = order_kept begun.calls m.calls n.calls _ (ended_numbers past) comes.calls refl w.order;
  going = ap is_over comes.last_event;
}

-- a session was named again
pub ready_work : (begun : Meaning) (set : Setting) (spent count : ℕ) (past : List Closing) (k : ℕ) (m n : Meaning) → IsAtWork begun set spent count past m → Comes k (event.Ready k) (reopened (m.session k)) m n → IsAtWork begun set (spent + 1) count past n
ready_work begun set spent count past k m n w comes = record {
  tally = tally_named begun set spent count past m n w.tally
      (λ i c a p under. one_same k m n comes.others (ap (λ (u : Told). u.announced) comes.session) a)
      (one_moved set.targets k m n comes.others (omega (arith, ap (moved_of set.targets) comes.session, moved_alike set.targets (m.session k) (reopened (m.session k)) refl (λ x. refl))))
      comes.started comes.events;
  order = order_kept begun.calls m.calls n.calls _ (ended_numbers past) comes.calls refl w.order;
  going = ap is_over comes.last_event;
}
