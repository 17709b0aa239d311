-- The calls of a hub, the sessions that they close, and what was counted.
use Rattle.std.proofs.Common.{◌≡◌, ℕ, zero, suc, ◌+◌, ◌≤◌, ◌⊎◌, inl, inr, List, [], ◌∷◌, ◌++◌, length, take, Some, arith, ap, sym, ◌∙◌, subst, refl, append_assoc}
use Rattle.std.specs.List.{slice_get}
use Rattle.std.proofs.lemmas.List.{append-nil, take_all}
use Rattle.std.proofs.lemmas.Grind.{flat_map-append}
use Rattle.gate_base.specs.Causes.{Rose}
use Rattle.gate_fan.specs.Meaning.{FanCall, Asked, Read, Wrote, Closed}
use Rattle.gate_fan.specs.Fans.{Counts, Later}
use Rattle.service_router.specs.declared.outcome.RouteOutcome.{RouteOutcome}
use Rattle.service_router.specs.declared.outcome.RouteOutcome.TheVariants as outcome
use Rattle.route_server.specs.Calling.{closing_of, closings_of, ArePieces, EndsFailing, FailsLast}
use Rattle.route_server.specs.Saying.{Closing}
use Rattle.route_server.specs.Serving.{Entry, ended_numbers, held_numbers, IsClosedInOrder, IsJustClosed, AreCounted}
use Rattle.route_server.specs.Steps.{closing_calls}
use Rattle.route_server.proofs.Places.{some_same, behind_cases}

closings_on : (calls more : List FanCall) → closings_of (calls ++ more) ≡ closings_of calls ++ closings_of more
closings_on calls more = flat_map-append closing_of calls more

pub pieces_close_none : (k : ℕ) (made : List FanCall) → ArePieces k made → closings_of made ≡ []
pieces_close_none k [] p = refl
pieces_close_none k (Asked event ∷ made) p = absurd p.0
pieces_close_none k (Read j side most answer ∷ made) p = pieces_close_none k made p.1
pieces_close_none k (Wrote j side most answer ∷ made) p = pieces_close_none k made p.1
pieces_close_none k (Closed j ∷ made) p = absurd p.0

pub order_kept : (begun calls calls' more : List FanCall) (numbers : List ℕ) → calls' ≡ calls ++ more → closings_of more ≡ [] → IsClosedInOrder begun calls numbers → IsClosedInOrder begun calls' numbers
order_kept begun calls calls' more numbers e none o =
    ap closings_of e ∙ (closings_on calls more ∙ (ap (λ xs. closings_of calls ++ xs) none ∙ (append-nil (closings_of calls) ∙ o)))

order_on : (begun calls calls' more : List FanCall) (numbers behind : List ℕ) → calls' ≡ calls ++ more → closings_of more ≡ behind → IsClosedInOrder begun calls numbers → IsClosedInOrder begun calls' (numbers ++ behind)
order_on begun calls calls' more numbers behind e is o =
    ap closings_of e ∙ (closings_on calls more ∙ (ap (λ xs. xs ++ closings_of more) o ∙ (ap (λ xs. (closings_of begun ++ numbers) ++ xs) is ∙ append_assoc (closings_of begun) numbers behind)))

ended_numbers_on : (past : List Closing) (k : ℕ) (o : RouteOutcome) → ended_numbers (past ++ (k, o) ∷ []) ≡ ended_numbers past ++ k ∷ []
ended_numbers_on [] k o = refl
ended_numbers_on (c ∷ past) k o = ap (λ xs. c.0 ∷ xs) (ended_numbers_on past k o)

-- one more has ended, and was closed
pub order_more : (begun calls calls' : List FanCall) (past : List Closing) (k : ℕ) (o : RouteOutcome) → calls' ≡ calls ++ Closed k ∷ [] → IsClosedInOrder begun calls (ended_numbers past) → IsClosedInOrder begun calls' (ended_numbers (past ++ (k, o) ∷ []))
order_more begun calls calls' past k o e order =
    subst (λ (xs : List ℕ). IsClosedInOrder begun calls' xs) (sym (ended_numbers_on past k o)) (order_on begun calls calls' (Closed k ∷ []) (ended_numbers past) (k ∷ []) e refl order)

closings_closed : (numbers : List ℕ) → closings_of (closing_calls numbers) ≡ numbers
closings_closed [] = refl
closings_closed (k ∷ numbers) = ap (λ xs. k ∷ xs) (closings_closed numbers)

-- and those that were left open were closed behind them
pub order_left : (begun calls calls' : List FanCall) (past : List Closing) (held : List Entry) → calls' ≡ calls ++ closing_calls (held_numbers held) → IsClosedInOrder begun calls (ended_numbers past) → IsClosedInOrder begun calls' (ended_numbers past ++ held_numbers held)
order_left begun calls calls' past held e order = order_on begun calls calls' (closing_calls (held_numbers held)) (ended_numbers past) (held_numbers held) e (closings_closed (held_numbers held)) order

pub closing_more : (held : List Entry) (at : ℕ) (e : Entry) → slice_get held at ≡ Some e → closing_calls (held_numbers (take (at + 1) held)) ≡ closing_calls (held_numbers (take at held)) ++ Closed e.number ∷ []
closing_more held at e p =
    let after : suc at ≡ at + 1 = omega arith in
    subst (λ n. closing_calls (held_numbers (take n held)) ≡ closing_calls (held_numbers (take at held)) ++ Closed e.number ∷ []) after (next held at p)
  where
    next : (xs : List Entry) (i : ℕ) → slice_get xs i ≡ Some e → closing_calls (held_numbers (take (suc i) xs)) ≡ closing_calls (held_numbers (take i xs)) ++ Closed e.number ∷ []
    next [] i q = absurd (cc)
    next (x ∷ xs) zero q = ap (λ (y : Entry). Closed y.number ∷ []) (some_same (Some x) x e refl q)
    next (x ∷ xs) (suc i) q = ap (λ ys. Closed x.number ∷ ys) (next xs i q)

pub all_left : (held : List Entry) (calls calls' : List FanCall) → calls' ≡ calls ++ closing_calls (held_numbers (take (length held) held)) → calls' ≡ calls ++ closing_calls (held_numbers held)
all_left held calls calls' e = e ∙ ap (λ (xs : List Entry). calls ++ closing_calls (held_numbers xs)) (take_all (length held) held (omega arith))

-- ---- the last call of a session

pub fails_last_on : (k : ℕ) (x : ℕ) (calls calls' more : List FanCall) → calls' ≡ calls ++ more → FailsLast k x calls → FailsLast k x calls'
fails_last_on k x calls calls' more e p = record {
  early = p.early;
  call = p.call;
  late = p.late ++ more;
  calls_are = e ∙ (ap (λ xs. xs ++ more) p.calls_are ∙ append_assoc p.early (p.call ∷ Closed k ∷ p.late) more);
  fails = p.fails;
}

pub closed_behind : (k : ℕ) (x : ℕ) (calls calls' : List FanCall) → calls' ≡ calls ++ Closed k ∷ [] → EndsFailing k x calls → FailsLast k x calls'
closed_behind k x calls calls' e p = record {
  early = p.early;
  call = p.call;
  late = [];
  calls_are = e ∙ (ap (λ xs. xs ++ Closed k ∷ []) p.calls_are ∙ append_assoc p.early (p.call ∷ []) (Closed k ∷ []));
  fails = p.fails;
}

pub ends_failing_on : (k : ℕ) (x : ℕ) (calls calls' made : List FanCall) → calls' ≡ calls ++ made → EndsFailing k x made → EndsFailing k x calls'
ends_failing_on k x calls calls' made e p = record {
  early = calls ++ p.early;
  call = p.call;
  calls_are = e ∙ (ap (λ xs. calls ++ xs) p.calls_are ∙ sym (append_assoc calls p.early (p.call ∷ [])));
  fails = p.fails;
}

-- each that ended by a fault of a port, from one moment to the next
abbrev pub AreBroken : List Closing → List FanCall → Type 0
AreBroken past calls = (i : ℕ) (c : Closing) (x : ℕ) → slice_get past i ≡ Some c → c.1 ≡ outcome.LinkFault x → FailsLast c.0 x calls

pub broken_on : (past : List Closing) (calls calls' more : List FanCall) → calls' ≡ calls ++ more → AreBroken past calls → AreBroken past calls'
broken_on past calls calls' more e p i c x got is = fails_last_on c.0 x calls calls' more e (p i c x got is)

pub broken_more : (past : List Closing) (k : ℕ) (o : RouteOutcome) (calls calls' : List FanCall) → calls' ≡ calls ++ Closed k ∷ [] → ((x : ℕ) → o ≡ outcome.LinkFault x → EndsFailing k x calls) → AreBroken past calls → AreBroken (past ++ (k, o) ∷ []) calls'
broken_more past k o calls calls' e last p i c x got is = by (behind_cases past (k, o) c i got)
  where
    by : ((i ≡ length past) × (c ≡ (k, o))) ⊎ (slice_get past i ≡ Some c) → FailsLast c.0 x calls'
    by (inl here) =
        subst (λ (d : Closing). FailsLast d.0 x calls') (sym here.1)
        (closed_behind k x calls calls' e (last x (sym (ap (λ (d : Closing). d.1) here.1) ∙ is)))
    by (inr before) = fails_last_on c.0 x calls calls' (Closed k ∷ []) e (p i c x before is)

pub just_closed : (past : List Closing) (k : ℕ) (o : RouteOutcome) (calls calls' : List FanCall) → calls' ≡ calls ++ Closed k ∷ [] → IsJustClosed (past ++ (k, o) ∷ []) calls'
just_closed past k o calls calls' e = record { before = past; last = (k, o); earlier = calls; ended_are = refl; calls_are = e }

-- ---- what was counted

rose_wider : (a b c d : ℕ) → a ≤ b → c ≤ d → Rose b c → Rose a d
rose_wider a b c d p q rose = omega (arith, p, q, rose)

pub rose_at : (a b c : Counts) (k j : ℕ) (x : ℕ) → k ≡ j → Later b c → Rose (a.link_faults j x) (b.link_faults j x) → Rose (a.link_faults k x) (c.link_faults k x)
rose_at a b c k j x is later rose =
    let on = later.links j x in
    subst (λ i. Rose (a.link_faults i x) (c.link_faults i x)) (sym is) (omega (arith, on, rose))

pub counted_wider : (a b c d : Counts) (ended : List Closing) → Later a b → Later c d → AreCounted b c ended → AreCounted a d ended
counted_wider a b c d ended p q counted i e x got is = rose_wider (a.link_faults e.0 x) (b.link_faults e.0 x) (c.link_faults e.0 x) (d.link_faults e.0 x) (p.links e.0 x) (q.links e.0 x) (counted i e x got is)

pub counted_none : (a b : Counts) → AreCounted a b []
counted_none a b i c x got is = absurd (cc)

either_part : (xs ys : List Closing) (i : ℕ) (c : Closing) → slice_get (xs ++ ys) i ≡ Some c → ((j : ℕ) × (slice_get xs j ≡ Some c)) ⊎ ((j : ℕ) × (slice_get ys j ≡ Some c))
either_part [] ys i c p = inr (i, p)
either_part (x ∷ xs) ys zero c p = inl (zero, p)
either_part (x ∷ xs) ys (suc i) c p = next (either_part xs ys i c p)
  where
    next : ((j : ℕ) × (slice_get xs j ≡ Some c)) ⊎ ((j : ℕ) × (slice_get ys j ≡ Some c)) → ((j : ℕ) × (slice_get (x ∷ xs) j ≡ Some c)) ⊎ ((j : ℕ) × (slice_get ys j ≡ Some c))
    next (inl q) = inl (suc q.0, q.1)
    next (inr q) = inr q

pub counted_both : (a b : Counts) (xs ys : List Closing) → AreCounted a b xs → AreCounted a b ys → AreCounted a b (xs ++ ys)
counted_both a b xs ys p q i c x got is = by (either_part xs ys i c got)
  where
    by : ((j : ℕ) × (slice_get xs j ≡ Some c)) ⊎ ((j : ℕ) × (slice_get ys j ≡ Some c)) → Rose (a.link_faults c.0 x) (b.link_faults c.0 x)
    by (inl r) = p r.0 c x r.1 is
    by (inr r) = q r.0 c x r.1 is

pub counted_one : (a b : Counts) (k : ℕ) (o : RouteOutcome) → ((x : ℕ) → o ≡ outcome.LinkFault x → Rose (a.link_faults k x) (b.link_faults k x)) → AreCounted a b ((k, o) ∷ [])
counted_one a b k o p zero c x got is =
    let same : (k, o) ≡ c = some_same (Some (k, o)) (k, o) c refl got in
    subst (λ (d : Closing). Rose (a.link_faults d.0 x) (b.link_faults d.0 x)) same (p x (ap (λ (d : Closing). d.1) same ∙ is))
counted_one a b k o p (suc i) c x got is = absurd (cc)
