use Rattle.std.proofs.Common.{rules, ◌≡◌, ◌+◌, ◌<◌, ◌≤◌, ◌⊎◌, ◌++◌, inl, inr, List, ℕ, Option, None, Some, Ok, arith, refl, ap, sym, ◌∙◌, subst}
use Rattle.gate_fan.specs.Meaning.{FanCall}
use Rattle.service_router.specs.Router.{Seen, targets_of}
use Rattle.route_server.specs.Calling.{Wanted}
use Rattle.route_server.specs.Matching.{Matches}
use Rattle.route_server.specs.Turning.{Goes, Begins, Runs, Breaks, amount, wanted, no_waits, or_else, Settles, GoesOn, BreaksOff, Ends, ByLink, ByRouter}
use Rattle.route_server.specs.declared.waiting.Waits.{Waits}
use Rattle.route_server.proofs.Running.{telling_on, telling_by, telling_none, goes_on, goes_nowhere, goes_weaker, then_runs, then_breaks, runs_at, runs_on, runs_not, settles, later_on, later_not, same_on, same_not, want_on}
use Rattle.route_server.proofs.turning.route_turn.Goals as goal

-- how the calls so far began: none was made and nothing has changed, or with what was wanted first
abbrev IsBegun : Seen → Seen → Waits → ℕ → Option Wanted → Type 0
IsBegun r0 r w moved first = ((moved ≡ 0) × (first ≡ None) × (r ≡ r0) × (w ≡ no_waits)) ⊎ (first ≡ wanted no_waits r0)

some_none : {X : Type 0} (o : Option X) (x : X) → o ≡ Some x → o ≡ None → ⊥
some_none o x p q = differ (sym p ∙ q)
  where
    differ : {X : Type 0} {y : X} → Some y ≡ None → ⊥
    differ e = cc

-- what is wanted after the first calls, where none was made
again : (r0 r : Seen) (w : Waits) (moved : ℕ) (first : Option Wanted) → IsBegun r0 r w moved first → (wanted no_waits r0 ≡ None → (r ≡ r0) × (w ≡ no_waits)) → first ≡ None → wanted w r ≡ wanted no_waits r0
again r0 r w moved first from idle none = by from
  where
    alike : (r ≡ r0) × (w ≡ no_waits) → wanted w r ≡ wanted no_waits r0
    alike e = ap (λ v. wanted v r) e.1 ∙ ap (λ (t : Seen). wanted no_waits t) e.0

    by : IsBegun r0 r w moved first → wanted w r ≡ wanted no_waits r0
    by (inl e) = alike (e.2, e.3)
    by (inr e) = alike (idle (sym e ∙ none))

either : (r0 r : Seen) (w : Waits) (moved : ℕ) (first : Option Wanted) → IsBegun r0 r w moved first → (first ≡ None) ⊎ (first ≡ wanted no_waits r0)
either r0 r w moved first (inl e) = inl e.1
either r0 r w moved first (inr e) = inr e

-- the whole of the turn begins with what is wanted of its first router
whole : (r0 r : Seen) (w : Waits) (moved : ℕ) (first : Option Wanted) → IsBegun r0 r w moved first → (wanted no_waits r0 ≡ None → (r ≡ r0) × (w ≡ no_waits)) → or_else first (wanted w r) ≡ wanted no_waits r0
whole r0 r w moved first from idle = want_on first (wanted w r) (wanted no_waits r0) (again r0 r w moved first from idle) (either r0 r w moved first from)

begins_whole : (k : ℕ) (r0 r : Seen) (w : Waits) (moved : ℕ) (first : Option Wanted) (made : List FanCall) → IsBegun r0 r w moved first → (r ≡ r0 → ⊥) → Begins k first made → Begins k (wanted no_waits r0) made
begins_whole k r0 r w moved first made (inl e) other p = absurd (other e.2)
begins_whole k r0 r w moved first made (inr e) other p = subst (λ (f : Option Wanted). Begins k f made) e p

begins_moved : (k : ℕ) (r0 r : Seen) (w : Waits) (moved : ℕ) (first : Option Wanted) (made : List FanCall) → IsBegun r0 r w moved first → 0 < moved → Begins k first made → Begins k (wanted no_waits r0) made
begins_moved k r0 r w moved first made (inl e) some p = absurd (omega (arith, e.0, some))
begins_moved k r0 r w moved first made (inr e) some p = subst (λ (f : Option Wanted). Begins k f made) e p

pub rounds-init : goal.rounds-init
rounds-init g c =
    let tells = g.M.Fan.tells c.args.fan.now in
    let r = c.args.router.now in
    let k = c.args.k in
    let targets = targets_of r in
    record {
      goes = (
        None,
        telling_none _ tells tells (Matches r) (Matches r) k _ (g.met.N.Notes.stays _)
            (λ past. subst (λ (w : Waits). Goes tells tells (Matches r past) (Matches r past) k (Runs k targets None 0 no_waits w)) (sym c.none-waits.ensures) (goes_nowhere tells (Matches r past) k (Runs k targets None 0 no_waits no_waits) (runs_not k targets no_waits))),
        inl (refl, refl, refl, c.none-waits.ensures),
      );
      idle = λ _. (refl, c.none-waits.ensures);
      same = same_not r;
      bounded = omega arith;
      piece = search rules;
      later = later_not _;
      count = refl;
    }

pub round-requires-clause-targets : goal.round-requires-clause-targets
round-requires-clause-targets g c =
    let i = c.rounds.invariant in
    i.count ∙ (c.requires.targets ∙ sym i.same.targets)

pub returns-in-Some-clause-ending : goal.returns-in-Some-clause-ending
returns-in-Some-clause-ending g c = Ends c.in-Some.outcome (sym c.in-Some.ensures.told) c.in-Some.ensures.own

pub returns-in-Some-clause-turned : goal.returns-in-Some-clause-turned
returns-in-Some-clause-turned g c =
    let tells = g.M.Fan.tells in
    let i = c.rounds.invariant in
    let k = c.args.k in
    let r0 = c.args.router.now in
    let r = c.rounds.router in
    telling_by _ (tells c.args.fan.now) (tells c.rounds.fan) (Matches r0) (Matches r) k _ _
    (λ d e went. goes_weaker (tells c.args.fan.now) (tells c.rounds.fan) (Matches r0 d) (Matches r e) k _ _
    (λ made a b p. (
      (λ going. begins_whole k r0 r c.rounds.waits c.rounds.moved i.goes.0 made i.goes.2 (λ same. some_none r0.outcome c.in-Some.outcome (ap (λ t. t.outcome) (sym same) ∙ sym c.in-Some.ensures.told) going) p.begins),
      (p.grows, ByRouter (sym c.in-Some.ensures.told) c.in-Some.ensures.own p.none_failed),
    ))
    went)
    i.goes.1

pub returns-in-Err-clause-turned : goal.returns-in-Err-clause-turned
returns-in-Err-clause-turned g c =
    let tells = g.M.Fan.tells in
    let i = c.rounds.invariant in
    let new = c.round.new in
    let n = c.rounds.moved in
    let k = c.args.k in
    let r0 = c.args.router.now in
    let r = c.rounds.router in
    let w = c.rounds.waits in
    let x = c.in-Err.port in
    telling_on _ _ _ (tells c.args.fan.now) (tells c.rounds.fan) (tells new.fan) (Matches r0) (Matches r) (Matches new.router) k _ _ _ (λ xs ys. g.met.N.Notes.follows _ _ _ xs ys)
    (λ d e f first second. goes_weaker (tells c.args.fan.now) (tells new.fan) (Matches r0 d) (Matches new.router f) k (Breaks k (or_else i.goes.0 (wanted w r)) x) _
    (λ made a b p. (
      (λ _. subst (λ (v : Option Wanted). Begins k v made) (whole r0 r w n i.goes.0 i.goes.2 i.idle) p.begins),
      (p.grows, ByLink x refl p.last p.failed p.others),
    ))
    (then_breaks (tells c.args.fan.now) (tells c.rounds.fan) (tells new.fan) (Matches r0 d) (Matches r e) (Matches new.router f) k (targets_of r0) i.goes.0 (wanted w r) n no_waits w x first second))
    i.goes.1 c.in-Err.ensures.goes

pub returns-in-Err-clause-ending : goal.returns-in-Err-clause-ending
returns-in-Err-clause-ending g c = BreaksOff c.in-Err.port

pub returns-in-Ok-eq0-clause-turned : goal.returns-in-Ok-eq0-clause-turned
returns-in-Ok-eq0-clause-turned g c =
    let tells = g.M.Fan.tells in
    let i = c.rounds.invariant in
    let new = c.round.new in
    let n = c.rounds.moved in
    let m = c.in-Ok-eq0.field-0 in
    let k = c.args.k in
    let r0 = c.args.router.now in
    let r = c.rounds.router in
    let w = c.rounds.waits in
    let targets = targets_of r0 in
    let quiet = c.in-Ok-eq0.ensures.quiet (ap Ok c.in-Ok-eq0.field-0-test) in
    let going : new.router.outcome ≡ None = ap (λ t. t.outcome) quiet.0 ∙ sym c.in_default.ensures.told in
    telling_on _ _ _ (tells c.args.fan.now) (tells c.rounds.fan) (tells new.fan) (Matches r0) (Matches r) (Matches new.router) k _ _ _ (λ xs ys. g.met.N.Notes.follows _ _ _ xs ys)
    (λ d e l first second. goes_on (tells c.args.fan.now) (tells c.rounds.fan) (tells new.fan) (Matches r0 d) (Matches r e) (Matches new.router l) k (Runs k targets i.goes.0 n no_waits w) (Runs k targets (wanted w r) m w new.waits) _
    (λ made a b p. (p.grows.announced, p.grows.closed))
    (λ made more s a b p q fit.
    let both = runs_on k targets i.goes.0 (wanted w r) n m no_waits w new.waits made more s a b p q in (
      (λ _. subst (λ (f : Option Wanted). Begins k f (made ++ more)) (whole r0 r w n i.goes.0 i.goes.2 i.idle) both.begins),
      settles new.router l k targets _ (n + m) new.waits (made ++ more) s b going quiet.1 fit both,
    ))
    first
    (runs_at (tells c.rounds.fan) (tells new.fan) (Matches r e) (Matches new.router l) k m targets (targets_of r) (wanted w r) (wanted w r) w new.waits i.same.targets refl second))
    i.goes.1 c.in-Ok-eq0.ensures.goes

pub returns-in-Ok-eq0-clause-ending : goal.returns-in-Ok-eq0-clause-ending
returns-in-Ok-eq0-clause-ending g c =
    let quiet = c.in-Ok-eq0.ensures.quiet (ap Ok c.in-Ok-eq0.field-0-test) in
    Settles (ap (λ s. s.outcome) quiet.0 ∙ sym c.in_default.ensures.told)

pub rounds-preserved : goal.rounds-preserved
rounds-preserved g c =
    let tells = g.M.Fan.tells in
    let i = c.rounds.invariant in
    let new = c.round.new in
    let n = c.rounds.moved in
    let m = c.in-Ok.count in
    let k = c.args.k in
    let r0 = c.args.router.now in
    let r = c.rounds.router in
    let w = c.rounds.waits in
    let targets = targets_of r0 in
    record {
      goes = (
        wanted no_waits r0,
        telling_on _ _ _ (tells c.args.fan.now) (tells c.rounds.fan) (tells new.fan) (Matches r0) (Matches r) (Matches new.router) k _ _ _ (λ xs ys. g.met.N.Notes.follows _ _ _ xs ys)
            (λ d e f first second. runs_at (tells c.args.fan.now) (tells new.fan) (Matches r0 d) (Matches new.router f) k (n + m) targets targets (or_else i.goes.0 (wanted w r)) (wanted no_waits r0) no_waits new.waits refl (whole r0 r w n i.goes.0 i.goes.2 i.idle)
            (then_runs (tells c.args.fan.now) (tells c.rounds.fan) (tells new.fan) (Matches r0 d) (Matches r e) (Matches new.router f) k targets i.goes.0 (wanted w r) n m no_waits w new.waits first
            (runs_at (tells c.rounds.fan) (tells new.fan) (Matches r e) (Matches new.router f) k m targets (targets_of r) (wanted w r) (wanted w r) w new.waits i.same.targets refl second)))
            i.goes.1 c.in-Ok.ensures.goes,
        inr refl,
      );
      idle = λ none.
          let before = i.idle none in
          let now : wanted w r ≡ None = (ap (λ v. wanted v r) before.1 ∙ ap (λ (t : Seen). wanted no_waits t) before.0) ∙ none in
          let after = c.round.ensures.idle now in
          (after.0 ∙ before.0, after.1 ∙ before.1);
      same = same_on r0 r new.router i.same c.round.ensures.same;
      bounded = omega (arith, c.rounds-test.true, c.in-Ok.ensures.few);
      piece = c.round.ensures.piece ∙ i.piece;
      later = later_on _ _ _ i.later c.round.ensures.later;
      count = c.round.ensures.targets ∙ i.count;
    }

pub returns-in-Some-outcome-clause-ending : goal.returns-in-Some-outcome-clause-ending
returns-in-Some-outcome-clause-ending g c = Ends c.in-Some-outcome.outcome (sym c.in-Some-outcome.ensures.told) c.in-Some-outcome.ensures.own

pub returns-in-Some-outcome-clause-turned : goal.returns-in-Some-outcome-clause-turned
returns-in-Some-outcome-clause-turned g c =
    let tells = g.M.Fan.tells in
    let i = c.rounds.invariant in
    let k = c.args.k in
    let r0 = c.args.router.now in
    let r = c.rounds.router in
    telling_by _ (tells c.args.fan.now) (tells c.rounds.fan) (Matches r0) (Matches r) k _ _
    (λ d e went. goes_weaker (tells c.args.fan.now) (tells c.rounds.fan) (Matches r0 d) (Matches r e) k _ _
    (λ made a b p. (
      (λ _. begins_moved k r0 r c.rounds.waits c.rounds.moved i.goes.0 made i.goes.2 (omega (arith, c.rounds-test.false)) p.begins),
      (p.grows, ByRouter (sym c.in-Some-outcome.ensures.told) c.in-Some-outcome.ensures.own p.none_failed),
    ))
    went)
    i.goes.1

pub returns-in-None-clause-ending : goal.returns-in-None-clause-ending
returns-in-None-clause-ending g c = GoesOn (sym c.in-None.ensures.told)

pub returns-in-None-clause-turned : goal.returns-in-None-clause-turned
returns-in-None-clause-turned g c =
    let tells = g.M.Fan.tells in
    let i = c.rounds.invariant in
    let k = c.args.k in
    let r0 = c.args.router.now in
    let r = c.rounds.router in
    telling_by _ (tells c.args.fan.now) (tells c.rounds.fan) (Matches r0) (Matches r) k _ _
    (λ d e went. goes_weaker (tells c.args.fan.now) (tells c.rounds.fan) (Matches r0 d) (Matches r e) k _ _
    (λ made a b p. (
      (λ _. begins_moved k r0 r c.rounds.waits c.rounds.moved i.goes.0 made i.goes.2 (omega (arith, c.rounds-test.false)) p.begins),
      (p.grows, p.none_failed, subst (λ (n : ℕ). amount n a + 16 ≤ amount n b) (sym i.same.targets) (omega (arith, p.amount_is, c.rounds-test.false)), sym c.in-None.ensures.told),
    ))
    went)
    i.goes.1
