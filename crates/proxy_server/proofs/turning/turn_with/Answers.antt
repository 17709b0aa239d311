use Rattle.std.proofs.Common.{rules, ◌≡◌, ◌+◌, ◌<◌, ◌⊎◌, ◌++◌, inl, inr, List, ℕ, Option, None, Some, Ok, arith, refl, ap, sym, ◌∙◌, subst}
use Rattle.gate_hub.specs.Meaning.{HubCall}
use Rattle.proxy_server.specs.Calling.{Wanted}
use Rattle.session_core.specs.Session.{Seen, HoldsWithin}
use Rattle.proxy_server.specs.Matching.{Matches}
use Rattle.proxy_server.specs.Turning.{Begins, Runs, Breaks, wanted, no_waits, or_else, Settles, GoesOn, BreaksOff, Ends, ByLink, BySession}
use Rattle.proxy_server.specs.declared.waiting.Waits.{Waits}
use Rattle.proxy_server.proofs.Telling.{quietly, goes_on, goes_weaker, then_runs, then_breaks, runs_at}
use Rattle.proxy_server.proofs.Running.{goes_nowhere, runs_on, runs_not, settles, later_on, later_not, same_on, want_on}
use Rattle.proxy_server.proofs.turning.turn_with.Goals as goal

some_none : {X : Type 0} (o : Option X) (x : X) → o ≡ Some x → o ≡ None → ⊥
some_none o x p q = differ (sym p ∙ q)
  where
    differ : {X : Type 0} {y : X} → Some y ≡ None → ⊥
    differ e = cc

-- what is wanted after the first calls, where none was made
again : {J : Type 0} → (s0 s : Seen J) (w : Waits) (moved : ℕ) (first : Option Wanted) → ((moved ≡ 0) × (first ≡ None) × (s ≡ s0) × (w ≡ no_waits)) ⊎ (first ≡ wanted no_waits s0) → (wanted no_waits s0 ≡ None → (s ≡ s0) × (w ≡ no_waits)) → first ≡ None → wanted w s ≡ wanted no_waits s0
again {J} s0 s w moved first from idle none = by from
  where
    alike : (s ≡ s0) × (w ≡ no_waits) → wanted w s ≡ wanted no_waits s0
    alike e = ap (λ v. wanted v s) e.1 ∙ ap (λ (t : Seen J). wanted no_waits t) e.0

    by : ((moved ≡ 0) × (first ≡ None) × (s ≡ s0) × (w ≡ no_waits)) ⊎ (first ≡ wanted no_waits s0) → wanted w s ≡ wanted no_waits s0
    by (inl e) = alike (e.2, e.3)
    by (inr e) = alike (idle (sym e ∙ none))

either : {J : Type 0} → (s0 s : Seen J) (w : Waits) (moved : ℕ) (first : Option Wanted) → ((moved ≡ 0) × (first ≡ None) × (s ≡ s0) × (w ≡ no_waits)) ⊎ (first ≡ wanted no_waits s0) → (first ≡ None) ⊎ (first ≡ wanted no_waits s0)
either s0 s w moved first (inl e) = inl e.1
either s0 s w moved first (inr e) = inr e

-- the whole of the turn begins with what is wanted of its first session
whole : {J : Type 0} → (s0 s : Seen J) (w : Waits) (moved : ℕ) (first : Option Wanted) → ((moved ≡ 0) × (first ≡ None) × (s ≡ s0) × (w ≡ no_waits)) ⊎ (first ≡ wanted no_waits s0) → (wanted no_waits s0 ≡ None → (s ≡ s0) × (w ≡ no_waits)) → or_else first (wanted w s) ≡ wanted no_waits s0
whole s0 s w moved first from idle = want_on first (wanted w s) (wanted no_waits s0) (again s0 s w moved first from idle) (either s0 s w moved first from)

begins_whole : {J : Type 0} → (k : ℕ) (s0 s : Seen J) (w : Waits) (moved : ℕ) (first : Option Wanted) (made : List HubCall) → ((moved ≡ 0) × (first ≡ None) × (s ≡ s0) × (w ≡ no_waits)) ⊎ (first ≡ wanted no_waits s0) → (s ≡ s0 → ⊥) → Begins k first made → Begins k (wanted no_waits s0) made
begins_whole k s0 s w moved first made (inl e) other p = absurd (other e.2)
begins_whole k s0 s w moved first made (inr e) other p = subst (λ (f : Option Wanted). Begins k f made) e p

begins_moved : {J : Type 0} → (k : ℕ) (s0 s : Seen J) (w : Waits) (moved : ℕ) (first : Option Wanted) (made : List HubCall) → ((moved ≡ 0) × (first ≡ None) × (s ≡ s0) × (w ≡ no_waits)) ⊎ (first ≡ wanted no_waits s0) → 0 < moved → Begins k first made → Begins k (wanted no_waits s0) made
begins_moved k s0 s w moved first made (inl e) some p = absurd (omega (arith, e.0, some))
begins_moved k s0 s w moved first made (inr e) some p = subst (λ (f : Option Wanted). Begins k f made) e p

-- what the first session of the turn holds
held_at : {J : Type 0} → (s0 s : Seen J) → (s ≡ s0) ⊎ HoldsWithin s0 → HoldsWithin s → HoldsWithin s0
held_at s0 s (inl e) holds = subst (λ t. HoldsWithin t) e holds
held_at s0 s (inr before) holds = before

pub loop-moved-init : goal.loop-moved-init
loop-moved-init g c =
    let s = c.args.session.now in
    record {
      goes = (None, quietly (g.N.Notes.tells c.args.notes.now c.args.notes.now) (g.H.Hub.tells c.args.hub.now) (g.H.Hub.tells c.args.hub.now) (Matches _ g.J.Judge.rules s) (Matches _ g.J.Judge.rules s) c.args.k _ (g.met.N.Notes.stays c.args.notes.now) (λ past. goes_nowhere (g.H.Hub.tells c.args.hub.now) (Matches _ g.J.Judge.rules s past) c.args.k (Runs c.args.k None 0 no_waits no_waits) (runs_not c.args.k no_waits)), inl (refl, refl, refl, refl));
      idle = λ _. (refl, refl);
      same = record { judge = refl; limit = refl; max_calls = refl; rooms = refl };
      before = inl refl;
      bounded = omega arith;
      piece = c.requires;
      later = later_not _;
      stays = refl;
    }

pub returns-in-Some-clause-ending : goal.returns-in-Some-clause-ending
returns-in-Some-clause-ending g c = Ends c.in-Some.outcome (sym c.in-Some.ensures.told) c.in-Some.ensures.own

pub returns-in-Some-clause-turned : goal.returns-in-Some-clause-turned
returns-in-Some-clause-turned g c =
    let i = c.loop-moved.invariant in
    let s0 = c.args.session.now in
    let s = c.loop-moved.session in
    goes_weaker (g.N.Notes.tells c.args.notes.now c.loop-moved.notes) (g.H.Hub.tells c.args.hub.now) (g.H.Hub.tells c.loop-moved.hub) (Matches _ g.J.Judge.rules s0) (Matches _ g.J.Judge.rules s) c.args.k _ _
    (λ made a b p. (
      (λ going. begins_whole c.args.k s0 s c.loop-moved.waits c.loop-moved.moved i.goes.0 made i.goes.2 (λ same. some_none s0.outcome c.in-Some.outcome (ap (λ t. t.outcome) (sym same) ∙ sym c.in-Some.ensures.told) going) p.begins),
      (p.grows, BySession (sym c.in-Some.ensures.told) c.in-Some.ensures.own p.none_failed),
    ))
    i.goes.1

pub returns-in-Err-clause-turned : goal.returns-in-Err-clause-turned
returns-in-Err-clause-turned g c =
    let tells = g.H.Hub.tells in
    let says = g.N.Notes.tells in
    let follows = g.met.N.Notes.follows in
    let matches = Matches _ g.J.Judge.rules in
    let i = c.loop-moved.invariant in
    let new = c.round.new in
    let n = c.loop-moved.moved in
    let s0 = c.args.session.now in
    let s = c.loop-moved.session in
    let w = c.loop-moved.waits in
    let x = c.in-Err.side in
    goes_weaker (says c.args.notes.now new.notes) (tells c.args.hub.now) (tells new.hub) (matches s0) (matches new.session) c.args.k (Breaks c.args.k (or_else i.goes.0 (wanted w s)) x) _
    (λ made a b p. (
      (λ _. subst (λ (f : Option Wanted). Begins c.args.k f made) (whole s0 s w n i.goes.0 i.goes.2 i.idle) p.begins),
      (p.grows, ByLink x refl p.last p.failed p.others),
    ))
    (then_breaks says follows c.args.notes.now c.loop-moved.notes new.notes (tells c.args.hub.now) (tells c.loop-moved.hub) (tells new.hub) (matches s0) (matches s) (matches new.session) c.args.k i.goes.0 (wanted w s) n no_waits w x i.goes.1 c.in-Err.ensures.goes)

pub returns-in-Err-clause-ending : goal.returns-in-Err-clause-ending
returns-in-Err-clause-ending g c = BreaksOff c.in-Err.side

pub returns-in-Ok-eq0-clause-turned : goal.returns-in-Ok-eq0-clause-turned
returns-in-Ok-eq0-clause-turned g c =
    let tells = g.H.Hub.tells in
    let says = g.N.Notes.tells in
    let follows = g.met.N.Notes.follows in
    let matches = Matches _ g.J.Judge.rules in
    let i = c.loop-moved.invariant in
    let new = c.round.new in
    let n = c.loop-moved.moved in
    let s0 = c.args.session.now in
    let s = c.loop-moved.session in
    let w = c.loop-moved.waits in
    let quiet = c.in-Ok-eq0.ensures.quiet (ap Ok c.in-Ok-eq0.field-0-test) in
    let going : new.session.outcome ≡ None = ap (λ t. t.outcome) quiet.0 ∙ sym c.in_default.ensures.told in
    goes_on says follows c.args.notes.now c.loop-moved.notes new.notes (tells c.args.hub.now) (tells c.loop-moved.hub) (tells new.hub) (matches s0) (matches s) (matches new.session) c.args.k (Runs c.args.k i.goes.0 n no_waits w) (Runs c.args.k (wanted w s) c.in-Ok-eq0.field-0 w new.waits) _
    (λ made a b p. (p.grows.announced, p.grows.closed))
    (λ notes made more r a b p q m.
    let both = runs_on c.args.k i.goes.0 (wanted w s) n c.in-Ok-eq0.field-0 no_waits w new.waits made more r a b p q in (
      (λ _. subst (λ (f : Option Wanted). Begins c.args.k f (made ++ more)) (whole s0 s w n i.goes.0 i.goes.2 i.idle) both.begins),
      settles _ g.J.Judge.rules new.session notes c.args.k _ (n + c.in-Ok-eq0.field-0) new.waits (made ++ more) r b going quiet.1 m both,
    ))
    i.goes.1 c.in-Ok-eq0.ensures.goes

pub returns-in-Ok-eq0-clause-ending : goal.returns-in-Ok-eq0-clause-ending
returns-in-Ok-eq0-clause-ending g c =
    let quiet = c.in-Ok-eq0.ensures.quiet (ap Ok c.in-Ok-eq0.field-0-test) in
    Settles (ap (λ s. s.outcome) quiet.0 ∙ sym c.in_default.ensures.told)

pub loop-moved-preserved : goal.loop-moved-preserved
loop-moved-preserved g c =
    let tells = g.H.Hub.tells in
    let says = g.N.Notes.tells in
    let follows = g.met.N.Notes.follows in
    let matches = Matches _ g.J.Judge.rules in
    let i = c.loop-moved.invariant in
    let new = c.round.new in
    let n = c.loop-moved.moved in
    let s0 = c.args.session.now in
    let s = c.loop-moved.session in
    let w = c.loop-moved.waits in
    let all = whole s0 s w n i.goes.0 i.goes.2 i.idle in
    record {
      goes = (
        wanted no_waits s0,
        runs_at (says c.args.notes.now new.notes) (tells c.args.hub.now) (tells new.hub) (matches s0) (matches new.session) c.args.k (or_else i.goes.0 (wanted w s)) (wanted no_waits s0) (n + c.in-Ok.count) no_waits new.waits all
            (then_runs says follows c.args.notes.now c.loop-moved.notes new.notes (tells c.args.hub.now) (tells c.loop-moved.hub) (tells new.hub) (matches s0) (matches s) (matches new.session) c.args.k i.goes.0 (wanted w s) n c.in-Ok.count no_waits w new.waits i.goes.1 c.in-Ok.ensures.goes),
        inr refl,
      );
      idle = λ none.
          let before = i.idle none in
          let now : wanted w s ≡ None = (ap (λ v. wanted v s) before.1 ∙ ap (λ t. wanted no_waits t) before.0) ∙ none in
          let after = c.round.ensures.idle now in
          (after.0 ∙ before.0, after.1 ∙ before.1);
      same = same_on _ _ _ _ i.same c.round.ensures.same;
      before = inr (held_at s0 s i.before c.in_default.ensures.holds);
      bounded = omega (arith, c.loop-moved-test.true, c.in-Ok.ensures.few);
      piece = c.round.ensures.piece ∙ i.piece;
      later = later_on _ _ _ i.later c.round.ensures.later;
      stays = c.round.ensures.kept ∙ i.stays;
    }

pub returns-in-Some-outcome-clause-ending : goal.returns-in-Some-outcome-clause-ending
returns-in-Some-outcome-clause-ending g c = Ends c.in-Some-outcome.outcome (sym c.in-Some-outcome.ensures.told) c.in-Some-outcome.ensures.own

pub returns-in-Some-outcome-clause-turned : goal.returns-in-Some-outcome-clause-turned
returns-in-Some-outcome-clause-turned g c =
    let i = c.loop-moved.invariant in
    let s0 = c.args.session.now in
    let s = c.loop-moved.session in
    goes_weaker (g.N.Notes.tells c.args.notes.now c.loop-moved.notes) (g.H.Hub.tells c.args.hub.now) (g.H.Hub.tells c.loop-moved.hub) (Matches _ g.J.Judge.rules s0) (Matches _ g.J.Judge.rules s) c.args.k _ _
    (λ made a b p. (
      (λ _. begins_moved c.args.k s0 s c.loop-moved.waits c.loop-moved.moved i.goes.0 made i.goes.2 (omega (arith, c.loop-moved-test.false)) p.begins),
      (p.grows, BySession (sym c.in-Some-outcome.ensures.told) c.in-Some-outcome.ensures.own p.none_failed),
    ))
    i.goes.1

pub returns-in-None-clause-ending : goal.returns-in-None-clause-ending
returns-in-None-clause-ending g c = GoesOn (sym c.in-None.ensures.told)

pub returns-in-None-clause-turned : goal.returns-in-None-clause-turned
returns-in-None-clause-turned g c =
    let i = c.loop-moved.invariant in
    let s0 = c.args.session.now in
    let s = c.loop-moved.session in
    goes_weaker (g.N.Notes.tells c.args.notes.now c.loop-moved.notes) (g.H.Hub.tells c.args.hub.now) (g.H.Hub.tells c.loop-moved.hub) (Matches _ g.J.Judge.rules s0) (Matches _ g.J.Judge.rules s) c.args.k _ _
    (λ made a b p. (
      (λ _. begins_moved c.args.k s0 s c.loop-moved.waits c.loop-moved.moved i.goes.0 made i.goes.2 (omega (arith, c.loop-moved-test.false)) p.begins),
      (p.grows, p.none_failed, omega (arith, p.amount_is, c.loop-moved-test.false), sym c.in-None.ensures.told),
    ))
    i.goes.1

pub returns-in-Some-clause-holds : goal.returns-in-Some-clause-holds
returns-in-Some-clause-holds g c = (held_at c.args.session.now c.loop-moved.session c.loop-moved.invariant.before c.in-Some.ensures.holds, c.in-Some.ensures.holds)

pub returns-in-Err-clause-holds : goal.returns-in-Err-clause-holds
returns-in-Err-clause-holds g c = (held_at c.args.session.now c.loop-moved.session c.loop-moved.invariant.before c.in_default.ensures.holds, c.in-Err.ensures.holds)

pub returns-in-Ok-eq0-clause-holds : goal.returns-in-Ok-eq0-clause-holds
returns-in-Ok-eq0-clause-holds g c = (held_at c.args.session.now c.loop-moved.session c.loop-moved.invariant.before c.in_default.ensures.holds, c.in-Ok-eq0.ensures.holds)

pub returns-in-Some-outcome-clause-holds : goal.returns-in-Some-outcome-clause-holds
returns-in-Some-outcome-clause-holds g c = (held_at c.args.session.now c.loop-moved.session c.loop-moved.invariant.before c.in-Some-outcome.ensures.holds, c.in-Some-outcome.ensures.holds)

pub returns-in-None-clause-holds : goal.returns-in-None-clause-holds
returns-in-None-clause-holds g c = (held_at c.args.session.now c.loop-moved.session c.loop-moved.invariant.before c.in-None.ensures.holds, c.in-None.ensures.holds)
