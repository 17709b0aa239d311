use Rattle.std.proofs.Common.{◌≡◌, ◌∙◌, length, arith, ap, subst, sym}
use Rattle.service_router.specs.Judging.{rules_of}
use Rattle.service_router.specs.Routing.{Routing}
use Rattle.service_router.specs.Setups.{routing_of}
use Rattle.service_router.specs.Standing.{begun}
use Rattle.service_router.specs.Working.{standing, IsReady}
use Rattle.service_router.proofs.Opening.{opened_fits, opened_rest}
use Rattle.service_router.proofs.Moves.{knows_nothing}
use Rattle.service_router.proofs.Keeping.{sound_of}
use Rattle.service_router.proofs.Rooms.{rooms_are, sound_holds}
use Rattle.service_router.proofs.router.Router.open.Goals as goal

pub invariant_of-result : goal.invariant_of-result
invariant_of-result c =
    let limit = c.args.setup.limit in
    let calls = c.args.setup.calls in
    let n = length c.args.targets.now in
    let j = c.in_ok-judge.judge in
    let s = c.in_ok-state.state in
    let given : j ≡ routing_of c.args.setup c.args.targets.now = c.in_ok-judge.ensures in
    let r : IsReady limit calls n s = c.in_ok-state.ensures.ready in
    let empty : standing s ≡ begun limit n = c.in_ok-state.ensures.empty in (
      record {
        ready = sound_of limit calls n s r;
        fits = omega (arith, r.client.limit_is, ap (λ (x : Routing). x.longest) given);
        targets = r.count ∙ sym (ap (λ (x : Routing). length x.targets) given);
        known = knows_nothing (rules_of j) s c.in_ok-state.ensures.unknown;
      },
      opened_rest (rules_of j) s.client.limit s.calls.capacity n (standing s) s.outcome (omega (arith, r.capacity, c.requires.some)) (subst (λ m. standing s ≡ begun m n) (sym r.client.limit_is) empty) c.in_ok-state.ensures.open,
    )

pub returns-clause-fits : goal.returns-clause-fits
returns-clause-fits c =
    let s = c.in_ok-state.state in
    let r : IsReady c.args.setup.limit c.args.setup.calls (length c.args.targets.now) s = c.in_ok-state.ensures.ready in
    let empty : standing s ≡ begun c.args.setup.limit (length c.args.targets.now) = c.in_ok-state.ensures.empty in
    opened_fits (rules_of c.in_ok-judge.judge) s.client.limit s.calls.capacity (length c.args.targets.now) (standing s) (subst (λ m. standing s ≡ begun m (length c.args.targets.now)) (sym r.client.limit_is) empty)

pub returns-clause-rest : goal.returns-clause-rest
returns-clause-rest c =
    let s = c.in_ok-state.state in
    let r : IsReady c.args.setup.limit c.args.setup.calls (length c.args.targets.now) s = c.in_ok-state.ensures.ready in
    let empty : standing s ≡ begun c.args.setup.limit (length c.args.targets.now) = c.in_ok-state.ensures.empty in
    opened_rest (rules_of c.in_ok-judge.judge) s.client.limit s.calls.capacity (length c.args.targets.now) (standing s) s.outcome (omega (arith, r.capacity, c.requires.some)) (subst (λ m. standing s ≡ begun m (length c.args.targets.now)) (sym r.client.limit_is) empty) c.in_ok-state.ensures.open

pub returns-clause-rooms : goal.returns-clause-rooms
returns-clause-rooms c = rooms_are c.args.setup.limit c.args.setup.calls (length c.args.targets.now) c.in_ok-state.state c.in_ok-state.ensures.ready

pub returns-clause-holds : goal.returns-clause-holds
returns-clause-holds c =
    let s = c.in_ok-state.state in
    sound_holds s s.outcome (sound_of c.args.setup.limit c.args.setup.calls (length c.args.targets.now) s c.in_ok-state.ensures.ready)
