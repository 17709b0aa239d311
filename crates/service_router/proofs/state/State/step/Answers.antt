use Rattle.std.proofs.Common.{◌∙◌, ap, inl, inr}
use Rattle.session_core.specs.Steps.{Waits, Halts}
use Rattle.service_router.specs.Judging.{rules_of}
use Rattle.service_router.specs.Working.{standing}
use Rattle.service_router.proofs.Moves.{asks_after, client_after, after_none}
use Rattle.service_router.proofs.Keeping.{works_on, works_at, keeps_on, keeps_by}
use Rattle.service_router.proofs.state.State.step.Goals as goal

pub returns-in-Takes-clause-goes : goal.returns-in-Takes-clause-goes
returns-in-Takes-clause-goes g c = let w = c.in-Takes.ensures.comes in (w.0, w.1, inl w.2)

pub returns-in-Halts-clause-goes : goal.returns-in-Halts-clause-goes
returns-in-Halts-clause-goes g c = let w = c.in-Halts.ensures.comes in (w.0, w.1, (w.2.1, w.2.0, w.2.2))

pub returns-in-Takes-client_step-clause-goes : goal.returns-in-Takes-client_step-clause-goes
returns-in-Takes-client_step-clause-goes g c =
    let s = c.args.self.now in
    let mid = c.upstream_step.new.self in
    let keeps = c.in-Waits.ensures.keeps in
    let up = c.in-Waits.ensures.comes in
    let down = c.in-Takes-client_step.ensures.comes in (
      down.0,
      after_none g.met.N.Notes.follows up.0 down.0 up.2.2 up.1 down.1,
      inr (asks_after (rules_of c.args.judge.now) (rules_of c.upstream_step.new.judge) s.client.limit mid.client.limit s.calls.capacity mid.calls.capacity (standing s) (standing mid) (standing c.client_step.new.self) down.0
          (ap rules_of c.in-Waits.ensures.same) keeps.ready.client.limit_is keeps.ready.capacity up.2.1 down.2),
    )

pub returns-in-Halts-client_step-clause-goes : goal.returns-in-Halts-client_step-clause-goes
returns-in-Halts-client_step-clause-goes g c =
    let s = c.args.self.now in
    let mid = c.upstream_step.new.self in
    let keeps = c.in-Waits.ensures.keeps in
    let up = c.in-Waits.ensures.comes in
    let down = c.in-Halts-client_step.ensures.comes in (
      down.0,
      after_none g.met.N.Notes.follows up.0 down.0 up.2.2 up.1 down.1,
      (down.2.1 ∙ up.2.1, (up.2.0, client_after (rules_of c.args.judge.now) (rules_of c.upstream_step.new.judge) s.client.limit mid.client.limit s.calls.capacity mid.calls.capacity (standing s) (standing mid) (Halts c.in-Halts-client_step.halt) (ap rules_of c.in-Waits.ensures.same) keeps.ready.client.limit_is keeps.ready.capacity up.2.1 down.2.0), down.2.2),
    )

pub returns-in-Waits-client_step-clause-goes : goal.returns-in-Waits-client_step-clause-goes
returns-in-Waits-client_step-clause-goes g c =
    let s = c.args.self.now in
    let mid = c.upstream_step.new.self in
    let keeps = c.in-Waits.ensures.keeps in
    let up = c.in-Waits.ensures.comes in
    let down = c.in-Waits-client_step.ensures.comes in (
      down.0,
      after_none g.met.N.Notes.follows up.0 down.0 up.2.2 up.1 down.1,
      (down.2.1 ∙ up.2.1, (up.2.0, client_after (rules_of c.args.judge.now) (rules_of c.upstream_step.new.judge) s.client.limit mid.client.limit s.calls.capacity mid.calls.capacity (standing s) (standing mid) Waits (ap rules_of c.in-Waits.ensures.same) keeps.ready.client.limit_is keeps.ready.capacity up.2.1 down.2.0), down.2.2),
    )

pub client_step-requires : goal.client_step-requires
client_step-requires g c =
    record { works = works_at c.args.judge.now c.upstream_step.new.judge c.upstream_step.new.self c.in-Waits.ensures.same (works_on c.args.judge.now c.args.self.now c.upstream_step.new.self c.requires.works c.in-Waits.ensures.keeps) }

pub returns-in-Takes-client_step-clause-keeps : goal.returns-in-Takes-client_step-clause-keeps
returns-in-Takes-client_step-clause-keeps g c =
    keeps_on c.args.judge.now c.args.self.now c.upstream_step.new.self c.client_step.new.self c.in-Waits.ensures.keeps
    (keeps_by c.args.judge.now c.upstream_step.new.judge c.upstream_step.new.self c.client_step.new.self c.in-Waits.ensures.same c.in-Takes-client_step.ensures.keeps)

pub returns-in-Halts-client_step-clause-keeps : goal.returns-in-Halts-client_step-clause-keeps
returns-in-Halts-client_step-clause-keeps g c =
    keeps_on c.args.judge.now c.args.self.now c.upstream_step.new.self c.client_step.new.self c.in-Waits.ensures.keeps
    (keeps_by c.args.judge.now c.upstream_step.new.judge c.upstream_step.new.self c.client_step.new.self c.in-Waits.ensures.same c.in-Halts-client_step.ensures.keeps)

pub returns-in-Waits-client_step-clause-keeps : goal.returns-in-Waits-client_step-clause-keeps
returns-in-Waits-client_step-clause-keeps g c =
    keeps_on c.args.judge.now c.args.self.now c.upstream_step.new.self c.client_step.new.self c.in-Waits.ensures.keeps
    (keeps_by c.args.judge.now c.upstream_step.new.judge c.upstream_step.new.self c.client_step.new.self c.in-Waits.ensures.same c.in-Waits-client_step.ensures.keeps)
