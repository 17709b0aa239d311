use Rattle.std.proofs.Common.{arith, [], refl, ap, ◌∙◌}
use Rattle.std.proofs.lemmas.Grind.{common_steps}
use Rattle.session_core.specs.Working.{standing}
use Rattle.session_core.proofs.Moves.{took_upstream, took_client, client_at}
use Rattle.session_core.proofs.Keeping.{works_on, works_at, keeps_on, keeps_by}
use Rattle.session_core.proofs.state.State.step.Goals as goal

pub returns-in-Takes-clause-goes : goal.returns-in-Takes-clause-goes
returns-in-Takes-clause-goes g c =
    let s = c.args.self.now in (
      _,
      c.in-Takes.ensures.told,
      took_upstream (g.J.Judge.rules c.args.judge.now) s.client.held.limit s.upstream.held.limit s.calls.capacity (standing s) (standing c.upstream_step.new.self) c.requires.works.ready.upstream.limit_is c.in-Takes.ensures.comes (c.in-Takes.ensures.cut refl),
    )

pub returns-in-Halts-clause-goes : goal.returns-in-Halts-clause-goes
returns-in-Halts-clause-goes g c = (_, c.in-Halts.ensures.told, (c.in-Halts.ensures.comes.1, c.in-Halts.ensures.comes.0, refl))

pub returns-in-Takes-client_step-clause-goes : goal.returns-in-Takes-client_step-clause-goes
returns-in-Takes-client_step-clause-goes g c =
    let s = c.args.self.now in
    let mid = c.upstream_step.new.self in
    let keeps = c.in-Waits.ensures.keeps in (
      _,
      g.met.N.Notes.follows _ _ _ [] _ c.in-Waits.ensures.told c.in-Takes-client_step.ensures.told,
      took_client (g.J.Judge.rules c.args.judge.now) (g.J.Judge.rules c.upstream_step.new.judge) s.client.held.limit mid.client.held.limit s.calls.capacity mid.calls.capacity (standing s) (standing mid) (standing c.client_step.new.self)
          c.in-Waits.ensures.comes.0 c.in-Waits.ensures.comes.1 (ap g.J.Judge.rules c.in-Waits.ensures.same) keeps.ready.client.limit_is keeps.ready.capacity c.in-Takes-client_step.ensures.comes (c.in-Takes-client_step.ensures.cut refl),
    )

pub client_step-requires : goal.client_step-requires
client_step-requires g c =
    record {
      works = works_at _ g.J.Judge.rules g.J.Judge.longest c.args.judge.now c.upstream_step.new.judge c.upstream_step.new.self c.in-Waits.ensures.same
          (works_on (g.J.Judge.rules c.args.judge.now) _ c.args.self.now c.upstream_step.new.self c.requires.works c.in-Waits.ensures.keeps);
    }

pub returns-in-Takes-client_step-clause-keeps : goal.returns-in-Takes-client_step-clause-keeps
returns-in-Takes-client_step-clause-keeps g c =
    keeps_on (g.J.Judge.rules c.args.judge.now) c.args.self.now c.upstream_step.new.self c.client_step.new.self c.in-Waits.ensures.keeps
    (keeps_by _ g.J.Judge.rules c.args.judge.now c.upstream_step.new.judge c.upstream_step.new.self c.client_step.new.self c.in-Waits.ensures.same c.in-Takes-client_step.ensures.keeps)

pub returns-in-Halts-client_step-clause-keeps : goal.returns-in-Halts-client_step-clause-keeps
returns-in-Halts-client_step-clause-keeps g c =
    keeps_on (g.J.Judge.rules c.args.judge.now) c.args.self.now c.upstream_step.new.self c.client_step.new.self c.in-Waits.ensures.keeps
    (keeps_by _ g.J.Judge.rules c.args.judge.now c.upstream_step.new.judge c.upstream_step.new.self c.client_step.new.self c.in-Waits.ensures.same c.in-Halts-client_step.ensures.keeps)

pub returns-in-Waits-client_step-clause-keeps : goal.returns-in-Waits-client_step-clause-keeps
returns-in-Waits-client_step-clause-keeps g c =
    keeps_on (g.J.Judge.rules c.args.judge.now) c.args.self.now c.upstream_step.new.self c.client_step.new.self c.in-Waits.ensures.keeps
    (keeps_by _ g.J.Judge.rules c.args.judge.now c.upstream_step.new.judge c.upstream_step.new.self c.client_step.new.self c.in-Waits.ensures.same c.in-Waits-client_step.ensures.keeps)

pub returns-in-Halts-client_step-clause-goes : goal.returns-in-Halts-client_step-clause-goes
returns-in-Halts-client_step-clause-goes g c =
    let s = c.args.self.now in
    let mid = c.upstream_step.new.self in
    let keeps = c.in-Waits.ensures.keeps in
    let comes = c.in-Halts-client_step.ensures.comes in
    let same = client_at (g.J.Judge.rules c.args.judge.now) (g.J.Judge.rules c.upstream_step.new.judge) s.client.held.limit mid.client.held.limit s.calls.capacity mid.calls.capacity (standing s) (standing mid) c.in-Waits.ensures.comes.1 (ap g.J.Judge.rules c.in-Waits.ensures.same) keeps.ready.client.limit_is keeps.ready.capacity in (
      _,
      g.met.N.Notes.follows _ _ _ [] [] c.in-Waits.ensures.told c.in-Halts-client_step.ensures.told,
      (comes.1 ∙ c.in-Waits.ensures.comes.1, (c.in-Waits.ensures.comes.0, same ∙ comes.0), refl),
    )

pub returns-in-Waits-client_step-clause-goes : goal.returns-in-Waits-client_step-clause-goes
returns-in-Waits-client_step-clause-goes g c =
    let s = c.args.self.now in
    let mid = c.upstream_step.new.self in
    let keeps = c.in-Waits.ensures.keeps in
    let comes = c.in-Waits-client_step.ensures.comes in
    let same = client_at (g.J.Judge.rules c.args.judge.now) (g.J.Judge.rules c.upstream_step.new.judge) s.client.held.limit mid.client.held.limit s.calls.capacity mid.calls.capacity (standing s) (standing mid) c.in-Waits.ensures.comes.1 (ap g.J.Judge.rules c.in-Waits.ensures.same) keeps.ready.client.limit_is keeps.ready.capacity in (
      _,
      g.met.N.Notes.follows _ _ _ [] [] c.in-Waits.ensures.told c.in-Waits-client_step.ensures.told,
      (comes.1 ∙ c.in-Waits.ensures.comes.1, (c.in-Waits.ensures.comes.0, same ∙ comes.0), refl),
    )

pub returns-in-Waits-client_step-clause-same : goal.returns-in-Waits-client_step-clause-same
returns-in-Waits-client_step-clause-same g c = grind (arith, common_steps)

pub returns-in-Takes-client_step-clause-same : goal.returns-in-Takes-client_step-clause-same
returns-in-Takes-client_step-clause-same g c = grind (arith, common_steps)

pub returns-in-Halts-client_step-clause-same : goal.returns-in-Halts-client_step-clause-same
returns-in-Halts-client_step-clause-same g c = grind (arith, common_steps)
