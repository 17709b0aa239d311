use Rattle.std.proofs.Common.{arith, sym, ◌∙◌, ap, subst}
use Rattle.std.proofs.lemmas.Grind.{common_steps}
use Rattle.session_core.specs.Working.{standing, ending_of, IsSettledBy}
use Rattle.session_core.specs.Looks.{stopped}
use Rattle.session_core.specs.declared.state.State.{State}
use Rattle.session_core.proofs.state.State.settle.Goals as goal

pub returns-clause-settled : goal.returns-clause-settled
returns-clause-settled g c =
    let old = c.args.self.now in
    let mid = c.advance-stop.new.self in
    let advanced = c.advance-stop.ensures in
    subst (λ (s : State). IsSettledBy (g.J.Judge.rules c.args.judge.now) old s) (sym c.keep_ending.ensures)
    (record {
      still = advanced.still;
      outcome_is = ap (λ n. ending_of n (standing mid) (stopped c.advance-stop.result mid.halt)) advanced.keeps.ready.client.limit_is ∙ advanced.ending;
    })

pub returns-clause-keeps : goal.returns-clause-keeps
returns-clause-keeps g c = grind (arith, common_steps)
