use Rattle.idl_consts.proofs.Chains.{take_stands}
use Rattle.idl_consts.proofs.survey.take.Goals as goal
use Rattle.std.proofs.Common.{arith}
use Rattle.std.proofs.lemmas.Grind.{common_steps}

pub returns-in_ok-push-in-Reference-2 : goal.returns-in_ok-push-in-Reference-2
returns-in_ok-push-in-Reference-2 c = λ d go.
    rw (c.in-Reference.is, c.in_ok-push-in-Reference.ensures.items, c.in_ok-push-in-Reference-2.ensures.items)
    (take_stands d go c.args.references.now.items c.args.levels.now.items c.in-Reference.reference c.in-Reference.next)

pub returns-in_ok-push-in-Goes : goal.returns-in_ok-push-in-Goes
returns-in_ok-push-in-Goes c = grind (arith, common_steps)

pub returns-in_ok-push-in-Opens-2 : goal.returns-in_ok-push-in-Opens-2
returns-in_ok-push-in-Opens-2 c = grind (arith, common_steps)
