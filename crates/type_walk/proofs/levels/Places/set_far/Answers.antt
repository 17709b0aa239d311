use Rattle.std.proofs.Common.{arith}
use Rattle.std.proofs.lemmas.Grind.{common_steps}
use Rattle.type_walk.proofs.Nested.{set_far-others}
use Rattle.type_walk.proofs.levels.Places.set_far.Goals as goal

pub returns-in-None-clause-others : goal.returns-in-None-clause-others
returns-in-None-clause-others c = set_far-others c.args.self.now c.blank-far.result c.args.at c.args.level c.in-None.is c.blank-far.ensures

pub returns-in-None-clause-there : goal.returns-in-None-clause-there
returns-in-None-clause-there c = grind (arith, common_steps)
