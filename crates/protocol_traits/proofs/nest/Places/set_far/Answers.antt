use Rattle.std.proofs.Common.{arith}
use Rattle.std.proofs.lemmas.Grind.{common_steps}
use Rattle.protocol_traits.proofs.Levels.{set_far-there, set_far-keeps, set_far-others}
use Rattle.protocol_traits.proofs.nest.Places.set_far.Goals as goal

pub returns-in-Some-clause-there : goal.returns-in-Some-clause-there
returns-in-Some-clause-there c = set_far-there c.args.self.now.near c.in-Some.far c.put.new.far c.args.at c.args.slot c.put.ensures.written c.put.ensures.places c.requires

pub returns-in-Some-clause-others : goal.returns-in-Some-clause-others
returns-in-Some-clause-others c = set_far-keeps c.args.self.now c.in-Some.far c.put.new.far c.args.at c.args.slot c.in-Some.is c.put.ensures.written

pub returns-in-None-clause-others : goal.returns-in-None-clause-others
returns-in-None-clause-others c = set_far-others c.args.self.now c.blank-far.result c.args.at c.args.slot c.in-None.is c.blank-far.ensures

pub returns-in-None-clause-there : goal.returns-in-None-clause-there
returns-in-None-clause-there c = grind (arith, common_steps)
