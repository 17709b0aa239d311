use Rattle.protocol_traits.proofs.Levels.{nested-set_top}
use Rattle.protocol_traits.proofs.nest.Nest.set_top.Goals as goal

pub returns : goal.returns
returns c = nested-set_top c.self.inside.top c.self.inside.outer c.self.inside.depth c.args.slot c.args.self.now c.self.view_is c.requires
