use Rattle.std.proofs.Common.{add-one}
use Rattle.protocol_traits.proofs.Levels.{nested-push}
use Rattle.protocol_traits.proofs.nest.Nest.push.Goals as goal

pub returns : goal.returns
returns c = rw add-one (nested-push c.self.inside.top c.self.inside.outer c.set.new.self c.self.inside.depth c.args.slot c.args.self.now c.self.view_is c.requires.some c.set.ensures.there c.set.ensures.others)
