use Rattle.std.proofs.Common.{add-one}
use Rattle.type_walk.proofs.Nested.{nested-push}
use Rattle.type_walk.proofs.levels.Levels.push.Goals as goal

pub returns : goal.returns
returns c = rw add-one (nested-push c.self.inside.top c.self.inside.outer c.set.new.self c.self.inside.depth c.args.level c.args.self.now c.self.view_is c.requires.some c.set.ensures.there c.set.ensures.others)
