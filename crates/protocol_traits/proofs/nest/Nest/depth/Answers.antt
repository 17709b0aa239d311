use Rattle.std.proofs.Common.{◌≡◌, sym, ap, ◌∙◌, length}
use Rattle.protocol_traits.proofs.Levels.{length-nested}
use Rattle.protocol_traits.proofs.nest.Nest.depth.Goals as goal

pub returns-clause-depth : goal.returns-clause-depth
returns-clause-depth c = sym (length-nested c.self.inside.top c.self.inside.outer c.self.inside.depth) ∙ ap length c.self.view_is
