use Rattle.std.proofs.Common.{arith}
use Rattle.compact_protocol.specs.Forms.{number_at, size_there}
use Rattle.compact_protocol.proofs.forms.size_from.Goals as goal

pub returns-clause-found : goal.returns-clause-found
returns-clause-found c =
    size_there c.args.frame.now c.args.at c.in_ok-size.size c.in_ok-size.behind (number_at c.args.frame.now c.args.at 5 32 c.in_ok-size.size c.in_ok-size.behind c.requires c.in_ok-size.ensures.exact) (omega arith)
