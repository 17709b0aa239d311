use Rattle.std.proofs.Common.{arith}
use Rattle.kept_forms.proofs.InCompact.{i32_kept, tight_stands}
use Rattle.kept_forms.proofs.compact.rest_i32.Goals as goal

pub returns-clause-keeps : goal.returns-clause-keeps
returns-clause-keeps c =
    let found = c.in_ok-behind in
    i32_kept c.args.frame.now c.args.at found.behind c.args.stand (tight_stands c.args.frame.now c.args.at 5 32 found.field-0-0 found.behind (omega arith) c.type_inv.frame found.ensures.exact (c.is_tight.ensures c.if-not-is_tight.false))
