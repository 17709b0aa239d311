use Rattle.protocol_traits.specs.Heads.{header_of}
use Rattle.kept_forms.proofs.HeaderInCompact.{front_kept}
use Rattle.kept_forms.proofs.compact.CompactReadFormKeepCompactWrite.keep_front.Goals as goal
use Rattle.std.proofs.Common.{arith}
use Rattle.std.proofs.lemmas.Grind.{common_steps}

pub returns-clause-own : goal.returns-clause-own
returns-clause-own c =
    let found = c.in_ok-head in
    front_kept c.args.frame.now (header_of found.head) found.behind c.type_inv.frame found.ensures.reads (c.is_own_front.ensures c.if-not-is_own_front.false)

pub returns-clause-reads : goal.returns-clause-reads
returns-clause-reads c = grind (arith, common_steps)
