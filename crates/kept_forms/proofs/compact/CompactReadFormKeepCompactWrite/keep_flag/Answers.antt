use Rattle.std.specs.Int.{w16}
use Rattle.std.proofs.lemmas.Int.{to_z-of_z}
use Rattle.kept_forms.proofs.Beginnings.{flag_kept}
use Rattle.kept_forms.proofs.compact.CompactReadFormKeepCompactWrite.keep_flag.Goals as goal

pub returns-clause-keeps : goal.returns-clause-keeps
returns-clause-keeps c =
    let own = rw (to_z-of_z w16 c.args.last c.ranges.last, to_z-of_z w16 c.args.id c.ranges.id) at (c.is_own_id.ensures c.if-not-is_own_id.false) in
    flag_kept c.args.frame.now c.args.at c.args.behind c.args.opening c.args.last c.args.id c.type_inv.frame c.requires own
