use Rattle.std.proofs.Common.{sym, ◌∙◌}
use Rattle.kept_forms.proofs.HeaderInCompact.{shortest_found}
use Rattle.kept_forms.proofs.compact.are_shortest.Goals as goal

pub returns-in-Some : goal.returns-in-Some
returns-in-Some c some =
    let found = c.tight_size in
    shortest_found c.args.frame.now 2 c.in-Some.count found.result c.type_inv.frame c.in-Some.ensures.stands found.ensures.exact found.ensures.tight (sym c.is_some.ensures ∙ some)
