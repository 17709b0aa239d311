use Rattle.std.proofs.Common.{arith, rules, FitsSigned}
use Rattle.std.specs.Int.{w16}
use Rattle.std.proofs.lemmas.Int.{to_z-of_z}
use Rattle.std.proofs.lemmas.Grind.{common_steps}
use Rattle.json_protocol.specs.ReadForms.{field_found}
use Rattle.json_protocol.proofs.starts.field_head.Goals as goal

pub returns-clause-found : goal.returns-clause-found
returns-clause-found c =
    let fits : FitsSigned w16 c.in_ok-id.id = search rules in
    let kind = c.in_ok-kind in
    rw (to_z-of_z w16 c.in_ok-id.id fits)
    (field_found c.args.frame.now c.args.at c.in_ok-id.behind c.in_ok-brace.brace c.in_ok-name.name kind.behind c.in_ok-id.id kind.kind c.in_ok-id.ensures.found c.in_ok-brace.ensures c.in_ok-name.ensures kind.ensures.quote kind.ensures.found)

pub returns-clause-quote : goal.returns-clause-quote
returns-clause-quote c = grind (arith, common_steps)
