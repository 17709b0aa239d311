use Rattle.std.proofs.Common.{arith}
use Rattle.std.proofs.lemmas.Grind.{common_steps}
use Rattle.json_protocol.specs.ReadForms.{map_head_found}
use Rattle.json_protocol.proofs.starts.pairs_start.Goals as goal

pub returns-clause-found : goal.returns-clause-found
returns-clause-found c =
    let key = c.in_ok-key in
    let value = c.in_ok-value in
    let size = c.in_ok-size in
    map_head_found c.args.frame.now c.args.at c.in_ok-name.name key.behind c.in_ok-next.next value.behind size.size size.behind key.key value.value c.in_ok-name.ensures key.ensures.quote key.ensures.found
    c.in_ok-next.ensures value.ensures.quote value.ensures.found size.ensures

pub returns-clause-bracket : goal.returns-clause-bracket
returns-clause-bracket c = grind (arith, common_steps)
