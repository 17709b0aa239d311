use Rattle.json_protocol.specs.ReadForms.{sequence_found}
use Rattle.json_protocol.proofs.starts.sequence_start.Goals as goal

pub returns-clause-found : goal.returns-clause-found
returns-clause-found c =
    let kind = c.in_ok-kind in
    let size = c.in_ok-size in
    sequence_found c.args.frame.now c.args.at c.in_ok-name.name kind.behind size.size size.behind kind.kind c.in_ok-name.ensures kind.ensures.quote kind.ensures.found size.ensures
