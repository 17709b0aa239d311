use Rattle.std.proofs.Common.{arith}
use Rattle.protocol_traits.specs.Forms.{container_kind, elements_item}
use Rattle.json_protocol.specs.ReadForms.{leads_past, level_read, elements_there}
use Rattle.json_protocol.proofs.read_forms.JsonReadFormRead.elements.Goals as goal

pub returns-clause-past : goal.returns-clause-past
returns-clause-past c =
    let found = c.in_ok-kind.ensures.found in
    (omega (arith, leads_past c.args.stand c.args.frame.now c.args.at c.in_ok-place.place c.in_ok-place.ensures, found.1.0), omega (arith, found.1.1))

pub returns-clause-steps : goal.returns-clause-steps
returns-clause-steps c =
    let k = c.in_ok-kind in
    level_read c.args.frame.now c.args.at k.behind c.args.stand (container_kind c.args.container) (elements_item c.args.container k.kind k.size)
    (elements_there c.args.container c.args.frame.now c.args.at c.in_ok-place.place k.behind c.args.stand k.kind k.size c.requires.no_map c.in_ok-place.ensures k.ensures.bracket k.ensures.found)
