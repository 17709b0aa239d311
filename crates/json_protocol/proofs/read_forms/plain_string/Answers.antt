use Rattle.std.proofs.Common.{refl, arith}
use Rattle.protocol_traits.specs.declared.proto.Hint.TheVariants as hints
use Rattle.json_protocol.specs.ReadForms.{leads_past, text_there}
use Rattle.json_protocol.proofs.read_forms.plain_string.Goals as goal

pub returns-clause-past : goal.returns-clause-past
returns-clause-past c =
    let past = leads_past c.args.stand c.args.frame.now c.args.at c.in_ok-place.place c.in_ok-place.ensures in
    (omega (arith, past, c.in_ok-end.ensures.inside.0, c.in_ok-behind.ensures.1), omega (arith, c.in_ok-behind.ensures.2))

pub returns-clause-part : goal.returns-clause-part
returns-clause-part c =
    let past = leads_past c.args.stand c.args.frame.now c.args.at c.in_ok-place.place c.in_ok-place.ensures in
    (omega (arith, past), omega (arith, c.in_ok-end.ensures.inside.0), omega (arith, c.in_ok-behind.ensures.1))

pub returns-clause-found : goal.returns-clause-found
returns-clause-found c =
    let text = c.in_ok-end in
    text_there c.args.frame.now c.args.at c.in_ok-place.place text.«end» c.in_ok-behind.behind c.args.stand hints.Text refl c.in_ok-place.ensures text.ensures.begins text.ensures.inside c.in_ok-behind.ensures text.ensures.found
