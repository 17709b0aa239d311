use Rattle.std.proofs.Common.{◌+◌, length, take, arith, length-take}
use Rattle.json_text.specs.Plain.{text_spelling}
use Rattle.json_text.specs.Lengths.{text_long}
use Rattle.json_protocol.proofs.LaidWords.{short_of}
use Rattle.json_protocol.proofs.write_forms.lay_string.Goals as goal

pub lay_text-requires-clause-room : goal.lay_text-requires-clause-room
lay_text-requires-clause-room c =
    let text = take c.args.size c.args.bytes.now in
    omega (arith, text_long text, length-take c.args.size c.args.bytes.now, c.lay_marks-to.ensures.place, c.stand_lead.ensures.few)

pub returns-clause-short : goal.returns-clause-short
returns-clause-short c =
    let text = take c.args.size c.args.bytes.now in
    short_of c.lay_text.result (c.lay_marks-to.result + length (text_spelling text)) _ c.lay_text.ensures.place
    (omega (arith, text_long text, length-take c.args.size c.args.bytes.now, c.lay_marks-to.ensures.place, c.stand_lead.ensures.few))
