use Rattle.std.proofs.Common.{arith}
use Rattle.json_text.specs.Lengths.{blob_long}
use Rattle.json_protocol.proofs.write_forms.lay_base64.Goals as goal

pub lay_blob-requires : goal.lay_blob-requires
lay_blob-requires c = omega (arith, blob_long c.args.bytes.now, c.lay_marks-to.ensures.place, c.stand_lead.ensures.few)

pub returns-clause-short : goal.returns-clause-short
returns-clause-short c = omega (arith, blob_long c.args.bytes.now, c.lay_marks-to.ensures.place, c.stand_lead.ensures.few, c.lay_blob.ensures.place)
