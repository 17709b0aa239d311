use Rattle.std.proofs.Common.{refl}
use Rattle.json_protocol.specs.WriteForms.{stop_spelled}
use Rattle.json_protocol.proofs.write_forms.JsonWriteFormWrite.stop.Goals as goal

pub returns-clause-spells : goal.returns-clause-spells
returns-clause-spells c = λ last up mark deep w there.
    (refl, stop_spelled c.args.cells.now c.lay_both.new.cells c.args.to c.lay_both.result c.args.opening c.args.depth (rw (c.stop_marks.ensures.marks, c.stop_word.ensures.word) at c.lay_both.ensures.laid) last up deep w there)
