use Rattle.std.proofs.Common.{refl}
use Rattle.json_protocol.specs.WriteForms.{end_spelled}
use Rattle.json_protocol.proofs.write_forms.JsonWriteFormWrite.end.Goals as goal

pub returns-clause-spells : goal.returns-clause-spells
returns-clause-spells c = λ opening nest mark done w there.
    (refl, end_spelled c.args.cells.now c.lay.new.cells c.args.to c.lay.result c.args.container (rw (c.container_end.ensures) at c.lay.ensures.laid) nest done w opening there)
