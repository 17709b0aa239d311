use Rattle.std.proofs.Common.{refl, ◌∷◌, []}
use Rattle.thrift_value.specs.declared.kind.Kind.TheVariants as kinds
use Rattle.json_protocol.specs.WriteForms.{value_spelled}
use Rattle.json_protocol.proofs.write_forms.JsonWriteFormWrite.struct_begin.Goals as goal

pub returns-clause-spells : goal.returns-clause-spells
returns-clause-spells c = λ opening nest mark calls w there.
    (refl, value_spelled c.args.stand kinds.Struct c.args.cells.now c.lay_both.new.cells c.args.to c.lay_both.result (λ key. 123 ∷ []) (rw (c.stand_lead.ensures.marks) at c.lay_both.ensures.laid) opening nest w calls there)
