use Rattle.std.proofs.Common.{IfSome, arith, sym, subst}
use Rattle.stream_messages.specs.Fields.{IsValue}
use Rattle.stream_messages.proofs.Whole.{whole_bytes}
use Rattle.stream_messages.proofs.FieldLaws.{lists, sets}
use Rattle.stream_messages.proofs.fields.value_size.Goals as goal

pub returns-in-List : goal.returns-in-List
returns-in-List c =
    subst (λ kind. IfSome c.elements_size.result (IsValue kind c.args.bytes.now)) (sym c.in-List.is)
    (lists c.elements_size.result c.args.bytes.now (whole_bytes c.args.bytes.now (λ i. omega (arith, c.type_inv.bytes i))) c.elements_size.ensures)

pub returns-in-Set : goal.returns-in-Set
returns-in-Set c =
    subst (λ kind. IfSome c.elements_size-in-Set.result (IsValue kind c.args.bytes.now)) (sym c.in-Set.is)
    (sets c.elements_size-in-Set.result c.args.bytes.now (whole_bytes c.args.bytes.now (λ i. omega (arith, c.type_inv.bytes i))) c.elements_size-in-Set.ensures)
