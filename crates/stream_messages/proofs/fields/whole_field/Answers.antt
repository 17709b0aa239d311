use Rattle.std.proofs.Common.{rules, subst}
use Rattle.std.specs.Int.{w16}
use Rattle.std.proofs.lemmas.Int.{to_z-of_z}
use mir.Val.{SFits}
use Rattle.stream_messages.specs.Fields.{IsValue}
use Rattle.stream_messages.proofs.Pieces.{from_here}
use Rattle.stream_messages.proofs.FieldLaws.{field_is}
use Rattle.stream_messages.proofs.fields.whole_field.Goals as goal

pub returns : goal.returns
returns c =
    let fits : SFits w16 c.in_ok-kind.id = search rules in
    rw (to_z-of_z w16 c.in_ok-kind.id fits)
    (field_is c.args.nest.now c.args.bytes.now c.in_ok-kind.kind c.in_ok-kind.id c.in_ok-size.size c.in_ok-kind.ensures
    (subst (λ l. IsValue c.in_ok-kind.kind l c.in_ok-size.size) (from_here 3 c.args.bytes.now) c.in_ok-size.ensures))
