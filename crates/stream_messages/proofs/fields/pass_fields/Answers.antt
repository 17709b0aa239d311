use Rattle.std.proofs.Common.{rules, ◌≡◌, ◌+◌, ◌∙◌, List, ◌∷◌, drop, ap, sym, subst, arith}
use Rattle.std.specs.Int.{w16}
use Rattle.std.proofs.lemmas.Int.{to_z-of_z}
use Rattle.std.proofs.lemmas.List.{length-drop}
use mir.Val.{SFits}
use Rattle.protocol_traits.specs.declared.nest.Slot.{Slot}
use Rattle.protocol_traits.specs.declared.nest.Slot.TheVariants as slots
use Rattle.protocol_traits.specs.Stack.{rest_of}
use Rattle.stream_messages.specs.declared.scan.Wire.TheVariants as wires
use Rattle.stream_messages.specs.Fields.{Spans, nothing, IsField}
use Rattle.stream_messages.proofs.Pieces.{from_here}
use Rattle.stream_messages.proofs.Whole.{spans_join}
use Rattle.stream_messages.proofs.fields.pass_fields.Goals as goal

pub fields-init : goal.fields-init
fields-init c = record { within = omega arith; spans = nothing c.args.bytes.now c.args.nest.now }

pub fields-preserved : goal.fields-preserved
fields-preserved c =
    let bytes = c.args.bytes.now in
    let at = c.fields.at in
    let field = c.in-Some.field in
    let is : IsField c.fields.nest (drop at bytes) field = subst (λ l. IsField c.fields.nest l field) (from_here at bytes) c.in-Some.ensures in
    let fits : SFits w16 field.id = search rules in
    let set : c.set_top.new.self ≡ slots.Fields field.id ∷ rest_of c.fields.nest = c.set_top.ensures ∙ ap (λ z. slots.Fields z ∷ rest_of c.fields.nest) (to_z-of_z w16 field.id fits) in
    record {
      within = omega (arith, is.within, length-drop at bytes, c.fields.invariant.within);
      spans = subst (λ (l : List Slot). Spans wires.Binary bytes c.args.nest.now (at + field.size) l) (sym set) (spans_join wires.Binary bytes c.args.nest.now c.fields.nest (slots.Fields field.id ∷ rest_of c.fields.nest) at field.size c.fields.invariant.spans is.spans);
    }
