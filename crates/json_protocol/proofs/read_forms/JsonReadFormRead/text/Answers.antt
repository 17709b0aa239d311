use Rattle.std.proofs.Common.{arith, sym, refl, subst, ◌∙◌}
use Rattle.std.proofs.lemmas.Grind.{common_steps}
use Rattle.thrift_value.specs.declared.kind.Kind.TheVariants as kinds
use Rattle.thrift_value.specs.Items.{text}
use Rattle.protocol_traits.specs.Forms.{part}
use Rattle.json_protocol.specs.Values.{value_at}
use Rattle.json_protocol.specs.WriteForms.{stand_key}
use Rattle.json_protocol.specs.ReadForms.{Valued, text_read}
use Rattle.json_protocol.proofs.read_forms.JsonReadFormRead.text.Goals as goal

pub returns-then-means_text-clause-steps : goal.returns-then-means_text-clause-steps
returns-then-means_text-clause-steps c = λ opening nest known same calls.
    let span = c.in_ok-span.span in
    let item = text (part c.args.frame.now span.begin span.«end») in
    text_read c.args.frame.now c.args.at span.behind c.args.stand known item
    (subst (λ h. Valued c.args.frame.now c.args.at c.args.stand (value_at (stand_key c.args.stand) h kinds.Str) item span.behind) (sym (same refl ∙ c.means_text.ensures c.if-means_text.true)) c.in_ok-span.ensures.found) opening nest calls

pub returns-in_err-span-clause-steps : goal.returns-in_err-span-clause-steps
returns-in_err-span-clause-steps c = grind (arith, common_steps)
