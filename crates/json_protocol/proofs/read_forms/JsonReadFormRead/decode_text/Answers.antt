use Rattle.std.proofs.Common.{arith, sym, refl, subst}
use Rattle.thrift_value.specs.declared.kind.Kind.TheVariants as kinds
use Rattle.thrift_value.specs.Items.{text}
use Rattle.protocol_traits.specs.declared.proto.Hint.{Hint}
use Rattle.std.specs.Prelude.{take}
use Rattle.json_protocol.specs.Values.{value_at}
use Rattle.json_protocol.specs.WriteForms.{stand_key}
use Rattle.json_protocol.specs.ReadForms.{Valued, leads_past, string_there, text_read}
use Rattle.json_protocol.proofs.read_forms.JsonReadFormRead.decode_text.Goals as goal

pub returns-clause-past : goal.returns-clause-past
returns-clause-past c =
    let past = leads_past c.args.stand c.args.frame.now c.args.at c.in_ok-begin.begin c.in_ok-begin.ensures in
    let found = c.in_ok-text.ensures.found in
    (omega (arith, past, found.1.0), omega (arith, found.1.1))

pub returns-clause-shorter : goal.returns-clause-shorter
returns-clause-shorter c =
    omega (arith, leads_past c.args.stand c.args.frame.now c.args.at c.in_ok-begin.begin c.in_ok-begin.ensures, c.in_ok-text.ensures.shorter)

pub returns-clause-steps : goal.returns-clause-steps
returns-clause-steps c = λ opening nest known same calls.
    let found = c.in_ok-text in
    let item = text (take found.text.size c.decode_string.new.room) in
    let valued = string_there c.args.frame.now c.args.at c.in_ok-begin.begin found.text.behind c.args.stand c.args.hint item c.in_ok-begin.ensures c.if-frame-begin-ne34.false found.ensures.found in
    text_read c.args.frame.now c.args.at found.text.behind c.args.stand known item
    (subst (λ (h : Hint). Valued c.args.frame.now c.args.at c.args.stand (value_at (stand_key c.args.stand) h kinds.Str) item found.text.behind) (sym (same refl)) valued) opening nest calls
