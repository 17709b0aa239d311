use Rattle.std.proofs.Common.{[], rules, FitsSigned}
use Rattle.std.specs.Int.{w16}
use Rattle.std.proofs.lemmas.Int.{to_z-of_z}
use Rattle.thrift_value.specs.Items.{field}
use Rattle.protocol_traits.specs.declared.proto.Hint.TheVariants as hints
use Rattle.json_protocol.specs.ReadForms.{stop_read, stop_past, field_read, field_past}
use Rattle.json_protocol.proofs.read_forms.JsonReadFormRead.next_field.Goals as goal

pub returns-then-frame-begin-eq125-clause-past : goal.returns-then-frame-begin-eq125-clause-past
returns-then-frame-begin-eq125-clause-past c = λ good.
    stop_past c.args.frame.now c.args.at c.in_ok-begin.begin c.args.opening c.args.last [] hints.Text c.in_ok-begin.ensures.leads c.in_ok-behind.behind c.in_ok-behind.ensures

pub returns-then-frame-begin-eq125-clause-steps : goal.returns-then-frame-begin-eq125-clause-steps
returns-then-frame-begin-eq125-clause-steps c = λ up hint good.
    stop_read c.args.frame.now c.args.at c.in_ok-begin.begin c.args.opening c.args.last up hint c.in_ok-begin.ensures.leads c.in_ok-behind.behind c.if-frame-begin-eq125.true c.in_ok-behind.ensures

pub returns-clause-past : goal.returns-clause-past
returns-clause-past c = λ good.
    let f = c.in_ok-id in
    field_past c.args.frame.now c.args.at c.in_ok-begin.begin c.args.opening c.args.last [] hints.Text c.in_ok-begin.ensures.leads c.in_ok-place.place f.behind (field f.id f.kind) c.in_ok-place.ensures f.ensures.found

pub returns-clause-steps : goal.returns-clause-steps
returns-clause-steps c =
    let f = c.in_ok-id in
    let fits : FitsSigned w16 f.id = search rules in
    rw (to_z-of_z w16 f.id fits, c.lead_of.ensures f.id)
    (λ up hint good. field_read c.args.frame.now c.args.at c.in_ok-begin.begin c.args.opening c.args.last up hint c.in_ok-begin.ensures.leads c.in_ok-place.place f.behind (field f.id f.kind) c.in_ok-place.ensures f.ensures.quote f.ensures.found)
