use Rattle.std.proofs.Common.{◌≡◌, ◌+◌, ◌∷◌, ◌∙◌, ap, refl, drop, arith, ℕ, ℤ, ◌≤◌, Option, Some, None, subst, rules, w64, SFits}
use Rattle.std.proofs.lemmas.Int.{to_z-of_z}
use Rattle.idl_document.specs.Trees.{field_trees}
use Rattle.idl_rules.specs.declared.ids.FieldId.{FieldId}
use Rattle.idl_rules.specs.Ids.{refused_ids, ids_from, id_refusals, counted, is_id_among, IsSameIds}
use Rattle.idl_rules.specs.Order.{lesser, least_of}
use Rattle.idl_rules.proofs.Sets.{id_step}
use Rattle.idl_rules.proofs.Steps.{opened, ends}
use Rattle.idl_rules.proofs.ids.check_ids.Goals as goal

within_counted : (before i : ℕ) (id : Option (ℕ × ℤ)) (n : ℕ) → before ≤ i → n ≡ counted before id → n ≤ i + 1
within_counted before i (Some z) n h e = omega arith
within_counted before i None n h e = omega arith

pub loop-field-preserved : goal.loop-field-preserved
loop-field-preserved c =
    let fs = c.args.fields.now in
    let i = c.loop-field.field-index in
    let f = c.field-item.result in
    let seen = c.loop-field.seen in
    let old = c.loop-field.least in
    let more = field_trees (drop (i + 1) fs) in
    let whole = lesser c.args.least.now (least_of (id_refusals (field_trees fs))) in
    let before = opened fs i f (λ l. refused_ids seen (ids_from c.loop-field.before (field_trees l))) old whole c.loop-field-test.true c.field-item.is c.loop-field.invariant.exact in
    let told = ap (λ (x : FieldId). lesser old (least_of (refused_ids seen (x ∷ ids_from (counted c.loop-field.before f.id) more)))) c.field_id-id.ensures ∙ before in
    let on = ap (λ (n : ℕ). lesser old (least_of (refused_ids seen (c.field_id-id.result ∷ ids_from n more)))) c.count_on-before.ensures ∙ told in
    let fits : SFits w64 c.field_id-id.result.id = search rules in
    let same = to_z-of_z w64 c.field_id-id.result.id fits in
    record {
      within = within_counted c.loop-field.before i f.id c.count_on-before.result c.loop-field.invariant.within c.count_on-before.ensures;
      exact = id_step seen c.insert.new.self c.field_id-id.result c.in_ok-again.again (ids_from c.count_on-before.result more) old c.note_when.new.self c.note_when-in-loop-field.new.self whole
          (c.in_ok-again.ensures.told ∙ ap (λ z. is_id_among z seen) same) (subst (λ z. IsSameIds c.insert.new.self (z ∷ seen)) same c.in_ok-again.ensures.kept) c.note_when.ensures c.note_when-in-loop-field.ensures on;
    }

pub returns : goal.returns
returns c =
    ends c.args.fields.now c.loop-field.field-index (λ l. refused_ids c.loop-field.seen (ids_from c.loop-field.before (field_trees l)))
    c.loop-field.least _ refl (omega arith) c.loop-field.invariant.exact
