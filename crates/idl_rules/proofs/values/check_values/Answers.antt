use Rattle.std.proofs.Common.{◌≡◌, ◌+◌, ◌++◌, ◌∙◌, ap, refl, drop, arith, ℤ, ◌+ℤ◌, pos, List, Bool, rules, w64, SFits, to_z, of_z}
use Rattle.std.proofs.lemmas.Int.{to_z-of_z}
use Rattle.idl_rules.specs.declared.row.IdlRow.TheVariants as rows
use Rattle.idl_rules.specs.Doubles.{when}
use Rattle.idl_rules.specs.Order.{Refusal, lesser, least_of}
use Rattle.idl_rules.specs.Values.{refused_values, values_from, value_refusals, number_after, is_outside}
use Rattle.idl_rules.proofs.Numbers.{on_and_on}
use Rattle.idl_rules.proofs.Steps.{opened, ends, noted}
use Rattle.idl_rules.proofs.values.check_values.Goals as goal

pub loop-member-preserved : goal.loop-member-preserved
loop-member-preserved c =
    let ms = c.args.members.now in
    let i = c.loop-member.member-index in
    let m = c.member-item.result in
    let next = to_z w64 c.loop-member.next-bits in
    let old = c.loop-member.least in
    let more = drop (i + 1) ms in
    let value = c.member_value-value.result in
    let after = c.number_after-next.result in
    let whole = lesser c.args.least.now (least_of (value_refusals ms)) in
    let fits : SFits w64 value = search rules in
    let same = to_z-of_z w64 value fits in
    let after_fits : SFits w64 after = search rules in
    let is_after : to_z w64 (of_z w64 after) ≡ number_after value = to_z-of_z w64 after after_fits ∙ c.number_after-next.ensures ∙ ap number_after same in
    let outside = c.is_outside.ensures ∙ ap is_outside same in
    let at = m.name.at in
    let told : c.note_when.new.self ≡ lesser old (least_of (when (is_outside value) at rows.EnumValueOutOfRange)) =
    c.note_when.ensures ∙ ap (λ (b : Bool). lesser old (least_of (when b at rows.EnumValueOutOfRange))) outside in
    let before = opened ms i m (λ l. refused_values (values_from next l)) old whole c.loop-member-test.true c.member-item.is c.loop-member.invariant in
    let here = ap (λ (z : ℤ). lesser old (least_of (when (is_outside z) at rows.EnumValueOutOfRange ++ refused_values (values_from (z +ℤ pos 1) more)))) c.member_value-value.ensures ∙ before in
    let rest = ap (λ (z : ℤ). refused_values (values_from z more)) is_after ∙ on_and_on value more in
    ap (λ (l : List Refusal). lesser c.note_when.new.self (least_of l)) rest
    ∙ noted old c.note_when.new.self whole (when (is_outside value) at rows.EnumValueOutOfRange) (refused_values (values_from (value +ℤ pos 1) more))
    (when (is_outside value) at rows.EnumValueOutOfRange ++ refused_values (values_from (value +ℤ pos 1) more)) refl told here

pub returns : goal.returns
returns c =
    ends c.args.members.now c.loop-member.member-index (λ l. refused_values (values_from (to_z w64 c.loop-member.next-bits) l)) c.loop-member.least _ refl (omega arith) c.loop-member.invariant
