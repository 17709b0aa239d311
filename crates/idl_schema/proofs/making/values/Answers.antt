use Rattle.std.proofs.Common.{arith, ◌≡◌, ◌∙◌, ◌+◌, ◌++◌, ◌∷◌, [], ap, sym, append_assoc, drop, map, List, ℤ, pos, ◌+ℤ◌, rules, false, w32, w64, SFits, to_z, of_z}
use Rattle.std.proofs.lemmas.Int.{to_z-of_z}
use Rattle.idl_document.specs.declared.document.Member.{Member}
use Rattle.idl_document.specs.declared.document.Name.{Name}
use Rattle.idl_rules.specs.Values.{is_outside, number_after, refused_values, value_by, values_from}
use Rattle.idl_schema.proofs.Kept.{counts_on, first_inside}
use Rattle.idl_schema.proofs.Listing.{next}
use Rattle.idl_schema.proofs.making.values.Goals as goal
use Rattle.std.proofs.lemmas.Grind.{common_steps}

pub short_value-requires : goal.short_value-requires
short_value-requires c =
    let ms = c.args.members.now in
    let i = c.loop-member.member-index in
    let m = c.member-item.result in
    let last = to_z w64 c.loop-member.next-bits in
    let value = c.member_value-value.result in
    let fits : SFits w64 value = search rules in
    let open_list = next ms i m c.loop-member-test.true c.member-item.is in
    let kept = ap (λ (l : List Member). refused_values (values_from last l)) (sym open_list) ∙ c.loop-member.invariant.kept in
    let inside = first_inside m.name (value_by m.value last) (values_from (value_by m.value last +ℤ pos 1) (drop (i + 1) ms)) kept in
    ap is_outside (to_z-of_z w64 value fits) ∙ ap is_outside c.member_value-value.ensures ∙ inside.0

pub loop-member-preserved : goal.loop-member-preserved
loop-member-preserved c =
    let ms = c.args.members.now in
    let i = c.loop-member.member-index in
    let m = c.member-item.result in
    let last = to_z w64 c.loop-member.next-bits in
    let more = drop (i + 1) ms in
    let value = c.member_value-value.result in
    let after = c.number_after-next.result in
    let short = c.short_value.result in
    let old = c.loop-member.values.items in
    let fits : SFits w64 value = search rules in
    let same = to_z-of_z w64 value fits in
    let after_fits : SFits w64 after = search rules in
    let short_fits : SFits w32 short = search rules in
    let open_list = next ms i m c.loop-member-test.true c.member-item.is in
    let kept = ap (λ (l : List Member). refused_values (values_from last l)) (sym open_list) ∙ c.loop-member.invariant.kept in
    let inside = first_inside m.name (value_by m.value last) (values_from (value_by m.value last +ℤ pos 1) more) kept in
    let is_inside : is_outside value ≡ false = ap is_outside c.member_value-value.ensures ∙ inside.0 in
    let on : to_z w64 (of_z w64 after) ≡ value_by m.value last +ℤ pos 1 =
    to_z-of_z w64 after after_fits ∙ c.number_after-next.ensures ∙ ap number_after same ∙ counts_on value is_inside ∙ ap (λ (z : ℤ). z +ℤ pos 1) c.member_value-value.ensures in
    let number : to_z w32 (of_z w32 short) ≡ value_by m.value last = to_z-of_z w32 short short_fits ∙ c.short_value.ensures ∙ same ∙ c.member_value-value.ensures in
    let pushed : c.push.new.self.items ≡ old ++ to_z w32 (of_z w32 short) ∷ [] = c.in_ok-push.ensures.items in
    record {
      kept = ap (λ (z : ℤ). refused_values (values_from z more)) on ∙ inside.1;
      exact =
          ap (λ (l : List ℤ). l ++ map (λ (v : Name × ℤ). v.1) (values_from (to_z w64 (of_z w64 after)) more)) (pushed ∙ ap (λ (z : ℤ). old ++ z ∷ []) number)
          ∙ append_assoc old (value_by m.value last ∷ []) (map (λ (v : Name × ℤ). v.1) (values_from (to_z w64 (of_z w64 after)) more))
          ∙ ap (λ (z : ℤ). old ++ (value_by m.value last ∷ map (λ (v : Name × ℤ). v.1) (values_from z more))) on
          ∙ ap (λ (l : List Member). old ++ map (λ (v : Name × ℤ). v.1) (values_from last l)) (sym open_list) ∙ c.loop-member.invariant.exact;
    }

pub returns : goal.returns
returns c = grind (arith, common_steps)
