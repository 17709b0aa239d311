-- The numbers of an enum's members, where 64 bits end.
use Rattle.std.proofs.Common.{◌≡◌, ℕ, ℤ, pos, negsuc, List, [], ◌∷◌, ◌++◌, refl, ap, sym, ◌∙◌, subst, arith, Bool, true, false, not, ◌+ℤ◌, Option, Some, None}
use Rattle.std.proofs.lemmas.Int.{ints}
use Rattle.std.specs.Prelude.{int_lt, T, ◌||◌, if◌then◌else◌}
use lib.Signed.{◌<ℤ◌, ◌≤ℤ◌, lt_z_yes, lt_z_no}
use Rattle.idl_document.specs.declared.document.Member.{Member}
use Rattle.idl_rules.specs.declared.row.IdlRow.TheVariants as rows
use Rattle.idl_rules.specs.Doubles.{when}
use Rattle.idl_rules.specs.Order.{Refusal}
use Rattle.idl_rules.specs.Values.{values_from, refused_values, value_by, number_after, is_outside}

is_so : (t : Bool) → T t → t ≡ true
is_so true h = refl
is_so false h = absurd h

under : (a b : ℤ) → int_lt a b ≡ true → a <ℤ b
under a b e = lt_z_yes (subst T (sym e) tt)

over : (a b : ℤ) → int_lt a b ≡ false → b ≤ℤ a
over a b e = lt_z_no (subst T (sym (ap not e)) tt)

farther : (z : ℤ) → int_lt (pos 2147483647) z ≡ true → int_lt (pos 2147483647) (z +ℤ pos 1) ≡ true
farther z e =
    let h = under (pos 2147483647) z e in
    let l : pos 2147483647 <ℤ (z +ℤ pos 1) = omega (arith, ints) in
    is_so (int_lt (pos 2147483647) (z +ℤ pos 1)) l.lt

outside : (z : ℤ) → int_lt (pos 2147483647) z ≡ true → is_outside z ≡ true
outside z e = by (int_lt z (negsuc 2147483647)) (int_lt (pos 2147483647) z) e
  where
    by : (s t : Bool) → t ≡ true → (s || t) ≡ true
    by true t h = refl
    by false t h = h

told_values : ℕ → Option ℤ → ℤ → List Member → List Refusal
told_values at value next ms = when (is_outside (value_by value next)) at rows.EnumValueOutOfRange ++ refused_values (values_from (value_by value next +ℤ pos 1) ms)

far_by : (at : ℕ) (y z : ℤ) (value : Option ℤ) (ms : List Member) → int_lt (pos 2147483647) y ≡ true → int_lt (pos 2147483647) z ≡ true →
    refused_values (values_from (y +ℤ pos 1) ms) ≡ refused_values (values_from (z +ℤ pos 1) ms) → told_values at value y ms ≡ told_values at value z ms
unfolding told_values
far_by at y z (Some v) ms h k rest = refl
far_by at y z None ms h k rest =
    ap (λ (b : Bool). when b at rows.EnumValueOutOfRange ++ refused_values (values_from (y +ℤ pos 1) ms)) (outside y h ∙ sym (outside z k))
    ∙ ap (λ (l : List Refusal). when (is_outside z) at rows.EnumValueOutOfRange ++ l) rest

-- numbers that are out of range are refused alike
far_same : (y z : ℤ) (ms : List Member) → int_lt (pos 2147483647) y ≡ true → int_lt (pos 2147483647) z ≡ true → refused_values (values_from y ms) ≡ refused_values (values_from z ms)
unfolding told_values
far_same y z [] h k = refl
far_same y z (m ∷ ms) h k = far_by m.name.at y z m.value ms h k (far_same (y +ℤ pos 1) (z +ℤ pos 1) ms (farther y h) (farther z k))

least_far : (z : ℤ) → int_lt z (pos 9223372036854775807) ≡ false → int_lt (pos 2147483647) z ≡ true
least_far z e = at_least (int_lt (pos 2147483647) z) refl
  where
    at_least : (t : Bool) → int_lt (pos 2147483647) z ≡ t → t ≡ true
    at_least true f = refl
    at_least false f =
        let h : pos 9223372036854775807 ≤ℤ z = over z (pos 9223372036854775807) e in
        let k : z ≤ℤ pos 2147483647 = over (pos 2147483647) z f in
        absurd (omega (arith, ints))

-- where 64 bits end the rest is refused as if they went on
pub on_and_on : (z : ℤ) (ms : List Member) → refused_values (values_from (number_after z) ms) ≡ refused_values (values_from (z +ℤ pos 1) ms)
on_and_on z ms = by (int_lt z (pos 9223372036854775807)) refl
  where
    by : (t : Bool) → int_lt z (pos 9223372036854775807) ≡ t → refused_values (values_from (if t then z +ℤ pos 1 else z) ms) ≡ refused_values (values_from (z +ℤ pos 1) ms)
    by true e = refl
    by false e = far_same z (z +ℤ pos 1) ms (least_far z e) (farther z (least_far z e))
