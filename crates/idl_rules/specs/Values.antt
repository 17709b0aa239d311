-- The numbers of an enum's members. One that is not given is the one before it plus 1, the first is 0.
use Rattle.std.specs.Prelude.{ℤ, List, [], ◌∷◌, ◌++◌, Option, Some, None, Bool, ◌||◌, pos, negsuc, int_lt, ◌+ℤ◌, if◌then◌else◌}
use Rattle.idl_document.specs.declared.document.Member.{Member}
use Rattle.idl_document.specs.declared.document.Name.{Name}
use Rattle.idl_rules.specs.declared.row.IdlRow.TheVariants as rows
use Rattle.idl_rules.specs.Doubles.{when}
use Rattle.idl_rules.specs.Order.{Refusal}

abbrev pub value_by : Option ℤ → ℤ → ℤ
value_by (Some z) next = z
value_by None next = next

-- the number of each member, where the first that has none gets this one
abbrev pub values_from : ℤ → List Member → List (Name × ℤ)
values_from next [] = []
values_from next (m ∷ ms) = (m.name, value_by m.value next) ∷ values_from (value_by m.value next +ℤ pos 1) ms

abbrev pub member_values : List Member → List (Name × ℤ)
member_values members = values_from (pos 0) members

-- the number behind one, as far as 64 bits go
abbrev pub number_after : ℤ → ℤ
number_after z = if int_lt z (pos 9223372036854775807) then z +ℤ pos 1 else z

-- a member's number has 32 bits
abbrev pub is_outside : ℤ → Bool
is_outside z = int_lt z (negsuc 2147483647) || int_lt (pos 2147483647) z

abbrev pub refused_values : List (Name × ℤ) → List Refusal
refused_values [] = []
refused_values (v ∷ vs) = when (is_outside v.1) (v.0).at rows.EnumValueOutOfRange ++ refused_values vs

abbrev pub value_refusals : List Member → List Refusal
value_refusals members = refused_values (member_values members)
