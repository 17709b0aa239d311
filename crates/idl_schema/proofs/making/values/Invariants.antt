use Rattle.std.proofs.Common.{◌≡◌, ◌++◌, [], drop, map}
use Rattle.idl_rules.specs.Values.{refused_values, values_from, member_values}
use Rattle.idl_schema.proofs.making.values.Given as goal

abbrev pub invariant-loop-member : goal.invariant-loop-member
invariant-loop-member l = record {
  kept : refused_values (values_from l.next (drop l.member-index l.members)) ≡ [];
  exact : l.values.items ++ map (λ v. v.1) (values_from l.next (drop l.member-index l.members)) ≡ map (λ v. v.1) (member_values l.members);
}
