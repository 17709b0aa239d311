use Rattle.std.proofs.Common.{◌≤◌, length, arith}
use Rattle.std.proofs.lemmas.Bool.Decides.{nat_tests}
use Rattle.compact_protocol.specs.Laws.{seen_sized, sized_long}
use Rattle.compact_protocol.proofs.scan.field_at.Goals as goal
use Rattle.std.proofs.lemmas.Grind.{common_steps}
use Rattle.compact_protocol.specs.Scan.{field_at}

pub returns-then-step-eq0-clause-sized : goal.returns-then-step-eq0-clause-sized
returns-then-step-eq0-clause-sized c = λ small.
    let some : 1 ≤ length c.args.bytes.now = grind (arith, nat_tests) in
    seen_sized c.long_field.result _ c.long_field.ensures.exact (sized_long c.in-Some.kind c.args.bytes.now some small)

pub returns-in-Some-next_id-clause-sized : goal.returns-in-Some-next_id-clause-sized
unfolding field_at
returns-in-Some-next_id-clause-sized c = grind (arith, common_steps)

pub returns-then-step-eq0-clause-exact : goal.returns-then-step-eq0-clause-exact
unfolding field_at
returns-then-step-eq0-clause-exact c = grind (arith, common_steps)

pub returns-in_default-clause-within : goal.returns-in_default-clause-within
unfolding field_at
returns-in_default-clause-within c = grind (arith, common_steps)

pub long_field-requires : goal.long_field-requires
unfolding field_at
long_field-requires c = grind (arith, common_steps)

pub returns-in-None-clause-within : goal.returns-in-None-clause-within
unfolding field_at
returns-in-None-clause-within c = grind (arith, common_steps)

pub bounds-bytes-0-3 : goal.bounds-bytes-0-3
unfolding field_at
bounds-bytes-0-3 c = grind (arith, common_steps)

pub returns-in-Some-next_id-clause-within : goal.returns-in-Some-next_id-clause-within
unfolding field_at
returns-in-Some-next_id-clause-within c = grind (arith, common_steps)
