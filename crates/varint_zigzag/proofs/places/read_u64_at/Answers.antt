use Rattle.std.proofs.Common.{drop}
use Rattle.varint_zigzag.proofs.Fronts.{behind_below, front_within, front_number, front_found_64, told_at}
use Rattle.varint_zigzag.proofs.places.read_u64_at.Goals as goal

pub returns-in-Some-clause-within : goal.returns-in-Some-clause-within
returns-in-Some-clause-within c = front_within c.args.bytes.now _ _ c.args.at c.requires c.in-Some.ensures

pub returns-in-Some-clause-exact : goal.returns-in-Some-clause-exact
returns-in-Some-clause-exact c =
    let small = behind_below c.args.at c.args.bytes.now c.type_inv.bytes in
    let number = front_number (drop c.args.at c.args.bytes.now) _ _ _ small c.in-Some.ensures c.gathered.ensures in
    told_at c.args.at _ _ _ (front_found_64 (drop c.args.at c.args.bytes.now) _ _ _ c.in-Some.ensures number)
