use Rattle.std.proofs.Common.{drop, arith}
use Rattle.varint_zigzag.proofs.Fronts.{behind_below, front_within, front_found, told_at}
use Rattle.varint_zigzag.proofs.places.read_u32_at.Goals as goal

pub returns-then-own-lt-ABOVE_U32-clause-within : goal.returns-then-own-lt-ABOVE_U32-clause-within
returns-then-own-lt-ABOVE_U32-clause-within c = front_within c.args.bytes.now _ _ c.args.at c.requires c.in-Some.ensures

pub returns-then-own-lt-ABOVE_U32-clause-exact : goal.returns-then-own-lt-ABOVE_U32-clause-exact
returns-then-own-lt-ABOVE_U32-clause-exact c =
    let small = behind_below c.args.at c.args.bytes.now c.type_inv.bytes in
    told_at c.args.at _ _ _ (front_found 5 32 4 (drop c.args.at c.args.bytes.now) _ _ _ small c.in-Some.ensures (omega arith) (omega arith) c.five_gathered.ensures (omega arith))
