use Rattle.std.proofs.Common.{◌≤◌, length, drop, arith, length-drop}
use Rattle.varint_zigzag.proofs.Fronts.{behind_below, marks_at, ended_by_marks}
use Rattle.varint_zigzag.proofs.places.before_last.Goals as goal

pub returns-clause-few : goal.returns-clause-few
returns-clause-few c =
    let room : 8 ≤ length (drop c.args.at c.args.bytes.now) = omega (arith, length-drop c.args.at c.args.bytes.now) in
    let small = behind_below c.args.at c.args.bytes.now c.type_inv.bytes in
    let marks = marks_at (drop c.args.at c.args.bytes.now) _ _ room small c.word_at.ensures c.ends_of-ends.ensures in
    (ended_by_marks _ _ room marks (omega arith)).few

pub returns-clause-ended : goal.returns-clause-ended
returns-clause-ended c =
    let room : 8 ≤ length (drop c.args.at c.args.bytes.now) = omega (arith, length-drop c.args.at c.args.bytes.now) in
    let small = behind_below c.args.at c.args.bytes.now c.type_inv.bytes in
    let marks = marks_at (drop c.args.at c.args.bytes.now) _ _ room small c.word_at.ensures c.ends_of-ends.ensures in
    (ended_by_marks _ _ room marks (omega arith)).ended
