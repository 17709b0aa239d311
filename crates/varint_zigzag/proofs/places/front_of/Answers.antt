use Rattle.std.proofs.Common.{◌≤◌, length, drop, arith, length-drop}
use Rattle.varint_zigzag.proofs.Fronts.{front_at, behind_below, marks_at}
use Rattle.varint_zigzag.proofs.places.front_of.Goals as goal

pub returns : goal.returns
returns c =
    let front = drop c.args.at c.args.bytes.now in
    let room : 8 ≤ length front = omega (arith, length-drop c.args.at c.args.bytes.now) in
    let small = behind_below c.args.at c.args.bytes.now c.type_inv.bytes in
    let marks = marks_at front _ _ room small c.word_at-word.ensures c.ends_of-ends.ensures in
    front_at front _ _ room small c.word_at-word.ensures marks (omega arith)
