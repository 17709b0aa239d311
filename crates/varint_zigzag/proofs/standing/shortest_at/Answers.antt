use Rattle.std.proofs.Common.{arith}
use Rattle.std.proofs.lemmas.List.{get_or-drop}
use Rattle.varint_zigzag.proofs.Fronts.{behind_below}
use Rattle.varint_zigzag.proofs.Narrow.{shortest_front}
use Rattle.varint_zigzag.proofs.standing.shortest_at.Goals as goal

pub returns-clause-shortest : goal.returns-clause-shortest
returns-clause-shortest c =
    let small = behind_below c.args.at c.args.bytes.now c.type_inv.bytes in
    let found = c.in_ok-before.ensures in
    shortest_front _ _ found.few found.ended small (rw (get_or-drop) (λ more. omega arith))
