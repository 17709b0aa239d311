use Rattle.varint_zigzag.proofs.Shortest.{Building}
use Rattle.varint_zigzag.proofs.writing.write_groups.Given as goal

abbrev pub invariant-loop-rest : goal.invariant-loop-rest
invariant-loop-rest l = Building l.bytes l.count l.rest l.v

abbrev pub decreases-loop-rest : goal.decreases-loop-rest
decreases-loop-rest l = l.rest
