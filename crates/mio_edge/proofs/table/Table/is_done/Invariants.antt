use Rattle.mio_edge.specs.Places.{HasUnsent}
use Rattle.mio_edge.proofs.Each.{FirstClosed}
use Rattle.mio_edge.proofs.table.Table.is_done.Given as goal

-- no closed session so far holds bytes
abbrev pub invariant-loop-place : goal.invariant-loop-place
invariant-loop-place g l = FirstClosed (λ session. HasUnsent session → ⊥) l.place-index l.fn.self.closed.items l.fn.self.sessions
