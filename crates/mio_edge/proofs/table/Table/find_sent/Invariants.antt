use Rattle.std.proofs.Common.{◌≡◌, ◌⊎◌, true}
use Rattle.mio_edge.specs.Places.{HasUnsent}
use Rattle.mio_edge.proofs.Each.{FirstClosed}
use Rattle.mio_edge.proofs.table.Table.find_sent.Given as goal

-- each closed session so far is to have a turn, or holds bytes
abbrev pub invariant-loop-place : goal.invariant-loop-place
invariant-loop-place g l = FirstClosed (λ session. (session.is_queued ≡ true) ⊎ HasUnsent session) l.place-index l.fn.self.closed.items l.fn.self.sessions
