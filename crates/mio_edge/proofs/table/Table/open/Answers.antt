use Rattle.std.proofs.Common.{arith, length}
use Rattle.mio_edge.proofs.Standing.{empty_tells, empty_queues}
use Rattle.mio_edge.proofs.Standing.{no_session}
use Rattle.mio_edge.proofs.table.Table.open.Goals as goal
use Rattle.std.proofs.lemmas.Grind.{common_steps}

pub returns-clause-empty : goal.returns-clause-empty
returns-clause-empty g c =
    let slab = c.in_ok-sessions.sessions in (
      empty_tells g.S.Stream.tells slab c.in_ok-entries.entries.items c.in_ok-closed.closed.items c.in_ok-spare.spare.items c.in_ok-sessions.ensures.empty c.in_ok-entries.ensures.items c.in_ok-closed.ensures.items c.in_ok-spare.ensures.spare,
      empty_queues g.S.Stream.tells slab c.in_ok-ready.ready c.in_ok-behind.behind c.in_ok-written.written (length c.in_ok-spare.spare.items) c.in_ok-sessions.ensures.empty c.in_ok-ready.ensures.empty c.in_ok-behind.ensures.empty c.in_ok-written.ensures.empty
          (omega (arith, c.capacity-room.ensures.value, c.in_ok-ready.ensures.room)) (omega (arith, c.capacity-room.ensures.value, c.in_ok-behind.ensures.room)) (omega (arith, c.in_ok-spare.ensures.count, c.in_ok-sessions.ensures.capacity)),
    )

pub returns-clause-below : goal.returns-clause-below
returns-clause-below g c = λ place s is. absurd (no_session g.S.Stream.tells c.in_ok-sessions.sessions c.in_ok-sessions.ensures.empty place s is)

pub same-sessions : goal.same-sessions
same-sessions g c = grind (arith, common_steps)

pub returns-clause-quantum : goal.returns-clause-quantum
returns-clause-quantum g c = grind (arith, common_steps)

pub returns-clause-width : goal.returns-clause-width
returns-clause-width g c = grind (arith, common_steps)
