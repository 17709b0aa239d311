use Rattle.std.proofs.Common.{sym}
use Rattle.mio_edge.proofs.Standing.{still_kept}
use Rattle.mio_edge.proofs.Places.{deferred_at}
use Rattle.mio_edge.proofs.Numbered.{below_put}
use Rattle.mio_edge.proofs.table.Table.give_up.Goals as goal

pub returns-in-Some-clause-keeps : goal.returns-in-Some-clause-keeps
returns-in-Some-clause-keeps g c = still_kept g.S.Stream.tells c.args.self.now c.args.place c.in-Some.session.now c.give_up.new.self (sym c.in-Some.ensures.value) c.give_up.ensures.still c.give_up.ensures.keeps

pub returns-in-Some-clause-given_up : goal.returns-in-Some-clause-given_up
returns-in-Some-clause-given_up g c = λ deferred. c.give_up.ensures.given_up (deferred_at c.args.self.now.sessions c.args.place c.args.port c.in-Some.session.now c.give_up.new.self (sym c.in-Some.ensures.value) deferred)

pub returns-in-Some-clause-below : goal.returns-in-Some-clause-below
returns-in-Some-clause-below g c = below_put c.args.self.now.sessions c.args.place c.in-Some.session.now c.give_up.new.self (sym c.in-Some.ensures.value) c.give_up.ensures.still.number
