use Rattle.std.proofs.Common.{sym, refl}
use Rattle.mio_edge.proofs.Standing.{closed_moved}
use Rattle.mio_edge.proofs.Tables.{idle_closed, attached, still_idle}
use Rattle.mio_edge.proofs.Closing.{others_put}
use Rattle.slab.specs.Slab.{get}
use Rattle.mio_edge.proofs.Places.{no_none, port_at, connects_at, connects_none}
use Rattle.mio_edge.proofs.Numbered.{below_put}
use Rattle.mio_edge.proofs.table.Table.attach.Goals as goal

pub returns-in-Some-clause-keeps : goal.returns-in-Some-clause-keeps
returns-in-Some-clause-keeps g c = λ idle. closed_moved g.S.Stream.tells c.args.self.now c.args.place c.in-Some.session.now c.attach.new.self (sym c.in-Some.ensures.value) c.attach.ensures.still (idle_closed g.S.Stream.tells c.args.self.now.sessions c.args.place idle)

pub returns-in-Some-clause-prepared : goal.returns-in-Some-clause-prepared
returns-in-Some-clause-prepared g c = λ k says ready.
    attached g.S.Stream.tells c.args.self.now _ c.args.place k c.in-Some.session.now c.attach.new.self (sym c.in-Some.ensures.value) refl refl c.attach.ensures.still (λ told. c.attach.ensures.begins told says) ready

pub returns-in-Some-clause-idle : goal.returns-in-Some-clause-idle
returns-in-Some-clause-idle g c = still_idle g.S.Stream.tells c.args.self.now.sessions c.args.place c.in-Some.session.now c.attach.new.self (sym c.in-Some.ensures.value) c.attach.ensures.still

pub returns-in-Some-clause-others : goal.returns-in-Some-clause-others
returns-in-Some-clause-others g c = others_put c.args.self.now.sessions c.args.place c.in-Some.session.now c.attach.new.self (sym c.in-Some.ensures.value)

pub returns-in-Some-clause-there : goal.returns-in-Some-clause-there
returns-in-Some-clause-there g c = λ is. (c.in-Some.session.now, sym c.in-Some.ensures.value, c.attach.ensures.there is)

pub returns-in-Some-clause-all : goal.returns-in-Some-clause-all
returns-in-Some-clause-all g c = λ has. c.attach.ensures.all (port_at c.args.self.now.sessions c.args.place c.args.port c.in-Some.session.now (sym c.in-Some.ensures.value) has)

pub returns-in-None-clause-all : goal.returns-in-None-clause-all
returns-in-None-clause-all g c = λ has. absurd (no_none (get c.args.self.now.sessions c.args.place) has.0 has.1 (sym c.in-None.ensures.value))

pub returns-in-Some-clause-connects : goal.returns-in-Some-clause-connects
returns-in-Some-clause-connects g c = connects_at c.args.stream c.args.sending c.args.self.now.sessions c.args.place c.args.port c.in-Some.session.now c.attach.new.self (sym c.in-Some.ensures.value) c.attach.ensures.connects

pub returns-in-None-clause-connects : goal.returns-in-None-clause-connects
returns-in-None-clause-connects g c = connects_none c.args.stream c.args.sending c.args.self.now.sessions c.args.place c.args.port (sym c.in-None.ensures.value)

pub returns-in-Some-clause-below : goal.returns-in-Some-clause-below
returns-in-Some-clause-below g c = below_put c.args.self.now.sessions c.args.place c.in-Some.session.now c.attach.new.self (sym c.in-Some.ensures.value) c.attach.ensures.still.number
