use Rattle.gate_hub.specs.Meaning.{Read}
use Rattle.gate_hub.specs.Hubs.{LinkReads}
use Rattle.mio_edge.proofs.Telling.{call_leads_over, reads_follow}
use Rattle.std.proofs.Common.{arith, length, sym, subst}
use Rattle.mio_edge.specs.Winding.{SocketsWind}
use Rattle.mio_edge.specs.Turning.{SocketsJoin}
use Rattle.mio_edge.specs.Fixed.{SocketsSame}
use Rattle.mio_edge.proofs.hub.MioHubHub.read.Goals as goal
use Rattle.std.proofs.lemmas.Grind.{common_steps}

pub returns-clause-leads : goal.returns-clause-leads
returns-clause-leads g c =
    call_leads_over g.W.Network.is_telling g.W.Stream.Stream.tells g.met.W.Stream.Stream.bytes c.args.self.now c.count_got.new.self c.read-got.new.self c.args.k c.args.side c.port_of.result (Read c.args.k c.args.side (length c.args.into.now) c.read-got.result) (LinkReads c.read-got.new.into c.read-got.result) (reads_follow c.read-got.new.into c.read-got.result) c.count_got.ensures.sockets c.port_of.ensures c.read-got.ensures.leads c.read-got.ensures.stopped c.read-got.ensures.accept c.read-got.ensures.announced

pub returns-clause-winds : goal.returns-clause-winds
returns-clause-winds g c = λ world told. subst (λ sockets. SocketsWind g.W.Stream.Stream.tells c.args.self.now.sockets sockets) (sym c.count_got.ensures.sockets) (c.read-got.ensures.winds world told)

pub returns-clause-joins : goal.returns-clause-joins
returns-clause-joins g c = subst (λ sockets. SocketsJoin c.args.self.now.sockets sockets) (sym c.count_got.ensures.sockets) c.read-got.ensures.joins

pub returns-clause-same : goal.returns-clause-same
returns-clause-same g c = subst (λ sockets. SocketsSame c.args.self.now.sockets sockets) (sym c.count_got.ensures.sockets) c.read-got.ensures.same

pub returns-clause-later : goal.returns-clause-later
returns-clause-later g c = grind (arith, common_steps)

pub returns-clause-wait : goal.returns-clause-wait
returns-clause-wait g c = grind (arith, common_steps)

pub returns-clause-cause : goal.returns-clause-cause
returns-clause-cause g c = grind (arith, common_steps)
