use Rattle.std.proofs.Common.{arith, ◌≡◌, refl, ◌∙◌, subst}
use Rattle.mio_edge.specs.Fixed.{fixed_there, fixed_kept, fixed_same}
use Rattle.mio_edge.proofs.Numbered.{all_stay_below}
use Rattle.gate_hub.specs.Hubs.{LinkWrites}
use Rattle.mio_edge.specs.Stepping.{StayStepped}
use Rattle.mio_edge.specs.Tables.{TableTells, AtSession, MovesAt}
use Rattle.mio_edge.specs.declared.listening.Listening.{Listening}
use Rattle.mio_edge.proofs.Worlds.{listening_calls}
use Rattle.mio_edge.proofs.Winding.{sockets_same}
use Rattle.mio_edge.proofs.Turning.{sockets_join_same}
use Rattle.mio_edge.proofs.sockets.Sockets.write.Goals as goal
use Rattle.std.proofs.lemmas.Grind.{common_steps}

pub returns-in-Some-clause-same : goal.returns-in-Some-clause-same
returns-in-Some-clause-same g c =
    let d = c.connect_for_write.new.self in
    let l = record d { table = c.write.new.self } in
    fixed_there c.args.self.now _ c.in-Some.listening l c.in-Some.is refl
    (fixed_kept d l refl refl c.write.ensures.same ∙ c.connect_for_write.ensures.same)

pub invariant_of-self : goal.invariant_of-self
invariant_of-self g c =
    let serving = c.args.self.now.serving in
    record { numbered = all_stay_below serving.announced serving.listening c.in-Some.listening (record c.connect_for_write.new.self { table = c.write.new.self }) c.in-Some.is serving.numbered (λ next below. c.write.ensures.below next (c.connect_for_write.ensures.below next below)) }

pub returns-in-Some-clause-leads : goal.returns-in-Some-clause-leads
returns-in-Some-clause-leads g c =
    let t = g.W.Stream.Stream.tells in
    let a = c.in-Some.listening in
    let d = c.connect_for_write.new.self in
    let b = record d { table = c.write.new.self } in
    let k = c.args.k in
    let port = c.args.port in
    let Step = LinkWrites c.args.from.now c.write.result in
    listening_calls g.W.Network.is_telling t c.args.self.now _ a b k port Step c.in-Some.is refl
    (λ at_once.
    let same = c.connect_for_write.ensures.at_once at_once in
    subst (λ (x : Listening g.row.W-Stream.Denot). (b.connecting ≡ x.connecting) × MovesAt k (TableTells t x.table) (TableTells t b.table) (AtSession k port Step) × StayStepped t x.table b.table) same (refl, c.write.ensures.leads, c.write.ensures.stepped))
    refl refl

pub returns-in-None-clause-winds : goal.returns-in-None-clause-winds
returns-in-None-clause-winds g c = λ world told. sockets_same g.W.Stream.Stream.tells c.args.self.now _ refl

pub returns-in-None-clause-joins : goal.returns-in-None-clause-joins
returns-in-None-clause-joins g c = sockets_join_same c.args.self.now _ refl

pub returns-in-None-clause-same : goal.returns-in-None-clause-same
returns-in-None-clause-same g c = fixed_same c.args.self.now _ refl

pub returns-in-Some-clause-joins : goal.returns-in-Some-clause-joins
returns-in-Some-clause-joins g c = grind (arith, common_steps)

pub returns-in-None-clause-leads : goal.returns-in-None-clause-leads
returns-in-None-clause-leads g c = grind (arith, common_steps)
