use Rattle.std.proofs.Common.{arith, [], None, refl, sym, ap, subst}
use Rattle.mio_edge.specs.Closing.{Winds, winds_nowhere}
use Rattle.mio_edge.specs.Lines.{moves_nowhere}
use Rattle.mio_edge.proofs.Turning.{sockets_turned, sockets_turn_same}
use Rattle.mio_edge.proofs.Winding.{sockets_moved, sockets_same}
use Rattle.mio_edge.specs.Fixed.{fixed_there, fixed_same}
use Rattle.mio_edge.proofs.sockets.Sockets.is_over.Goals as goal
use Rattle.std.proofs.lemmas.Grind.{common_steps}

pub returns-in-Some-clause-winds : goal.returns-in-Some-clause-winds
returns-in-Some-clause-winds g c =
    let t = g.W.Stream.Stream.tells in
    let l = c.in-Some.listening in
    let after = c.stop_accepting.new.self in
    sockets_moved t c.args.self.now _ l after c.in-Some.is refl
    (subst (λ table. Winds t l.table.sessions table.sessions) (sym c.stop_accepting.ensures.table) (winds_nowhere t l.table.sessions))

pub returns-in-Some-clause-turn : goal.returns-in-Some-clause-turn
returns-in-Some-clause-turn g c =
    let l = c.in-Some.listening in
    let after = c.stop_accepting.new.self in
    let same = c.stop_accepting.ensures.table in
    sockets_turned g.W.Network.is_telling g.W.Stream.Stream.tells None c.args.self.now _ l after c.in-Some.is refl
    (λ world told. ([], moves_nowhere l.table after.table (ap (λ table. table.ready) same) (ap (λ table. table.behind) same) (ap (λ table. table.entries) same)))

pub returns-in-Some-clause-same : goal.returns-in-Some-clause-same
returns-in-Some-clause-same g c =
    let l = c.stop_accepting.new.self in
    fixed_there c.args.self.now _ c.in-Some.listening l c.in-Some.is refl c.stop_accepting.ensures.same

pub returns-in-None-clause-winds : goal.returns-in-None-clause-winds
returns-in-None-clause-winds g c = sockets_same g.W.Stream.Stream.tells c.args.self.now _ refl

pub returns-in-None-clause-turn : goal.returns-in-None-clause-turn
returns-in-None-clause-turn g c = sockets_turn_same g.W.Network.is_telling g.W.Stream.Stream.tells c.args.self.now _ refl

pub returns-in-None-clause-same : goal.returns-in-None-clause-same
returns-in-None-clause-same g c = fixed_same c.args.self.now _ refl

pub returns-in-None-clause-keeps : goal.returns-in-None-clause-keeps
returns-in-None-clause-keeps g c = grind (arith, common_steps)

pub returns-in-Some-clause-sent : goal.returns-in-Some-clause-sent
returns-in-Some-clause-sent g c = grind (arith, common_steps)
