use Rattle.std.proofs.Common.{None, arith}
use Rattle.mio_edge.proofs.Advancing.{rests_all, brings_on, brings_nothing, none_stops, opened_fails, opened_stops}
use Rattle.mio_edge.proofs.sockets.Sockets.go_on.Goals as goal

pub returns-in-Here : goal.returns-in-Here
returns-in-Here g c =
    let here = c.in-Here.ensures in record {
      moves = here.opens;
      numbers = (here.number.0, here.announced);
      running = opened_stops _;
      accept = c.accept_next.ensures.accept;
      later = omega (arith, c.accept_next.ensures.faults);
      cause = λ is. absurd (opened_fails _ is);
      winds = c.accept_next.ensures.winds;
      turn = tt;
      same = c.accept_next.ensures.same;
    }

pub returns-in-Handed : goal.returns-in-Handed
returns-in-Handed g c =
    let Is = g.W.Network.is_telling in
    let Shared = g.W.Network.is_shared in
    let t = g.W.Stream.Stream.tells in
    let a = c.args.self.now in
    let b = c.accept_next.new.self in
    let d = c.pass_over.new.self in
    let none = c.accept_next.ensures in
    let here = c.in-Handed.ensures in
    let passes = c.pass_over.ensures in
    let first = rests_all Is Shared t a b here.keeps here.waits none.accept none.faults none.winds here.turn none.same in
    let shared = none.handed c.in-Handed.is in
    let all = brings_on Is Shared t None a b d first (brings_nothing Is Shared t b d (record {
      kept = record { keeps = passes.keeps; numbers = (omega (arith, passes.announced), λ less. shared); accept = passes.accept; later = omega (arith, passes.faults); winds = passes.winds; same = passes.same };
      turn = passes.turn;
    })) in record {
      moves = all.moves;
      numbers = all.numbers;
      running = none_stops;
      accept = all.accept;
      later = all.later;
      cause = all.cause;
      winds = all.winds;
      turn = all.turn;
      same = all.same;
    }

pub returns-in-Nothing : goal.returns-in-Nothing
returns-in-Nothing g c =
    let Is = g.W.Network.is_telling in
    let Shared = g.W.Network.is_shared in
    let t = g.W.Stream.Stream.tells in
    let a = c.args.self.now in
    let b = c.accept_next.new.self in
    let none = c.accept_next.ensures in
    let here = c.in-Nothing.ensures in
    let goes = c.ready.ensures in
    let first = rests_all Is Shared t a b here.keeps here.waits none.accept none.faults none.winds here.turn none.same in
    let all = brings_on Is Shared t c.ready.result a b c.ready.new.self first (record { moves = goes.moves; numbers = goes.numbers; accept = goes.accept; later = goes.later; cause = goes.cause; winds = goes.winds; turn = goes.turn; same = goes.same }) in record {
      moves = all.moves;
      numbers = all.numbers;
      running = goes.running;
      accept = all.accept;
      later = all.later;
      cause = all.cause;
      winds = all.winds;
      turn = all.turn;
      same = all.same;
    }
