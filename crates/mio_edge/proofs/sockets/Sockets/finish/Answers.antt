use Rattle.std.proofs.Common.{Some}
use Rattle.mio_edge.proofs.Advancing.{keeps_all, rests_all, brings_on, brings_the_end, sent_still}
use Rattle.mio_edge.proofs.Numbers.{ended_same}
use Rattle.mio_edge.proofs.sockets.Sockets.finish.Goals as goal

pub stops-requires : goal.stops-requires
stops-requires g c = ended_same g.W.Network.is_shared c.args.self.now.accept c.args.self.now.serving.announced c.is_over.new.self.accept c.is_over.new.self.serving.announced c.is_over.ensures.accept c.is_over.ensures.announced c.requires

pub returns-then-is_over : goal.returns-then-is_over
returns-then-is_over g c =
    let Is = g.W.Network.is_telling in
    let Shared = g.W.Network.is_shared in
    let t = g.W.Stream.Stream.tells in
    let a = c.args.self.now in
    let b = c.is_over.new.self in
    let d = c.stops.new.self in
    let over = c.is_over.ensures in
    let ends = c.stops.ensures in
    let first = rests_all Is Shared t a b over.keeps over.announced over.accept over.faults over.winds over.turn over.same in
    let all = brings_on Is Shared t (Some c.stops.result) a b d first (brings_the_end Is Shared t c.stops.result b d ends.result (keeps_all Is Shared t b d ends.keeps ends.announced ends.accept ends.faults ends.winds ends.same)) in record {
      moves = all.moves;
      over = λ is. over.over c.if-is_over.true;
      sent = λ is. sent_still Is Shared t b d ends.listening (over.sent c.if-is_over.true);
      told = λ is. ends.told;
      numbers = all.numbers;
      accept = all.accept;
      later = all.later;
      cause = all.cause;
      winds = all.winds;
      turn = all.turn;
      same = all.same;
    }

pub returns : goal.returns
returns g c =
    let Is = g.W.Network.is_telling in
    let Shared = g.W.Network.is_shared in
    let t = g.W.Stream.Stream.tells in
    let a = c.args.self.now in
    let b = c.is_over.new.self in
    let over = c.is_over.ensures in
    let goes = c.ready.ensures in
    let first = rests_all Is Shared t a b over.keeps over.announced over.accept over.faults over.winds over.turn over.same in
    let all = brings_on Is Shared t c.ready.result a b c.ready.new.self first (record { moves = goes.moves; numbers = goes.numbers; accept = goes.accept; later = goes.later; cause = goes.cause; winds = goes.winds; turn = goes.turn; same = goes.same }) in record {
      moves = all.moves;
      over = λ is. absurd (goes.running is);
      sent = λ is. absurd (goes.running is);
      told = λ is. absurd (goes.running is);
      numbers = all.numbers;
      accept = all.accept;
      later = all.later;
      cause = all.cause;
      winds = all.winds;
      turn = all.turn;
      same = all.same;
    }
