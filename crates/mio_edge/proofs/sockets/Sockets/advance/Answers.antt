use Rattle.std.proofs.Common.{Some, inl, inr}
use Rattle.mio_edge.proofs.Advancing.{keeps_all, keeps_later, rests_all, brings_on, brings_the_end, brings_a_fault, some_failed_stops}
use Rattle.mio_edge.proofs.sockets.Sockets.advance.Goals as goal

pub stops-requires : goal.stops-requires
stops-requires g c = inr (c.is_left.ensures c.if-is_left.true)

pub finish-requires : goal.finish-requires
finish-requires g c = c.is_complete.ensures c.if-is_complete.true

pub returns-then-is_left : goal.returns-then-is_left
returns-then-is_left g c =
    let Is = g.W.Network.is_telling in
    let Shared = g.W.Network.is_shared in
    let t = g.W.Stream.Stream.tells in
    let a = c.args.self.now in
    let b = c.send_where_many.new.self in
    let d = c.stops.new.self in
    let sent = c.send_where_many.ensures in
    let ends = c.stops.ensures in
    let shared = c.is_left.ensures c.if-is_left.true in
    let first = rests_all Is Shared t a b sent.keeps sent.announced sent.accept sent.faults sent.winds sent.turn sent.same in
    let all = brings_on Is Shared t (Some c.stops.result) a b d first (brings_the_end Is Shared t c.stops.result b d ends.result (keeps_all Is Shared t b d ends.keeps ends.announced ends.accept ends.faults ends.winds ends.same)) in record {
      moves = all.moves;
      over = λ is world told. absurd (g.met.W.Network.alone told.is_telling shared);
      sent = λ is. inr shared;
      told = λ is. ends.told;
      numbers = all.numbers;
      accept = all.accept;
      later = all.later;
      cause = all.cause;
      winds = all.winds;
      turn = all.turn;
      same = all.same;
    }

pub returns-then-is_complete : goal.returns-then-is_complete
returns-then-is_complete g c =
    let Is = g.W.Network.is_telling in
    let Shared = g.W.Network.is_shared in
    let t = g.W.Stream.Stream.tells in
    let a = c.args.self.now in
    let b = c.send_where_many.new.self in
    let sent = c.send_where_many.ensures in
    let ends = c.finish.ensures in
    let first = rests_all Is Shared t a b sent.keeps sent.announced sent.accept sent.faults sent.winds sent.turn sent.same in
    let all = brings_on Is Shared t c.finish.result a b c.finish.new.self first (record { moves = ends.moves; numbers = ends.numbers; accept = ends.accept; later = ends.later; cause = ends.cause; winds = ends.winds; turn = ends.turn; same = ends.same }) in record {
      moves = all.moves;
      over = λ is world told. ends.over is world (sent.keeps world told);
      sent = λ is. inl (ends.sent is);
      told = ends.told;
      numbers = all.numbers;
      accept = all.accept;
      later = all.later;
      cause = all.cause;
      winds = all.winds;
      turn = all.turn;
      same = all.same;
    }

pub returns-then-self : goal.returns-then-self
returns-then-self g c =
    let Is = g.W.Network.is_telling in
    let Shared = g.W.Network.is_shared in
    let t = g.W.Stream.Stream.tells in
    let a = c.args.self.now in
    let b = c.send_where_many.new.self in
    let d = c.fails.new.self in
    let r = c.fails.result in
    let sent = c.send_where_many.ensures in
    let fails = c.fails.ensures in
    let first = rests_all Is Shared t a b sent.keeps sent.announced sent.accept sent.faults sent.winds sent.turn sent.same in
    let all = brings_on Is Shared t (Some r) a b d first (brings_a_fault Is Shared t r b d fails.result fails.cause (keeps_later Is Shared t b d fails.keeps fails.announced fails.accept fails.later fails.winds fails.same)) in record {
      moves = all.moves;
      over = λ is. absurd (some_failed_stops r fails.result is);
      sent = λ is. absurd (some_failed_stops r fails.result is);
      told = λ is. absurd (some_failed_stops r fails.result is);
      numbers = all.numbers;
      accept = all.accept;
      later = all.later;
      cause = all.cause;
      winds = all.winds;
      turn = all.turn;
      same = all.same;
    }

pub returns : goal.returns
returns g c =
    let Is = g.W.Network.is_telling in
    let Shared = g.W.Network.is_shared in
    let t = g.W.Stream.Stream.tells in
    let a = c.args.self.now in
    let b = c.send_where_many.new.self in
    let sent = c.send_where_many.ensures in
    let goes = c.go_on.ensures in
    let first = rests_all Is Shared t a b sent.keeps sent.announced sent.accept sent.faults sent.winds sent.turn sent.same in
    let all = brings_on Is Shared t c.go_on.result a b c.go_on.new.self first (record { moves = goes.moves; numbers = goes.numbers; accept = goes.accept; later = goes.later; cause = goes.cause; winds = goes.winds; turn = goes.turn; same = goes.same }) in record {
      moves = all.moves;
      over = λ is. absurd (goes.running is);
      sent = λ is. absurd (goes.running is);
      told = λ is. absurd (goes.running is);
      numbers = all.numbers;
      accept = all.accept;
      later = all.later;
      cause = all.cause;
      winds = all.winds;
      turn = all.turn;
      same = all.same;
    }
