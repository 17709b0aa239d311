use Rattle.std.proofs.Common.{Some, ◌∙◌, subst, arith}
use Rattle.mio_edge.specs.Tables.{NamesIfAny}
use Rattle.mio_edge.specs.Worlds.{SocketsTell}
use Rattle.mio_edge.specs.Turning.{SocketsTurnIfTold}
use Rattle.mio_edge.proofs.Numbers.{passes_same}
use Rattle.mio_edge.proofs.Advancing.{keeps_later, rests_all, rests_on, brings_on, brings_a_fault, brings_nothing, none_stops, ready_fails, ready_stops, some_failed_stops}
use Rattle.mio_edge.proofs.sockets.Sockets.ready.Goals as goal

pub returns-in-Some : goal.returns-in-Some
returns-in-Some g c =
    let named = c.next_named.ensures in
    let here = c.in-Some.ensures in
    let number = c.in-Some.number in record {
      moves = here.names;
      numbers = (omega (arith, here.below, named.announced), passes_same g.W.Network.is_shared c.args.self.now.serving.announced c.next_named.new.self.serving.announced named.announced);
      running = ready_stops number;
      announced = named.announced;
      accept = named.accept;
      later = omega (arith, named.faults);
      cause = λ is. absurd (ready_fails number is);
      winds = named.winds;
      turn = here.turn;
      same = named.same;
    }

pub returns-then-rest : goal.returns-then-rest
returns-then-rest g c =
    let Is = g.W.Network.is_telling in
    let Shared = g.W.Network.is_shared in
    let t = g.W.Stream.Stream.tells in
    let a = c.args.self.now in
    let b = c.next_named.new.self in
    let d = c.rest.new.self in
    let e = c.fails.new.self in
    let named = c.next_named.ensures in
    let rests = c.rest.ensures in
    let fails = c.fails.ensures in
    let first = rests_all Is Shared t a b (λ world told. let moved = named.names world told in subst (λ w. SocketsTell Is t b w) (subst (λ o. NamesIfAny o world moved.0) c.in_default.is moved.2) moved.1) named.announced named.accept named.faults named.winds (subst (λ o. SocketsTurnIfTold Is t o a b) c.in_default.is named.turn) named.same in
    let second = rests_all Is Shared t b d rests.keeps rests.announced rests.accept rests.faults rests.winds rests.turn rests.same in
    let r = c.fails.result in
    let all = brings_on Is Shared t (Some r) a d e (rests_on Is Shared t a b d first second) (brings_a_fault Is Shared t r d e fails.result fails.cause (keeps_later Is Shared t d e fails.keeps fails.announced fails.accept fails.later fails.winds fails.same)) in record {
      moves = all.moves;
      numbers = all.numbers;
      running = some_failed_stops r fails.result;
      announced = fails.announced ∙ (rests.announced ∙ named.announced);
      accept = all.accept;
      later = all.later;
      cause = all.cause;
      winds = all.winds;
      turn = all.turn;
      same = all.same;
    }

pub returns : goal.returns
returns g c =
    let Is = g.W.Network.is_telling in
    let Shared = g.W.Network.is_shared in
    let t = g.W.Stream.Stream.tells in
    let a = c.args.self.now in
    let b = c.next_named.new.self in
    let d = c.rest.new.self in
    let named = c.next_named.ensures in
    let rests = c.rest.ensures in
    let first = rests_all Is Shared t a b (λ world told. let moved = named.names world told in subst (λ w. SocketsTell Is t b w) (subst (λ o. NamesIfAny o world moved.0) c.in_default.is moved.2) moved.1) named.announced named.accept named.faults named.winds (subst (λ o. SocketsTurnIfTold Is t o a b) c.in_default.is named.turn) named.same in
    let second = rests_all Is Shared t b d rests.keeps rests.announced rests.accept rests.faults rests.winds rests.turn rests.same in
    let all = brings_nothing Is Shared t a d (rests_on Is Shared t a b d first second) in record {
      moves = all.moves;
      numbers = all.numbers;
      running = none_stops;
      announced = rests.announced ∙ named.announced;
      accept = all.accept;
      later = all.later;
      cause = all.cause;
      winds = all.winds;
      turn = all.turn;
      same = all.same;
    }
