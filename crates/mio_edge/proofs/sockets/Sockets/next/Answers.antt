use Rattle.std.proofs.Common.{None, Some, true≢false, refl, sym, ap, ◌∙◌, subst, arith}
use Rattle.mio_edge.proofs.Advancing.{Brings, rests_from, keeps_later, brings_on, brings_a_fault, stop_fails, failed_stops}
use Rattle.mio_edge.specs.Numbers.{NumbersIfAny}
use Rattle.mio_edge.specs.Worlds.{SocketsTell, EventMovesIfAny}
use Rattle.mio_edge.specs.Fixed.{fixed_same, fixed_on}
use Rattle.mio_edge.specs.Turning.{EventTurn}
use Rattle.mio_edge.proofs.Turning.{sockets_turn_same, sockets_turn_on}
use Rattle.mio_edge.proofs.Numbers.{passes_same, passes_on}
use Rattle.mio_edge.proofs.Winding.{sockets_same, sockets_on}
use Rattle.mio_edge.proofs.sockets.Sockets.next.Goals as goal

pub loop-init : goal.loop-init
loop-init g c =
    let a = c.args.self.now in record {
      numbers = passes_same g.W.Network.is_shared a.serving.announced a.serving.announced refl;
      accept = refl;
      later = omega arith;
      turn = sockets_turn_same g.W.Network.is_telling g.W.Stream.Stream.tells a a refl;
      same = fixed_same a a refl;
      winds = sockets_same g.W.Stream.Stream.tells a a refl;
      keeps = λ world told. told;
    }

pub loop-preserved : goal.loop-preserved
loop-preserved g c =
    let a = c.args.self.now in
    let b = c.loop.self in
    let d = c.advance.new.self in
    let so_far = c.loop.invariant in record {
      numbers = passes_on g.W.Network.is_shared a.serving.announced b.serving.announced d.serving.announced so_far.numbers (subst (λ o. NumbersIfAny g.W.Network.is_shared o b.serving.announced d.serving.announced) c.in_default.is c.advance.ensures.numbers);
      accept = c.advance.ensures.accept ∙ so_far.accept;
      later = omega (arith, c.advance.ensures.later, so_far.later);
      turn = sockets_turn_on g.W.Network.is_telling g.W.Stream.Stream.tells None a b d so_far.keeps so_far.turn (subst (λ o. EventTurn g.W.Network.is_telling g.W.Stream.Stream.tells o b d) c.in_default.is c.advance.ensures.turn);
      same = fixed_on a b d so_far.same c.advance.ensures.same;
      winds = sockets_on g.W.Stream.Stream.tells a b d so_far.winds c.advance.ensures.winds;
      keeps = λ world told.
          let moved = c.advance.ensures.moves world (so_far.keeps world told) in
          subst (λ w. SocketsTell g.W.Network.is_telling g.W.Stream.Stream.tells d w) (subst (λ o. EventMovesIfAny o world moved.0) c.in_default.is moved.2) moved.1;
    }

pub returns-then-has_ended : goal.returns-then-has_ended
returns-then-has_ended g c =
    let a = c.args.self.now in
    let ended = c.has_ended.ensures.told c.if-has_ended.true in record {
      moves = λ world told. (world, told, refl);
      over = λ is fresh. absurd (true≢false (sym ended.stopped ∙ fresh));
      sent = λ is fresh. absurd (true≢false (sym ended.stopped ∙ fresh));
      still = λ before. refl;
      told = λ is. ended;
      numbers = passes_same g.W.Network.is_shared a.serving.announced a.serving.announced refl;
      stopped = λ is. ended.ended;
      accept = refl;
      later = omega arith;
      cause = λ is. absurd (stop_fails is);
      winds = sockets_same g.W.Stream.Stream.tells a a refl;
      turn = tt;
      stepped = λ world told. told.stepped;
      same = fixed_same a a refl;
    }

pub returns-in-Some : goal.returns-in-Some
returns-in-Some g c =
    let Is = g.W.Network.is_telling in
    let Shared = g.W.Network.is_shared in
    let t = g.W.Stream.Stream.tells in
    let a = c.args.self.now in
    let b = c.loop.self in
    let d = c.advance.new.self in
    let so_far = c.loop.invariant in
    let goes = c.advance.ensures in
    let is_some = c.in-Some.is in
    let all = subst (λ o. Brings Is Shared t o a d) is_some (brings_on Is Shared t c.advance.result a b d (rests_from Is Shared t a b so_far.keeps so_far.numbers so_far.accept so_far.later so_far.winds so_far.turn so_far.same)
    (record { moves = goes.moves; numbers = goes.numbers; accept = goes.accept; later = goes.later; cause = goes.cause; winds = goes.winds; turn = goes.turn; same = goes.same })) in record {
      moves = all.moves;
      over = λ is fresh world told. goes.over (is_some ∙ ap Some is) world (so_far.keeps world told);
      sent = λ is fresh. goes.sent (is_some ∙ ap Some is);
      still = λ before. absurd (true≢false (sym (c.has_ended.ensures.still before) ∙ c.if-has_ended.false));
      told = λ is. goes.told (is_some ∙ ap Some is);
      numbers = all.numbers;
      stopped = λ is. (goes.told (is_some ∙ ap Some is)).ended;
      accept = all.accept;
      later = all.later;
      cause = λ is. all.cause (ap Some is);
      winds = all.winds;
      turn = all.turn;
      stepped = λ world told. told.stepped;
      same = all.same;
    }

pub returns : goal.returns
returns g c =
    let Is = g.W.Network.is_telling in
    let Shared = g.W.Network.is_shared in
    let t = g.W.Stream.Stream.tells in
    let a = c.args.self.now in
    let b = c.loop.self in
    let d = c.fails.new.self in
    let r = c.fails.result in
    let so_far = c.loop.invariant in
    let fails = c.fails.ensures in
    let all = brings_on Is Shared t (Some r) a b d (rests_from Is Shared t a b so_far.keeps so_far.numbers so_far.accept so_far.later so_far.winds so_far.turn so_far.same)
    (brings_a_fault Is Shared t r b d fails.result fails.cause (keeps_later Is Shared t b d fails.keeps fails.announced fails.accept fails.later fails.winds fails.same)) in record {
      moves = all.moves;
      over = λ is. absurd (failed_stops r fails.result is);
      sent = λ is. absurd (failed_stops r fails.result is);
      still = λ before. absurd (true≢false (sym (c.has_ended.ensures.still before) ∙ c.if-has_ended.false));
      told = λ is. absurd (failed_stops r fails.result is);
      numbers = all.numbers;
      stopped = λ is. absurd (failed_stops r fails.result is);
      accept = all.accept;
      later = all.later;
      cause = λ is. all.cause (ap Some is);
      winds = all.winds;
      turn = all.turn;
      stepped = λ world told. told.stepped;
      same = all.same;
    }
