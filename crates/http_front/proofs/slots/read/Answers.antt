use Rattle.std.proofs.Common.{refl}
use Rattle.http_front.specs.Serving.{given_bytes}
use Rattle.http_front.proofs.Handing.{given_over, given_two, given_after}
use Rattle.http_front.proofs.slots.read.Goals as goal

pub returns-then-is_over-clause-goes : goal.returns-then-is_over-clause-goes
returns-then-is_over-clause-goes g c = given_over (g.H.Hub.tells c.args.inner.now) c.args.k c.args.rules.now c.args.front.now c.args.front.now refl

pub returns-in-Enough-clause-goes : goal.returns-in-Enough-clause-goes
returns-in-Enough-clause-goes g c =
    let tells = g.H.Hub.tells in
    given_after (tells c.args.inner.now) (tells c.send_empty.new.inner) (tells c.fill.new.inner) c.args.k c.args.rules.now (given_bytes c.hand.new.into c.hand.result) c.args.front.now c.send_empty.new.self c.fill.new.front c.hand.new.front
    c.send_empty.ensures.goes c.fill.ensures.goes c.hand.ensures.hands

pub returns-in-NotReady-fill-clause-goes : goal.returns-in-NotReady-fill-clause-goes
returns-in-NotReady-fill-clause-goes g c =
    let tells = g.H.Hub.tells in
    given_two (tells c.args.inner.now) (tells c.send_empty.new.inner) (tells c.fill.new.inner) c.args.k c.args.rules.now c.args.front.now c.send_empty.new.self c.fill.new.front c.send_empty.ensures.goes c.fill.ensures.goes

pub returns-in-Failed-fill-clause-goes : goal.returns-in-Failed-fill-clause-goes
returns-in-Failed-fill-clause-goes g c =
    let tells = g.H.Hub.tells in
    given_two (tells c.args.inner.now) (tells c.send_empty.new.inner) (tells c.fill.new.inner) c.args.k c.args.rules.now c.args.front.now c.send_empty.new.self c.fill.new.front c.send_empty.ensures.goes c.fill.ensures.goes
