use Rattle.std.proofs.Common.{inl, inr}
use Rattle.mio_edge.specs.Moving.{PortTells}
use Rattle.mio_edge.specs.Closing.{KeepsSent}
use Rattle.mio_edge.proofs.Ports.{then_moves}
use Rattle.mio_edge.proofs.Closing.{then_stays, none_unsent, still_unsent, tells_its_end}
use Rattle.mio_edge.proofs.port.Port.wind_up.Goals as goal

pub returns-then-is_gone-clause-sends : goal.returns-then-is_gone-clause-sends
returns-then-is_gone-clause-sends g c =
    let t = g.S.Stream.tells in
    then_moves (PortTells t c.args.self.now) (PortTells t c.send.new.self) (PortTells t c.pass_over-got.new.self) KeepsSent c.send.ensures.keeps c.pass_over-got.ensures.moves

pub returns-then-is_gone-clause-gone : goal.returns-then-is_gone-clause-gone
returns-then-is_gone-clause-gone g c = λ is. inr (c.is_gone.ensures.gone c.if-is_gone.true)

pub returns-clause-sends : goal.returns-clause-sends
returns-clause-sends g c =
    let t = g.S.Stream.tells in
    then_moves (PortTells t c.args.self.now) (PortTells t c.send.new.self) (PortTells t c.finish-is_sent.new.self) KeepsSent c.send.ensures.keeps
    (then_stays (PortTells t c.send.new.self) (PortTells t c.pass_over-got.new.self) (PortTells t c.finish-is_sent.new.self) KeepsSent c.pass_over-got.ensures.moves c.finish-is_sent.ensures.keeps)

pub returns-clause-gone : goal.returns-clause-gone
returns-clause-gone g c = λ is. inl (c.finish-is_sent.ensures.sent (c.rest_after.ensures.sent is))

pub returns-then-is_gone-clause-sent : goal.returns-then-is_gone-clause-sent
returns-then-is_gone-clause-sent g c = λ unsent. none_unsent c.send.new.self c.send.ensures.sent (c.pass_over-got.ensures.calm unsent)

pub returns-clause-sent : goal.returns-clause-sent
returns-clause-sent g c = λ unsent. none_unsent c.send.new.self c.send.ensures.sent
    (c.pass_over-got.ensures.calm (still_unsent c.pass_over-got.new.self c.finish-is_sent.new.self c.finish-is_sent.result c.finish-is_sent.ensures.sent c.finish-is_sent.ensures.calm unsent))

pub returns-then-is_gone-clause-told : goal.returns-then-is_gone-clause-told
returns-then-is_gone-clause-told g c = inr (inr (c.is_gone.ensures.gone c.if-is_gone.true))

pub returns-clause-told : goal.returns-clause-told
returns-clause-told g c = tells_its_end c.finish-is_sent.new.self c.finish-is_sent.result c.finish-is_sent.ensures.told c.finish-is_sent.ensures.holds
