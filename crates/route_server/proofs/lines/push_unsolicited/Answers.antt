use Rattle.route_server.specs.Lines.{unsolicited_text}
use Rattle.route_server.proofs.Texts.{behind}
use Rattle.route_server.proofs.lines.push_unsolicited.Goals as goal

pub returns-clause-text : goal.returns-clause-text
unfolding unsolicited_text
returns-clause-text c =
    behind c.args.line.now c.push_number-2.new.line _ _ _
    (behind c.args.line.now c.push-3.new.self _ _ _
    (behind c.args.line.now c.push_number.new.line _ _ _
    (behind c.args.line.now c.push-2.new.self _ _ _
    (behind c.args.line.now c.push_upstream.new.line _ _ _
    (behind c.args.line.now c.push.new.self _ _ _ c.push.ensures c.push_upstream.ensures.text) c.push-2.ensures) c.push_number.ensures.text) c.push-3.ensures) c.push_number-2.ensures.text) c.push-4.ensures
