use Rattle.proxy_server.specs.Lines.{unsolicited_text}
use Rattle.proxy_server.proofs.Texts.{behind}
use Rattle.proxy_server.proofs.lines.push_unsolicited.Goals as goal

pub returns-clause-text : goal.returns-clause-text
unfolding unsolicited_text
returns-clause-text c =
    behind c.args.line.now c.push_number-2.new.line _ _ _
    (behind c.args.line.now c.push-2.new.self _ _ _
    (behind c.args.line.now c.push_number.new.line _ _ _
    (behind c.args.line.now c.push.new.self _ _ _ c.push.ensures c.push_number.ensures.text) c.push-2.ensures) c.push_number-2.ensures.text) c.push-3.ensures
