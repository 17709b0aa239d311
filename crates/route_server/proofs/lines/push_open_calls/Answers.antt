use Rattle.route_server.specs.Lines.{open_calls_text}
use Rattle.route_server.proofs.Texts.{behind}
use Rattle.route_server.proofs.lines.push_open_calls.Goals as goal

pub returns-clause-text : goal.returns-clause-text
unfolding open_calls_text
returns-clause-text c =
    behind c.args.line.now c.push.new.self _ _ _
    (behind c.args.line.now c.push_upstream.new.line _ _ _ c.push_upstream.ensures.text c.push.ensures) c.push_number.ensures.text
