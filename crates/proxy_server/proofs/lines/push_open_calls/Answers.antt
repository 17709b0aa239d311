use Rattle.proxy_server.specs.Lines.{open_calls_text}
use Rattle.proxy_server.proofs.Texts.{behind}
use Rattle.proxy_server.proofs.lines.push_open_calls.Goals as goal

pub returns-clause-text : goal.returns-clause-text
unfolding open_calls_text
returns-clause-text c = behind c.args.line.now c.push.new.self _ _ _ c.push.ensures c.push_number.ensures.text
