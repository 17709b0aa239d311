use Rattle.route_server.specs.Lines.{link_fault_text}
use Rattle.route_server.proofs.Texts.{behind}
use Rattle.route_server.proofs.lines.push_link_fault.Goals as goal

pub returns-clause-text : goal.returns-clause-text
unfolding link_fault_text
returns-clause-text c = behind c.args.line.now c.push.new.self _ _ _ c.push.ensures c.push_port.ensures.text
