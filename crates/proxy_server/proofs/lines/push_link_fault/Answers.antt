use Rattle.std.proofs.Common.{List, ℕ, ◌++◌, ap, ◌∙◌}
use Rattle.proxy_server.specs.Lines.{link_fault_text}
use Rattle.proxy_server.proofs.Texts.{behind}
use Rattle.proxy_server.proofs.lines.push_link_fault.Goals as goal

pub returns-clause-text : goal.returns-clause-text
unfolding link_fault_text
returns-clause-text c = behind c.args.line.now c.push.new.self _ _ _ c.push.ensures (c.push-2.ensures ∙ ap (λ (xs : List ℕ). record c.push.new.self { bytes = c.push.new.self.bytes ++ xs }) c.side_name.ensures.text)
