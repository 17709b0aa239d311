use Rattle.std.proofs.Common.{sym, ◌∙◌}
use Rattle.binary_protocol.specs.Laws.{reads_none}
use Rattle.binary_protocol.proofs.reader.BinaryRead.read.Goals as goal

pub returns-in_default-clause-exact : goal.returns-in_default-clause-exact
returns-in_default-clause-exact c = rw (← c.self.view_is, c.fault_at.ensures) (reads_none _ (sym c.top.ensures ∙ c.in_default.is))
