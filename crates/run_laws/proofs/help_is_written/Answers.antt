use Rattle.gate_run.specs.Lines.{help_text}
use Rattle.run_laws.proofs.Complete.{text_written}
use Rattle.run_laws.proofs.help_is_written.Goals as goal

pub returns : goal.returns
returns c = λ x y ending. text_written help_text x.streams y.streams ending
