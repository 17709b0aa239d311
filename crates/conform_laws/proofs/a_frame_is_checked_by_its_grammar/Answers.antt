use Rattle.conform_laws.proofs.Checked.{binary_checked, compact_checked}
use Rattle.conform_laws.proofs.JsonChecked.{json_checked}
use Rattle.conform_laws.proofs.a_frame_is_checked_by_its_grammar.Goals as goal

pub returns-clause-binary : goal.returns-clause-binary
returns-clause-binary c = binary_checked

pub returns-clause-compact : goal.returns-clause-compact
returns-clause-compact c = compact_checked

pub returns-clause-json : goal.returns-clause-json
returns-clause-json c = json_checked
