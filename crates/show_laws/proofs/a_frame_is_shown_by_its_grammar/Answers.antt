use Rattle.message_show.specs.Shown.{shown}
use Rattle.show_laws.proofs.Shown.{binary_shown, compact_shown, json_shown}
use Rattle.show_laws.proofs.a_frame_is_shown_by_its_grammar.Goals as goal

pub returns-clause-binary : goal.returns-clause-binary
unfolding shown
returns-clause-binary c = binary_shown

pub returns-clause-compact : goal.returns-clause-compact
unfolding shown
returns-clause-compact c = compact_shown

pub returns-clause-json : goal.returns-clause-json
unfolding shown
returns-clause-json c = json_shown
