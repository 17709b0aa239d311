use Rattle.lexis_laws.proofs.Laws.{lexes_of_read, read_of_lexes}
use Rattle.lexis_laws.proofs.a_text_is_cut_as_it_is_read.Goals as goal

pub returns-clause-sound : goal.returns-clause-sound
returns-clause-sound c = lexes_of_read

pub returns-clause-whole : goal.returns-clause-whole
returns-clause-whole c = read_of_lexes
