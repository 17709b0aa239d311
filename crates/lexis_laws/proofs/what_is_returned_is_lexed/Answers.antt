use Rattle.lexis_laws.proofs.Laws.{lexed}
use Rattle.lexis_laws.proofs.what_is_returned_is_lexed.Goals as goal

pub returns : goal.returns
returns c = lexed
