use Rattle.lexis_laws.proofs.Local.{no_further}
use Rattle.lexis_laws.proofs.a_token_looks_no_further.Goals as goal

pub returns : goal.returns
returns c = no_further
