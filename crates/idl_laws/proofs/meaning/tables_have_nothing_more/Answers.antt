use Rattle.idl_laws.proofs.Sized.{nothing_more}
use Rattle.idl_laws.proofs.meaning.tables_have_nothing_more.Goals as goal

pub returns : goal.returns
returns c = nothing_more
