use Rattle.idl_laws.proofs.Tables.{all_declared}
use Rattle.idl_laws.proofs.meaning.tables_have_all_that_is_declared.Goals as goal

pub returns : goal.returns
returns c = all_declared
