use Rattle.idl_laws.proofs.Standable.{can_stand}
use Rattle.idl_laws.proofs.meaning.tables_can_have_lawful_files.Goals as goal

pub returns : goal.returns
returns c = can_stand
