use Rattle.idl_laws.proofs.Missing.{methods_found}
use Rattle.idl_laws.proofs.meaning.declared_methods_are_found.Goals as goal

pub returns : goal.returns
returns c = methods_found
