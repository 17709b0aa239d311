use Rattle.idl_laws.proofs.Found.{services_found}
use Rattle.idl_laws.proofs.meaning.the_roots_services_are_found.Goals as goal

pub returns : goal.returns
returns c = services_found
