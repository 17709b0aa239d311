use Rattle.idl_laws.proofs.Only.{only_service}
use Rattle.idl_laws.proofs.meaning.the_only_service_is_the_roots.Goals as goal

pub returns : goal.returns
returns c = only_service
