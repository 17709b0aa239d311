use Rattle.idl_laws.proofs.Named.{services_named}
use Rattle.idl_laws.proofs.meaning.services_have_the_roots_names.Goals as goal

pub returns : goal.returns
returns c = services_named
