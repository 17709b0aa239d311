use Rattle.idl_laws.proofs.Meant.{one_meaning}
use Rattle.idl_laws.proofs.meaning.a_type_means_one_thing.Goals as goal

pub returns : goal.returns
returns c = one_meaning
