use Rattle.unframed_laws.proofs.Ends.{one_found}
use Rattle.unframed_laws.proofs.one_thing_is_found.Goals as goal

pub returns : goal.returns
returns c = one_found
