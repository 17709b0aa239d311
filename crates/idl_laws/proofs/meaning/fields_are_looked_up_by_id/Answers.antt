use Rattle.idl_laws.proofs.LookedUp.{fields_looked_up}
use Rattle.idl_laws.proofs.meaning.fields_are_looked_up_by_id.Goals as goal

pub returns : goal.returns
returns c = fields_looked_up
