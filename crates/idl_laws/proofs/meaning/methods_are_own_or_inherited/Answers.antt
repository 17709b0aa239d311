use Rattle.idl_laws.proofs.LookedUp.{methods_looked_up}
use Rattle.idl_laws.proofs.meaning.methods_are_own_or_inherited.Goals as goal

pub returns : goal.returns
returns c = methods_looked_up
