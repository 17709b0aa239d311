use Rattle.json_laws.proofs.Standing.{fault_stands}
use Rattle.json_laws.proofs.the_fault_that_stands_there.Goals as goal

pub returns : goal.returns
returns c k bytes f small refused = fault_stands k bytes f small refused
