use Rattle.binary_laws.proofs.Faults.{stands_there, judged as is_judged, apart as is_apart, item_tells as tells}
use Rattle.binary_laws.proofs.Alone.{refuses as is_refused, alone as is_alone}
use Rattle.binary_laws.proofs.the_fault_that_stands_there.Goals as goal

pub returns : goal.returns
returns c = record { stands = stands_there; refuses = is_refused; judged = is_judged; apart = is_apart; one = is_alone; item_tells = λ bytes f are refused other. tells bytes f are refused other.0 other.1 }
