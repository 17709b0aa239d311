use Rattle.compact_laws.proofs.Faults.{stands_there, refuses as is_refused, judged as is_judged, apart as is_apart, one as is_one, before as is_before, behind as is_behind, item_tells as tells}
use Rattle.compact_laws.proofs.the_fault_that_stands_there.Goals as goal

pub returns : goal.returns
returns c = record { stands = stands_there; refuses = is_refused; judged = is_judged; apart = is_apart; one = is_one; before = is_before; behind = λ bytes f are at other deep. is_behind bytes f are at other.0 other.1 deep; item_tells = λ bytes f are refused other. tells bytes f are refused other.0 other.1 }
