use Rattle.compact_laws.proofs.Sound.{read_spelled}
use Rattle.compact_laws.proofs.read_is_spelled.Goals as goal

pub returns : goal.returns
returns c = λ bytes header items are read.
    let s = read_spelled bytes header items are read in
    record { message = s.0; header_is = s.1; items_are = s.2; shallow = s.3; spelled = s.4 }
