use Rattle.json_laws.proofs.Sound.{read_spelled}
use Rattle.json_laws.proofs.read_is_spelled.Goals as goal

pub returns : goal.returns
returns c k bytes h items small read =
    let r = read_spelled k.declared k.body bytes h items small read in
    record { message = r.0; header_is = r.1; items_are = r.2; shallow = r.3; spelled = r.4 }
