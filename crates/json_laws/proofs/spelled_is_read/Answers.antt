use Rattle.json_laws.proofs.Spelled.{spelled_read}
use Rattle.json_laws.proofs.spelled_is_read.Goals as goal

pub returns : goal.returns
returns c k m bytes spelled shallow = spelled_read k.declared k.body m bytes spelled shallow
