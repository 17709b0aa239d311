use Rattle.json_laws.proofs.Deep.{deeper_refused}
use Rattle.json_laws.proofs.deeper_is_too_deep.Goals as goal

pub returns : goal.returns
returns c k m bytes spelled small deep = deeper_refused k.declared k.body m bytes spelled small deep
