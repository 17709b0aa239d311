use Rattle.json_laws.proofs.Unique.{one_message}
use Rattle.json_laws.proofs.one_message_is_spelled.Goals as goal

pub returns : goal.returns
returns c k m n front rest s r = one_message k.declared k.body m n front rest s r
