use Rattle.compact_laws.proofs.Unique.{one_message}
use Rattle.compact_laws.proofs.one_message_is_spelled.Goals as goal

pub returns : goal.returns
returns c = one_message
