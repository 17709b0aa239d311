use Rattle.compact_laws.proofs.Deep.{deep_refused}
use Rattle.compact_laws.proofs.deeper_is_too_deep.Goals as goal

pub returns : goal.returns
returns c = deep_refused
