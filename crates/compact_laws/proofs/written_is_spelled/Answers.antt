use Rattle.compact_laws.proofs.Written.{written_spells}
use Rattle.compact_laws.proofs.written_is_spelled.Goals as goal

pub returns : goal.returns
returns c = written_spells
