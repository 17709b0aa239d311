use Rattle.compact_laws.proofs.Spelled.{spelled_read}
use Rattle.compact_laws.proofs.spelled_is_read.Goals as goal

pub returns : goal.returns
returns c = spelled_read
