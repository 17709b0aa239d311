use Rattle.json_laws.proofs.Written.{written_spells, written_once, written_read}
use Rattle.json_laws.proofs.written_is_spelled.Goals as goal

pub returns : goal.returns
returns c = record { spells = written_spells; one = written_once; again = written_read }
