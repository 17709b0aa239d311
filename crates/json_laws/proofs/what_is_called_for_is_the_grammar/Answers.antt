use Rattle.json_laws.proofs.FirstFaults.{passes_spelled, spelled_passes}
use Rattle.json_laws.proofs.what_is_called_for_is_the_grammar.Goals as goal

pub returns : goal.returns
returns c = record { spells = passes_spelled; passes = spelled_passes }
