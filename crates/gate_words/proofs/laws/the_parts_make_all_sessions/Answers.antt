use Rattle.gate_words.proofs.Sharing.{all_shares}
use Rattle.gate_words.proofs.laws.the_parts_make_all_sessions.Goals as goal

pub returns : goal.returns
returns c = λ sessions threads some. all_shares sessions threads some
