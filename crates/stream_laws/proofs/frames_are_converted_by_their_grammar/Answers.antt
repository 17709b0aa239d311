use Rattle.stream_laws.proofs.Giving.{all_given}
use Rattle.stream_laws.proofs.frames_are_converted_by_their_grammar.Goals as goal

pub returns : goal.returns
returns c = all_given
