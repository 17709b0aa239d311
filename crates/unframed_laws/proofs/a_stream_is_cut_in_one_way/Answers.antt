use Rattle.unframed_laws.proofs.Cuts.{same_pieces}
use Rattle.unframed_laws.proofs.a_stream_is_cut_in_one_way.Goals as goal

pub returns : goal.returns
returns c = same_pieces
