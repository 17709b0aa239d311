use Rattle.edge_laws.proofs.Closed.{closed_is_sent}
use Rattle.edge_laws.proofs.what_was_written_before_a_close_is_sent.Goals as goal

pub returns : goal.returns
returns g c = λ a b d m told k is closes winds. closed_is_sent g.W.Network.is_telling g.W.Stream.Stream.tells a b d m k told is closes winds
