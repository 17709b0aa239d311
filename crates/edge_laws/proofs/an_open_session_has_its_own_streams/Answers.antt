use Rattle.edge_laws.proofs.Streams.{own_stream}
use Rattle.edge_laws.proofs.an_open_session_has_its_own_streams.Goals as goal

pub returns : goal.returns
returns g c = λ hub m told k is s. own_stream g.W.Network.is_telling g.W.Stream.Stream.tells hub m told k is s
