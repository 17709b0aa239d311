use Rattle.edge_laws.proofs.Streams.{reads_named}
use Rattle.edge_laws.proofs.a_session_that_waits_to_read_is_named.Goals as goal

pub returns : goal.returns
returns g c = λ hub m told k is s. reads_named g.W.Network.is_telling g.W.Stream.Stream.tells hub m told k is s
