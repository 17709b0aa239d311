use Rattle.edge_laws.proofs.Streams.{writes_named}
use Rattle.edge_laws.proofs.a_session_that_waits_to_write_is_named.Goals as goal

pub returns : goal.returns
returns g c = λ hub m told k is s. writes_named g.W.Network.is_telling g.W.Stream.Stream.tells hub m told k is s
