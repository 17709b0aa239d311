use Rattle.peer_addresses.proofs.Written.{read_whole, written}
use Rattle.peer_addresses.proofs.laws.an_ipv6_address_is_read.Goals as goal

pub returns : goal.returns
returns c = λ word segments. (written word segments, read_whole word segments)
