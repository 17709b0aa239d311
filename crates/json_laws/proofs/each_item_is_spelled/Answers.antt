use Rattle.binary_laws.specs.Reads.{header_of_message}
use Rattle.thrift_value.specs.Trees.{items_of_members}
use Rattle.json_laws.proofs.Spelled.{spelled_read}
use Rattle.json_laws.proofs.Fronting.{items_stand}
use Rattle.json_laws.proofs.each_item_is_spelled.Goals as goal

pub returns : goal.returns
returns c k m bytes spelled small shallow =
    items_stand k.declared k.body bytes (header_of_message m) (items_of_members m.body) small (spelled_read k.declared k.body m bytes spelled shallow)
