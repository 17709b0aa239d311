use Rattle.compact_laws.proofs.Each.{each_spelled}
use Rattle.compact_laws.proofs.each_item_is_spelled.Goals as goal

pub returns : goal.returns
returns c = each_spelled
