use Rattle.binary_laws.proofs.Wide.{members_width}
use Rattle.binary_laws.proofs.each_item_has_its_width.Goals as goal

pub returns : goal.returns
returns c = members_width
