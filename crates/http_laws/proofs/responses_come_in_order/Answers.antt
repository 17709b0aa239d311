use Rattle.http_laws.proofs.Answered.{in_order}
use Rattle.http_laws.proofs.responses_come_in_order.Goals as goal

pub returns : goal.returns
returns c = in_order
