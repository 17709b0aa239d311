use Rattle.http_front.proofs.Turning.{some_head}
use Rattle.http_front.proofs.front.behind_body.Goals as goal

pub returns-in-Empty-clause-within : goal.returns-in-Empty-clause-within
returns-in-Empty-clause-within c = λ limit. some_head 0
