use Rattle.http_laws.proofs.Owing.{all_answered}
use Rattle.http_laws.proofs.every_answer_was_sent.Goals as goal

pub returns : goal.returns
returns c = all_answered
