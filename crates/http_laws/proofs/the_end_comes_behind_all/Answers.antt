use Rattle.http_laws.proofs.Given.{at_end}
use Rattle.http_laws.proofs.the_end_comes_behind_all.Goals as goal

pub returns : goal.returns
returns c = at_end
