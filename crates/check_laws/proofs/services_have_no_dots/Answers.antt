use Rattle.check_laws.proofs.Dotless.{dotless}
use Rattle.check_laws.proofs.services_have_no_dots.Goals as goal

pub returns : goal.returns
returns c = dotless
