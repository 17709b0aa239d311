use Rattle.http_laws.proofs.Given.{so_far}
use Rattle.http_laws.proofs.a_quiet_client_has_all.Goals as goal

pub returns : goal.returns
returns c = so_far
