use Rattle.http_front.proofs.Calls.{gave_back}
use Rattle.http_front.proofs.hub.release.Goals as goal

pub returns-in-Some : goal.returns-in-Some
returns-in-Some c = gave_back c.args.k c.args.slots.now c.in-Some.slots c.release.new.self c.in-Some.is c.release.ensures
