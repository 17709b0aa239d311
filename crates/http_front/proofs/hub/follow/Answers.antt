use Rattle.http_front.proofs.Calls.{followed}
use Rattle.http_front.proofs.hub.follow.Goals as goal

pub returns-in-Some : goal.returns-in-Some
returns-in-Some c = followed c.args.event c.in-Opened.k c.args.slots.now c.in-Some.slots c.admit.new.self c.in-Opened.is c.in-Some.is c.admit.ensures
