use Rattle.std.proofs.Common.{take}
use Rattle.service_router.specs.Standing.{and_sent, due_to}
use Rattle.route_server.proofs.Running.{matches_later}
use Rattle.route_server.proofs.turning.pass_on.Goals as goal

pub returns-clause-matches : goal.returns-clause-matches
returns-clause-matches g c =
    matches_later c.args.router.now c.sent.new.self _ (λ h. and_sent c.args.port h (take c.args.count (due_to c.args.port c.args.router.now.standing))) c.sent.ensures.same c.sent.ensures.rest c.sent.ensures.fits
