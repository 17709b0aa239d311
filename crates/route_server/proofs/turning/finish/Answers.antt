use Rattle.service_router.specs.Standing.{and_ended}
use Rattle.route_server.proofs.Running.{matches_later}
use Rattle.route_server.proofs.turning.finish.Goals as goal

pub returns-clause-matches : goal.returns-clause-matches
returns-clause-matches g c =
    matches_later c.args.router.now c.end.new.self _ (λ h. and_ended c.args.port h) c.end.ensures.same c.end.ensures.rest c.end.ensures.fits
