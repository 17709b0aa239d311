use Rattle.std.proofs.Common.{ℕ, List, take, subst}
use Rattle.service_router.specs.Standing.{and_received}
use Rattle.route_server.specs.Matching.{MatchesOn}
use Rattle.route_server.proofs.Running.{all_taken, matches_later}
use Rattle.route_server.proofs.turning.give.Goals as goal

pub returns-clause-matches : goal.returns-clause-matches
returns-clause-matches g c =
    let tells = g.N.Notes.tells c.args.notes.now c.take.new.notes in
    subst (λ (xs : List ℕ). MatchesOn c.args.router.now c.take.new.self tells (λ h. and_received c.args.port h xs))
    (all_taken c.take.result c.args.bytes.now (c.take.ensures.whole c.requires.room))
    (matches_later c.args.router.now c.take.new.self tells (λ h. and_received c.args.port h (take c.take.result c.args.bytes.now)) c.take.ensures.same c.take.ensures.rest c.take.ensures.fits)
