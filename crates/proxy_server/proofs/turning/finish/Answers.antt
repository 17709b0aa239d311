use Rattle.session_core.specs.Session.{and_ended}
use Rattle.proxy_server.proofs.Telling.{matches_on}
use Rattle.proxy_server.proofs.turning.finish.Goals as goal

pub returns-clause-matches : goal.returns-clause-matches
returns-clause-matches g c =
    let same = c.end.ensures.same in
    matches_on _ g.J.Judge.rules c.args.session.now c.end.new.self (g.N.Notes.tells c.args.notes.now c.end.new.notes) (λ h. and_ended c.args.side h)
    (record { judge = same.0; limit = same.1; max_calls = same.2; rooms = c.end.ensures.rooms }) c.end.ensures.fits c.end.ensures.rest
