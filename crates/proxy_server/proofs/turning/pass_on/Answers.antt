use Rattle.std.proofs.Common.{take}
use Rattle.session_core.specs.Session.{due_to, and_sent}
use Rattle.proxy_server.proofs.Telling.{matches_on}
use Rattle.proxy_server.proofs.turning.pass_on.Goals as goal

pub returns-clause-matches : goal.returns-clause-matches
returns-clause-matches g c =
    let s = c.args.session.now in
    let x = c.args.side in
    let same = c.sent.ensures.same in
    matches_on _ g.J.Judge.rules s c.sent.new.self (g.N.Notes.tells c.args.notes.now c.sent.new.notes) (λ h. and_sent x h (take c.args.count (due_to x s.standing)))
    (record { judge = same.0; limit = same.1; max_calls = same.2; rooms = c.sent.ensures.rooms }) c.sent.ensures.fits c.sent.ensures.rest
