use Rattle.std.proofs.Common.{◌≡◌, ◌≤◌, length, take, is_some, sym, subst}
use Rattle.gate_hub.specs.declared.hub.Side.TheVariants as side
use Rattle.session_core.specs.Session.{and_came, room_of}
use Rattle.proxy_server.specs.Matching.{and_received, MatchesOn}
use Rattle.proxy_server.proofs.Running.{all_taken}
use Rattle.proxy_server.proofs.Telling.{matches_on}
use Rattle.proxy_server.proofs.turning.give.Goals as goal

pub returns-in-Client-clause-matches : goal.returns-in-Client-clause-matches
returns-in-Client-clause-matches g c =
    let s = c.args.session.now in
    let bytes = c.args.bytes.now in
    let call = c.take_client in
    let says = g.N.Notes.tells c.args.notes.now call.new.notes in
    let same = call.ensures.same in
    let room = subst (λ x. length bytes ≤ room_of s.limit s.standing (is_some s.outcome) x) c.in-Client.is c.requires.room in
    let all : take call.result bytes ≡ bytes = all_taken call.result bytes (call.ensures.whole room) in
    subst (λ x. MatchesOn g.J.Judge.rules s call.new.self says (λ h. and_received x h bytes)) (sym c.in-Client.is)
    (subst (λ xs. MatchesOn g.J.Judge.rules s call.new.self says (λ h. and_received side.Client h xs)) all
    (matches_on _ g.J.Judge.rules s call.new.self says (λ h. and_came side.Client h (take call.result bytes)) (record { judge = same.0; limit = same.1; max_calls = same.2; rooms = call.ensures.rooms }) call.ensures.fits call.ensures.rest))

pub returns-in-Upstream-clause-matches : goal.returns-in-Upstream-clause-matches
returns-in-Upstream-clause-matches g c =
    let s = c.args.session.now in
    let bytes = c.args.bytes.now in
    let call = c.take_upstream in
    let says = g.N.Notes.tells c.args.notes.now call.new.notes in
    let same = call.ensures.same in
    let room = subst (λ x. length bytes ≤ room_of s.limit s.standing (is_some s.outcome) x) c.in-Upstream.is c.requires.room in
    let all : take call.result bytes ≡ bytes = all_taken call.result bytes (call.ensures.whole room) in
    subst (λ x. MatchesOn g.J.Judge.rules s call.new.self says (λ h. and_received x h bytes)) (sym c.in-Upstream.is)
    (subst (λ xs. MatchesOn g.J.Judge.rules s call.new.self says (λ h. and_received side.Upstream h xs)) all
    (matches_on _ g.J.Judge.rules s call.new.self says (λ h. and_came side.Upstream h (take call.result bytes)) (record { judge = same.0; limit = same.1; max_calls = same.2; rooms = call.ensures.rooms }) call.ensures.fits call.ensures.rest))
