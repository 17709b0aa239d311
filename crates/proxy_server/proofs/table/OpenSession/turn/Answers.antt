use Rattle.std.proofs.Common.{subst}
use Rattle.proxy_server.specs.Matching.{Matches}
use Rattle.proxy_server.specs.Serving.{Entry}
use Rattle.proxy_server.specs.Turning.{GoesTelling, TurnDoes}
use Rattle.proxy_server.proofs.Telling.{goes_weaker}
use Rattle.proxy_server.proofs.table.OpenSession.turn.Goals as goal

pub returns-clause-turned : goal.returns-clause-turned
returns-clause-turned g c =
    let tells = g.H.Hub.tells in
    let says = g.N.Notes.tells c.args.notes.now c.turn_with.new.notes in
    let rules = g.J.Judge.rules in
    let new = c.turn_with.new.session in
    subst (λ (o : Entry _). GoesTelling says (tells c.args.hub.now) (tells c.turn_with.new.hub) (Matches _ rules o.session) (Matches _ rules new) o.number (TurnDoes _ rules o.number new c.turn_with.result)) c.self.view_is
    (goes_weaker says (tells c.args.hub.now) (tells c.turn_with.new.hub) (Matches _ rules c.self.inside.session) (Matches _ rules new) c.self.inside.number _ (TurnDoes _ rules c.self.inside.number new c.turn_with.result) (λ made s t p. p.1) c.turn_with.ensures.turned)
