use Rattle.std.proofs.Common.{subst}
use Rattle.route_server.specs.Matching.{Matches}
use Rattle.route_server.specs.Serving.{Entry}
use Rattle.route_server.specs.Turning.{GoesTelling, TurnDoes}
use Rattle.route_server.proofs.Running.{telling_by, goes_weaker}
use Rattle.route_server.proofs.table.OpenSession.turn.Goals as goal

pub returns-clause-turned : goal.returns-clause-turned
returns-clause-turned g c =
    let tells = g.M.Fan.tells in
    let new = c.route_turn.new.router in
    let noted = g.N.Notes.tells c.args.notes.now c.route_turn.new.notes in
    subst (λ (o : Entry). GoesTelling noted (tells c.args.fan.now) (tells c.route_turn.new.fan) (Matches o.router) (Matches new) o.number (TurnDoes o.number new c.route_turn.result)) c.self.view_is
    (telling_by noted (tells c.args.fan.now) (tells c.route_turn.new.fan) (Matches c.self.inside.router) (Matches new) c.self.inside.number _ (TurnDoes c.self.inside.number new c.route_turn.result)
    (λ a b p. goes_weaker (tells c.args.fan.now) (tells c.route_turn.new.fan) (Matches c.self.inside.router a) (Matches new b) c.self.inside.number _ (TurnDoes c.self.inside.number new c.route_turn.result) (λ made s t q. q.1) p) c.route_turn.ensures.turned)
