use Rattle.std.proofs.Common.{◌≡◌, None, Some, rules}
use Rattle.gate_serve.proofs.Wrapped.{by_sides}
use Rattle.gate_serve.proofs.serve.serve_peers.Goals as goal

pub returns-in-None-clause-serves : goal.returns-in-None-clause-serves
returns-in-None-clause-serves g c = λ left input.
    let is : None ≡ c.args.serving.now.unframed = search rules in
    by_sides g.H.Hub.tells g.H.Hub.counts c.args.serving.now c.args.start.now c.args.hub.now _ _ _ c.serve_hub.result None is (c.serve_hub.ensures.serves left input)

pub returns-in-Some-clause-serves : goal.returns-in-Some-clause-serves
returns-in-Some-clause-serves g c = λ left input.
    let is : Some c.in-Some.sides ≡ c.args.serving.now.unframed = search rules in
    by_sides g.H.Hub.tells g.H.Hub.counts c.args.serving.now c.args.start.now c.args.hub.now _ _ _ c.serve_unframed.result (Some c.in-Some.sides) is
    (c.serve_unframed.ensures.serves left input)
