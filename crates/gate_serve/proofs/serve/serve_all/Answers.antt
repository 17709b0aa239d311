use Rattle.std.proofs.Common.{◌≡◌, rules}
use Rattle.gate_words.specs.declared.peers.Front.TheVariants as fronts
use Rattle.gate_serve.proofs.Posting.{by_front}
use Rattle.gate_serve.proofs.serve.serve_all.Goals as goal

pub returns-in-Framed-clause-serves : goal.returns-in-Framed-clause-serves
returns-in-Framed-clause-serves g c = λ left input.
    let is : fronts.Framed ≡ c.args.serving.now.front = search rules in
    by_front g.H.Hub.tells g.H.Hub.counts c.args.serving.now c.args.start.now c.args.hub.now _ _ _ c.serve_peers.result fronts.Framed is (c.serve_peers.ensures.serves left input)

pub returns-in-Http-clause-serves : goal.returns-in-Http-clause-serves
returns-in-Http-clause-serves g c = λ left input.
    let is : fronts.Http ≡ c.args.serving.now.front = search rules in
    by_front g.H.Hub.tells g.H.Hub.counts c.args.serving.now c.args.start.now c.args.hub.now _ _ _ c.serve_posts.result fronts.Http is (c.serve_posts.ensures.serves left input)
