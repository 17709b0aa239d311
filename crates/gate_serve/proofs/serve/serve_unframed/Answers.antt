use Rattle.std.proofs.Common.{◌≡◌, ◌∙◌, rules, arith}
use Rattle.gate_serve.specs.Peers.{seen, unframed, unframed_tells, unframed_counts, wrapping_by}
use Rattle.gate_serve.proofs.Wrapped.{begun, from_the_same, wrapping_is}
use Rattle.gate_serve.proofs.serve.serve_unframed.Goals as goal

pub returns-clause-serves : goal.returns-clause-serves
returns-clause-serves g c = λ left input.
    let w = wrapping_by c.args.sides c.args.serving.now in
    let is : c.over-unframed.result.wrapping ≡ w =
    wrapping_is c.args.sides c.args.serving.now c.over-unframed.result.wrapping c.wire_if-client.result c.wire_if-upstream.result c.has_client.result c.has_upstream.result
    c.over-unframed.ensures.wrapping c.wire_if-client.ensures c.wire_if-upstream.ensures c.has_client.ensures c.has_upstream.ensures in
    let fresh = c.over-unframed.ensures.fresh in
    let first = begun c.over-unframed.result c.args.hub.now w fresh.0 is fresh.1 fresh.2 in (
      seen c.serve_wrapped-ending.new.hub,
      search rules,
      c.serve_wrapped-ending.ensures.wrapping ∙ is,
      from_the_same (unframed_tells g.H.Hub.tells) (unframed_counts g.H.Hub.counts) c.args.serving.now c.args.start.now
          (seen c.over-unframed.result) (unframed w c.args.hub.now) (seen c.serve_wrapped-ending.new.hub) _ _ c.serve_wrapped-ending.result first (c.serve_wrapped-ending.ensures.serves left input),
    )

pub over-unframed-requires-clause-some : goal.over-unframed-requires-clause-some
over-unframed-requires-clause-some g c = omega (arith, c.requires.least)

pub over-unframed-requires-clause-limit : goal.over-unframed-requires-clause-limit
over-unframed-requires-clause-limit g c = omega (arith, c.requires.limit)
