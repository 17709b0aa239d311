use Rattle.std.proofs.Common.{ap}
use Rattle.gate_serve.specs.Peers.{seen, unframed_tells, unframed_counts}
use Rattle.gate_serve.proofs.Wrapped.{serves_as}
use Rattle.gate_serve.proofs.serve.serve_wrapped.Goals as goal

pub returns-clause-serves : goal.returns-clause-serves
returns-clause-serves g c = λ left input.
    serves_as (λ u. seen u) (unframed_tells g.H.Hub.tells) (unframed_counts g.H.Hub.counts) _ _ _ _ _ _ _ (c.serve_hub.ensures.serves left input)

pub returns-clause-faults : goal.returns-clause-faults
returns-clause-faults g c = c.serve_hub.ensures.hub_later.faults

pub returns-clause-waits : goal.returns-clause-waits
returns-clause-waits g c = c.serve_hub.ensures.hub_later.waits

pub returns-clause-same_reference : goal.returns-clause-same_reference
returns-clause-same_reference g c = ap (λ k. k.0) c.serve_hub.ensures.kept

pub returns-clause-wrapping : goal.returns-clause-wrapping
returns-clause-wrapping g c = ap (λ k. k.1) c.serve_hub.ensures.kept

pub returns-clause-kept : goal.returns-clause-kept
returns-clause-kept g c = ap (λ k. k.2) c.serve_hub.ensures.kept
