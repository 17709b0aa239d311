use Rattle.std.proofs.Common.{ap}
use Rattle.gate_serve.specs.Posts.{posted, posting_tells, posting_counts}
use Rattle.gate_serve.proofs.Posting.{peers_as}
use Rattle.gate_serve.proofs.serve.serve_posting.Goals as goal

pub returns-clause-serves : goal.returns-clause-serves
returns-clause-serves g c = λ left input.
    peers_as (λ p. posted p) (posting_tells g.H.Hub.tells) (posting_counts g.H.Hub.counts) _ _ _ _ _ _ _ (c.serve_peers.ensures.serves left input)

pub returns-clause-faults : goal.returns-clause-faults
returns-clause-faults g c = c.serve_peers.ensures.faults

pub returns-clause-same_reference : goal.returns-clause-same_reference
returns-clause-same_reference g c = ap (λ k. k.0) c.serve_peers.ensures.kept

pub returns-clause-rules : goal.returns-clause-rules
returns-clause-rules g c = ap (λ k. k.1) c.serve_peers.ensures.kept

pub returns-clause-kept : goal.returns-clause-kept
returns-clause-kept g c = ap (λ k. k.2) c.serve_peers.ensures.kept
