use Rattle.std.proofs.Common.{◌≡◌, ◌∙◌, rules, arith}
use Rattle.gate_serve.specs.Posts.{posted, posting, posting_tells, posting_counts, reading_by}
use Rattle.gate_serve.proofs.Posting.{begun, from_the_same}
use Rattle.gate_serve.proofs.serve.serve_posts.Goals as goal

pub returns-clause-serves : goal.returns-clause-serves
returns-clause-serves g c = λ left input.
    let set = c.args.serving.now in
    let start = c.args.start.now in
    let r = reading_by set start in
    let is : c.over-posting.result.rules ≡ r = c.over-posting.ensures.rules in
    let fresh = c.over-posting.ensures.fresh in
    let uncounted = c.over-posting.ensures.uncounted in
    let first = begun c.over-posting.result c.args.hub.now r fresh.0 is fresh.1 fresh.2 uncounted.0 uncounted.1 in (
      posted c.serve_posting-ending.new.hub,
      search rules,
      c.serve_posting-ending.ensures.rules ∙ is,
      from_the_same (posting_tells g.H.Hub.tells) (posting_counts g.H.Hub.counts) set start (posted c.over-posting.result) (posting r c.args.hub.now)
          (posted c.serve_posting-ending.new.hub) _ _ c.serve_posting-ending.result first (c.serve_posting-ending.ensures.serves left input),
    )

pub over-posting-requires-clause-service : goal.over-posting-requires-clause-service
over-posting-requires-clause-service g c = c.requires.service

pub over-posting-requires-clause-limit : goal.over-posting-requires-clause-limit
over-posting-requires-clause-limit g c = omega (arith, c.requires.limit)
