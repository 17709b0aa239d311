use Rattle.std.proofs.Common.{◌≡◌, take, drop, arith, ◌∙◌, ap}
use Rattle.std.specs.Int.{from_be_bytes, w32}
use Rattle.framed_transport.proofs.Cutting.{whole_front, cut_of}
use Rattle.framed_transport.proofs.holding.next_of.Goals as goal

pub returns-clause-exact : goal.returns-clause-exact
returns-clause-exact c =
    let is : c.from_be_bytes-length.result ≡ from_be_bytes w32 (take 4 c.args.held.now) = c.from_be_bytes-length.ensures ∙ ap (from_be_bytes w32) c.in-Some.ensures.cases.0 in (
      drop c.from_be_bytes-length.result (drop 4 c.args.held.now),
      rw c.in-Some.ensures.cases.1 (whole_front c.args.limit c.from_be_bytes-length.result c.args.held.now is (omega (arith, c.in-Some.ensures.cases.2)) c.if-length-limit.false (omega (arith, c.in-Some.ensures.cases.2))),
    )

pub returns-clause-cut : goal.returns-clause-cut
returns-clause-cut c = λ frame rest e. cut_of c.args.limit c.args.held.now frame rest c.requires (λ i. omega (arith, c.type_inv.held i)) e
