use Rattle.std.proofs.Common.{arith}
use Rattle.std.proofs.lemmas.Bool.Decides.{nat_tests}
use Rattle.session_core.specs.Working.{standing, limit_of}
use Rattle.session_core.proofs.Moves.{owed_some, waits_for_upstream}
use Rattle.session_core.proofs.Showing.{short_client_waits, short_upstream_waits, owing_upstream_waits}
use Rattle.session_core.proofs.state.State.rests.Goals as goal
use Rattle.session_core.proofs.state.State.rests.Goals.{then-is_paid, else-is_paid}

pub returns-then-not-is_paid-clause-upstream : goal.returns-then-not-is_paid-clause-upstream
returns-then-not-is_paid-clause-upstream c = λ rules t.
    let s = c.args.self.now in
    elim c.if-is_paid.branch [
      | then-is_paid w ↦
          short_upstream_waits rules (limit_of s) (standing s) c.if-self.false (grind (arith, nat_tests, w.value-is, c.if-held-ge4.false, w.held.ensures.count))
      | else-is_paid w ↦
          owing_upstream_waits rules (limit_of s) (standing s) c.if-self.false (owed_some c.is_paid.result s.client.due.bytes w.if-is_paid.false c.is_paid.ensures)
    ]

pub returns-then-not-is_paid-clause-client : goal.returns-then-not-is_paid-clause-client
returns-then-not-is_paid-clause-client c = λ rules t.
    let s = c.args.self.now in
    waits_for_upstream rules (limit_of s) s.calls.capacity (standing s) (owed_some c.is_paid-2.result s.upstream.due.bytes c.if-not-is_paid.true c.is_paid-2.ensures)

pub returns-else-not-is_paid-clause-upstream : goal.returns-else-not-is_paid-clause-upstream
returns-else-not-is_paid-clause-upstream c = λ rules t.
    let s = c.args.self.now in
    elim c.if-is_paid.branch [
      | then-is_paid w ↦
          short_upstream_waits rules (limit_of s) (standing s) c.if-self.false (grind (arith, nat_tests, w.value-is, c.if-held-ge4.false, w.held.ensures.count))
      | else-is_paid w ↦
          owing_upstream_waits rules (limit_of s) (standing s) c.if-self.false (owed_some c.is_paid.result s.client.due.bytes w.if-is_paid.false c.is_paid.ensures)
    ]

pub returns-else-not-is_paid-clause-client : goal.returns-else-not-is_paid-clause-client
returns-else-not-is_paid-clause-client c = λ rules t.
    let s = c.args.self.now in
    short_client_waits rules (limit_of s) s.calls.capacity (standing s) (grind (arith, nat_tests, t, c.held-else-not-is_paid.ensures.count))
