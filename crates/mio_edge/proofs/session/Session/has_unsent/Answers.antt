use Rattle.std.proofs.Common.{◌≡◌, length, Some, true≢false, refl, sym, ap, subst, arith}
use Rattle.std.specs.List.{slice_get}
use Rattle.mio_edge.specs.Closing.{IsSettledAt}
use Rattle.mio_edge.specs.Places.{HoldsUnsentAt}
use Rattle.mio_edge.specs.Sessions.{IsUnsentAt}
use Rattle.mio_edge.proofs.Each.{read_step, read_all}
use Rattle.mio_edge.proofs.Sessions.{here}
use Rattle.mio_edge.proofs.session.Session.has_unsent.Goals as goal

pub loop-port-preserved : goal.loop-port-preserved
loop-port-preserved g c =
    let ports = c.args.self.now.ports.items in
    let slice = c.deref-port-items.result.now in
    let n = c.loop-port.port-index in
    let port = c.port-item.result in
    let is : slice_get ports n ≡ Some port = subst (λ xs. slice_get xs n ≡ Some port) c.deref-port-items.ensures.value (here slice (length slice) n port refl c.loop-port-test.true c.port-item.is) in
    let not = c.if-has_unsent.false in record {
      waits = read_step (λ o. IsUnsentAt o → ⊥) n ports port is (c.has_unsent.ensures.waits not) c.loop-port.invariant.waits;
      settled = read_step (λ o. IsSettledAt o) n ports port is (c.has_unsent.ensures.settled not) c.loop-port.invariant.settled;
      nothing = read_step (λ o. HoldsUnsentAt o → ⊥) n ports port is (c.has_unsent.ensures.nothing not) c.loop-port.invariant.nothing;
    }

pub returns-clause-waits : goal.returns-clause-waits
returns-clause-waits g c = λ not. read_all (λ o. IsUnsentAt o → ⊥) (λ unsent. unsent) c.loop-port.port-index c.args.self.now.ports.items (omega (arith, ap length c.deref-port-items.ensures.value)) c.loop-port.invariant.waits

pub returns-clause-settled : goal.returns-clause-settled
returns-clause-settled g c = λ not. read_all (λ o. IsSettledAt o) tt c.loop-port.port-index c.args.self.now.ports.items (omega (arith, ap length c.deref-port-items.ensures.value)) c.loop-port.invariant.settled

pub returns-clause-nothing : goal.returns-clause-nothing
returns-clause-nothing g c = λ not unsent.
    read_all (λ o. HoldsUnsentAt o → ⊥) (λ holds. holds) c.loop-port.port-index c.args.self.now.ports.items (omega (arith, ap length c.deref-port-items.ensures.value)) c.loop-port.invariant.nothing unsent.0 unsent.1

pub loop-port-init : goal.loop-port-init
loop-port-init g c = record { waits = λ p less. absurd (omega (arith, less)); settled = λ p less. absurd (omega (arith, less)); nothing = λ p less. absurd (omega (arith, less)) }

pub returns-then-has_unsent : goal.returns-then-has_unsent
returns-then-has_unsent g c =
    let ports = c.args.self.now.ports.items in
    let slice = c.deref-port-items.result.now in
    let n = c.loop-port.port-index in
    let port = c.port-item.result in
    let is : slice_get ports n ≡ Some port = subst (λ xs. slice_get xs n ≡ Some port) c.deref-port-items.ensures.value (here slice (length slice) n port refl c.loop-port-test.true c.port-item.is) in record {
      waits = λ none. absurd (true≢false none);
      settled = λ none. absurd (true≢false none);
      unsent = λ some. (n, subst (λ o. HoldsUnsentAt o) (sym is) (c.has_unsent.ensures.unsent c.if-has_unsent.true));
      nothing = λ none. absurd (true≢false none);
    }

pub returns-clause-unsent : goal.returns-clause-unsent
returns-clause-unsent g c = λ some. absurd (true≢false (sym some))
