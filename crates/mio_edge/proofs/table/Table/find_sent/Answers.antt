use Rattle.std.proofs.Common.{◌≡◌, ℕ, List, Some, length, ap, arith, subst, sym, get_or}
use Rattle.std.specs.List.{slice_get}
use Rattle.std.proofs.lemmas.Option.{slice_get-get_or}
use Rattle.mio_edge.proofs.Tables.{shut_at}
use Rattle.slab.specs.Slab.{get}
use Rattle.mio_edge.specs.Closing.{AreSettled}
use Rattle.mio_edge.proofs.Each.{closed_step}
use Rattle.mio_edge.proofs.Entries.{some_same}
use Rattle.std.proofs.Common.{true≢false, inl, inr, ◌⊎◌, true, ◌∙◌}
use Rattle.mio_edge.specs.Places.{HasUnsent}
use Rattle.mio_edge.proofs.Places.{no_none}
use Rattle.mio_edge.proofs.Sessions.{get_within}
use Rattle.mio_edge.proofs.table.Table.find_sent.Goals.{in_default-via-in-None-1, in_default-via-in-Some+else-not-session, in_default-via-in-Some+then-not-session+else-not-has_unsent}
use Rattle.mio_edge.proofs.table.Table.find_sent.Goals as goal
use Rattle.std.proofs.lemmas.Grind.{common_steps}

pub returns-in-loop-place-clause-idle : goal.returns-in-loop-place-clause-idle
returns-in-loop-place-clause-idle g c = λ world told.
    let xs = c.deref-place-items.result.now in
    let i = c.loop-place.place-index in
    let shut = told.0.closed i (get_or xs i 0) (subst (λ (ys : List ℕ). slice_get ys i ≡ Some (get_or xs i 0)) c.deref-place-items.ensures.value (slice_get-get_or xs i 0 c.loop-place-test.true)) in
    (c.in-Some.session.now, sym c.in-Some.ensures, shut_at g.S.Stream.tells c.args.self.now.sessions (get_or xs i 0) c.in-Some.session.now (sym c.in-Some.ensures) shut, c.if-not-session.true)

pub returns-in-loop-place-clause-settled : goal.returns-in-loop-place-clause-settled
returns-in-loop-place-clause-settled g c = λ session is.
    let place = get_or c.deref-place-items.result.now c.loop-place.place-index 0 in
    subst (λ x. AreSettled x.ports.items) (some_same (get c.args.self.now.sessions place) c.in-Some.session.now session (sym c.in-Some.ensures) is) (c.has_unsent.ensures.settled c.if-not-has_unsent.true)

pub returns-in-loop-place-clause-stands : goal.returns-in-loop-place-clause-stands
returns-in-loop-place-clause-stands g c = λ none. no_none (get c.args.self.now.sessions (get_or c.deref-place-items.result.now c.loop-place.place-index 0)) c.in-Some.session.now (sym c.in-Some.ensures) none

pub returns-in-loop-place-clause-some : goal.returns-in-loop-place-clause-some
returns-in-loop-place-clause-some g c = λ gives.
    let xs = c.deref-place-items.result.now in
    let i = c.loop-place.place-index in
    let at = subst (λ (ys : List ℕ). slice_get ys i ≡ Some (get_or xs i 0)) c.deref-place-items.ensures.value (slice_get-get_or xs i 0 c.loop-place-test.true) in
    by (gives.each i (get_or xs i 0) c.in-Some.session.now at (sym c.in-Some.ensures))
  where
    by : (c.in-Some.session.now.is_queued ≡ true) ⊎ HasUnsent c.in-Some.session.now → ⊥
    by (inl queued) = true≢false (sym queued ∙ c.if-not-session.true)
    by (inr unsent) = c.has_unsent.ensures.nothing c.if-not-has_unsent.true unsent

pub loop-place-init : goal.loop-place-init
loop-place-init g c = λ i place session less. absurd (omega (arith, less))

pub loop-place-preserved : goal.loop-place-preserved
loop-place-preserved g c =
    let closed = c.args.self.now.closed.items in
    let sessions = c.args.self.now.sessions in
    let n = c.loop-place.place-index in
    let read = ap (λ (xs : List ℕ). get_or xs n 0) c.deref-place-items.ensures.value in
    let step = closed_step (λ session. (session.is_queued ≡ true) ⊎ HasUnsent session) n 0 closed sessions c.loop-place.invariant in
    elim c.in_default.branch [
      | in_default-via-in-None-1 w ↦ step (λ session at. absurd (grind (arith, c.get.ensures, read, at)))
      | in_default-via-in-Some+else-not-session w ↦ step (λ session at. inl (ap (λ x. x.is_queued) (sym (some_same (get sessions (get_or closed n 0)) w.in-Some.session.now session (ap (get sessions) (sym read) ∙ sym w.in-Some.ensures) at)) ∙ w.if-not-session.false))
      | in_default-via-in-Some+then-not-session+else-not-has_unsent w ↦ step (λ session at. inr (subst (λ x. HasUnsent x) (some_same (get sessions (get_or closed n 0)) w.in-Some.session.now session (ap (get sessions) (sym read) ∙ sym w.in-Some.ensures) at) (w.has_unsent.ensures.unsent w.if-not-has_unsent.false)))
    ]

pub returns : goal.returns
returns g c =
    let closed = c.args.self.now.closed.items in
    let long : length c.deref-place-items.result.now ≡ length closed = ap length c.deref-place-items.ensures.value in record {
      idle = λ world told. tt;
      settled = tt;
      stands = tt;
      some = tt;
      none = λ is. record { each = λ i place session at there. c.loop-place.invariant i place session (omega (arith, get_within closed i place at, long, c.loop-place-test.false)) at there };
    }

pub returns-in-loop-place-clause-none : goal.returns-in-loop-place-clause-none
returns-in-loop-place-clause-none g c = grind (arith, common_steps)
