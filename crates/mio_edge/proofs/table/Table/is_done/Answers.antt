use Rattle.std.proofs.Common.{◌≡◌, ℕ, List, Some, length, true≢false, get_or, refl, ap, sym, ◌∙◌, subst, arith}
use Rattle.std.specs.List.{slice_get}
use Rattle.std.proofs.lemmas.Option.{slice_get-get_or}
use Rattle.slab.specs.Slab.{get}
use Rattle.mio_edge.specs.Places.{HasUnsent}
use Rattle.mio_edge.proofs.Each.{closed_step}
use Rattle.mio_edge.proofs.Entries.{some_same}
use Rattle.mio_edge.proofs.Sessions.{get_within}
use Rattle.mio_edge.proofs.table.Table.is_done.Goals.{in_default-via-in-None-1, in_default-via-in-Some+else-has_unsent}
use Rattle.mio_edge.proofs.table.Table.is_done.Goals as goal
use Rattle.std.proofs.lemmas.Grind.{common_steps}

pub loop-place-init : goal.loop-place-init
loop-place-init g c = λ i place session less. absurd (omega (arith, less))

pub loop-place-preserved : goal.loop-place-preserved
loop-place-preserved g c =
    let closed = c.args.self.now.closed.items in
    let sessions = c.args.self.now.sessions in
    let n = c.loop-place.place-index in
    let read = ap (λ (xs : List ℕ). get_or xs n 0) c.deref-place-items.ensures.value in
    let step = closed_step (λ session. HasUnsent session → ⊥) n 0 closed sessions c.loop-place.invariant in
    elim c.in_default.branch [
      | in_default-via-in-None-1 w ↦ step (λ session at. absurd (grind (arith, c.get.ensures, read, at)))
      | in_default-via-in-Some+else-has_unsent w ↦ step (λ session at. subst (λ x. HasUnsent x → ⊥) (some_same (get sessions (get_or closed n 0)) w.in-Some.session.now session (ap (get sessions) (sym read) ∙ sym w.in-Some.ensures) at) (w.has_unsent.ensures.nothing w.if-has_unsent.false))
    ]

pub returns-clause-sent : goal.returns-clause-sent
returns-clause-sent g c = λ is.
    let closed = c.args.self.now.closed.items in
    let long : length c.deref-place-items.result.now ≡ length closed = ap length c.deref-place-items.ensures.value in
    record { each = λ i place session at there. c.loop-place.invariant i place session (omega (arith, get_within closed i place at, long, c.loop-place-test.false)) at there }

pub returns-clause-all : goal.returns-clause-all
returns-clause-all g c = λ none sent. refl

pub returns-in-loop-place : goal.returns-in-loop-place
returns-in-loop-place g c =
    let xs = c.deref-place-items.result.now in
    let i = c.loop-place.place-index in
    let at = subst (λ (ys : List ℕ). slice_get ys i ≡ Some (get_or xs i 0)) c.deref-place-items.ensures.value (slice_get-get_or xs i 0 c.loop-place-test.true) in record {
      closed = λ is. absurd (true≢false (sym is));
      sent = λ is. absurd (true≢false (sym is));
      all = λ none sent. absurd (sent.each i (get_or xs i 0) c.in-Some.session.now at (sym c.in-Some.ensures) (c.has_unsent.ensures.unsent c.if-has_unsent.true));
    }

pub returns-then-not-is_empty-clause-closed : goal.returns-then-not-is_empty-clause-closed
returns-then-not-is_empty-clause-closed g c = λ is. absurd (true≢false (sym is))

pub returns-then-not-is_empty-clause-sent : goal.returns-then-not-is_empty-clause-sent
returns-then-not-is_empty-clause-sent g c = λ is. absurd (true≢false (sym is))

pub returns-clause-closed : goal.returns-clause-closed
returns-clause-closed g c = grind (arith, common_steps)
