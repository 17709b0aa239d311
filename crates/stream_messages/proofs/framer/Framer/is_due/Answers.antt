use Rattle.std.proofs.Common.{◌≡◌, ◌<◌, [], length, arith, subst, ltb-false}
use Rattle.std.proofs.lemmas.Grind.{common_steps}
use Rattle.stream_messages.specs.Framing.{FramerState}
use Rattle.stream_messages.proofs.Due.{due_count, none_due}
use Rattle.stream_messages.proofs.framer.Framer.is_due.Goals as goal

pub returns-then-self-gt0-clause-some : goal.returns-then-self-gt0-clause-some
returns-then-self-gt0-clause-some c = λ is.
    subst (λ (s : FramerState). 0 < length s.due) c.self.view_is
    (omega (arith, due_count c.self.inside.due c.self.inside.bytes.bytes c.self.invariant.6 c.self.invariant.3 c.self.invariant.4, c.if-self-gt0.true))

pub returns-else-self-gt0-clause-none : goal.returns-else-self-gt0-clause-none
returns-else-self-gt0-clause-none c = λ is.
    subst (λ (s : FramerState). s.due ≡ []) c.self.view_is
    (none_due c.self.inside.due c.self.inside.bytes.bytes c.self.invariant.6 c.self.invariant.3 c.self.invariant.4 (omega (arith, c.if-self-gt0.false)) (ltb-false 0 c.self.inside.due.left is))

pub returns-else-self-gt0-clause-some : goal.returns-else-self-gt0-clause-some
returns-else-self-gt0-clause-some c = grind (arith, common_steps)
