use Rattle.std.proofs.Common.{◌≡◌, arith, subst, sym}
use Rattle.std.proofs.lemmas.List.{length-drop}
use Rattle.std.proofs.lemmas.Grind.{common_steps}
use Rattle.stream_messages.specs.Framing.{FramerState, IsIdle}
use Rattle.stream_messages.specs.declared.framer.Behind.TheVariants as behind
use Rattle.stream_messages.proofs.Due.{none_left, idle_room}
use Rattle.stream_messages.proofs.framer.Framer.fill.Goals as goal

pub fill-requires : goal.fill-requires
fill-requires g c =
    let i = c.self.inside in
    let idle = subst IsIdle (sym c.self.view_is) c.requires.idle in
    let messages = subst (λ (s : FramerState). s.behind ≡ behind.Messages) (sym c.self.view_is) c.requires.messages in
    let left = none_left i.due i.bytes.bytes c.self.invariant.6 c.self.invariant.3 c.self.invariant.4 idle.due in
    record { room = omega (arith, idle_room _ idle messages, length-drop i.due.left i.bytes.bytes, left, c.self.invariant.2) }

pub invariant_of-self : goal.invariant_of-self
invariant_of-self g c = grind (arith, common_steps)

pub returns-clause-read : goal.returns-clause-read
returns-clause-read g c = grind (arith, common_steps)
