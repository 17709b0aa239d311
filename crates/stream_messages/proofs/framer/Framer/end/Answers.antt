use Rattle.std.proofs.Common.{◌≡◌, ◌<◌, ◌∙◌, [], List, ℕ, length, arith, ap, sym, subst}
use Rattle.std.proofs.lemmas.Bool.Decides.{nat_tests}
use Rattle.std.proofs.lemmas.Grind.{common_steps}
use Rattle.stream_messages.specs.Framing.{FramerState}
use Rattle.stream_messages.proofs.Due.{all_fresh}
use Rattle.stream_messages.proofs.Framing.{ended_inside}
use Rattle.stream_messages.proofs.framer.Framer.end.Goals as goal

pub returns-clause-stands : goal.returns-clause-stands
returns-clause-stands c = λ wire limit received given ended stands.
    let i = c.self.inside in
    let due = subst (λ (s : FramerState). s.due ≡ []) (sym c.self.view_is) c.requires.idle.due in
    let fresh = all_fresh i.due i.bytes.bytes c.self.invariant.6 c.self.invariant.3 c.self.invariant.4 due in
    let same : length i.bytes.bytes ≡ length c.args.self.now.fresh = ap (λ (l : List ℕ). length l) (sym fresh ∙ ap (λ (s : FramerState). s.fresh) c.self.view_is) in
    let read : length c.bytes.result.now ≡ length i.bytes.bytes = ap (λ (l : List ℕ). length l) c.bytes.ensures.bytes in
    let some : 0 < length c.bytes.result.now = grind (arith, nat_tests, c.is_empty.ensures, c.if-is_empty.false) in
    ended_inside wire limit c.args.self.now c.give_early_end.new.self received given ended c.requires.idle c.requires.messages (omega (arith, same, read, some)) c.give_early_end.ensures stands

pub returns-then-is_empty-clause-stands : goal.returns-then-is_empty-clause-stands
returns-then-is_empty-clause-stands c = grind (arith, common_steps)

pub returns-then-is_empty-clause-none : goal.returns-then-is_empty-clause-none
returns-then-is_empty-clause-none c = grind (arith, common_steps)

pub returns-clause-inside : goal.returns-clause-inside
returns-clause-inside c = grind (arith, common_steps)
