use Rattle.std.proofs.Common.{◌≡◌, ◌-◌, ◌<◌, ◌≤◌, ◌++◌, length, take, drop, arith, sym, subst}
use Rattle.std.proofs.lemmas.List.{length-drop, length-take-le}
use Rattle.std.proofs.lemmas.Grind.{common_steps}
use Rattle.stream_messages.specs.Framing.{IsOut}
use Rattle.stream_messages.proofs.Links.{not_both}
use Rattle.stream_messages.proofs.Ways.{handed}
use Rattle.stream_messages.proofs.Finding.{put_front, put_size}
use Rattle.stream_messages.proofs.framer.Framer.hand_out.Goals as goal

pub loop-count-preserved : goal.loop-count-preserved
loop-count-preserved c =
    let at = c.loop-count.count in
    let into = c.loop-count.into in
    let mid = c.has_due.new.self in
    let n = c.take_due-count.result in
    let piece = c.take_due-count.new.into in
    let within : at ≤ length into = omega (arith, c.loop-count-test.true) in
    let size : length piece ≡ length into - at =
    omega (arith, c.take_due-count.ensures.size, length-take-le (length into - at) (drop at into) (omega (arith, length-drop at into)), length-drop at into) in
    let few : n ≤ length piece = omega (arith, c.take_due-count.ensures.count) in
    let some : 0 < n = omega (arith, c.take_due-count.ensures.count, c.has_due.ensures.some c.if-not-has_due.false, size, c.loop-count-test.true) in
    record {
      within = put_size into piece at (length into - at) n within few;
      stands = handed c.args.self.now mid c.take_due-count.new.self at n into _ piece (λ w l r g e st. c.has_due.ensures.stands w l r (g ++ take at into) e (c.loop-count.invariant.stands w l r g e st))
          c.take_due-count.ensures.left c.take_due-count.ensures.bytes (put_front into piece at (length into - at) n within few);
      none = λ e. absurd (omega (arith, e, some));
      out = λ o.
          let same = c.loop-count.invariant.none (c.loop-count.invariant.out o) in
          absurd (not_both c.has_due.result c.if-not-has_due.false (c.has_due.ensures.out (subst IsOut (sym same) o)));
    }

pub returns-then-not-has_due-clause-stands : goal.returns-then-not-has_due-clause-stands
returns-then-not-has_due-clause-stands c = grind (arith, common_steps)

pub returns-then-not-has_due-clause-some : goal.returns-then-not-has_due-clause-some
returns-then-not-has_due-clause-some c = grind (arith, common_steps)
