use Rattle.std.proofs.Common.{refl, inr}
use Rattle.idl_consts.specs.Meant.{meant_at}
use Rattle.idl_consts.proofs.Trailing.{round_last, pushed}
use Rattle.idl_consts.specs.Views.{files_of}
use Rattle.idl_consts.proofs.follow.follow_name.Goals as goal

pub returns-then-comes_again-clause-goes : goal.returns-then-comes_again-clause-goes
returns-then-comes_again-clause-goes c = λ s m l.
    let d = files_of c.args.view.now in
    let trail = c.args.trail.now in
    let name = c.args.name in
    (l.0, inr (refl, round_last d s m trail.outer.items trail.top name.constant (meant_at d name.ty) l.0 l.1 (c.if-comes_again.ensures.among refl d)))

pub returns-clause-goes : goal.returns-clause-goes
returns-clause-goes c = λ s m l.
    let d = files_of c.args.view.now in
    let trail = c.args.trail.now in
    pushed d s m trail.outer.items c.push.new.self.items trail.top c.replace-waiting.result c.in_ok-inner.inner c.replace-waiting.new.dest c.args.name l.0 l.1
    c.in_ok-push.ensures.items c.replace-waiting.ensures.value c.replace-waiting.ensures.after c.in_ok-inner.ensures.constant c.in_ok-inner.ensures.ty c.in_ok-inner.ensures.whole
