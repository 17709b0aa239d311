use Rattle.std.proofs.Common.{List, sym, subst}
use Rattle.type_walk.specs.declared.levels.Level.{Level}
use Rattle.type_walk.specs.Known.{AreKnown}
use Rattle.type_walk.proofs.Sound.{known-first, known-rest}
use Rattle.type_walk.proofs.open.OpenLevels.leave.Goals as goal

pub returns-clause-sound : goal.returns-clause-sound
returns-clause-sound c =
    let d = c.args.schema.now in
    let left = subst (λ (known : List Level). AreKnown d known) (sym c.pop.ensures) (known-rest d c.args.self.now.known c.requires.sound.levels) in
    record {
      levels = left;
      next = c.called_for-self.ensures.known d (rw c.top.ensures (known-first d _ left));
      below = rw c.requires.all tt;
    }
