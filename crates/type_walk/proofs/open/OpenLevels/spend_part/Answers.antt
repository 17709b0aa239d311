use Rattle.std.proofs.Common.{arith, List, sym, subst, Option}
use Rattle.std.specs.Prelude.{IfSome}
use Rattle.std.proofs.lemmas.Grind.{common_steps}
use Rattle.type_walk.specs.declared.levels.Level.{Level}
use Rattle.type_walk.specs.Known.{IsKnownLevel, AreKnown}
use Rattle.type_walk.proofs.Sound.{known-first, known-rest}
use Rattle.type_walk.proofs.open.OpenLevels.spend_part.Goals as goal

pub returns-in-Keys-clause-sound : goal.returns-in-Keys-clause-sound
returns-in-Keys-clause-sound c =
    let d = c.args.schema.now in
    let first = subst (λ (o : Option Level). IfSome o (IsKnownLevel d)) c.innermost.ensures (known-first d c.args.self.now.known c.requires.sound.levels) in
    let parts = subst (IsKnownLevel d) c.in-Keys.is first in
    record {
      levels = subst (λ (known : List Level). AreKnown d known) (sym c.set_top.ensures) (parts, known-rest d c.args.self.now.known c.requires.sound.levels);
      next = parts.1;
      below = rw c.requires.all tt;
    }

pub returns-in-Values-clause-sound : goal.returns-in-Values-clause-sound
returns-in-Values-clause-sound c =
    let d = c.args.schema.now in
    let first = subst (λ (o : Option Level). IfSome o (IsKnownLevel d)) c.innermost.ensures (known-first d c.args.self.now.known c.requires.sound.levels) in
    let parts = subst (IsKnownLevel d) c.in-Values.is first in
    record {
      levels = subst (λ (known : List Level). AreKnown d known) (sym c.set_top-in-Values.ensures) (parts, known-rest d c.args.self.now.known c.requires.sound.levels);
      next = parts.0;
      below = rw c.requires.all tt;
    }

pub returns-in-Values-clause-after : goal.returns-in-Values-clause-after
returns-in-Values-clause-after c = grind (arith, common_steps)

pub returns-in-Keys-clause-after : goal.returns-in-Keys-clause-after
returns-in-Keys-clause-after c = grind (arith, common_steps)
