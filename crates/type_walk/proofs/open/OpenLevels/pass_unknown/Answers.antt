use Rattle.std.proofs.Common.{arith, inl, inr}
use Rattle.type_walk.proofs.Sound.{length-shaded}
use Rattle.type_walk.proofs.open.OpenLevels.pass_unknown.Goals as goal

pub overflow_add-self : goal.overflow_add-self
overflow_add-self c =
    let size = length-shaded c.args.self.now.unknown c.args.self.now.known in
    elim c.in-StructBegin.is [
      | inl e ↦ omega (arith, size, rw e at c.requires.shallow)
      | inr f ↦ elim f [
        | inl e ↦ omega (arith, size, rw e.3 at c.requires.shallow)
        | inr g ↦ elim g [
          | inl e ↦ omega (arith, size, rw e.2 at c.requires.shallow)
          | inr e ↦ omega (arith, size, rw e.2 at c.requires.shallow)
        ]
      ]
    ]
