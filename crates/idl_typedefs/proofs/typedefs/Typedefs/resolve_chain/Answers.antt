use Rattle.std.proofs.Common.{◌≡◌, ◌+◌, refl, arith}
use Rattle.idl_typedefs.proofs.typedefs.Typedefs.resolve_chain.Goals as goal

pub returns-in-None : goal.returns-in-None
returns-in-None c = λ files kept.
    let none : 0 + c.args.left ≡ c.args.left = omega arith in
    (0, refl, none)
