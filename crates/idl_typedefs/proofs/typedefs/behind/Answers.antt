use Rattle.std.proofs.Common.{◌≡◌, ◌+◌, ◌-◌, refl, arith}
use Rattle.idl_typedefs.proofs.typedefs.behind.Goals as goal

pub returns-then-link-left : goal.returns-then-link-left
returns-then-link-left c = λ files link.
    let all : c.args.link.steps + (c.args.left - c.args.link.steps) ≡ c.args.left = omega arith in
    (c.args.link.steps, link, all)

pub returns-else-link-left : goal.returns-else-link-left
returns-else-link-left c = λ files link.
    let none : 0 + c.args.left ≡ c.args.left = omega arith in
    (0, refl, none)
