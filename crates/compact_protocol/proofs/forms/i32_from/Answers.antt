use Rattle.std.proofs.Common.{rules, FitsSigned}
use Rattle.std.specs.Int.{w32}
use Rattle.std.proofs.lemmas.Int.{to_z-of_z}
use Rattle.compact_protocol.specs.Forms.{number_at, i32_there}
use Rattle.compact_protocol.proofs.forms.i32_from.Goals as goal

pub returns : goal.returns
returns c =
    let number = number_at c.args.frame.now c.args.at 5 32 c.in_ok-number.number c.in_ok-number.behind c.requires c.in_ok-number.ensures.exact in
    let fits : FitsSigned w32 c.unzigzag32.result = search rules in
    rw (to_z-of_z w32 c.unzigzag32.result fits) (rw (c.unzigzag32.ensures) (i32_there c.args.frame.now c.args.at c.in_ok-number.number c.in_ok-number.behind number))
