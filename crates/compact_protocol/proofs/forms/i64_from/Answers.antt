use Rattle.std.proofs.Common.{rules, FitsSigned}
use Rattle.std.specs.Int.{w64}
use Rattle.std.proofs.lemmas.Int.{to_z-of_z}
use Rattle.compact_protocol.specs.Forms.{number_at, i64_there}
use Rattle.compact_protocol.proofs.forms.i64_from.Goals as goal

pub returns : goal.returns
returns c =
    let number = number_at c.args.frame.now c.args.at 10 64 c.in_ok-number.number c.in_ok-number.behind c.requires c.in_ok-number.ensures.exact in
    let fits : FitsSigned w64 c.unzigzag64.result = search rules in
    rw (to_z-of_z w64 c.unzigzag64.result fits) (rw (c.unzigzag64.ensures) (i64_there c.args.frame.now c.args.at c.in_ok-number.number c.in_ok-number.behind number))
