use Rattle.std.proofs.Common.{rules, FitsSigned}
use Rattle.std.specs.Int.{w16}
use Rattle.std.proofs.lemmas.Int.{to_z-of_z}
use Rattle.compact_protocol.specs.Forms.{number_at, id_there}
use Rattle.compact_protocol.proofs.forms.id_from.Goals as goal

pub returns : goal.returns
returns c =
    let number = number_at c.args.frame.now c.args.at 5 16 c.in_ok-number.number c.in_ok-number.behind c.requires c.in_ok-number.ensures.exact in
    let fits : FitsSigned w16 c.unzigzag16.result = search rules in
    rw (to_z-of_z w16 c.unzigzag16.result fits) (rw (c.unzigzag16.ensures) (id_there c.args.frame.now c.args.at c.in_ok-number.number c.in_ok-number.behind number))
