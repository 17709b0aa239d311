use Rattle.std.proofs.Common.{arith}
use Rattle.std.proofs.lemmas.Grind.{common_steps}
use Rattle.idl_consts.specs.Fitting.{any_member}
use Rattle.idl_consts.proofs.members.any_member.Goals as goal

pub returns-in-Some-look_up : goal.returns-in-Some-look_up
unfolding any_member
returns-in-Some-look_up c = grind (arith, common_steps)
