use Rattle.std.proofs.Common.{refl}
use Rattle.gate_start.proofs.Unfound.{both, then_front, front_of_both}
use Rattle.gate_start.proofs.status.write_both.Goals as goal

pub returns-in-All-clause-all : goal.returns-in-All-clause-all
returns-in-All-clause-all g c = λ done. both _ _ _ c.args.first.now c.args.second.now (c.in-All.ensures.all refl) (c.write_all-in-All.ensures.all done)

pub returns-in-All-clause-front : goal.returns-in-All-clause-front
returns-in-All-clause-front g c = then_front _ _ _ c.args.first.now c.args.second.now (c.in-All.ensures.all refl) c.write_all-in-All.ensures.front

pub returns-in-Failed-clause-front : goal.returns-in-Failed-clause-front
returns-in-Failed-clause-front g c = front_of_both _ _ c.args.first.now c.args.second.now c.in-Failed.ensures.front
