use Rattle.std.proofs.Common.{refl, ◌++◌}
use Rattle.std.specs.Prelude.{codes}
use Rattle.gate_start.specs.Lines.{unfound_text}
use Rattle.gate_start.proofs.Unfound.{both, then_front, front_of_both}
use Rattle.gate_start.proofs.status.tell_unfound.Goals as goal

pub returns-in-All-clause-all : goal.returns-in-All-clause-all
unfolding unfound_text
returns-in-All-clause-all g c = λ done. both _ _ _ (codes "target not found: " ++ c.args.name.now) (codes "\n") (c.in-All.ensures.all refl) (c.write_all.ensures.all done)

pub returns-in-All-clause-front : goal.returns-in-All-clause-front
unfolding unfound_text
returns-in-All-clause-front g c = then_front _ _ _ (codes "target not found: " ++ c.args.name.now) (codes "\n") (c.in-All.ensures.all refl) c.write_all.ensures.front

pub returns-in-Failed-clause-front : goal.returns-in-Failed-clause-front
unfolding unfound_text
returns-in-Failed-clause-front g c = front_of_both _ _ (codes "target not found: " ++ c.args.name.now) (codes "\n") c.in-Failed.ensures.front
