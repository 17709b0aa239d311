use Rattle.std.proofs.Common.{refl}
use Rattle.gate_start.specs.Endings.{last_line}
use Rattle.gate_start.specs.Lines.{unfound_text}
use Rattle.gate_start.specs.declared.status.Ending.TheVariants as endings
use Rattle.gate_start.proofs.Unfound.{then_front, front_of_both, whole_both}
use Rattle.gate_start.proofs.status.end_unfound.Goals as goal

pub returns-in-All-clause-front : goal.returns-in-All-clause-front
returns-in-All-clause-front g c = then_front _ _ _ (unfound_text c.args.name.now) (last_line endings.HubFault) (c.in-All.ensures.all refl) c.end_with.ensures.front

pub returns-in-All-clause-whole : goal.returns-in-All-clause-whole
returns-in-All-clause-whole g c = whole_both _ _ _ (unfound_text c.args.name.now) (last_line endings.HubFault) _ _ _ c.in-All.ensures.later (c.in-All.ensures.all refl) c.end_with.ensures.whole

pub returns-in-Failed-clause-front : goal.returns-in-Failed-clause-front
returns-in-Failed-clause-front g c = front_of_both _ _ (unfound_text c.args.name.now) (last_line endings.HubFault) c.in-Failed.ensures.front
