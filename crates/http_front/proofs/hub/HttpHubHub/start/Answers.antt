use Rattle.std.proofs.Common.{arith}
use Rattle.std.proofs.lemmas.Grind.{common_steps}
use Rattle.http_front.proofs.hub.HttpHubHub.start.Goals as goal

pub returns-in-NotFound-clause-leads : goal.returns-in-NotFound-clause-leads
returns-in-NotFound-clause-leads g c = grind (arith, common_steps)

pub returns-in-Done-clause-kept : goal.returns-in-Done-clause-kept
returns-in-Done-clause-kept g c = grind (arith, common_steps)

pub returns-in-Failed-clause-leads : goal.returns-in-Failed-clause-leads
returns-in-Failed-clause-leads g c = grind (arith, common_steps)

pub returns-in-OutOfMemory-clause-leads : goal.returns-in-OutOfMemory-clause-leads
returns-in-OutOfMemory-clause-leads g c = grind (arith, common_steps)

pub returns-in-Failed-clause-unfound : goal.returns-in-Failed-clause-unfound
returns-in-Failed-clause-unfound g c = grind (arith, common_steps)

pub returns-in-NotFound-clause-unfound : goal.returns-in-NotFound-clause-unfound
returns-in-NotFound-clause-unfound g c = grind (arith, common_steps)

pub returns-in-NotFound-clause-cause : goal.returns-in-NotFound-clause-cause
returns-in-NotFound-clause-cause g c = grind (arith, common_steps)

pub returns-in-OutOfMemory-clause-cause : goal.returns-in-OutOfMemory-clause-cause
returns-in-OutOfMemory-clause-cause g c = grind (arith, common_steps)

pub returns-in-OutOfMemory-clause-unfound : goal.returns-in-OutOfMemory-clause-unfound
returns-in-OutOfMemory-clause-unfound g c = grind (arith, common_steps)

pub returns-in-NotFound-clause-kept : goal.returns-in-NotFound-clause-kept
returns-in-NotFound-clause-kept g c = grind (arith, common_steps)

pub returns-in-Done-clause-cause : goal.returns-in-Done-clause-cause
returns-in-Done-clause-cause g c = grind (arith, common_steps)

pub returns-in-Failed-clause-kept : goal.returns-in-Failed-clause-kept
returns-in-Failed-clause-kept g c = grind (arith, common_steps)

pub returns-in-OutOfMemory-clause-kept : goal.returns-in-OutOfMemory-clause-kept
returns-in-OutOfMemory-clause-kept g c = grind (arith, common_steps)

pub returns-in-Done-clause-unfound : goal.returns-in-Done-clause-unfound
returns-in-Done-clause-unfound g c = grind (arith, common_steps)

pub returns-in-Failed-clause-cause : goal.returns-in-Failed-clause-cause
returns-in-Failed-clause-cause g c = grind (arith, common_steps)
