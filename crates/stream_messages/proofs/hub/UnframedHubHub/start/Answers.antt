use Rattle.std.proofs.Common.{arith}
use Rattle.std.proofs.lemmas.Grind.{common_steps}
use Rattle.stream_messages.proofs.hub.UnframedHubHub.start.Goals as goal

pub returns-in-Done-clause-later : goal.returns-in-Done-clause-later
returns-in-Done-clause-later g c = grind (arith, common_steps)

pub returns-in-Done-clause-kept : goal.returns-in-Done-clause-kept
returns-in-Done-clause-kept g c = grind (arith, common_steps)

pub returns-in-OutOfMemory-clause-leads : goal.returns-in-OutOfMemory-clause-leads
returns-in-OutOfMemory-clause-leads g c = grind (arith, common_steps)

pub returns-in-Failed-clause-leads : goal.returns-in-Failed-clause-leads
returns-in-Failed-clause-leads g c = grind (arith, common_steps)

pub returns-in-Failed-clause-kept : goal.returns-in-Failed-clause-kept
returns-in-Failed-clause-kept g c = grind (arith, common_steps)

pub returns-in-OutOfMemory-clause-kept : goal.returns-in-OutOfMemory-clause-kept
returns-in-OutOfMemory-clause-kept g c = grind (arith, common_steps)

pub returns-in-Done-clause-cause : goal.returns-in-Done-clause-cause
returns-in-Done-clause-cause g c = grind (arith, common_steps)

pub returns-in-NotFound-clause-kept : goal.returns-in-NotFound-clause-kept
returns-in-NotFound-clause-kept g c = grind (arith, common_steps)

pub returns-in-OutOfMemory-clause-later : goal.returns-in-OutOfMemory-clause-later
returns-in-OutOfMemory-clause-later g c = grind (arith, common_steps)

pub returns-in-Done-clause-leads : goal.returns-in-Done-clause-leads
returns-in-Done-clause-leads g c = grind (arith, common_steps)

pub returns-in-Done-clause-unfound : goal.returns-in-Done-clause-unfound
returns-in-Done-clause-unfound g c = grind (arith, common_steps)

pub returns-in-NotFound-clause-leads : goal.returns-in-NotFound-clause-leads
returns-in-NotFound-clause-leads g c = grind (arith, common_steps)

pub returns-in-Failed-clause-later : goal.returns-in-Failed-clause-later
returns-in-Failed-clause-later g c = grind (arith, common_steps)
