use Rattle.session_core.specs.Working.{standing}
use Rattle.session_core.proofs.Moves.{found_refused, found_cuts, waits_halted, waits_refused}
use Rattle.session_core.specs.Looks.{came}
use Rattle.session_core.proofs.Keeping.{keeps_halting}
use Rattle.session_core.proofs.state.State.stored_step.Goals as goal
use Rattle.std.proofs.Common.{refl}

pub returns-in-Halts-clause-comes : goal.returns-in-Halts-clause-comes
returns-in-Halts-clause-comes g c = (waits_halted (g.J.Judge.rules c.args.judge.now) _ _ (standing c.args.self.now) c.args.waiting c.in-Halts.halt c.requires.empty c.requires.few c.requires.found c.in-Halts.is, refl)

pub returns-in-Halts-clause-keeps : goal.returns-in-Halts-clause-keeps
returns-in-Halts-clause-keeps g c = keeps_halting (g.J.Judge.rules c.args.judge.now) _ c.args.self.now _ c.requires.works

pub answer_step-requires-clause-found : goal.answer_step-requires-clause-found
answer_step-requires-clause-found g c = found_refused (g.J.Judge.rules c.args.judge.now) _ _ c.args.waiting c.in-Refused.cause c.requires.found c.in-Refused.is

pub returns-in-Refused-clause-comes : goal.returns-in-Refused-clause-comes
returns-in-Refused-clause-comes g c =
    waits_refused (came c.answer_step.result c.answer_step.new.self.halt) (g.J.Judge.rules c.args.judge.now) _ _ (standing c.args.self.now) (standing c.answer_step.new.self) c.args.waiting c.in-Refused.cause c.requires.empty c.requires.few c.requires.found c.in-Refused.is
    (c.answer_step.ensures.comes c.requires.found.frame c.requires.found.rest c.requires.found.stands)

pub returns-in-Refused-clause-cut : goal.returns-in-Refused-clause-cut
returns-in-Refused-clause-cut g c = λ takes. found_cuts (g.J.Judge.rules c.args.judge.now) _ _ c.args.waiting c.requires.found

pub returns-in-Halts-clause-told : goal.returns-in-Halts-clause-told
returns-in-Halts-clause-told g c = g.met.N.Notes.stays c.args.notes.now
