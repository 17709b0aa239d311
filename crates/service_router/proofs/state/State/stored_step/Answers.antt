use Rattle.std.proofs.Common.{[], refl}
use Rattle.service_router.specs.Judging.{rules_of}
use Rattle.service_router.specs.Working.{standing}
use Rattle.service_router.proofs.Moves.{client_halts}
use Rattle.service_router.proofs.state.State.stored_step.Goals as goal

pub returns-in-Halts-clause-comes : goal.returns-in-Halts-clause-comes
returns-in-Halts-clause-comes g c = ([], g.met.N.Notes.stays _, (client_halts (rules_of c.args.judge.now).judging _ _ (standing c.args.self.now) c.args.waiting c.in-Halts.halt c.requires.empty c.requires.few c.requires.found c.in-Halts.is, refl, refl))
