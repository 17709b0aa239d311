use Rattle.mio_edge.proofs.Stepping.{any_stepped, free_stepped}
use Rattle.mio_edge.specs.Closing.{winds_nowhere}
use Rattle.mio_edge.proofs.table.Table.give_up_one.Goals as goal
use Rattle.std.proofs.Common.{arith}
use Rattle.std.proofs.lemmas.Grind.{common_steps}

pub returns-in-Some-clause-keeps : goal.returns-in-Some-clause-keeps
returns-in-Some-clause-keeps g c = λ world told. c.release.ensures.keeps (c.in-Some.ensures.idle world told) world told

pub returns-in-Some-clause-winds : goal.returns-in-Some-clause-winds
returns-in-Some-clause-winds g c = c.release.ensures.winds c.in-Some.ensures.settled

pub returns-in-Some-clause-below : goal.returns-in-Some-clause-below
returns-in-Some-clause-below g c = c.release.ensures.below

pub returns-in-Some-clause-stepped : goal.returns-in-Some-clause-stepped
returns-in-Some-clause-stepped g c = λ stepped.
    let a = c.args.self.now.sessions in
    free_stepped c.in-Some.place a c.release.new.self.sessions (any_stepped c.in-Some.place a stepped) c.release.ensures.others c.release.ensures.free

pub returns-in_default-clause-winds : goal.returns-in_default-clause-winds
returns-in_default-clause-winds g c = winds_nowhere g.S.Stream.tells c.args.self.now.sessions

pub returns-in_default-clause-none : goal.returns-in_default-clause-none
returns-in_default-clause-none g c = grind (arith, common_steps)
