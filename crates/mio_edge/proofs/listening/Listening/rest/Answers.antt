use Rattle.std.proofs.Common.{[], None}
use Rattle.mio_edge.specs.Closing.{winds_on}
use Rattle.mio_edge.proofs.Order.{turn_on}
use Rattle.std.proofs.Common.{refl, ◌∙◌}
use Rattle.mio_edge.specs.Fixed.{fixed_kept}
use Rattle.mio_edge.proofs.listening.Listening.rest.Goals as goal

pub returns-clause-keeps : goal.returns-clause-keeps
returns-clause-keeps g c = λ world told. c.wait.ensures.keeps world (c.send.ensures.keeps world told)

pub returns-clause-winds : goal.returns-clause-winds
returns-clause-winds g c = winds_on g.S.Stream.tells c.args.self.now.table.sessions c.send.new.self.sessions c.wait.new.self.table.sessions c.send.ensures.winds c.wait.ensures.winds

pub returns-then-has_ready-clause-turn : goal.returns-then-has_ready-clause-turn
returns-then-has_ready-clause-turn g c = λ world told. ([], c.send.ensures.turn)

pub returns-clause-turn : goal.returns-clause-turn
returns-clause-turn g c = λ world told. turn_on None c.args.self.now.table c.send.new.self c.wait.new.self.table ([], c.send.ensures.turn) (c.wait.ensures.turn world (c.send.ensures.keeps world told))

pub returns-then-has_ready-clause-same : goal.returns-then-has_ready-clause-same
returns-then-has_ready-clause-same g c = fixed_kept c.args.self.now (record c.args.self.now { table = c.send.new.self }) refl refl c.send.ensures.same

pub returns-clause-same : goal.returns-clause-same
returns-clause-same g c = c.wait.ensures.same ∙ fixed_kept c.args.self.now (record c.args.self.now { table = c.send.new.self }) refl refl c.send.ensures.same

pub returns-then-has_ready-clause-below : goal.returns-then-has_ready-clause-below
returns-then-has_ready-clause-below g c = c.send.ensures.below

pub returns-clause-below : goal.returns-clause-below
returns-clause-below g c = λ next below. c.wait.ensures.below next (c.send.ensures.below next below)

pub returns-then-has_ready-clause-stepped : goal.returns-then-has_ready-clause-stepped
returns-then-has_ready-clause-stepped g c = c.send.ensures.stepped

pub returns-clause-stepped : goal.returns-clause-stepped
returns-clause-stepped g c = λ world told stepped. c.wait.ensures.stepped world (c.send.ensures.keeps world told) (c.send.ensures.stepped world told stepped)
