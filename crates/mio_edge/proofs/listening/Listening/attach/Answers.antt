use Rattle.mio_edge.specs.Wire.{new_wire}
use Rattle.std.proofs.Common.{refl}
use Rattle.mio_edge.specs.Fixed.{fixed_kept}
use Rattle.mio_edge.proofs.listening.Listening.attach.Goals as goal

pub returns-then-watch-clause-prepared : goal.returns-then-watch-clause-prepared
returns-then-watch-clause-prepared g c = λ k says ready. c.attach.ensures.prepared k (c.watch.ensures new_wire says) ready

pub returns-then-watch-clause-keeps : goal.returns-then-watch-clause-keeps
returns-then-watch-clause-keeps g c = λ shut. (c.attach.ensures.idle shut, c.attach.ensures.keeps shut)

pub returns-then-watch-clause-same : goal.returns-then-watch-clause-same
returns-then-watch-clause-same g c = fixed_kept c.args.self.now (record c.args.self.now { table = c.attach.new.self }) refl refl c.attach.ensures.same

pub returns-then-watch-clause-below : goal.returns-then-watch-clause-below
returns-then-watch-clause-below g c = c.attach.ensures.below
