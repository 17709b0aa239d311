use Rattle.mio_edge.proofs.Tables.{insert_keeps, insert_prepares}
use Rattle.mio_edge.proofs.Closing.{puts_at}
use Rattle.mio_edge.proofs.Places.{refused}
use Rattle.mio_edge.proofs.Numbered.{below_inserted}
use Rattle.mio_edge.proofs.table.Table.insert.Goals as goal

pub returns-clause-keeps : goal.returns-clause-keeps
returns-clause-keeps g c = λ new. insert_keeps g.S.Stream.tells c.args.self.now c.insert.new.self c.args.session c.insert.result c.insert.ensures.was_vacant c.insert.ensures.updates c.insert.ensures.len c.insert.ensures.key_in_range c.insert.ensures.succeeds c.insert.ensures.had_room new

pub returns-clause-prepared : goal.returns-clause-prepared
returns-clause-prepared g c = λ new world vacant. insert_prepares g.S.Stream.tells (record c.args.self.now { sessions = c.insert.new.self }) c.args.self.now.sessions c.args.session c.insert.result c.ok.result world c.ok.ensures.value c.insert.ensures.was_vacant c.insert.ensures.updates new vacant.0.0

pub returns-clause-puts : goal.returns-clause-puts
returns-clause-puts g c = puts_at c.args.self.now.sessions c.insert.new.self c.args.session c.insert.result c.ok.result c.ok.ensures.value c.insert.ensures.was_vacant c.insert.ensures.updates c.insert.ensures.err

pub returns-clause-full : goal.returns-clause-full
returns-clause-full g c = refused _ c.insert.result c.ok.result c.ok.ensures.value c.insert.ensures.succeeds

pub returns-clause-below : goal.returns-clause-below
returns-clause-below g c = below_inserted c.args.self.now.sessions c.insert.new.self c.args.session c.insert.result c.ok.result c.ok.ensures.value c.insert.ensures.updates c.insert.ensures.err
