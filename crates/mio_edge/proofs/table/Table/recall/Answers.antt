use Rattle.std.proofs.Common.{length, ap, ◌∙◌, arith}
use Rattle.mio_edge.proofs.Standing.{recalled}
use Rattle.mio_edge.proofs.Turns.{recall_room}
use Rattle.mio_edge.proofs.table.Table.recall.Goals as goal
use Rattle.std.proofs.lemmas.Grind.{common_steps}

pub loop-preserved : goal.loop-preserved
loop-preserved g c = record {
  same = c.loop.invariant.same;
  keeps = λ world told.
      let t = g.S.Stream.tells in
      let s = c.loop.self in
      let before = c.loop.invariant.keeps world told in
      let pushes = c.push.ensures.pushed (c.push.ensures.room (recall_room s.sessions s.ready s.behind s.written (length s.spare.items) c.in-Some.place c.pop.new.self.places.items before.0.1 c.in-Some.ensures.first)) in
      let done = recalled t s.sessions s.ready c.push.new.self s.behind c.pop.new.self s.written (length s.spare.items) c.in-Some.place c.in-Some.ensures.first pushes c.in-Some.ensures.room before.0.1 in
      ((before.0.0, done.0), done.1 ∙ before.1);
  sessions = c.loop.invariant.sessions;
  entries = c.loop.invariant.entries;
  count = omega (arith, ap length c.in-Some.ensures.first, c.loop.invariant.count);
}

pub returns-clause-keeps : goal.returns-clause-keeps
returns-clause-keeps g c = λ world told. (c.loop.invariant.keeps world told).0

pub returns-clause-order : goal.returns-clause-order
returns-clause-order g c = grind (arith, common_steps)

pub loop-init : goal.loop-init
loop-init g c = grind (arith, common_steps)

pub returns-in_default-clause-keeps : goal.returns-in_default-clause-keeps
returns-in_default-clause-keeps g c = grind (arith, common_steps)
