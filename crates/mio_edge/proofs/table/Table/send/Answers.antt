use Rattle.std.proofs.Common.{arith, [], refl, drop, ap, ◌∙◌}
use Rattle.mio_edge.proofs.Tables.{drop_one}
use Rattle.mio_edge.specs.Closing.{winds_nowhere, winds_on}
use Rattle.mio_edge.specs.Lines.{moves_still, moves_on_further}
use Rattle.mio_edge.proofs.table.Table.send.Goals as goal
use Rattle.std.proofs.lemmas.Grind.{common_steps}

pub loop-preserved : goal.loop-preserved
loop-preserved g c = record {
  same = c.send_first.ensures.same ∙ c.loop.invariant.same;
  keeps = λ world told. c.send_first.ensures.keeps world (c.loop.invariant.keeps world told);
  turn = moves_on_further [] [] c.args.self.now c.loop.self c.send_first.new.self c.loop.invariant.turn c.send_first.ensures.turn;
  stepped = λ world told stepped. c.send_first.ensures.stepped world (c.loop.invariant.keeps world told) (c.loop.invariant.stepped world told stepped);
  below = λ next below. c.send_first.ensures.below next (c.loop.invariant.below next below);
  winds = winds_on g.S.Stream.tells c.args.self.now.sessions c.loop.self.sessions c.send_first.new.self.sessions c.loop.invariant.winds c.send_first.ensures.winds;
  sent = c.send_first.ensures.taken ∙ (ap (drop 1) c.loop.invariant.sent ∙ drop_one c.loop.counter c.args.self.now.written.places.items);
}

pub loop-init : goal.loop-init
loop-init g c = record {
  same = refl;
  keeps = λ world told. told;
  turn = moves_still c.args.self.now;
  stepped = λ world told stepped. stepped;
  below = λ next below. below;
  winds = winds_nowhere g.S.Stream.tells c.args.self.now.sessions;
  sent = refl;
}

pub returns-clause-sent : goal.returns-clause-sent
returns-clause-sent g c = grind (arith, common_steps)

pub returns-clause-below : goal.returns-clause-below
returns-clause-below g c = grind (arith, common_steps)
