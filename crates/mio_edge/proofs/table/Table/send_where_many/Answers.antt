use Rattle.std.proofs.Common.{refl, arith}
use Rattle.mio_edge.specs.Closing.{winds_nowhere}
use Rattle.mio_edge.specs.Lines.{moves_nowhere}
use Rattle.mio_edge.proofs.table.Table.send_where_many.Goals as goal

pub returns-then-len-ge-MOST_WRITTEN-clause-winds : goal.returns-then-len-ge-MOST_WRITTEN-clause-winds
returns-then-len-ge-MOST_WRITTEN-clause-winds g c = c.send.ensures.winds

pub returns-then-len-ge-MOST_WRITTEN-clause-turn : goal.returns-then-len-ge-MOST_WRITTEN-clause-turn
returns-then-len-ge-MOST_WRITTEN-clause-turn g c = c.send.ensures.turn

pub returns-else-len-ge-MOST_WRITTEN : goal.returns-else-len-ge-MOST_WRITTEN
returns-else-len-ge-MOST_WRITTEN g c =
    let s = c.args.self.now in record {
      keeps = λ world told. told;
      winds = winds_nowhere g.S.Stream.tells s.sessions;
      turn = moves_nowhere s _ refl refl refl;
      few = omega (arith, c.len.ensures, c.if-len-ge-MOST_WRITTEN.false);
      below = λ next below. below;
      stepped = λ world told stepped. stepped;
      same = refl;
    }
