use Rattle.std.proofs.Common.{◌≡◌, arith, refl}
use Rattle.drill_messages.proofs.Rounds.{going_flushed, going_on, going_front, going_done}
use Rattle.drill_messages.proofs.drilling.make_all.Goals as goal

pub returns-in-Failed-clause-front : goal.returns-in-Failed-clause-front
returns-in-Failed-clause-front g c =
    going_front _ _ _ _ _ _ _ c.loop-seq.invariant.going _ c.args.count (omega (arith, c.loop-seq-test.true)) c.in-Failed.ensures.front

pub loop-seq-preserved : goal.loop-seq-preserved
loop-seq-preserved g c =
    record {
      going = going_on _ _ _ _ _ _ _ (going_flushed _ _ _ _ _ _ _ c.loop-seq.invariant.going _ _ (c.in-All.ensures.flushed refl)) _ _ _ _ c.make_one-lengths.ensures.stream c.make_one-lengths.ensures.lengths
          c.make_one-lengths.ensures.within c.added-totals.ensures c.make_one-lengths.ensures.state;
      open_rooms = c.make_one-lengths.ensures.open;
      later = omega (arith, c.loop-seq.invariant.later, c.in-All.ensures.later);
    }

pub returns-in-All-flush-clause-done : goal.returns-in-All-flush-clause-done
returns-in-All-flush-clause-done g c =
    let all : c.loop-seq.seq ≡ c.args.count = omega (arith, c.loop-seq-test.false, c.loop-seq.auto.seq-end) in
    going_done _ _ _ _ _ _ _ c.loop-seq.invariant.going _ c.args.count all (c.in-All-flush.ensures.all refl).1

pub returns-in-All-flush-clause-front : goal.returns-in-All-flush-clause-front
returns-in-All-flush-clause-front g c =
    going_front _ _ _ _ _ _ _ c.loop-seq.invariant.going _ c.args.count c.loop-seq.auto.seq-end c.in-All-flush.ensures.front

pub returns-in-Failed-flush-clause-front : goal.returns-in-Failed-flush-clause-front
returns-in-Failed-flush-clause-front g c =
    going_front _ _ _ _ _ _ _ c.loop-seq.invariant.going _ c.args.count c.loop-seq.auto.seq-end c.in-Failed-flush.ensures.front
