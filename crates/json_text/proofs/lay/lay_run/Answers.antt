use Rattle.std.proofs.Common.{◌+◌, ◌-◌, ◌≤◌, arith}
use Rattle.std.proofs.lemmas.Bool.Decides.{nat_tests}
use lib.Count.{count_trailing_zeros}
use Rattle.json_text.proofs.PlainTexts.{both_true, ascii_join}
use Rattle.json_text.proofs.LaidText.{rest_joined, lanes_joined, lanes, low_lanes}
use Rattle.json_text.proofs.lay.lay_run.Goals as goal

pub returns-then-run-lt32-clause-stops : goal.returns-then-run-lt32-clause-stops
returns-then-run-lt32-clause-stops c =
    let v = c.vectors in
    let here = (lanes c.args.bytes.now v.at c.stops.result c.min-run.result (c.args.size - v.at) (omega arith) c.stops.ensures c.min-run.ensures).0 (omega (arith, c.if-run-lt32.true)) in
    let copied = v.invariant in
    (omega (arith, copied.order), omega (arith, copied.within, c.min-run.ensures), omega (arith, copied.plain, here.0), λ before. omega (arith, copied.plain, here.1 (omega (arith, before, copied.within))))

pub returns-then-run-lt32-clause-laid : goal.returns-then-run-lt32-clause-laid
returns-then-run-lt32-clause-laid c =
    let v = c.vectors in
    lanes_joined c.args.cells.now v.cells c.lay.new.cells c.args.bytes.now c.args.to c.args.from v.at c.min-run.result c.lay.result v.invariant.order (omega arith) (omega (arith, c.if-run-lt32.true)) (omega (arith, v.invariant.order, v.invariant.within)) v.invariant.laid c.lay.ensures.laid c.lay.ensures.place

pub returns-then-run-lt32-clause-ascii : goal.returns-then-run-lt32-clause-ascii
returns-then-run-lt32-clause-ascii c = λ e.
    let v = c.vectors in
    let both = both_true v.is_ascii _ e in
    ascii_join c.args.bytes.now c.args.from v.at (v.at + c.min-run.result) (v.invariant.ascii both.0)
    (low_lanes c.args.bytes.now v.at c.highs.result c.min-run.result (omega arith) c.highs.ensures (omega (arith, c.if-run-lt32.true)) (grind (arith, nat_tests, both.1)))

pub vectors-preserved : goal.vectors-preserved
vectors-preserved c =
    let v = c.vectors in
    let copied = v.invariant in
    let long : 32 ≤ c.min-run.result = omega (arith, c.if-run-lt32.false) in
    let here = (lanes c.args.bytes.now v.at c.stops.result c.min-run.result (c.args.size - v.at) (omega arith) c.stops.ensures c.min-run.ensures).1 long in
    record {
      plain = omega (arith, copied.plain, here);
      order = omega (arith, copied.order);
      within = omega (arith, copied.within, long, c.min-run.ensures);
      laid = lanes_joined c.args.cells.now v.cells c.lay.new.cells c.args.bytes.now c.args.to c.args.from v.at 32 c.lay.result copied.order (omega arith) (omega arith) (omega (arith, copied.order, copied.within)) copied.laid c.lay.ensures.laid c.lay.ensures.place;
      ascii = λ e.
          let both = both_true v.is_ascii _ e in
          let low : c.min-run.result ≤ count_trailing_zeros 64 c.highs.result = grind (arith, nat_tests, both.1) in
          ascii_join c.args.bytes.now c.args.from v.at (v.at + 32) (copied.ascii both.0) (low_lanes c.args.bytes.now v.at c.highs.result 32 (omega arith) c.highs.ensures (omega arith) (omega (arith, long, low)));
    }

pub returns-clause-laid : goal.returns-clause-laid
returns-clause-laid c =
    let v = c.vectors in
    rest_joined c.args.cells.now v.cells c.last_run.new.cells c.args.bytes.now c.args.to c.args.from v.at c.last_run.result.0 v.invariant.order c.last_run.ensures.stops.0 v.invariant.laid c.last_run.ensures.laid
