use Rattle.std.proofs.Common.{arith, refl, sym, ◌∙◌, ◌+◌, ◌-◌, ◌<◌, ◌/◌, length}
use Rattle.std.proofs.lemmas.Option.{slice_get_read}
use Rattle.route_server.proofs.Places.{below_on, above_on}
use Rattle.route_server.proofs.table.find.Goals as goal

pub returns-then-at-number-clause-found : goal.returns-then-at-number-clause-found
returns-then-at-number-clause-found c =
    let i = c.loop-low.low + (c.loop-low.high - c.loop-low.low) / 2 in
    let within : i < length c.args.held.now = omega (arith, c.loop-low-test.true, c.loop-low.invariant.within) in
    let got = slice_get_read c.args.held.now (length c.args.held.now) i c.index-held-middle.result refl within c.index-held-middle.is in
    (c.index-held-middle.result, got, sym c.number-at.ensures ∙ c.if-at-number.true)

pub loop-low-preserved-then-at-number-2 : goal.loop-low-preserved-then-at-number-2
loop-low-preserved-then-at-number-2 c =
    let i = c.loop-low.low + (c.loop-low.high - c.loop-low.low) / 2 in
    let within : i < length c.args.held.now = omega (arith, c.loop-low-test.true, c.loop-low.invariant.within) in
    let got = slice_get_read c.args.held.now (length c.args.held.now) i c.index-held-middle.result refl within c.index-held-middle.is in
    record {
      order = omega (arith, c.loop-low-test.true);
      within = c.loop-low.invariant.within;
      below = λ rising. below_on c.args.held.now c.args.number i c.index-held-middle.result rising got (omega (arith, c.number-at.ensures, c.if-at-number-2.true));
      above = c.loop-low.invariant.above;
    }

pub loop-low-preserved : goal.loop-low-preserved
loop-low-preserved c =
    let i = c.loop-low.low + (c.loop-low.high - c.loop-low.low) / 2 in
    let within : i < length c.args.held.now = omega (arith, c.loop-low-test.true, c.loop-low.invariant.within) in
    let got = slice_get_read c.args.held.now (length c.args.held.now) i c.index-held-middle.result refl within c.index-held-middle.is in
    record {
      order = omega (arith, c.loop-low-test.true);
      within = omega (arith, within);
      below = c.loop-low.invariant.below;
      above = λ rising. above_on c.args.held.now c.args.number i c.index-held-middle.result rising got (omega (arith, c.number-at.ensures, c.if-at-number.false, c.if-at-number-2.false));
    }
