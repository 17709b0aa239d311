use Rattle.std.proofs.Common.{◌≡◌, map, subst}
use Rattle.thrift_value.specs.Items.{item_of}
use Rattle.value_trees.specs.Gathering.{StopsAt}
use Rattle.value_trees.proofs.Gathered.{more, stops, not_true, is_true}
use Rattle.value_trees.proofs.gathering.gather.Goals as goal

pub loop-place-preserved : goal.loop-place-preserved
loop-place-preserved c = record {
  stand = more c.args.events.now c.loop-place.place _ _ _ c.loop-place-test.true c.loop-place.invariant.stand c.in_ok-next.ensures;
  goes = λ h. not_true (c.if-is_refused.ensures.1 h);
}

pub returns-then-is_refused-clause-broken : goal.returns-then-is_refused-clause-broken
returns-then-is_refused-clause-broken c =
    let now = more c.args.events.now c.loop-place.place _ _ _ c.loop-place-test.true c.loop-place.invariant.stand c.in_ok-next.ensures in
    let at = stops c.args.events.now c.loop-place.place _ _ c.loop-place-test.true c.loop-place.invariant.stand c.loop-place.invariant.goes now (c.if-is_refused.ensures.0 is_true) in
    λ place is.
    let same : c.loop-place.place ≡ place = cc in
    subst (StopsAt (map item_of c.args.events.now)) same at
