use Rattle.std.proofs.Common.{◌+◌, set, arith, refl, sym, ◌∙◌}
use Rattle.std.proofs.lemmas.List.{length-set, length-take-le}
use Rattle.varint_zigzag.proofs.Shortest.{building, built_on, has_place, built}
use Rattle.varint_zigzag.proofs.writing.write_groups.Goals as goal

pub loop-rest-init : goal.loop-rest-init
loop-rest-init c = building _ c.args.v refl (omega arith)

pub bounds-bytes-count : goal.bounds-bytes-count
bounds-bytes-count c = has_place _ _ _ _ c.loop-rest.invariant

pub overflow_add-count : goal.overflow_add-count
overflow_add-count c = let place = has_place _ _ _ _ c.loop-rest.invariant in omega (arith, place)

pub loop-rest-preserved : goal.loop-rest-preserved
loop-rest-preserved c = built_on _ _ _ _ c.loop-rest.invariant c.loop-rest-test.true

pub bounds-bytes-count-2 : goal.bounds-bytes-count-2
bounds-bytes-count-2 c = has_place _ _ _ _ c.loop-rest.invariant

pub overflow_add-bytes-2 : goal.overflow_add-bytes-2
overflow_add-bytes-2 c = let place = has_place _ _ _ _ c.loop-rest.invariant in omega (arith, place)

pub slice_bounds-bytes-end : goal.slice_bounds-bytes-end
slice_bounds-bytes-end c =
    let place = has_place _ _ _ _ c.loop-rest.invariant in
    let room = length-set c.loop-rest.bytes c.loop-rest.count c.loop-rest.rest ∙ c.loop-rest.invariant.room in
    omega (arith, place, room)

pub slice_bounds-push-end : goal.slice_bounds-push-end
slice_bounds-push-end c =
    let place = has_place _ _ _ _ c.loop-rest.invariant in
    let room = length-set c.loop-rest.bytes c.loop-rest.count c.loop-rest.rest ∙ c.loop-rest.invariant.room in
    sym (length-take-le (c.loop-rest.count + 1) (set c.loop-rest.bytes c.loop-rest.count c.loop-rest.rest) (omega (arith, place, room)))

pub push-requires : goal.push-requires
push-requires c = rw (built _ _ _ _ c.loop-rest.invariant c.loop-rest-test.false) c.requires

pub returns : goal.returns
returns c = rw (← built _ _ _ _ c.loop-rest.invariant c.loop-rest-test.false) c.push.ensures
