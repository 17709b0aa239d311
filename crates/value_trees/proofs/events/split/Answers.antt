use Rattle.std.proofs.Common.{◌<◌, ◌^◌, length, refl, arith}
use Rattle.value_trees.proofs.Told.{trees-counted, pairs-counted, pairs-fit, set-fits, list-fits}
use Rattle.value_trees.proofs.events.split.Goals as goal

pub overflow_cast-result : goal.overflow_cast-result
overflow_cast-result c =
    let fits : length c.as_slice-pairs.result.now < 2 ^ 32 = pairs-fit _ _ _ _ _ c.in-Map.is c.as_slice-pairs.ensures c.requires in
    omega arith

pub overflow_cast-result-in-Set : goal.overflow_cast-result-in-Set
overflow_cast-result-in-Set c =
    let fits : length c.as_slice-items.result.now < 2 ^ 32 = set-fits _ _ _ _ c.in-Set.is c.as_slice-items.ensures c.requires in
    omega arith

pub overflow_cast-result-in-List : goal.overflow_cast-result-in-List
overflow_cast-result-in-List c =
    let fits : length c.as_slice-items-in-List.result.now < 2 ^ 32 = list-fits _ _ _ _ c.in-List.is c.as_slice-items-in-List.ensures c.requires in
    omega arith

pub returns-in-Map-clause-told : goal.returns-in-Map-clause-told
returns-in-Map-clause-told c = rw (c.in-Map.is, ← c.as_slice-pairs.ensures, pairs-counted) refl

pub returns-in-Set-clause-told : goal.returns-in-Set-clause-told
returns-in-Set-clause-told c = rw (c.in-Set.is, ← c.as_slice-items.ensures, trees-counted) refl

pub returns-in-List-clause-told : goal.returns-in-List-clause-told
returns-in-List-clause-told c = rw (c.in-List.is, ← c.as_slice-items-in-List.ensures, trees-counted) refl
