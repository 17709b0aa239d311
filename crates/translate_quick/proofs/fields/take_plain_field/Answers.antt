use Rattle.std.proofs.Common.{w16}
use Rattle.std.proofs.lemmas.Int.{to_z-of_z}
use Rattle.translate_quick.proofs.fields.take_plain_field.Goals as goal

pub returns-in_ok-take_flag-in-Bool-clause-takes : goal.returns-in_ok-take_flag-in-Bool-clause-takes
returns-in_ok-take_flag-in-Bool-clause-takes g c ty depth means =
    let takes = rw (to_z-of_z w16 c.args.last c.ranges.last, to_z-of_z w16 c.args.id c.ranges.id) at c.in_ok-take_flag-in-Bool.ensures.takes in
    rw c.in-Bool.is (takes c.args.schema.now ty depth)

pub returns-in_ok-take_leaf_field-in-I8-clause-takes : goal.returns-in_ok-take_leaf_field-in-I8-clause-takes
returns-in_ok-take_leaf_field-in-I8-clause-takes g c ty depth means =
    let takes = rw (to_z-of_z w16 c.args.last c.ranges.last, to_z-of_z w16 c.args.id c.ranges.id) at c.in_ok-take_leaf_field-in-I8.ensures.takes in
    rw c.in-I8.is (takes c.args.schema.now ty depth)

pub returns-in_ok-take_leaf_field-in-I16-clause-takes : goal.returns-in_ok-take_leaf_field-in-I16-clause-takes
returns-in_ok-take_leaf_field-in-I16-clause-takes g c ty depth means =
    let takes = rw (to_z-of_z w16 c.args.last c.ranges.last, to_z-of_z w16 c.args.id c.ranges.id) at c.in_ok-take_leaf_field-in-I16.ensures.takes in
    rw c.in-I16.is (takes c.args.schema.now ty depth)

pub returns-in_ok-take_leaf_field-in-I32-clause-takes : goal.returns-in_ok-take_leaf_field-in-I32-clause-takes
returns-in_ok-take_leaf_field-in-I32-clause-takes g c ty depth means =
    let takes = rw (to_z-of_z w16 c.args.last c.ranges.last, to_z-of_z w16 c.args.id c.ranges.id) at c.in_ok-take_leaf_field-in-I32.ensures.takes in
    rw c.in-I32.is (takes c.args.schema.now ty depth)

pub returns-in_ok-take_leaf_field-in-I64-clause-takes : goal.returns-in_ok-take_leaf_field-in-I64-clause-takes
returns-in_ok-take_leaf_field-in-I64-clause-takes g c ty depth means =
    let takes = rw (to_z-of_z w16 c.args.last c.ranges.last, to_z-of_z w16 c.args.id c.ranges.id) at c.in_ok-take_leaf_field-in-I64.ensures.takes in
    rw c.in-I64.is (takes c.args.schema.now ty depth)

pub returns-in_ok-take_leaf_field-in-Double-clause-takes : goal.returns-in_ok-take_leaf_field-in-Double-clause-takes
returns-in_ok-take_leaf_field-in-Double-clause-takes g c ty depth means =
    let takes = rw (to_z-of_z w16 c.args.last c.ranges.last, to_z-of_z w16 c.args.id c.ranges.id) at c.in_ok-take_leaf_field-in-Double.ensures.takes in
    rw c.in-Double.is (takes c.args.schema.now ty depth)

pub returns-in_ok-take_leaf_field-in-Uuid-clause-takes : goal.returns-in_ok-take_leaf_field-in-Uuid-clause-takes
returns-in_ok-take_leaf_field-in-Uuid-clause-takes g c ty depth means =
    let takes = rw (to_z-of_z w16 c.args.last c.ranges.last, to_z-of_z w16 c.args.id c.ranges.id) at c.in_ok-take_leaf_field-in-Uuid.ensures.takes in
    rw c.in-Uuid.is (takes c.args.schema.now ty depth)

pub returns-in_ok-take_text_field-in-Str-clause-takes : goal.returns-in_ok-take_text_field-in-Str-clause-takes
returns-in_ok-take_text_field-in-Str-clause-takes g c ty depth means =
    let takes = rw (to_z-of_z w16 c.args.last c.ranges.last, to_z-of_z w16 c.args.id c.ranges.id) at c.in_ok-take_text_field-in-Str.ensures.takes in
    rw c.in-Str.is (takes ty depth means)
