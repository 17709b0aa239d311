use Rattle.std.proofs.Common.{◌-◌, ◌≤◌, arith}
use Rattle.std.specs.Prelude.{slice_index}
use Rattle.std.specs.Int.{w64}
use Rattle.std.proofs.lemmas.Int.{to_z_pos}
use Rattle.json_text.proofs.PlainInts.{digit_most, one_digit_there}
use Rattle.json_text.proofs.places.plain_small_int.Goals as goal

pub returns-then-is_lone_digit-clause-found : goal.returns-then-is_lone_digit-clause-found
returns-then-is_lone_digit-clause-found c =
    let d = c.is_lone_digit.ensures in
    let lone = c.if-is_lone_digit.true in
    let nine : slice_index c.args.bytes.now c.args.at ≤ 57 = digit_most (slice_index c.args.bytes.now c.args.at) (d.digit lone) in
    rw (to_z_pos w64 (slice_index c.args.bytes.now c.args.at - 48) (omega (arith, nine)))
    (λ low high a b. one_digit_there c.args.bytes.now c.args.at low high (d.inside lone) (d.digit lone) (d.run lone) a b)
