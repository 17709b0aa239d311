use Rattle.std.proofs.Common.{rules, FitsSigned}
use Rattle.std.specs.Int.{w64}
use Rattle.std.proofs.lemmas.Int.{to_z-of_z}
use Rattle.json_text.proofs.PlainInts.{from_zero, from_minus_one}
use Rattle.json_text.proofs.places.signed.Goals as goal

pub returns-clause-plus : goal.returns-clause-plus
returns-clause-plus c =
    let fits : FitsSigned w64 c.cast_signed.result = search rules in
    λ none. rw (to_z-of_z w64 c.cast_signed.result fits, c.cast_signed.ensures, none) (from_zero c.args.rank c.requires)

pub returns-clause-minus : goal.returns-clause-minus
returns-clause-minus c =
    let fits : FitsSigned w64 c.cast_signed.result = search rules in
    λ one. rw (to_z-of_z w64 c.cast_signed.result fits, c.cast_signed.ensures, one) (from_minus_one c.args.rank c.requires)
