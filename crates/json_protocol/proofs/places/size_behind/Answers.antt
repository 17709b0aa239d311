use Rattle.std.proofs.Common.{arith, rules, pos, ◌≤ℤ◌, FitsSigned}
use Rattle.std.specs.Int.{w64}
use Rattle.std.proofs.lemmas.Bool.Decides.{nat_tests}
use Rattle.std.proofs.lemmas.Int.{to_z-of_z}
use Rattle.json_protocol.proofs.PlaceWords.{size_found, size_abs}
use Rattle.json_protocol.proofs.places.size_behind.Goals as goal

pub returns : goal.returns
returns c =
    let fits : FitsSigned w64 c.in_ok-size.size = search rules in
    let low : pos 0 ≤ℤ c.in_ok-size.size = grind (arith, nat_tests, c.if-size-lt0.false) in
    let high : c.in_ok-size.size ≤ℤ pos 2147483647 = grind (arith, nat_tests, c.if-size-gt2147483647.false) in
    rw (to_z-of_z w64 c.in_ok-size.size fits)
    (size_found c.args.frame.now c.args.at c.in_ok-begin.begin c.in_ok-size.behind c.in_ok-size.size _ c.in_ok-begin.ensures c.in_ok-size.ensures.begins c.in_ok-size.ensures.inside c.in_ok-size.ensures.found low high (size_abs c.in_ok-size.size low))
