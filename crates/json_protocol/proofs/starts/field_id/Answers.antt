use Rattle.std.proofs.Common.{pos, ◌≤ℤ◌, arith, rules, FitsSigned}
use Rattle.std.specs.Int.{w16, w64}
use Rattle.std.proofs.lemmas.Bool.Decides.{nat_tests}
use Rattle.std.proofs.lemmas.Int.{to_z-of_z}
use Rattle.protocol_traits.specs.declared.fault.Reason.TheVariants as reasons
use Rattle.json_protocol.specs.Values.{i16_low}
use Rattle.json_protocol.proofs.starts.field_id.Goals as goal

pub returns-clause-found : goal.returns-clause-found
returns-clause-found c =
    let d = c.in_ok-id in
    let low : i16_low ≤ℤ d.id = grind (arith, nat_tests, c.if-id-ltminus32768.false) in
    let high : d.id ≤ℤ pos 32767 = grind (arith, nat_tests, c.if-id-gt32767.false) in
    let wide : FitsSigned w64 d.id = search rules in
    let fits : FitsSigned w16 d.id = record { sfits = grind (arith, nat_tests, low, high) } in
    rw (to_z-of_z w64 d.id wide, to_z-of_z w16 d.id fits) (d.ensures.found reasons.BadId i16_low (pos 32767) low high)
