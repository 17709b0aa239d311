use Rattle.std.proofs.Common.{◌≤ℤ◌, pos, arith}
use Rattle.std.proofs.lemmas.Bool.Decides.{nat_tests}
use Rattle.protocol_traits.specs.declared.fault.Reason.TheVariants as reasons
use Rattle.json_protocol.specs.ReadForms.{front_found}
use Rattle.json_protocol.proofs.PlaceWords.{int_found, int_solid}
use Rattle.json_protocol.proofs.head.name_place.Goals as goal

pub returns-clause-found : goal.returns-clause-found
returns-clause-found c = λ solid.
    let d = c.in_ok-value in
    let frame = c.args.frame.now in
    let version = c.in_ok-version.version in
    let low : pos 1 ≤ℤ d.value = grind (arith, nat_tests, c.if-value-ne1.false) in
    let high : d.value ≤ℤ pos 1 = grind (arith, nat_tests, c.if-value-ne1.false) in
    let found = int_found frame version d.«end» d.value (pos 1) (pos 1) reasons.BadVersion d.ensures.inside d.ensures.found low high in
    front_found frame version d.«end» c.in_ok-start.start d.value c.in_ok-version.ensures (int_solid frame version d.ensures.begins) found c.in_ok-start.ensures solid
