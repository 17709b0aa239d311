use Rattle.std.proofs.Common.{◌≡◌, ◌≤ℤ◌, pos, negsuc, ap, ◌∙◌, arith, rules, FitsSigned}
use Rattle.std.specs.Int.{w32, w64}
use Rattle.std.proofs.lemmas.Bool.Decides.{nat_tests}
use Rattle.std.proofs.lemmas.Int.{to_z-of_z}
use Rattle.std.proofs.lemmas.Grind.{common_steps}
use Rattle.protocol_traits.specs.declared.fault.Reason.TheVariants as reasons
use Rattle.json_protocol.specs.Head.{type_of}
use Rattle.json_protocol.specs.ReadForms.{back_found}
use Rattle.json_protocol.proofs.PlaceWords.{int_found, int_solid}
use Rattle.json_protocol.proofs.head.behind_name.Goals as goal

pub returns-clause-within : goal.returns-clause-within
returns-clause-within c =
    let code = c.in_ok-code.ensures in
    let number = c.in_ok-number.ensures in
    let behind = c.in_ok-behind.ensures in
    (omega (arith, code.1, c.in_ok-kind.ensures.inside.0, number.1, c.in_ok-seq.ensures.inside.0, behind.1), behind.2)

pub returns-clause-found : goal.returns-clause-found
returns-clause-found c =
    let frame = c.args.frame.now in
    let kind = c.in_ok-kind in
    let seq = c.in_ok-seq in
    let number = c.in_ok-number.number in
    let low : pos 1 ≤ℤ kind.kind = grind (arith, nat_tests, c.if-kind-lt1.false) in
    let high : kind.kind ≤ℤ pos 4 = grind (arith, nat_tests, c.if-kind-gt4.false) in
    let least : negsuc 2147483647 ≤ℤ seq.seq = grind (arith, nat_tests, c.if-seq-ltminus2147483648.false) in
    let most : seq.seq ≤ℤ pos 2147483647 = grind (arith, nat_tests, c.if-seq-gt2147483647.false) in
    let wide : FitsSigned w64 seq.seq = search rules in
    let fits : FitsSigned w32 seq.seq = record { sfits = grind (arith, nat_tests, least, most) } in
    let typed = int_found frame c.in_ok-code.code kind.«end» kind.kind (pos 1) (pos 4) reasons.BadType kind.ensures.inside kind.ensures.found low high in
    let numbered = int_found frame number seq.«end» seq.seq (negsuc 2147483647) (pos 2147483647) reasons.BadNumber seq.ensures.inside seq.ensures.found least most in
    let whole : FitsSigned w64 kind.kind = search rules in
    let is : c.type_of.result ≡ type_of kind.kind = c.type_of.ensures ∙ ap type_of (to_z-of_z w64 kind.kind whole) in
    rw (to_z-of_z w64 seq.seq wide, to_z-of_z w32 seq.seq fits)
    (back_found frame c.args.at c.in_ok-code.code kind.«end» number seq.«end» c.in_ok-behind.behind kind.kind seq.seq c.type_of.result is c.in_ok-code.ensures (int_solid frame c.in_ok-code.code kind.ensures.begins) typed
    c.in_ok-number.ensures (int_solid frame number seq.ensures.begins) numbered c.in_ok-behind.ensures)

pub returns-in_err-seq-clause-found : goal.returns-in_err-seq-clause-found
returns-in_err-seq-clause-found c = grind (arith, common_steps)

pub returns-in_err-behind-clause-found : goal.returns-in_err-behind-clause-found
returns-in_err-behind-clause-found c = grind (arith, common_steps)

pub returns-in_err-seq-clause-within : goal.returns-in_err-seq-clause-within
returns-in_err-seq-clause-within c = grind (arith, common_steps)

pub returns-in_err-behind-clause-within : goal.returns-in_err-behind-clause-within
returns-in_err-behind-clause-within c = grind (arith, common_steps)
