use Rattle.std.proofs.Common.{arith, ◌≡◌, w64, SFits, rules, ◌-◌, length, take, drop, length-drop}
use Rattle.std.proofs.lemmas.List.{length-take-le}
use Rattle.std.proofs.lemmas.Int.{to_z-of_z}
use Rattle.json_text.specs.Int.{within, integer}
use Rattle.json_text.proofs.Ints.{int_to, told_run}
use Rattle.json_text.proofs.int.read_int.Goals as goal

pub returns-clause-exact : goal.returns-clause-exact
returns-clause-exact c =
    let stop = c.int_end-end.result in
    let bytes = c.args.bytes.now in
    let at = c.args.at in
    let run = take (stop - at) (drop at bytes) in
    let long : length run ≡ stop - at = length-take-le (stop - at) (drop at bytes) (omega (arith, length-drop at bytes)) in
    let e = int_to c.args.low c.args.high bytes at stop c.int_end-end.ensures.value in
    let t = told_run (within c.args.low c.args.high (integer run)) c.args.low run (drop at bytes) at stop (length bytes) (omega arith) (omega (arith, length-drop at bytes)) in
    let lo : SFits w64 c.args.low = search rules in
    let hi : SFits w64 c.args.high = search rules in
    rw (e, c.told.ensures.value, c.within.ensures.value, c.integer.ensures, c.can_grow.ensures, to_z-of_z w64 c.args.low lo, to_z-of_z w64 c.args.high hi) t
