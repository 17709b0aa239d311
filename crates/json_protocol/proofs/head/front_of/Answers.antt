use Rattle.std.proofs.Common.{◌≡◌, false, ap, arith, rules, FitsSigned}
use Rattle.std.specs.Prelude.{slice_index}
use Rattle.std.specs.Int.{w32}
use Rattle.std.proofs.lemmas.Int.{to_z-of_z}
use Rattle.json_text.specs.Scan.{is_white}
use Rattle.json_protocol.specs.ReadForms.{head_found}
use Rattle.json_protocol.proofs.head.front_of.Goals as goal

pub returns : goal.returns
returns c =
    let frame = c.args.frame.now in
    let start = c.in_ok-start.start in
    let name = c.in_ok-name in
    let back = c.in_ok-mtype in
    let quote : is_white (slice_index frame start) ≡ false = ap is_white name.ensures.begins in
    let fits : FitsSigned w32 back.seq = search rules in
    rw (to_z-of_z w32 back.seq fits)
    (head_found frame start name.stop back.behind name.name.now back.mtype back.seq (c.in_ok-start.ensures.found quote) (omega (arith, name.ensures.shorter)) name.ensures.found back.ensures.found
    (omega (arith, name.ensures.shorter)) back.ensures.within.0 back.ensures.within.1)
