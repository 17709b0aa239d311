use Rattle.std.proofs.Common.{rules, SFits, w32}
use Rattle.std.proofs.lemmas.Int.{to_z-of_z}
use Rattle.std.proofs.lemmas.List.{take_rest}
use Rattle.binary_protocol.specs.Forms.{head_found}
use Rattle.binary_protocol.proofs.forms.head_front.Goals as goal

pub returns : goal.returns
returns c =
    let fits : SFits w32 c.in_ok-seq.seq = search rules in
    rw (to_z-of_z w32 c.in_ok-seq.seq fits)
    (head_found c.args.bytes.now c.in_ok-mtype.mtype c.in_ok-size.size c.in_ok-seq.seq c.in_ok-mtype.ensures.long c.in_ok-mtype.ensures.strict c.in_ok-mtype.ensures.found
    (c.in_ok-size.ensures.0) ((rw take_rest at c.in_ok-seq.ensures).0))
