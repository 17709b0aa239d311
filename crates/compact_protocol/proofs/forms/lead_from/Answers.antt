use Rattle.std.proofs.Common.{rules, FitsSigned, arith, sym}
use Rattle.std.specs.Int.{w16}
use Rattle.std.proofs.lemmas.Int.{to_z-of_z}
use Rattle.compact_protocol.specs.Forms.{stop_there, short_there, long_there}
use Rattle.compact_protocol.proofs.forms.lead_from.Goals as goal
use Rattle.std.proofs.lemmas.Grind.{common_steps}

pub returns-then-step-gt0 : goal.returns-then-step-gt0
returns-then-step-gt0 c = λ good.
    let fits : FitsSigned w16 c.in_ok-id.id = search rules in
    rw (to_z-of_z w16 c.in_ok-id.id fits)
    (rw (c.lead_of.ensures) (short_there c.args.frame.now c.args.at c.args.last c.in_ok-id.id (omega arith) (omega arith) (sym (rw (to_z-of_z w16 c.args.last c.ranges.last) at c.in_ok-id.ensures)) (rw (c.lead_of.ensures) at good)))

pub returns-then-byte-eq0 : goal.returns-then-byte-eq0
returns-then-byte-eq0 c = λ good. stop_there c.args.frame.now c.args.at c.args.last (omega arith) c.if-byte-eq0.true

pub returns : goal.returns
returns c = λ good.
    let fits : FitsSigned w16 c.in_ok-id-2.id = search rules in
    rw (to_z-of_z w16 c.in_ok-id-2.id fits)
    (rw (c.lead_of-2.ensures)
    (long_there c.args.frame.now c.args.at c.in_ok-id-2.behind c.args.last c.in_ok-id-2.id (omega arith) (omega arith) (omega arith) c.in_ok-id-2.ensures (rw (c.lead_of-2.ensures) at good)))

pub returns-in_err-id-2 : goal.returns-in_err-id-2
returns-in_err-id-2 c = grind (arith, common_steps)

pub returns-in_err-id : goal.returns-in_err-id
returns-in_err-id c = grind (arith, common_steps)
