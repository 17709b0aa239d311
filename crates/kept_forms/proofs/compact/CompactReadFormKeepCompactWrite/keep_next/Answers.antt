use Rattle.std.proofs.Common.{◌+◌, pos, rules, FitsSigned, arith, sym, Some}
use Rattle.std.specs.Int.{w16}
use Rattle.std.proofs.lemmas.Int.{to_z-of_z}
use Rattle.protocol_traits.specs.declared.forms.Lead.TheVariants as leads
use Rattle.compact_protocol.specs.Forms.{field_seen, long_there, short_there, stop_there}
use Rattle.kept_forms.proofs.Beginnings.{next_kept}
use Rattle.kept_forms.proofs.compact.CompactReadFormKeepCompactWrite.keep_next.Goals as goal

pub returns-then-byte-ge-STEPS-clause-keeps : goal.returns-then-byte-ge-STEPS-clause-keeps
returns-then-byte-ge-STEPS-clause-keeps c =
    let frame = c.args.frame.now in
    let at = c.args.at in
    let last = c.args.last in
    let id = c.in_ok-id.id in
    let fits : FitsSigned w16 id = search rules in
    let next = sym (rw (to_z-of_z w16 last c.ranges.last) at c.in_ok-id.ensures) in
    let steps = field_seen frame at c.args.opening last (Some (c.lead_of.result, id, at + 1)) (λ good. rw (c.lead_of.ensures) (short_there frame at last id (omega arith) (omega arith) next (rw (c.lead_of.ensures) at good))) in
    rw (to_z-of_z w16 id fits) (next_kept frame at (at + 1) c.args.opening last id c.lead_of.result c.type_inv.frame (λ good. search rules) (λ long. absurd (omega (arith, long))) steps)

pub returns-then-byte-eq0-clause-keeps : goal.returns-then-byte-eq0-clause-keeps
returns-then-byte-eq0-clause-keeps c =
    let frame = c.args.frame.now in
    let at = c.args.at in
    let last = c.args.last in
    let steps = field_seen frame at c.args.opening last (Some (leads.Stop, pos 0, at + 1)) (λ good. stop_there frame at last (omega arith) c.if-byte-eq0.true) in
    next_kept frame at (at + 1) c.args.opening last (pos 0) leads.Stop c.type_inv.frame (λ good. search rules) (λ long. absurd (omega (arith, long))) steps

pub returns-clause-keeps : goal.returns-clause-keeps
returns-clause-keeps c =
    let frame = c.args.frame.now in
    let at = c.args.at in
    let last = c.args.last in
    let id = c.in_ok-id-2.id in
    let behind = c.in_ok-id-2.behind in
    let fits : FitsSigned w16 id = search rules in
    let steps = field_seen frame at c.args.opening last (Some (c.lead_of-2.result, id, behind)) (λ good. rw (c.lead_of-2.ensures) (long_there frame at behind last id (omega arith) (omega arith) (omega arith) c.in_ok-id-2.ensures (rw (c.lead_of-2.ensures) at good))) in
    let own = rw (to_z-of_z w16 last c.ranges.last, to_z-of_z w16 id fits) at (c.is_long_id.ensures c.if-not-is_long_id.false) in
    rw (to_z-of_z w16 id fits) (next_kept frame at behind c.args.opening last id c.lead_of-2.result c.type_inv.frame (λ good. search rules) (λ long. own) steps)
