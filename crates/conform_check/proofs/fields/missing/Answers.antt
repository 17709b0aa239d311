use Rattle.std.proofs.Common.{◌≡◌, false, sym, ◌∙◌, arith}
use Rattle.type_tables.specs.Structs.{fields_of}
use Rattle.conform_check.specs.Breaches.{is_missing}
use Rattle.conform_check.proofs.Declared.{all_looked, is_first, none_left, not_missing, not_this, within_widest}
use Rattle.conform_check.proofs.fields.missing.Goals as goal
use Rattle.conform_check.proofs.fields.missing.Goals.{then-stands_at, else-stands_at+else-is_missing}

pub returns-in_default : goal.returns-in_default
returns-in_default c =
    let fields = fields_of c.args.schema.now.structs c.args.s.0 in
    sym (none_left fields c.loop-place.place c.args.seen.now (rw c.in_default.is at (sym c.field_at.ensures.value))) ∙ c.loop-place.invariant

pub returns-then-is_missing : goal.returns-then-is_missing
returns-then-is_missing c =
    let fields = fields_of c.args.schema.now.structs c.args.s.0 in
    let here = rw c.in-Some.is at (sym c.field_at.ensures.value) in
    c.id_of.ensures ∙ sym (is_first fields c.loop-place.place c.in-Some.field.now c.args.seen.now here (sym c.is_missing.ensures ∙ c.if-is_missing.true)) ∙ c.loop-place.invariant

pub returns : goal.returns
returns c =
    let fields = fields_of c.args.schema.now.structs c.args.s.0 in
    sym (all_looked fields c.loop-place.place c.args.seen.now (omega (arith, within_widest c.args.schema.now.structs c.args.s.0, c.requires.width, c.loop-place-test.false))) ∙ c.loop-place.invariant

pub loop-place-preserved : goal.loop-place-preserved
loop-place-preserved c =
    let fields = fields_of c.args.schema.now.structs c.args.s.0 in
    let here = rw c.in-Some.is at (sym c.field_at.ensures.value) in
    let there : is_missing c.in-Some.field.now c.args.seen.now ≡ false = elim c.if-stands_at.branch [
      | then-stands_at w ↦ not_missing c.in-Some.field.now c.args.seen.now (c.stands_at.ensures.stood w.if-stands_at.true)
      | else-stands_at+else-is_missing w ↦ sym w.is_missing.ensures ∙ w.if-is_missing.false
    ] in
    sym (not_this fields c.loop-place.place c.in-Some.field.now c.args.seen.now here there) ∙ c.loop-place.invariant
