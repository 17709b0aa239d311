use Rattle.std.proofs.Common.{arith, rules, ◌≡◌, ◌∙◌, Some, ap, subst}
use Rattle.std.specs.List.{slice_get}
use Rattle.std.proofs.lemmas.Grind.{common_steps}
use Rattle.stream_messages.specs.Slots.{fresh_lanes, restarted}
use Rattle.stream_messages.proofs.Sparing.{restarted_fresh, one_more_of}
use Rattle.stream_messages.proofs.slots.Slots.open.Goals as goal

pub loop-alloc-preserved : goal.loop-alloc-preserved
loop-alloc-preserved c =
    let fresh : c.in_ok-new.field-0.value ≡ fresh_lanes c.args.wrapping = search rules in
    record {
      within = search rules;
      capacity = search rules;
      each = λ i x is.
          one_more_of (λ b. restarted b.value ≡ fresh_lanes c.args.wrapping) c.loop-alloc.spare.items c.in_ok-new.field-0 c.loop-alloc.invariant.each (ap restarted fresh ∙ restarted_fresh c.args.wrapping) i x
          (subst (λ xs. slice_get xs i ≡ Some x) c.push_reserved.ensures.items is);
    }

pub returns : goal.returns
returns c = grind (arith, common_steps)
