use Rattle.std.proofs.Common.{◌≡◌, ◌-◌, [], List, Bool, true, false, ap, sym, ◌∙◌, subst}
use Rattle.gate_fan.specs.declared.fan.Target.{Target}
use Rattle.gate_words.specs.Targets.{Adds, are_distinct, targets_of, targets_within}
use Rattle.gate_words.specs.declared.limits.TheConstants.{MOST_TARGETS}
use Rattle.gate_words.proofs.Listing.{added_few, reads_none, reads_twice, reads_all}
use Rattle.gate_words.proofs.targets.read_targets.Goals as goal

pub returns-then-not-branch : goal.returns-then-not-branch
unfolding targets_of
returns-then-not-branch c =
    let all = targets_within (MOST_TARGETS - 1) c.args.word.now in
    let new = c.push_targets.new.targets.items in
    let added : Adds all [] new false =
    subst (λ (b : Bool). Adds all [] new b) c.if-not-branch.true (subst (λ (xs : List Target). Adds all xs new c.in_ok-push_targets.field-0) c.new-list.ensures.items c.in_ok-push_targets.ensures) in
    reads_none all new added

pub returns-then-not-are_distinct : goal.returns-then-not-are_distinct
unfolding targets_of
returns-then-not-are_distinct c =
    let all = targets_within (MOST_TARGETS - 1) c.args.word.now in
    let new = c.push_targets.new.targets.items in
    let added : Adds all [] new true =
    subst (λ (b : Bool). Adds all [] new b) c.if-not-branch.false (subst (λ (xs : List Target). Adds all xs new c.in_ok-push_targets.field-0) c.new-list.ensures.items c.in_ok-push_targets.ensures) in
    let seen : c.are_distinct.result ≡ are_distinct new = c.are_distinct.ensures ∙ ap are_distinct c.as_slice.ensures.value in
    reads_twice all new added (sym seen ∙ c.if-not-are_distinct.true)

pub invariant_of-result : goal.invariant_of-result
invariant_of-result c =
    let all = targets_within (MOST_TARGETS - 1) c.args.word.now in
    let new = c.push_targets.new.targets.items in
    let added : Adds all [] new true =
    subst (λ (b : Bool). Adds all [] new b) c.if-not-branch.false (subst (λ (xs : List Target). Adds all xs new c.in_ok-push_targets.field-0) c.new-list.ensures.items c.in_ok-push_targets.ensures) in
    added_few c.args.word.now new added

pub returns : goal.returns
unfolding targets_of
returns c =
    let all = targets_within (MOST_TARGETS - 1) c.args.word.now in
    let new = c.push_targets.new.targets.items in
    let added : Adds all [] new true =
    subst (λ (b : Bool). Adds all [] new b) c.if-not-branch.false (subst (λ (xs : List Target). Adds all xs new c.in_ok-push_targets.field-0) c.new-list.ensures.items c.in_ok-push_targets.ensures) in
    let seen : c.are_distinct.result ≡ are_distinct new = c.are_distinct.ensures ∙ ap are_distinct c.as_slice.ensures.value in
    reads_all all new added (sym seen ∙ c.if-not-are_distinct.false)
