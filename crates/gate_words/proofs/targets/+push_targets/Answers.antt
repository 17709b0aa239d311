use Rattle.std.proofs.Common.{IfOk, ◌≡◌, ◌+◌, ◌-◌, ◌<◌, ◌≤◌, false, true, length, take, drop, List, ℕ, Option, arith, sym, subst}
use Rattle.std.proofs.lemmas.Result.{IfOk-weaker}
use Rattle.std.proofs.lemmas.List.{take_all, length-drop}
use Rattle.gate_fan.specs.declared.fan.Target.{Target}
use Rattle.peer_addresses.specs.Places.{place}
use Rattle.gate_words.specs.Targets.{Adds, AddsOne, target_of, targets_within}
use Rattle.gate_words.proofs.Listing.{adds_alone, adds_nothing, adds_both, last_one, one_of_more}
use Rattle.gate_words.proofs.targets.+push_targets.Goals as goal

-- there is no comma
pub returns-then-at-word : goal.returns-then-at-word
returns-then-at-word t c =
    let word = c.args.word.now in
    let over : length word ≤ place 44 word = omega (arith, c.if-at-word.true, c.place-at.ensures) in
    let last = last_one c.args.more word over in
    let old = c.args.targets.now.items in
    let new = c.push_target-then-at-word.new.targets.items in
    IfOk-weaker c.push_target-then-at-word.result (AddsOne (target_of word) old new) (Adds (targets_within c.args.more word) old new)
    (λ done p. subst (λ (o : Option (List Target)). Adds o old new done) (sym last) (adds_alone (target_of word) old new done p)) c.push_target-then-at-word.ensures

-- what stands before the comma is no target
pub returns-then-not-branch : goal.returns-then-not-branch
returns-then-not-branch t c =
    let word = c.args.word.now in
    let under : place 44 word < length word = omega (arith, c.if-at-word.false, c.place-at.ensures) in
    let one = one_of_more c.args.more word c.if-more-eq0.false under in
    let old = c.args.targets.now.items in
    let new = c.push_target-2.new.targets.items in
    let added : AddsOne (target_of (take (place 44 word) word)) old new false =
    subst (λ (n : ℕ). AddsOne (target_of (take n word)) old new false) c.place-at.ensures (subst (λ b. AddsOne (target_of (take c.place-at.result word)) old new b) c.if-not-branch.true c.in_ok-push_target.ensures) in
    subst (λ (o : Option (List Target)). Adds o old new false) (sym one) (adds_nothing (target_of (take (place 44 word) word)) (targets_within (c.args.more - 1) (drop (place 44 word + 1) word)) old new new added)

-- a target, and those behind the comma
pub returns : goal.returns
returns t c =
    let word = c.args.word.now in
    let under : place 44 word < length word = omega (arith, c.if-at-word.false, c.place-at.ensures) in
    let one = one_of_more c.args.more word c.if-more-eq0.false under in
    let old = c.args.targets.now.items in
    let mid = c.push_target-2.new.targets.items in
    let new = c.push_targets.new.targets.items in
    let added : AddsOne (target_of (take (place 44 word) word)) old mid true =
    subst (λ (n : ℕ). AddsOne (target_of (take n word)) old mid true) c.place-at.ensures (subst (λ b. AddsOne (target_of (take c.place-at.result word)) old mid b) c.if-not-branch.false c.in_ok-push_target.ensures) in
    let rest = targets_within (c.args.more - 1) (drop (place 44 word + 1) word) in
    let at = c.place-at.result + 1 in
    let all : take (length word - at) (drop at word) ≡ drop at word = take_all (length word - at) (drop at word) (omega (arith, length-drop at word)) in
    IfOk-weaker c.push_targets.result (Adds rest mid new) (Adds (targets_within c.args.more word) old new)
    (λ done q. subst (λ (o : Option (List Target)). Adds o old new done) (sym one) (adds_both (target_of (take (place 44 word) word)) rest old mid new done added q))
    (subst (λ (n : ℕ). IfOk c.push_targets.result (Adds (targets_within (c.args.more - 1) (drop (n + 1) word)) mid new)) c.place-at.ensures
    (subst (λ (xs : List ℕ). IfOk c.push_targets.result (Adds (targets_within (c.args.more - 1) xs) mid new)) all c.push_targets.ensures))
