use Rattle.std.proofs.Common.{◌≡◌, ◌+◌, ◌-◌, List, ℕ, length, take, drop, sym, ◌∙◌, ap, arith}
use Rattle.std.proofs.lemmas.List.{take_all, length-drop}
use Rattle.peer_addresses.specs.Places.{place}
use Rattle.peer_addresses.specs.Names.{last_label}
use Rattle.peer_addresses.proofs.Labels.{whole_label, next_label}
use Rattle.peer_addresses.proofs.name.last_label.Goals as goal

pub overflow_add-label : goal.overflow_add-label
overflow_add-label c = omega (arith, c.labels-test.true, c.labels.invariant.fits)

pub labels-preserved : goal.labels-preserved
labels-preserved c =
    let label = c.labels.label.now in
    let next = drop (c.labels.at + 1) label in
    let whole : take (length label - (c.labels.at + 1)) next ≡ next = take_all (length label - (c.labels.at + 1)) next (omega (arith, length-drop (c.labels.at + 1) label)) in
    let found : c.labels.at ≡ place 46 label = c.labels.invariant.found in
    let same : last_label label ≡ last_label next = next_label label (omega (arith, c.labels-test.true, found)) ∙ ap (λ (n : ℕ). last_label (drop (n + 1) label)) (sym found) in
    record {
      same = ap last_label whole ∙ (sym same ∙ c.labels.invariant.same);
      found = c.place-at-in-labels.ensures;
      fits = omega (arith, ap (λ (xs : List ℕ). length xs) whole, length-drop (c.labels.at + 1) label, c.labels.invariant.fits);
    }

pub returns : goal.returns
returns c = sym (whole_label c.labels.label.now (omega (arith, c.labels-test.false, c.labels.invariant.found))) ∙ c.labels.invariant.same
