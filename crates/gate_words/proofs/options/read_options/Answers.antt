use Rattle.std.proofs.Common.{◌≡◌, ◌∷◌, Some, rules}
use Rattle.gate_words.specs.Options.{with_option, IsInRange}
use Rattle.gate_words.proofs.Reading.{goes}
use Rattle.gate_words.proofs.options.read_options.Goals as goal

pub options-preserved : goal.options-preserved
options-preserved c =
    let first : c.options.left.now ≡ c.in-Some.name.now ∷ c.in-Some.values.now = search rules in
    let second : c.in-Some.values.now ≡ c.in-Some-split_first.value.now ∷ c.in-Some-split_first.rest.now = search rules in
    let taken : Some c.in-Some-2.more ≡ with_option c.options.options c.in-Some.name.now c.in-Some-split_first.value.now = search rules in
    let ranged : IsInRange c.in-Some-2.more = search rules in
    record {
      same = goes _ c.options.options c.in-Some-2.more c.options.left.now c.in-Some.values.now c.in-Some-split_first.rest.now c.in-Some.name.now c.in-Some-split_first.value.now first second taken c.options.invariant.same;
      range = ranged;
    }
