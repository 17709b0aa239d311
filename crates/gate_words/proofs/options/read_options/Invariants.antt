use Rattle.std.proofs.Common.{◌≡◌, length}
use Rattle.gate_words.specs.Options.{no_options, options_of, IsInRange}
use Rattle.gate_words.proofs.options.read_options.Given as goal

abbrev pub invariant-options : goal.invariant-options
invariant-options l = record {
  same : options_of l.options l.left ≡ options_of no_options l.words;
  range : IsInRange l.options;
}

abbrev pub decreases-options : goal.decreases-options
decreases-options l = length l.left
