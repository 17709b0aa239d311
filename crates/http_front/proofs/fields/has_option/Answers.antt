use Rattle.std.proofs.Common.{arith, sym, ◌∙◌, List, ℕ}
use Rattle.std.proofs.lemmas.Grind.{common_steps}
use Rattle.http_front.specs.Heads.{has_option, is_separator, same_word}
use Rattle.http_front.proofs.Naming.{part_has, part_lacks}
use Rattle.http_front.proofs.fields.has_option.Goals as goal

pub returns-then-same_word : goal.returns-then-same_word
unfolding has_option
returns-then-same_word c = part_has (λ (word : List ℕ). same_word word c.args.option.now) is_separator c.parts.rest.now c.in-Some.at _ c.in-Some.ensures.place (sym c.if-same_word.true ∙ c.same_word.ensures) c.parts.invariant

pub parts-preserved : goal.parts-preserved
parts-preserved c = part_lacks (λ (word : List ℕ). same_word word c.args.option.now) is_separator c.parts.rest.now _ c.in-Some.at _ c.in-Some.ensures.place (sym c.if-same_word.false ∙ c.same_word.ensures) c.behind-rest.ensures c.parts.invariant

pub parts-smaller : goal.parts-smaller
unfolding has_option
parts-smaller c = grind (arith, common_steps)
