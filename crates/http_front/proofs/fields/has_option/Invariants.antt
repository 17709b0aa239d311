use Rattle.std.proofs.Common.{◌≡◌, length}
use Rattle.std.specs.List.{list_any, slice_split}
use Rattle.http_front.specs.Heads.{is_separator, same_word}
use Rattle.http_front.proofs.fields.has_option.Given as goal

-- the parts that are left decide
abbrev pub invariant-parts : goal.invariant-parts
invariant-parts l = list_any (λ word. same_word word l.option) (slice_split is_separator l.rest) ≡ list_any (λ word. same_word word l.option) (slice_split is_separator l.value)

abbrev pub decreases-parts : goal.decreases-parts
decreases-parts l = length l.rest
