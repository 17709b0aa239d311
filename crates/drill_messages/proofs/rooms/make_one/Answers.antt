use Rattle.std.proofs.Common.{List, length, ap, ◌∙◌}
use Rattle.drill_messages.specs.Messages.{Fields}
use Rattle.drill_messages.specs.Spellings.{binary_of, compact_of, json_of}
use Rattle.drill_messages.specs.Views.{all_fields}
use Rattle.drill_messages.proofs.Takes.{json_takes}
use Rattle.drill_messages.proofs.rooms.make_one.Goals as goal

pub length_in-requires-2-clause-takes : goal.length_in-requires-2-clause-takes
length_in-requires-2-clause-takes c = json_takes

pub returns-clause-lengths : goal.returns-clause-lengths
unfolding compact_of json_of
returns-clause-lengths c =
    let drawn = c.draw_items-items.ensures.drawn in
    let binary = c.put_frame.ensures.length ∙ ap (λ (is : List Fields). length (binary_of (record { seq = c.args.seq; items = is }))) (ap all_fields c.deref.ensures.0 ∙ drawn) in
    let compact = c.length_in.ensures.length ∙ ap (λ (is : List Fields). length (compact_of (record { seq = c.args.seq; items = is }))) (ap all_fields c.deref-2.ensures.0 ∙ drawn) in
    let json = c.length_in-2.ensures.length ∙ ap (λ (is : List Fields). length (json_of (record { seq = c.args.seq; items = is }))) (ap all_fields c.deref-3.ensures.0 ∙ drawn) in
    λ i. record { binary = binary i; compact = compact i; json = json i }
