use Rattle.std.proofs.Common.{◌+◌, ◌∷◌, [], ◌++◌, take, sym, ap, ◌∙◌}
use Rattle.std.specs.Int.{w64}
use Rattle.std.proofs.lemmas.Int.{to_z-of_z}
use lib.IntN.{nat_abs}
use Rattle.json_protocol.proofs.LaidWords.{one_digit, short_head}
use Rattle.json_protocol.proofs.lay.lay_short_head.Goals as goal

pub returns-clause-laid : goal.returns-clause-laid
returns-clause-laid c =
    short_head c.args.cells.now c.lay-name.new.cells c.lay.new.cells _ c.args.to c.lay-name.result c.lay.result _ c.args.id c.lay-name.ensures.laid (c.lay.ensures.laid ∙ ap (λ name. take c.lay-name.result c.lay-name.new.cells ++ name) c.quoted_name.ensures.name)
    (one_digit c.args.id c.requires.digit.0 c.requires.digit.1 ∙ ap (λ z. (48 + nat_abs z) ∷ []) (sym (to_z-of_z w64 c.args.id c.ranges.id)))
