use Rattle.std.proofs.Common.{◌+◌, ◌++◌, map, take, ap, ◌∙◌}
use Rattle.json_text.specs.Digits.{parted}
use Rattle.json_text.proofs.DigitLanes.{fours_below, pairs_below, sixteen}
use Rattle.json_text.proofs.lay.lay_sixteen.Goals as goal

pub pairs-requires : goal.pairs-requires
pairs-requires c = rw c.fours.ensures (fours_below c.args.value c.requires.few)

pub digits-requires : goal.digits-requires
digits-requires c = rw (c.pairs.ensures, c.fours.ensures) (pairs_below _ (fours_below c.args.value c.requires.few))

pub returns-clause-laid : goal.returns-clause-laid
returns-clause-laid c =
    let chain = c.digits.ensures ∙ ap (λ xs. map (λ n. 48 + n) (parted 10 xs)) (c.pairs.ensures ∙ ap (parted 100) c.fours.ensures) ∙ sixteen c.args.value c.requires.few in
    c.lay.ensures.laid ∙ ap (λ xs. take c.args.to c.args.cells.now ++ xs) chain
