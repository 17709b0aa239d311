use Rattle.std.proofs.Common.{◌-◌, take, ◌++◌, ap, ◌∙◌, arith}
use Rattle.std.proofs.lemmas.Slice.{take-put_mid, drop-put_mid}
use Rattle.kept_forms.proofs.renewing.renew.Goals as goal
use Rattle.std.proofs.lemmas.Grind.{common_steps}

pub returns-clause-rest : goal.returns-clause-rest
returns-clause-rest g c =
    drop-put_mid c.args.at (c.args.behind - c.args.at) c.args.cells.now c.copy_from_slice.new.self c.args.behind (omega (arith, c.requires.0)) (omega (arith, c.requires.0, c.requires.1)) (omega (arith, c.copy_from_slice.auto.self))

pub returns-clause-spells : goal.returns-clause-spells
returns-clause-spells g c _ opening nest mark known calls t there =
    let own = c.no_pairs-size.ensures.spells opening nest mark known calls t there in (
      own.0,
      take-put_mid c.args.at (c.args.behind - c.args.at) c.args.cells.now c.copy_from_slice.new.self c.args.behind (omega (arith, c.copy_from_slice.auto.self, c.requires.0)) (omega (arith, c.requires.0, c.requires.1))
          ∙ ap (λ xs. take c.args.at c.args.cells.now ++ xs) (c.copy_from_slice.ensures.after ∙ own.1),
    )

pub copy_from_slice-requires : goal.copy_from_slice-requires
copy_from_slice-requires g c = grind (arith, common_steps)

pub slice_bounds-copy_from_slice-end-2 : goal.slice_bounds-copy_from_slice-end-2
slice_bounds-copy_from_slice-end-2 g c = grind (arith, common_steps)
