use Rattle.std.proofs.Common.{◌≡◌, ◌∙◌, sym, ℕ, ◌<◌, List, [], ◌∷◌, length, drop, drop-cons, false, refl, arith}
use Rattle.idl_consts.specs.Fitting.{fits_template}
use Rattle.idl_consts.proofs.fitting.fits_template.Goals as goal
use Rattle.std.proofs.lemmas.Grind.{common_steps}

too_short : (letters rest : List ℕ) (i : ℕ) → i < length letters → length rest ≡ 0 → fits_template (drop i letters) rest ≡ false
too_short letters [] i h e = rw (drop-cons letters i 0) refl
too_short letters (b ∷ bs) i h e = absurd (omega arith)

pub returns-in-None : goal.returns-in-None
returns-in-None c = sym (too_short c.args.template.now c.loop-letter.rest.now c.loop-letter.letter-index c.loop-letter-test.true c.in-None.ensures.cases) ∙ c.loop-letter.invariant

pub returns-then-not-fits_letter : goal.returns-then-not-fits_letter
returns-then-not-fits_letter c = grind (arith, common_steps)

pub returns : goal.returns
returns c = grind (arith, common_steps)

pub loop-letter-preserved : goal.loop-letter-preserved
loop-letter-preserved c = grind (arith, common_steps)
