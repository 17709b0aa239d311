use Rattle.std.proofs.Common.{◌≡◌, drop}
use Rattle.idl_consts.specs.Fitting.{fits_template}
use Rattle.idl_consts.proofs.fitting.fits_template.Given as goal

abbrev pub invariant-loop-letter : goal.invariant-loop-letter
invariant-loop-letter l = fits_template (drop l.letter-index l.template) l.rest ≡ fits_template l.template l.text
