use Rattle.std.proofs.Common.{◌≡◌, [], ◌∷◌, length, None, arith, refl, ap, ◌∙◌}
use Rattle.protocol_traits.specs.declared.forms.Opening.TheVariants as openings
use Rattle.type_walk.specs.declared.levels.Level.{Level}
use Rattle.type_walk.specs.Positions.{standing}
use Rattle.translate_verdicts.specs.Positions.{typed}
use Rattle.translate_verdicts.specs.Body.{going, source_in, target_in, whole}
use Rattle.translate_verdicts.proofs.Whole.{whole_end}
use Rattle.translate_known.specs.Quick.{body_type}
use Rattle.translate_known.proofs.Levels.{body_level}
use Rattle.translate_quick.proofs.passing.take_body.Goals as goal

pub returns-clause-passes : goal.returns-clause-passes
returns-clause-passes g c body means s stands =
    let source = source_in g.R.ReadRules in
    let target = target_in g.W.WireWrite in
    let d = c.args.schema.now in
    let last : c.in_ok-read.read ≡ length c.args.frame.now = omega (arith, c.in_ok-read.ensures.past) in
    let takes = rw last at c.in_ok-read.ensures.takes (body_type body) means in
    let x = takes [] [] refl s g.W.WireWrite.begun stands g.met.W.FormWrite.starts_at in
    let ended = going x.0 (standing d []) x.1 0 None x.2 in (
      x.0,
      x.1,
      standing d [],
      x.2,
      ap (λ (level : Level). whole source typed target (going s (standing d (level ∷ [])) g.W.WireWrite.begun 1 None [])) (body_level body)
          ∙ (x.6 [] ∙ whole_end source typed target g.R.ReadRules.pays ended refl),
      g.met.R.FormRead.ended x.0 c.args.frame.now openings.Old x.3,
      x.5,
    )
