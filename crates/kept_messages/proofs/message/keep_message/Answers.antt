use Rattle.std.proofs.Common.{◌≡◌, ℕ, List, [], ◌∷◌, ◌++◌, length, None, arith, refl, sym, ap, ◌∙◌}
use Rattle.type_walk.specs.declared.levels.Level.{Level}
use Rattle.protocol_traits.specs.declared.forms.Opening.TheVariants as openings
use Rattle.type_walk.specs.Positions.{standing}
use Rattle.translate_verdicts.specs.Positions.{typed}
use Rattle.translate_verdicts.specs.Body.{going, source_in, target_in, whole}
use Rattle.translate_known.specs.Quick.{body_type}
use Rattle.translate_verdicts.proofs.Whole.{whole_end}
use Rattle.translate_known.proofs.Levels.{body_level}
use Rattle.std.proofs.lemmas.List.{take_all}
use Rattle.std.specs.Prelude.{take}
use Rattle.kept_messages.proofs.message.keep_message.Goals as goal

pub returns-then-behind-frame-clause-passes : goal.returns-then-behind-frame-clause-passes
returns-then-behind-frame-clause-passes g c ends body means s stands =
    let source = source_in g.R.ReadRules in
    let target = target_in g.W.WireWrite in
    let d = c.args.schema.now in
    let last : c.in-Some.behind ≡ length c.args.frame.now = omega (arith, c.if-behind-frame.true) in
    let keeps = rw last at c.in-Some.ensures.keeps (body_type body) means in
    let x = keeps [] [] refl s g.W.WireWrite.begun stands g.met.W.FormWrite.starts_at in
    let ended = going x.0 (standing d []) x.1 0 None x.2 in (
      x.0,
      x.1,
      standing d [],
      x.2,
      ap (λ (level : Level). whole source typed target (going s (standing d (level ∷ [])) g.W.WireWrite.begun 1 None [])) (body_level body)
          ∙ (x.6 [] ∙ whole_end source typed target g.R.ReadRules.pays ended refl),
      g.met.R.FormRead.ended x.0 c.args.frame.now openings.Old x.3,
      sym (take_all (length c.args.frame.now) c.keep_fields.new.cells (omega (arith, c.in-Some.ensures.mirrors)))
          ∙ (x.5 ∙ ap (λ (front : List ℕ). take c.args.at front ++ x.2) c.copy_from_slice.ensures.after),
    )
