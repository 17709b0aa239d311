use Rattle.std.proofs.Common.{ℕ, List, ◌++◌, ap, ◌∙◌}
use Rattle.translate_known.proofs.Levels.{if_some}
use Rattle.translate_quick.proofs.passing.take_message.Goals as goal

pub returns-clause-passes : goal.returns-clause-passes
returns-clause-passes g c =
    if_some _ _ c.take_body.result (λ (n : ℕ) passes body means s stands.
    let x = passes body means s stands in (
      x.0,
      x.1,
      x.2,
      x.3,
      x.4,
      x.5,
      x.6 ∙ ap (λ (front : List ℕ). front ++ x.3) c.front-to.ensures.spells,
    )) c.take_body.ensures.passes
