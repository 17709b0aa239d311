use Rattle.std.proofs.Common.{◌≡◌, ◌<◌, refl, sym, ap, ◌∙◌, subst, arith}
use Rattle.http_front.specs.Fronts.{Front, wanted_in}
use Rattle.http_front.specs.declared.stage.Stage.{Stage}
use Rattle.http_front.specs.declared.stage.Stage.TheVariants as stage
use Rattle.http_front.proofs.Fitting.{ends_body}
use Rattle.http_front.proofs.front.Front.end.Goals as goal

pub returns-in-Body-clause-ends : goal.returns-in-Body-clause-ends
returns-in-Body-clause-ends c =
    let now = c.args.self.now in
    let at : now.stage ≡ stage.Body c.in-Body.size c.in-Body.given c.in-Body.last = sym (ap (λ (f : Front). f.stage) c.self.view_is) ∙ c.in-Body.is in
    ends_body now _ c.in-Body.size c.in-Body.given c.in-Body.last at (omega (arith, subst (λ (s : Stage). 0 < wanted_in s now.input) at c.requires.short)) (ap (λ (f : Front). f.input) c.self.view_is) (ap (λ (f : Front). f.limit) c.self.view_is) refl
