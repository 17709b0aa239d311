use Rattle.std.proofs.Common.{sym, ap, ◌∙◌, drop}
use Rattle.http_front.specs.Fronts.{Front}
use Rattle.http_front.proofs.Fitting.{begins_body}
use Rattle.http_front.proofs.front.Front.settle.Goals as goal

pub returns-in-Post-clause-keeps : goal.returns-in-Post-clause-keeps
returns-in-Post-clause-keeps c =
    let same = c.in-Post.ensures.same in
    begins_body c.args.self.now c.begin_body.new.self c.in-Post.size c.in-Post.body c.in-Post.last (sym (ap (λ (f : Front). f.stage) c.self.view_is) ∙ c.in-Head.is)
    c.in-Post.ensures.finds
    (ap (λ (f : Front). f.limit) c.begin_body.ensures ∙ same.1)
    (ap (λ (f : Front). f.input) c.begin_body.ensures ∙ ap (λ l. drop c.in-Post.size l) same.0)
    (ap (λ (f : Front). f.stage) c.begin_body.ensures)
