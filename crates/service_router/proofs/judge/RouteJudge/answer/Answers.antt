use Rattle.std.proofs.Common.{ℕ, List, [], ◌∷◌, ◌++◌, length, arith, ap, ◌∙◌}
use Rattle.gate_io.specs.Buffer.{Buffer}
use Rattle.session_core.proofs.Lengths.{closed_within}
use Rattle.service_router.proofs.judge.RouteJudge.answer.Goals as goal

pub returns-clause-within : goal.returns-clause-within
returns-clause-within c =
    closed_within c.args.out.now.bytes c.begin-at.new.out c.answer.new.out c.close.new.out _ c.begin-at.result c.args.out.now.room c.requires.empty c.begin-at.ensures.place c.begin-at.ensures.bytes c.answer.ensures.out c.close.ensures
    (omega (arith, c.answer.ensures.short, c.requires.room, ap (λ (b : Buffer). length b.bytes) c.begin-at.ensures.bytes ∙ ap (λ (xs : List ℕ). length (xs ++ 0 ∷ 0 ∷ 0 ∷ 0 ∷ [])) c.requires.empty, ap length c.requires.empty, ap (λ (b : Buffer). b.room) c.begin-at.ensures.bytes, ap (λ (b : Buffer). b.room) c.answer.ensures.out))
