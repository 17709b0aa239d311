use Rattle.std.proofs.Common.{◌∙◌, true≢false, ℕ, List, ap, sym, arith}
use Rattle.http_front.specs.Looking.{looked}
use Rattle.http_front.specs.Heads.{head_limit}
use Rattle.http_front.specs.declared.look.Look.TheVariants as look
use Rattle.http_front.proofs.Heads.{take_min}
use Rattle.http_front.proofs.Cuts.{cut_bad, cut_part, cut_post, post_on}
use Rattle.http_front.proofs.laws.first_post.Goals as goal

pub find_head-requires-clause-look : goal.find_head-requires-clause-look
find_head-requires-clause-look c = c.look_on-look.ensures ∙ ap (λ (xs : List ℕ). looked look.Before xs) (take_min c.args.bytes.now head_limit c.min.result c.min.ensures)

pub returns-in-Part-clause-none : goal.returns-in-Part-clause-none
returns-in-Part-clause-none c = λ _. cut_part c.args.limit c.args.bytes.now c.refuses.result c.in-Part.ensures c.refuses.ensures.never c.refuses.ensures.open

pub returns-in-Bad-clause-none : goal.returns-in-Bad-clause-none
returns-in-Bad-clause-none c = λ _. cut_bad c.args.limit c.args.bytes.now c.in-Bad.ensures

pub returns-in-Post-clause-some : goal.returns-in-Post-clause-some
returns-in-Post-clause-some c = post_on c.args.limit c.args.bytes.now c.in-Post.size c.in-Post.body c.in-Post.last c.in-Post.ensures (omega (arith, c.if-body-bytes.true)) c.if-not-last.true

pub returns-in-Post-2-clause-none : goal.returns-in-Post-2-clause-none
returns-in-Post-2-clause-none c = λ _. cut_post c.args.limit c.args.bytes.now c.in-Post.size c.in-Post.body c.in-Post.last c.in-Post.ensures (λ _. omega (arith, c.if-body-bytes.false))

pub returns-in-Post-2-2-clause-none : goal.returns-in-Post-2-2-clause-none
returns-in-Post-2-2-clause-none c = λ _. cut_post c.args.limit c.args.bytes.now c.in-Post.size c.in-Post.body c.in-Post.last c.in-Post.ensures (λ goes_on. absurd (true≢false (sym c.if-not-last.false ∙ goes_on)))
