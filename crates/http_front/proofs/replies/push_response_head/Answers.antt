use Rattle.std.proofs.Common.{arith, ap, ◌∙◌, List, ℕ, ◌++◌}
use Rattle.std.proofs.lemmas.Grind.{common_steps}
use Rattle.http_front.specs.Replies.{response_head}
use Rattle.http_front.proofs.Copied.{laid_behind}
use Rattle.http_front.proofs.replies.push_response_head.Goals as goal

pub returns-clause-text : goal.returns-clause-text
unfolding response_head
returns-clause-text c =
    laid_behind c.args.out.now _ _ c.push-3.new.self _ _ _ c.push.ensures (c.push-2.ensures ∙ ap (λ (ys : List ℕ). record (c.push.new.self) { bytes = c.push.new.self.bytes ++ ys }) (c.as_bytes.ensures.value ∙ c.format.ensures.text)) c.push-3.ensures

pub push-requires-3 : goal.push-requires-3
unfolding response_head
push-requires-3 c = grind (arith, common_steps)

pub returns-clause-short : goal.returns-clause-short
unfolding response_head
returns-clause-short c = grind (arith, common_steps)

pub push-requires-2 : goal.push-requires-2
unfolding response_head
push-requires-2 c = grind (arith, common_steps)
