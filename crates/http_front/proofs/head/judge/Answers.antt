use Rattle.std.proofs.Common.{arith, refl}
use Rattle.std.proofs.lemmas.Grind.{common_steps}
use Rattle.http_front.proofs.Heads.{judged_post}
use Rattle.http_front.proofs.head.judge.Goals as goal

pub returns-in-Some : goal.returns-in-Some
returns-in-Some c = judged_post c.args.limit c.args.bytes.now c.args.fields.now c.args.spans.now c.requires.is.0 c.of.result.now _ c.in-Some.body c.is_last.result c.requires.is.1 c.requires.within.section.len_fits c.of.ensures refl c.in-Some.ensures c.is_last.ensures

pub is_last-requires : goal.is_last-requires
is_last-requires c = grind (arith, common_steps)
