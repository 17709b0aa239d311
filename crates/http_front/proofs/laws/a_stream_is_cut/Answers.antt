use Rattle.std.proofs.Common.{arith}
use Rattle.std.proofs.lemmas.Grind.{common_steps}
use Rattle.http_front.proofs.laws.a_stream_is_cut.Goals as goal

pub posts-preserved : goal.posts-preserved
posts-preserved c = grind (arith, common_steps)

pub returns : goal.returns
returns c = grind (arith, common_steps)
