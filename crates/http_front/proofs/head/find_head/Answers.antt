use Rattle.std.proofs.Common.{ℕ, List, ap, sym, ◌∙◌}
use Rattle.http_front.specs.Looking.{looked}
use Rattle.http_front.specs.Heads.{head_limit}
use Rattle.http_front.specs.declared.look.Look.TheVariants as look
use Rattle.http_front.proofs.Heads.{take_min, part_front, bad_front, good_front, window_short}
use Rattle.http_front.proofs.head.find_head.Goals as goal

pub read_if_whole-requires-clause-look : goal.read_if_whole-requires-clause-look
read_if_whole-requires-clause-look c = c.requires.look ∙ ap (λ (xs : List ℕ). looked look.Before xs) (sym (take_min c.args.bytes.now head_limit c.min.result c.min.ensures))

pub returns-in-Part : goal.returns-in-Part
returns-in-Part c = part_front c.args.limit c.args.bytes.now _ c.part_of.result (take_min c.args.bytes.now head_limit c.min.result c.min.ensures) c.in-Part.ensures c.part_of.ensures

pub returns-in-Bad : goal.returns-in-Bad
returns-in-Bad c = bad_front c.args.limit c.args.bytes.now _ head_limit (take_min c.args.bytes.now head_limit c.min.result c.min.ensures) (window_short c.args.bytes.now c.min.result c.min.ensures) c.in-Bad.ensures

pub returns-in-Post : goal.returns-in-Post
returns-in-Post c = good_front c.args.limit c.args.bytes.now _ head_limit c.in-Post.size c.in-Post.body c.in-Post.last (take_min c.args.bytes.now head_limit c.min.result c.min.ensures) (window_short c.args.bytes.now c.min.result c.min.ensures) c.in-Post.ensures
