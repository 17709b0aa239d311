use Rattle.std.proofs.Common.{rules, ◌++◌, ℕ, ◌+◌, List, length, take, drop, ap, ◌∙◌, arith}
use Rattle.framed_transport.specs.Frames.{framed}
use Rattle.http_front.proofs.Copied.{copied_both}
use Rattle.http_front.proofs.copies.copy_frame.Goals as goal

pub returns-clause-copied : goal.returns-clause-copied
unfolding framed
returns-clause-copied c = copied_both c.args.at c.copy_from-front.result c.copy_from-2.result _ c.args.body.now c.copy_from-front.new.into c.copy_from-2.new.into _ (length c.args.into.now)
    (omega (arith, c.if-at-ge-LENGTH_BYTES.false)) c.copy_from-front.ensures.count c.copy_from-front.ensures.copied c.copy_from-2.ensures.count c.copy_from-2.ensures.copied (search rules) (search rules)
    ∙ ap (λ (xs : List ℕ). take (c.copy_from-front.result + c.copy_from-2.result) (drop c.args.at (xs ++ c.args.body.now))) c.to_be_bytes-length.ensures
