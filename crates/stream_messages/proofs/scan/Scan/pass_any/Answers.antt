use Rattle.std.proofs.Common.{◌-◌, ◌∙◌, ap, take, arith}
use Rattle.std.proofs.lemmas.List.{length-take-le}
use Rattle.stream_messages.specs.Scanning.{Scanning}
use Rattle.stream_messages.proofs.Taking.{passed_on, all_bytes}
use Rattle.stream_messages.proofs.scan.Scan.pass_any.Goals as goal

pub returns-clause-passes : goal.returns-clause-passes
returns-clause-passes c = λ front read.
    let count = c.min-most.result - 1 in
    let at = ap (λ (s : Scanning). s.part) c.self.view_is ∙ c.requires.at in
    let size = length-take-le count c.args.piece.now (omega (arith, c.min-most.ensures, c.min.ensures)) in
    passed_on _ _ c.self.view_is front (take count c.args.piece.now) c.args.left _ (c.args.left - count) (all_bytes count c.args.piece.now (λ i. omega (arith, c.type_inv.piece i))) at
    (omega (arith, size)) (omega (arith, size, c.min-most.ensures, c.min.ensures, c.if-most-le1.false)) (omega (arith, c.min-most.ensures, c.min.ensures, c.if-most-le1.false))
    (omega (arith, size, c.min-most.ensures, c.min.ensures, c.saturating_sub-room.ensures, c.if-most-le1.false)) read
