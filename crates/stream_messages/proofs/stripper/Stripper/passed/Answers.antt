use Rattle.std.proofs.Common.{◌-◌, ◌∙◌, sym, arith, ap}
use Rattle.stream_messages.specs.Stripping.{StripperState}
use Rattle.stream_messages.proofs.Stripping.{content_piece}
use Rattle.stream_messages.proofs.stripper.Stripper.passed.Goals as goal

pub returns-clause-behind : goal.returns-clause-behind
returns-clause-behind c = λ bytes size.
    let s = c.args.self.now in
    let p = content_piece bytes s (omega (arith, size, c.requires)) in
    (ap (λ (s : StripperState). record s { left = s.left - c.args.count }) c.self.view_is ∙ (ap (λ k. record s { left = s.left - k }) (sym size) ∙ sym p.0), p.1)
