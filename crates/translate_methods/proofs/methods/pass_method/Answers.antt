use Rattle.std.proofs.Common.{rules, arith, ap, length}
use Rattle.std.specs.Prelude.{FitsSigned}
use Rattle.std.specs.Int.{w32}
use Rattle.protocol_traits.specs.Heads.{Header, header_of}
use Rattle.translate_methods.specs.Methods.{method_header}
use Rattle.translate_methods.proofs.methods.pass_method.Goals as goal

pub head-requires-clause-room : goal.head-requires-clause-room
head-requires-clause-room g c =
    let seq : FitsSigned w32 c.args.head.seq = search rules in
    omega (arith, c.requires.room, g.W.WireWrite.light_head (method_header g.W.WireWrite.name_bar (header_of c.args.head)) seq, c.method_head.ensures.short, ap (λ (h : Header). length h.name) c.method_head.ensures.header, ap (λ (h : Header). length (g.W.WireWrite.plain_head h)) c.method_head.ensures.header)
