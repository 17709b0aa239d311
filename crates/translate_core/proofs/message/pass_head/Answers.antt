use Rattle.std.proofs.Common.{rules, arith}
use Rattle.std.specs.Prelude.{FitsSigned}
use Rattle.std.specs.Int.{w32}
use Rattle.protocol_traits.specs.Heads.{header_of}
use Rattle.translate_core.proofs.message.pass_head.Goals as goal

pub head-requires-clause-room : goal.head-requires-clause-room
head-requires-clause-room g c =
    let seq : FitsSigned w32 c.args.head.seq = search rules in
    omega (arith, c.requires.room, g.W.WireWrite.light_head (header_of c.args.head) seq)
