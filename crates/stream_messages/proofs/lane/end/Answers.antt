use Rattle.std.proofs.Common.{arith, sym, subst}
use Rattle.std.proofs.lemmas.Grind.{common_steps}
use Rattle.gate_hub.specs.Meaning.{Link}
use Rattle.gate_hub.specs.Hubs.{LinkReads}
use Rattle.gate_hub.specs.declared.hub.LinkGot.TheVariants as got
use Rattle.stream_messages.specs.Framing.{FramerState}
use Rattle.stream_messages.specs.Lanes.{Reads}
use Rattle.stream_messages.proofs.Links.{end_between}
use Rattle.stream_messages.proofs.lane.end.Goals as goal

pub returns-clause-ends : goal.returns-clause-ends
returns-clause-ends c = λ wire limit inner outer way ended.
    let none = c.end.ensures.none c.if-end.false in
    subst (λ (t : FramerState). (outer' : Link) × LinkReads c.args.into.now got.End outer outer' × Reads wire limit t inner outer') (sym none.0)
    (end_between wire limit c.args.framer.now c.args.into.now inner outer way ended c.requires.idle c.requires.messages none.1)

pub returns-then-end-clause-ends : goal.returns-then-end-clause-ends
returns-then-end-clause-ends c = grind (arith, common_steps)
