use Rattle.std.proofs.Common.{◌∙◌, length, sym, arith}
use Rattle.std.proofs.lemmas.Grind.{common_steps}
use Rattle.gate_hub.specs.Hubs.{LinkReads}
use Rattle.gate_hub.specs.declared.hub.LinkGot.TheVariants as got
use Rattle.stream_messages.specs.Lanes.{Reads}
use Rattle.stream_messages.proofs.Links.{unasked_below, gives_frames, gives_end, asked}
use Rattle.stream_messages.proofs.Ways.{behind_nothing, way_over}
use Rattle.stream_messages.proofs.lane.read_frames.Goals as goal

pub returns-then-count-gt0-clause-goes : goal.returns-then-count-gt0-clause-goes
returns-then-count-gt0-clause-goes g c = λ wire limit.
    let s = c.args.framer.now in
    let t = c.hand_out-count.new.self in
    let n = c.hand_out-count.result in
    let into = c.hand_out-count.new.into in
    unasked_below (g.H.Hub.tells c.args.hub.now) c.args.k c.args.side (Reads wire limit s) (Reads wire limit t) (LinkReads into (got.Bytes n))
    (gives_frames wire limit s t n into c.hand_out-count.ensures.stands c.hand_out-count.ensures.out c.if-count-gt0.true)

pub returns-in-Nothing-clause-goes : goal.returns-in-Nothing-clause-goes
returns-in-Nothing-clause-goes g c = λ wire limit.
    let s = c.args.framer.now in
    let t = c.hand_out-count.new.self in
    let into = c.hand_out-count.new.into in
    let none = c.hand_out-count.ensures.none (omega (arith, c.if-count-gt0.false)) c.requires in
    unasked_below (g.H.Hub.tells c.args.hub.now) c.args.k c.args.side (Reads wire limit s) (Reads wire limit t) (LinkReads into got.End)
    (gives_end wire limit s t into none.0 none.1 (sym c.behind.ensures ∙ c.in-Nothing.is))

pub returns-in-End-clause-goes : goal.returns-in-End-clause-goes
returns-in-End-clause-goes g c =
    let s = c.args.framer.now in
    let t = c.hand_out-count.new.self in
    let told = g.H.Hub.tells c.args.hub.now in
    let told' = g.H.Hub.tells c.read.new.self in
    let into = c.read.new.into in
    let none = c.hand_out-count.ensures.none (omega (arith, c.if-count-gt0.false)) c.requires in
    behind_nothing told told' c.args.k c.args.side s t t into c.read.result none.0
    (way_over told told' c.args.k c.args.side t (length c.hand_out-count.new.into) into c.read.result none.1 (sym c.behind.ensures ∙ c.in-End.is)
    (asked told told' c.args.k c.args.side (length c.hand_out-count.new.into) into c.read.result c.read.ensures.leads))

pub returns-in-Mark-clause-goes : goal.returns-in-Mark-clause-goes
returns-in-Mark-clause-goes g c = grind (arith, common_steps)

pub returns-in-Messages-clause-goes : goal.returns-in-Messages-clause-goes
returns-in-Messages-clause-goes g c = grind (arith, common_steps)
