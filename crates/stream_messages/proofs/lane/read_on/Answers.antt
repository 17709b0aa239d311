use Rattle.std.proofs.Common.{◌∙◌, refl, ap, sym, subst, arith}
use Rattle.std.proofs.lemmas.Grind.{common_steps}
use Rattle.stream_messages.specs.Framing.{FramerState}
use Rattle.stream_messages.proofs.Ways.{WayGoes, way_begins, way_on, way_gave, way_not_ready, way_failed, way_ends, later_on, later_not}
use Rattle.stream_messages.proofs.lane.read_on.Goals as goal

pub loop-framer-init : goal.loop-framer-init
loop-framer-init g c = record {
  idle = c.requires.idle;
  messages = c.requires.messages;
  limit = refl;
  goes = way_begins (g.H.Hub.tells c.args.hub.now) c.args.k c.args.side c.args.framer.now c.requires.messages;
  later = later_not (g.H.Hub.counts c.args.hub.now);
  kept = refl;
}

pub returns-then-count-gt0-clause-goes : goal.returns-then-count-gt0-clause-goes
returns-then-count-gt0-clause-goes g c =
    let tells = g.H.Hub.tells in
    let i = c.loop-framer.invariant in
    way_gave (tells c.args.hub.now) (tells c.loop-framer.hub) (tells c.fill.new.hub) c.args.k c.args.side c.args.framer.now c.loop-framer.framer c.fill.new.self c.hand_out-count.new.self c.in-Bytes.field-0 c.hand_out-count.result c.hand_out-count.new.into
    i.goes c.in-Bytes.ensures.read i.messages c.hand_out-count.ensures.stands

pub returns-then-count-gt0-clause-kept : goal.returns-then-count-gt0-clause-kept
returns-then-count-gt0-clause-kept g c = c.fill.ensures.kept ∙ c.loop-framer.invariant.kept

pub loop-framer-preserved : goal.loop-framer-preserved
loop-framer-preserved g c =
    let tells = g.H.Hub.tells in
    let i = c.loop-framer.invariant in
    let none = c.hand_out-count.ensures.none (omega (arith, c.if-count-gt0.false)) (omega (arith, c.requires.some, c.loop-framer.auto.into)) in
    let came = c.in-Bytes.ensures.read.1.2 in
    record {
      idle = none.1;
      messages = ap (λ (s : FramerState). s.behind) none.0 ∙ (ap (λ (s : FramerState). s.behind) came ∙ i.messages);
      limit = ap (λ (s : FramerState). s.limit) none.0 ∙ (ap (λ (s : FramerState). s.limit) came ∙ i.limit);
      goes = subst (λ (t : FramerState). WayGoes (tells c.args.hub.now) (tells c.fill.new.hub) c.args.k c.args.side c.args.framer.now t) (sym none.0)
          (way_on (tells c.args.hub.now) (tells c.loop-framer.hub) (tells c.fill.new.hub) c.args.k c.args.side c.args.framer.now c.loop-framer.framer c.fill.new.self c.in-Bytes.field-0 i.goes c.in-Bytes.ensures.read i.messages);
      later = later_on (g.H.Hub.counts c.args.hub.now) (g.H.Hub.counts c.loop-framer.hub) (g.H.Hub.counts c.fill.new.hub) i.later c.fill.ensures.later;
      kept = c.fill.ensures.kept ∙ i.kept;
    }

pub returns-in-End-clause-goes : goal.returns-in-End-clause-goes
returns-in-End-clause-goes g c =
    let tells = g.H.Hub.tells in
    let i = c.loop-framer.invariant in
    way_ends (tells c.args.hub.now) (tells c.loop-framer.hub) (tells c.fill.new.hub) c.args.k c.args.side c.args.framer.now c.loop-framer.framer c.fill.new.self c.end.new.framer c.end.new.into c.end.result i.goes c.in-End.ensures.read i.messages
    c.end.ensures.ends

pub returns-in-End-clause-kept : goal.returns-in-End-clause-kept
returns-in-End-clause-kept g c = c.fill.ensures.kept ∙ c.loop-framer.invariant.kept

pub returns-in-End-clause-cause : goal.returns-in-End-clause-cause
returns-in-End-clause-cause g c = λ e. absurd (c.end.ensures.failed e)

pub returns-in-End-clause-wait : goal.returns-in-End-clause-wait
returns-in-End-clause-wait g c = λ e. absurd (c.end.ensures.waits e)

pub returns-in-NotReady-clause-goes : goal.returns-in-NotReady-clause-goes
returns-in-NotReady-clause-goes g c =
    let tells = g.H.Hub.tells in
    let i = c.loop-framer.invariant in
    way_not_ready (tells c.args.hub.now) (tells c.loop-framer.hub) (tells c.fill.new.hub) c.args.k c.args.side c.args.framer.now c.loop-framer.framer c.fill.new.self c.loop-framer.into i.goes c.in-NotReady.ensures.read i.idle

pub returns-in-NotReady-clause-kept : goal.returns-in-NotReady-clause-kept
returns-in-NotReady-clause-kept g c = c.fill.ensures.kept ∙ c.loop-framer.invariant.kept

pub returns-in-Failed-clause-goes : goal.returns-in-Failed-clause-goes
returns-in-Failed-clause-goes g c =
    let tells = g.H.Hub.tells in
    let i = c.loop-framer.invariant in
    way_failed (tells c.args.hub.now) (tells c.loop-framer.hub) (tells c.fill.new.hub) c.args.k c.args.side c.args.framer.now c.loop-framer.framer c.fill.new.self c.loop-framer.into i.goes c.in-Failed.ensures.read

pub returns-in-Failed-clause-kept : goal.returns-in-Failed-clause-kept
returns-in-Failed-clause-kept g c = c.fill.ensures.kept ∙ c.loop-framer.invariant.kept

pub loop-framer-smaller : goal.loop-framer-smaller
loop-framer-smaller g c = grind (arith, common_steps)
