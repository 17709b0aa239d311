use Rattle.std.proofs.Common.{◌≡◌, ◌+◌, length, arith, refl, sym, ◌∙◌, ap, subst}
use Rattle.gate_io.specs.Buffer.{Buffer}
use Rattle.line_transport.specs.Buffers.{Incoming}
use Rattle.gate_start.specs.declared.page.Page.{Page}
use Rattle.gate_streams.specs.Working.{Gathers, IsHandler}
use Rattle.gate_streams.specs.declared.handler.Handler.{Handler}
use Rattle.gate_streams.specs.declared.stream.Work.{Work}
use Rattle.gate_streams.proofs.Gathering.{within, spans, gone, one_fewer, passed_fewer, passed_spans, ready_on, gathers_on, over_gathers, one_gathers}
use Rattle.gate_streams.proofs.stream.Work.pass_frames.Goals as goal

pub frames-init : goal.frames-init
frames-init c =
    let k = c.args.task.now in
    let ready = c.requires.ready in
    let p = c.pass_over.ensures in
    let over : Work = record c.args.self.now { inbox = c.pass_over.new.self } in
    let fewer = passed_fewer c.args.self.now.inbox c.pass_over.new.self p in
    record {
      ready = ready_on k c.args.self.now over ready p.limit p.transport refl refl refl refl (omega (arith, fewer));
      gathered = over_gathers k c.args.self.now over (passed_spans k c.args.self.now.inbox c.pass_over.new.self ready.limit_is ready.transport_is p) refl refl refl refl refl;
      fewer = fewer;
      counts = p.counts;
      doing = subst (λ (h : Handler). IsHandler k h) c.in-Convert.is ready.handler;
    }

pub framed_room-requires : goal.framed_room-requires
framed_room-requires c =
    let i = c.frames.invariant in
    let cut = c.in-Message.ensures.cut c.in-Message.frame.now c.in-Message.ensures.exact.0 c.in-Message.ensures.exact.1 in
    omega (arith, within c.args.task.now c.frames.self.inbox c.in-Message.frame.now c.in-Message.ensures.exact.0 i.ready.limit_is cut, c.requires.limit)

pub returns-then-not-pass_sent-clause-gathered : goal.returns-then-not-pass_sent-clause-gathered
returns-then-not-pass_sent-clause-gathered c =
    let i = c.frames.invariant in
    let k = c.args.task.now in
    let left : Work = record c.frames.self { page = record c.frames.self.page { out = c.pass_sent.new.out } } in
    let page = ap (λ (out : Buffer). let made : Page = record c.frames.self.page { out = out } in made) (c.pass_sent.ensures.left c.if-not-pass_sent.true) in
    subst (λ (p : Page). let made : Work = record c.frames.self { page = p } in Gathers k c.args.self.now made) (sym page) i.gathered

pub frames-smaller : goal.frames-smaller
frames-smaller c =
    let i = c.frames.invariant in
    let k = c.args.task.now in
    let frame = c.in-Message.frame.now in
    let rest = c.in-Message.ensures.exact.0 in
    let cut = c.in-Message.ensures.cut frame rest c.in-Message.ensures.exact.1 in
    let e : c.drop_whole.new.self.held ≡ rest = gone c.frames.self.inbox c.drop_whole.new.self frame rest c.drop_whole.ensures c.in-Message.ensures.exact.1 in
    let one = spans k c.frames.self.inbox frame rest i.ready.limit_is i.ready.transport_is i.counts c.in-Message.ensures.exact.1 cut in
    omega (arith, ap length e, one_fewer k c.frames.self.inbox frame rest one, passed_fewer c.drop_whole.new.self c.pass_over-in-frames.new.self c.pass_over-in-frames.ensures, c.run_frames.ensures.fewer)

pub frames-preserved : goal.frames-preserved
frames-preserved c =
    let i = c.frames.invariant in
    let k = c.args.task.now in
    let held = c.frames.self.inbox in
    let left = c.drop_whole.new.self in
    let p = c.pass_over-in-frames.ensures in
    let frame = c.in-Message.frame.now in
    let rest = c.in-Message.ensures.exact.0 in
    let cut = c.in-Message.ensures.cut frame rest c.in-Message.ensures.exact.1 in
    let e : left.held ≡ rest = gone held left frame rest c.drop_whole.ensures c.in-Message.ensures.exact.1 in
    let one = spans k held frame rest i.ready.limit_is i.ready.transport_is i.counts c.in-Message.ensures.exact.1 cut in
    let limit = ap (λ (h : Incoming). h.limit) c.drop_whole.ensures in
    let transport = ap (λ (h : Incoming). h.transport) c.drop_whole.ensures in
    let fewer = one_fewer k held frame rest one in
    let passed = passed_fewer left c.pass_over-in-frames.new.self p in
    let done : Work = record c.frames.self { inbox = left; page = record c.frames.self.page { out = c.pass_sent.new.out }; number = c.frames.self.number + 1 } in
    let over : Work = record done { inbox = c.pass_over-in-frames.new.self } in
    let info = c.pass_sent.ensures.passed c.if-not-pass_sent.false in
    let run = c.run_frames.ensures in
    record {
      ready = run.ready;
      gathered = gathers_on k c.args.self.now over c.run_frames.new.self
          (gathers_on k c.args.self.now c.frames.self over i.gathered
          (gathers_on k c.frames.self done over
          (one_gathers k c.in-Convert.from c.in-Convert.to info.0 frame rest c.frames.self done i.doing info.1 (c.pass_sent.ensures.appended c.if-not-pass_sent.false) one e refl refl refl refl)
          (over_gathers k done over (passed_spans k left c.pass_over-in-frames.new.self (limit ∙ i.ready.limit_is) (transport ∙ i.ready.transport_is) p) refl refl refl refl refl)))
          run.gathered;
      fewer = omega (arith, ap length e, fewer, passed, run.fewer, i.fewer);
      counts = run.counts;
      doing = i.doing;
    }

-- what the run begins with
pub run_frames-requires-clause-ready : goal.run_frames-requires-clause-ready
run_frames-requires-clause-ready c =
    let i = c.frames.invariant in
    let k = c.args.task.now in
    let held = c.frames.self.inbox in
    let left = c.drop_whole.new.self in
    let p = c.pass_over-in-frames.ensures in
    let frame = c.in-Message.frame.now in
    let rest = c.in-Message.ensures.exact.0 in
    let cut = c.in-Message.ensures.cut frame rest c.in-Message.ensures.exact.1 in
    let e : left.held ≡ rest = gone held left frame rest c.drop_whole.ensures c.in-Message.ensures.exact.1 in
    let one = spans k held frame rest i.ready.limit_is i.ready.transport_is i.counts c.in-Message.ensures.exact.1 cut in
    let limit = ap (λ (h : Incoming). h.limit) c.drop_whole.ensures in
    let transport = ap (λ (h : Incoming). h.transport) c.drop_whole.ensures in
    let fewer = one_fewer k held frame rest one in
    let passed = passed_fewer left c.pass_over-in-frames.new.self p in
    let done : Work = record c.frames.self { inbox = left; page = record c.frames.self.page { out = c.pass_sent.new.out }; number = c.frames.self.number + 1 } in
    let over : Work = record done { inbox = c.pass_over-in-frames.new.self } in
    ready_on k c.frames.self over i.ready (p.limit ∙ limit) (p.transport ∙ transport) c.pass_sent.ensures.room refl refl refl (omega (arith, ap length e, fewer, passed))
