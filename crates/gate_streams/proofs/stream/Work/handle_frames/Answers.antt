use Rattle.std.proofs.Common.{◌≡◌, ◌+◌, ◌<◌, ◌||◌, not, ℕ, length, arith, refl, sym, ◌∙◌, ap, subst}
use Rattle.gate_io.specs.Buffer.{Buffer}
use Rattle.line_transport.specs.Buffers.{Incoming, front_of}
use Rattle.line_transport.specs.Front.{Front, front, Part}
use Rattle.gate_streams.specs.Terms.{Terms}
use Rattle.gate_streams.specs.Working.{IsWaiting, IsRoomy, moment}
use Rattle.gate_streams.proofs.Gathering.{within, spans, gone, one_fewer, passed_fewer, passed_spans}
use Rattle.gate_streams.proofs.Progress.{waits_nowhere, waits_roomy, waits_broken, waits_one, waits_over, one_broken}
use Rattle.gate_streams.proofs.Treating.{has_room}
use Rattle.gate_streams.proofs.stream.Work.handle_frames.Goals as goal

-- what stands at the front, by the terms
at_front : (k : Terms) (b : Incoming) (f : Front) → b.limit ≡ k.limit → b.transport ≡ k.input → front_of b ≡ f → front k.input k.limit b.held ≡ f
at_front k b f limit transport e = ap (λ t. front t k.limit b.held) (sym transport) ∙ (ap (λ n. front b.transport n b.held) (sym limit) ∙ e)

waiting : (k : Terms) (b : Incoming) → b.limit ≡ k.limit → b.transport ≡ k.input → front_of b ≡ Part → (front_of b ≡ Part → length b.held < b.limit + 4) → IsWaiting k b.held
waiting k b limit transport part room = record {
  part = at_front k b Part limit transport part;
  room = (let more : length b.held < b.limit + 4 = room part in omega (arith, more, limit));
}

pub frames-init : goal.frames-init
frames-init g c = record {
  ready = c.requires.ready;
  waits = λ left. waits_nowhere c.args.task.now (moment c.args.self.now left (g.O.Sink.written c.args.output.now) (g.E.Sink.written c.args.report.now)) c.args.self.now.page.out.bytes c.args.self.now.lines.bytes c.requires.flushed.page c.requires.flushed.lines;
  later = omega arith;
  report_later = omega arith;
}

pub returns-in-NeedMore-clause-ready : goal.returns-in-NeedMore-clause-ready
returns-in-NeedMore-clause-ready g c =
    let ready = c.pass_frames-tried.ensures.ready in
    let p = c.pass_over.ensures in
    record {
      limit_is = p.limit ∙ ready.limit_is;
      transport_is = p.transport ∙ ready.transport_is;
      page = ready.page;
      lines = ready.lines;
      handler = ready.handler;
      counted = omega (arith, ready.counted, passed_fewer c.pass_frames-tried.new.self.inbox c.pass_over.new.self p);
      taken = ready.taken;
    }

pub returns-in-NeedMore-clause-handled : goal.returns-in-NeedMore-clause-handled
returns-in-NeedMore-clause-handled g c = λ left.
    let ready = c.pass_frames-tried.ensures.ready in
    let p = c.pass_over.ensures in
    let passed = c.pass_over.new.self in (
      waits_over c.args.task.now _ (moment c.pass_frames-tried.new.self left (g.O.Sink.written c.frames.output) (g.E.Sink.written c.frames.report)) _ c.pass_frames-tried.new.self.page.out.bytes c.pass_frames-tried.new.self.lines.bytes (c.pass_frames-tried.ensures.gathered _ left _ _ (c.frames.invariant.waits left))
          (passed_spans c.args.task.now c.pass_frames-tried.new.self.inbox passed ready.limit_is ready.transport_is p) refl refl refl refl refl refl,
      waiting c.args.task.now passed (p.limit ∙ ready.limit_is) (p.transport ∙ ready.transport_is) c.in-NeedMore.ensures.exact c.in-NeedMore.ensures.room,
    )

pub returns-in-Exceeds-clause-ready : goal.returns-in-Exceeds-clause-ready
returns-in-Exceeds-clause-ready g c =
    let ready = c.pass_frames-tried.ensures.ready in
    let p = c.pass_over.ensures in
    record {
      limit_is = p.limit ∙ ready.limit_is;
      transport_is = p.transport ∙ ready.transport_is;
      page = ready.page;
      lines = ready.lines;
      handler = ready.handler;
      counted = omega (arith, ready.counted, passed_fewer c.pass_frames-tried.new.self.inbox c.pass_over.new.self p);
      taken = ready.taken;
    }

pub returns-in-Exceeds-clause-handled : goal.returns-in-Exceeds-clause-handled
returns-in-Exceeds-clause-handled g c = λ left.
    let ready = c.pass_frames-tried.ensures.ready in
    let p = c.pass_over.ensures in
    let passed = c.pass_over.new.self in (
      waits_over c.args.task.now _ (moment c.pass_frames-tried.new.self left (g.O.Sink.written c.frames.output) (g.E.Sink.written c.frames.report)) _ c.pass_frames-tried.new.self.page.out.bytes c.pass_frames-tried.new.self.lines.bytes (c.pass_frames-tried.ensures.gathered _ left _ _ (c.frames.invariant.waits left))
          (passed_spans c.args.task.now c.pass_frames-tried.new.self.inbox passed ready.limit_is ready.transport_is p) refl refl refl refl refl refl,
      at_front c.args.task.now passed _ (p.limit ∙ ready.limit_is) (p.transport ∙ ready.transport_is) c.in-Exceeds.ensures.exact,
    )

pub framed_room-wanted-requires : goal.framed_room-wanted-requires
framed_room-wanted-requires g c =
    let ready = c.pass_frames-tried.ensures.ready in
    let cut = c.in-Message.ensures.cut c.in-Message.frame.now c.in-Message.ensures.exact.0 c.in-Message.ensures.exact.1 in
    omega (arith, within c.args.task.now c.pass_over.new.self c.in-Message.frame.now c.in-Message.ensures.exact.0 (c.pass_over.ensures.limit ∙ ready.limit_is) cut, c.requires.limit)

pub returns-in-Err-clause-handled : goal.returns-in-Err-clause-handled
returns-in-Err-clause-handled g c = λ left.
    let ready = c.pass_frames-tried.ensures.ready in
    let p = c.pass_over.ensures in
    let passed = c.pass_over.new.self in
    let mid = record (moment c.pass_frames-tried.new.self left (g.O.Sink.written c.frames.output) (g.E.Sink.written c.frames.report)) { held = passed.held } in
    waits_broken c.in-Err.broken c.args.task.now _ mid _ c.pass_frames-tried.new.self.page.out.bytes c.pass_frames-tried.new.self.lines.bytes
    (waits_over c.args.task.now _ (moment c.pass_frames-tried.new.self left (g.O.Sink.written c.frames.output) (g.E.Sink.written c.frames.report)) mid c.pass_frames-tried.new.self.page.out.bytes c.pass_frames-tried.new.self.lines.bytes (c.pass_frames-tried.ensures.gathered _ left _ _ (c.frames.invariant.waits left))
    (passed_spans c.args.task.now c.pass_frames-tried.new.self.inbox passed ready.limit_is ready.transport_is p) refl refl refl refl refl refl) refl c.in-Err.ensures.made

pub returns-in-Err-clause-ready : goal.returns-in-Err-clause-ready
returns-in-Err-clause-ready g c =
    let ready = c.pass_frames-tried.ensures.ready in
    let p = c.pass_over.ensures in
    record {
      limit_is = p.limit ∙ ready.limit_is;
      transport_is = p.transport ∙ ready.transport_is;
      page = subst (λ (n : ℕ). IsRoomy c.args.task.now.doing c.args.task.now.limit n) (sym c.make_room.ensures.room) ready.page;
      lines = c.make_room.ensures.lines_room ∙ ready.lines;
      handler = ready.handler;
      counted = omega (arith, ready.counted, passed_fewer c.pass_frames-tried.new.self.inbox c.pass_over.new.self p);
      taken = ready.taken;
    }

pub handle-requires-clause-fits : goal.handle-requires-clause-fits
handle-requires-clause-fits g c =
    let ready = c.pass_frames-tried.ensures.ready in
    let cut = c.in-Message.ensures.cut c.in-Message.frame.now c.in-Message.ensures.exact.0 c.in-Message.ensures.exact.1 in
    let fits = within c.args.task.now c.pass_over.new.self c.in-Message.frame.now c.in-Message.ensures.exact.0 (c.pass_over.ensures.limit ∙ ready.limit_is) cut in
    has_room c.args.task.now.doing c.args.task.now.limit (length c.in-Message.frame.now) c.pass_frames-tried.new.self.page.out.room c.make_room.new.page.out fits c.requires.limit ready.page c.make_room.ensures.room (rw c.framed_room-wanted.ensures at c.in-Ok.ensures.wanted)

pub handle-requires-clause-room : goal.handle-requires-clause-room
handle-requires-clause-room g c =
    let ready = c.pass_frames-tried.ensures.ready in
    let cut = c.in-Message.ensures.cut c.in-Message.frame.now c.in-Message.ensures.exact.0 c.in-Message.ensures.exact.1 in
    omega (arith, within c.args.task.now c.pass_over.new.self c.in-Message.frame.now c.in-Message.ensures.exact.0 (c.pass_over.ensures.limit ∙ ready.limit_is) cut, c.requires.room)

pub handle-requires-clause-size : goal.handle-requires-clause-size
handle-requires-clause-size g c =
    let ready = c.pass_frames-tried.ensures.ready in
    let cut = c.in-Message.ensures.cut c.in-Message.frame.now c.in-Message.ensures.exact.0 c.in-Message.ensures.exact.1 in
    omega (arith, within c.args.task.now c.pass_over.new.self c.in-Message.frame.now c.in-Message.ensures.exact.0 (c.pass_over.ensures.limit ∙ ready.limit_is) cut, c.requires.limit)

pub returns-in-Err-handle-clause-ready : goal.returns-in-Err-handle-clause-ready
returns-in-Err-handle-clause-ready g c =
    let ready = c.pass_frames-tried.ensures.ready in
    let p = c.pass_over.ensures in
    let k = c.args.task.now in
    record {
      limit_is = p.limit ∙ ready.limit_is;
      transport_is = p.transport ∙ ready.transport_is;
      page = c.handle.ensures.roomy k.limit (subst (λ (n : ℕ). IsRoomy k.doing k.limit n) (sym c.make_room.ensures.room) ready.page);
      lines = c.handle.ensures.lines_room ∙ (c.make_room.ensures.lines_room ∙ ready.lines);
      handler = c.handle.ensures.handler;
      counted = omega (arith, ready.counted, passed_fewer c.pass_frames-tried.new.self.inbox c.pass_over.new.self p);
      taken = ready.taken;
    }

pub returns-in-Err-handle-clause-handled : goal.returns-in-Err-handle-clause-handled
returns-in-Err-handle-clause-handled g c = λ left.
    let ready = c.pass_frames-tried.ensures.ready in
    let k = c.args.task.now in
    let p = c.pass_over.ensures in
    let passed = c.pass_over.new.self in
    let rest = c.in-Message.ensures.exact.0 in
    let cut = c.in-Message.ensures.cut c.in-Message.frame.now rest c.in-Message.ensures.exact.1 in
    let first = moment c.pass_frames-tried.new.self left (g.O.Sink.written c.frames.output) (g.E.Sink.written c.frames.report) in
    let over = record first { held = passed.held } in
    let mid = record (moment c.pass_frames-tried.new.self left (g.O.Sink.written c.make_room.new.output) (g.E.Sink.written c.make_room.new.report)) { held = passed.held } in
    one_broken k _ mid _ c.make_room.new.page.out.bytes c.make_room.new.lines.bytes c.in-Message.frame.now rest
    (waits_roomy k _ over mid c.pass_frames-tried.new.self.page.out.bytes c.make_room.new.page.out.bytes c.pass_frames-tried.new.self.lines.bytes c.make_room.new.lines.bytes
    (waits_over k _ first over c.pass_frames-tried.new.self.page.out.bytes c.pass_frames-tried.new.self.lines.bytes (c.pass_frames-tried.ensures.gathered _ left _ _ (c.frames.invariant.waits left)) (passed_spans k c.pass_frames-tried.new.self.inbox passed ready.limit_is ready.transport_is p) refl refl refl refl refl refl)
    refl refl refl refl refl c.in-Ok.ensures.made)
    (spans k passed c.in-Message.frame.now rest (p.limit ∙ ready.limit_is) (p.transport ∙ ready.transport_is) p.counts c.in-Message.ensures.exact.1 cut) refl refl c.in-Err-handle.ensures.handled

pub frames-smaller : goal.frames-smaller
frames-smaller g c =
    let ready = c.pass_frames-tried.ensures.ready in
    let k = c.args.task.now in
    let p = c.pass_over.ensures in
    let passed = c.pass_over.new.self in
    let rest = c.in-Message.ensures.exact.0 in
    let cut = c.in-Message.ensures.cut c.in-Message.frame.now rest c.in-Message.ensures.exact.1 in
    let e : c.drop_whole.new.self.held ≡ rest = gone passed c.drop_whole.new.self c.in-Message.frame.now rest c.drop_whole.ensures c.in-Message.ensures.exact.1 in
    let one = spans k passed c.in-Message.frame.now rest (p.limit ∙ ready.limit_is) (p.transport ∙ ready.transport_is) p.counts c.in-Message.ensures.exact.1 cut in
    omega (arith, ap length e, one_fewer k passed c.in-Message.frame.now rest one, passed_fewer c.pass_frames-tried.new.self.inbox passed p, c.pass_frames-tried.ensures.fewer)

pub frames-preserved : goal.frames-preserved
frames-preserved g c =
    let ready = c.pass_frames-tried.ensures.ready in
    let k = c.args.task.now in
    let p = c.pass_over.ensures in
    let passed = c.pass_over.new.self in
    let frame = c.in-Message.frame.now in
    let rest = c.in-Message.ensures.exact.0 in
    let cut = c.in-Message.ensures.cut c.in-Message.frame.now rest c.in-Message.ensures.exact.1 in
    let e : c.drop_whole.new.self.held ≡ rest = gone passed c.drop_whole.new.self c.in-Message.frame.now rest c.drop_whole.ensures c.in-Message.ensures.exact.1 in
    let one = spans k passed frame rest (p.limit ∙ ready.limit_is) (p.transport ∙ ready.transport_is) p.counts c.in-Message.ensures.exact.1 cut in
    record {
      ready = record {
        limit_is = ap (λ (h : Incoming). h.limit) c.drop_whole.ensures ∙ (p.limit ∙ ready.limit_is);
        transport_is = ap (λ (h : Incoming). h.transport) c.drop_whole.ensures ∙ (p.transport ∙ ready.transport_is);
        page = c.handle.ensures.roomy k.limit (subst (λ (n : ℕ). IsRoomy k.doing k.limit n) (sym c.make_room.ensures.room) ready.page);
        lines = c.handle.ensures.lines_room ∙ (c.make_room.ensures.lines_room ∙ ready.lines);
        handler = c.handle.ensures.handler;
        counted = omega (arith, ready.counted, ap length e, one_fewer k passed frame rest one, passed_fewer c.pass_frames-tried.new.self.inbox passed p);
        taken = ready.taken;
      };
      waits = λ left.
          let first = moment c.pass_frames-tried.new.self left (g.O.Sink.written c.frames.output) (g.E.Sink.written c.frames.report) in
          let over = record first { held = passed.held } in
          let mid = record (moment c.pass_frames-tried.new.self left (g.O.Sink.written c.make_room.new.output) (g.E.Sink.written c.make_room.new.report)) { held = passed.held } in
          waits_one k _ mid _ c.make_room.new.page.out.bytes c.make_room.new.lines.bytes _ _ frame rest
          (waits_roomy k _ over mid c.pass_frames-tried.new.self.page.out.bytes c.make_room.new.page.out.bytes c.pass_frames-tried.new.self.lines.bytes c.make_room.new.lines.bytes
          (waits_over k _ first over c.pass_frames-tried.new.self.page.out.bytes c.pass_frames-tried.new.self.lines.bytes (c.pass_frames-tried.ensures.gathered _ left _ _ (c.frames.invariant.waits left)) (passed_spans k c.pass_frames-tried.new.self.inbox passed ready.limit_is ready.transport_is p) refl refl refl refl refl refl)
          refl refl refl refl refl c.in-Ok.ensures.made)
          one e refl c.in-Ok-handle.ensures.handled.1 refl refl refl (ap (λ t. c.pass_frames-tried.new.self.refused || not t) c.in-Ok-handle.ensures.handled.0)
          (ap (λ (b : Buffer). b.bytes) c.in-Ok-handle.ensures.handled.2);
      later = omega (arith, c.frames.invariant.later, c.make_room.ensures.later, c.handle.ensures.later);
      report_later = omega (arith, c.frames.invariant.report_later, c.make_room.ensures.report_later);
    }
