use Rattle.std.proofs.Common.{◌≡◌, ◌+◌, ◌<◌, List, ℕ, length, arith, ap, sym, ◌∙◌, subst}
use Rattle.framed_transport.specs.Frames as framed
use Rattle.framed_transport.specs.Front as frames
use Rattle.framed_transport.specs.Held.{Held}
use Rattle.line_transport.specs.Buffers.{Incoming, incoming, front_of}
use Rattle.line_transport.specs.Cuts.{IsCut}
use Rattle.line_transport.specs.Front.{Part, Whole}
use Rattle.line_transport.specs.declared.messages.Kind.TheVariants as kinds
use Rattle.line_transport.proofs.Cutting.{frame_whole, line_cut, line_part}
use Rattle.line_transport.proofs.messages.MessageBuf.message.Goals as goal

IsCutOff : Incoming → Type 0
IsCutOff b = (message rest : List ℕ) → front_of b ≡ Whole message rest → IsCut b.transport b.limit b.held message rest

frame_cut : (b : Incoming) (h : Held) → incoming (kinds.Frames h) ≡ b → ((frame rest : List ℕ) → frames.front h.limit h.held ≡ frames.Whole frame rest → framed.IsCut h.limit h.held frame rest)
    → (message rest : List ℕ) → front_of b ≡ Whole message rest → IsCut b.transport b.limit b.held message rest
frame_cut b h e cut =
    subst (λ (x : Incoming). (message rest : List ℕ) → front_of x ≡ Whole message rest → IsCut x.transport x.limit x.held message rest) e
    (λ message rest whole. let c = cut message rest (frame_whole h.limit h.held message rest whole) in record { is = c.within; whole = c.whole })

line_cut_off : (b : Incoming) (h : Held) → incoming (kinds.Lines h) ≡ b → (message rest : List ℕ) → front_of b ≡ Whole message rest → IsCut b.transport b.limit b.held message rest
line_cut_off b h e =
    subst (λ (x : Incoming). (message rest : List ℕ) → front_of x ≡ Whole message rest → IsCut x.transport x.limit x.held message rest) e
    (λ message rest whole. line_cut h.limit h.held message rest whole)

line_room : (b : Incoming) (h : Held) → incoming (kinds.Lines h) ≡ b → front_of b ≡ Part → length b.held < b.limit + 4
line_room b h e =
    subst (λ (x : Incoming). front_of x ≡ Part → length x.held < x.limit + 4) e (λ part. omega (arith, (line_part h.limit h.held part).within))

pub returns-in-Frames-clause-cut : goal.returns-in-Frames-clause-cut
returns-in-Frames-clause-cut c = frame_cut c.args.self.now c.in-Frames.frames (sym (ap incoming c.in-Frames.is) ∙ c.self.view_is) c.frame.ensures.cut

pub returns-in-Lines-clause-cut : goal.returns-in-Lines-clause-cut
returns-in-Lines-clause-cut c = line_cut_off c.args.self.now c.in-Lines.lines (sym (ap incoming c.in-Lines.is) ∙ c.self.view_is)

pub returns-in-Lines-clause-room : goal.returns-in-Lines-clause-room
returns-in-Lines-clause-room c = line_room c.args.self.now c.in-Lines.lines (sym (ap incoming c.in-Lines.is) ∙ c.self.view_is)
