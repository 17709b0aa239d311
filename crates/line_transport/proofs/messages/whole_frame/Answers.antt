use Rattle.std.proofs.Common.{◌≡◌, ◌+◌, ℕ, List, length, drop, arith, sym, ◌∙◌, subst}
use Rattle.std.proofs.lemmas.List.{drop-drop}
use Rattle.framed_transport.proofs.Cutting.{rest_is}
use Rattle.line_transport.specs.Cuts.{IsCut}
use Rattle.line_transport.specs.declared.transport.Transport.TheVariants.{Frames}
use Rattle.line_transport.proofs.messages.whole_frame.Goals as goal

pub returns-in-Frame : goal.returns-in-Frame
returns-in-Frame c =
    let held = c.args.held.now in
    let frame = c.in-Frame.frame.now in
    let tells = c.in-Frame.ensures.exact in
    let cut = c.in-Frame.ensures.cut frame tells.0 tells.1 in
    let behind = rest_is frame tells.0 held (omega (arith, cut.within, c.requires)) cut.whole in
    let is : drop (4 + length frame) held ≡ tells.0 = sym (drop-drop (length frame) 4 held) ∙ behind in
    record { cut = subst (λ (rest : List ℕ). IsCut Frames c.args.limit held frame rest) (sym is) (record { is = cut.within; whole = cut.whole }) }
