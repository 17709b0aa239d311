use Rattle.std.proofs.Common.{◌+◌, ◌≤◌, ℕ, length, drop, arith, refl, subst}
use Rattle.line_transport.specs.Cuts.{IsCut}
use Rattle.line_transport.specs.declared.transport.Transport.TheVariants.{Frames}
use Rattle.gate_streams.proofs.Running.{framed_long, front_behind, laid_behind}
use Rattle.gate_streams.proofs.run.convert_next.Goals as goal

pub returns-clause-within : goal.returns-clause-within
returns-clause-within g c =
    let cut = c.in_ok-frame.ensures.cut in
    (framed_long c.args.held.now c.in_ok-frame.frame.now _ cut.whole, omega (arith, c.requires.place, c.framed_room.ensures, c.if-framed_room-cells.false, c.in_ok-count.ensures.short))

pub returns-clause-next : goal.returns-clause-next
returns-clause-next g c =
    let frame = c.in_ok-frame.frame.now in
    let x = c.in_ok-count.ensures.laid in
    let within : c.args.to + (4 + c.in_ok-count.count) ≤ length c.args.cells.now =
    omega (arith, c.requires.place, c.framed_room.ensures, c.if-framed_room-cells.false, c.in_ok-count.ensures.short) in
    let bytes = laid_behind c.args.cells.now c.lay_behind.new.cells c.lay_length.new.cells _ c.args.to c.in_ok-count.count c.in_ok-count.ensures.kept c.in_ok-count.ensures.front x.1.1 within c.lay_length.ensures in
    let cut = subst (λ (limit : ℕ). IsCut Frames limit c.args.held.now frame (drop (4 + length frame) c.args.held.now)) c.limit.ensures c.in_ok-frame.ensures.cut in
    (frame, x.0, refl, cut, x.1.0, bytes)

pub returns-clause-front : goal.returns-clause-front
returns-clause-front g c =
    front_behind c.args.cells.now c.lay_behind.new.cells c.lay_length.new.cells _ c.args.to c.in_ok-count.ensures.kept c.in_ok-count.ensures.front c.requires.place c.lay_length.ensures
