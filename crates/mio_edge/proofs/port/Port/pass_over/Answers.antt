use Rattle.std.proofs.Common.{◌<◌, ap, refl, sym, subst}
use Rattle.gate_io.specs.Buffer.{Buffer}
use Rattle.mio_edge.specs.Wire.{Stays}
use Rattle.mio_edge.specs.Moving.{PortTells}
use Rattle.mio_edge.specs.Closing.{KeepsSent}
use Rattle.mio_edge.proofs.Closing.{then_stays, passes_over}
use Rattle.mio_edge.proofs.Ports.{port_same}
use Rattle.mio_edge.proofs.port.Port.pass_over.Goals as goal

pub returns-clause-moves : goal.returns-clause-moves
returns-clause-moves g c =
    let t = g.S.Stream.tells in
    let a = c.args.self.now in
    let b = record a { incoming = c.clear.new.self; room_in = subst (λ (x : Buffer). 0 < x.room) (sym c.clear.ensures) a.room_in } in
    then_stays (PortTells t a) (PortTells t b) (PortTells t c.receive.new.self) KeepsSent (passes_over t a b refl (ap (λ (x : Buffer). x.bytes) c.clear.ensures))
    (subst (λ port. Stays (PortTells t port) (PortTells t c.receive.new.self)) (port_same b _ refl refl refl refl refl) c.receive.ensures.keeps)
