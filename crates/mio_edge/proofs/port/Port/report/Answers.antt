use Rattle.std.proofs.Common.{refl, sym, subst}
use Rattle.mio_edge.specs.Moving.{PortHears, noted}
use Rattle.mio_edge.proofs.Ports.{hears_news, port_same}
use Rattle.mio_edge.proofs.port.Port.report.Goals as goal

pub returns-clause-hears : goal.returns-clause-hears
returns-clause-hears g c = λ link told.
    let t = g.S.Stream.tells in
    let a = c.args.self.now in
    let news = c.args.news in
    subst (λ port. PortHears t news port link) (port_same _ (noted news a) refl (sym c.after-self.ensures) (sym c.after-self-2.ensures) refl refl) (hears_news t g.met.S.Stream.hears news a link told)
