use Rattle.std.proofs.Common.{◌≡◌, ◌++◌, length, take, drop, ap, sym, subst, arith, ◌∙◌}
use Rattle.std.proofs.lemmas.Grind.{common_steps}
use Rattle.mio_edge.specs.Sessions.{PortsTell, new_links}
use Rattle.mio_edge.proofs.session.Session.into_ports.Goals as goal

pub returns : goal.returns
returns g c =
    let t = g.S.Stream.tells in
    let old = c.args.self.ports in
    let new = c.detach_all.new.ports in
    let same : take old.len (new ++ drop (length new) old.items) ≡ new = grind (arith, common_steps) in record {
      new = subst (λ xs. PortsTell t xs new_links) (sym same) c.detach_all.ensures;
      count = ap length same ∙ omega arith;
    }
