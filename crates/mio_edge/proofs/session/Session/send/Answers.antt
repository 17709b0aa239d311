use Rattle.std.proofs.Common.{◌≡◌, ◌++◌, length, take, drop, refl, sym, subst, arith}
use Rattle.std.proofs.lemmas.Grind.{common_steps}
use Rattle.mio_edge.specs.Sessions.{Flushes, PortsAre}
use Rattle.mio_edge.proofs.Sessions.{session_sent, tells_on}
use Rattle.mio_edge.proofs.Stepping.{sent_stepped}
use Rattle.mio_edge.proofs.session.Session.send.Goals as goal

pub returns : goal.returns
returns g c =
    let t = g.S.Stream.tells in
    let old = c.args.self.now.ports in
    let new = c.send_all.new.ports in
    let after = take old.len (new ++ drop (length new) old.items) in
    let same : after ≡ new = grind (arith, common_steps) in
    let each : PortsAre (Flushes t) old.items after = subst (λ xs. PortsAre (Flushes t) old.items xs) (sym same) (subst (λ xs. PortsAre (Flushes t) xs new) c.deref_mut.ensures.value c.send_all.ensures) in record {
      keeps = session_sent t c.args.self.now _ each (record { number = refl; is_open = refl; queued = refl; written = refl });
      ports = tells_on t (Flushes t) (λ x y f. f.keeps) old.items after each;
      stepped = sent_stepped t old.items after each;
      still = record { number = refl; is_open = refl; queued = refl; written = refl };
      same = refl;
    }
