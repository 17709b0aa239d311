use Rattle.std.proofs.Common.{◌≡◌, ◌++◌, length, take, drop, refl, sym, subst, arith}
use Rattle.std.proofs.lemmas.Grind.{common_steps}
use Rattle.mio_edge.specs.Connecting.{WaitsForWrite}
use Rattle.mio_edge.specs.Sessions.{Calms, EachPort, PortsAre}
use Rattle.mio_edge.proofs.Sessions.{session_stays}
use Rattle.mio_edge.proofs.session.Session.defer.Goals as goal

pub returns : goal.returns
returns g c =
    let t = g.S.Stream.tells in
    let old = c.args.self.now.ports in
    let new = c.defer_all.new.ports in
    let after = take old.len (new ++ drop (length new) old.items) in
    let same : after ≡ new = grind (arith, common_steps) in
    let each : PortsAre (Calms t) old.items after = subst (λ xs. PortsAre (Calms t) old.items xs) (sym same) (subst (λ xs. PortsAre (Calms t) xs new) c.deref_mut.ensures.value c.defer_all.ensures.calm) in record {
      keeps = session_stays t c.args.self.now _ each (record { number = refl; is_open = refl; queued = refl; written = refl });
      still = record { number = refl; is_open = refl; queued = refl; written = refl };
      same = refl;
      deferred = subst (λ xs. EachPort (λ port. WaitsForWrite port) xs) (sym same) c.defer_all.ensures.deferred;
    }
