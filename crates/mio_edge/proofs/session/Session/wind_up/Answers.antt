use Rattle.std.proofs.Common.{◌≡◌, ◌++◌, length, take, drop, sym, subst, arith}
use Rattle.std.proofs.lemmas.Grind.{common_steps}
use Rattle.mio_edge.specs.Wire.{Moves}
use Rattle.mio_edge.specs.Sessions.{EachPort, PortsTell}
use Rattle.mio_edge.specs.Closing.{KeepAllSent, AreFlushed, TellsItsEnd}
use Rattle.mio_edge.proofs.Closing.{each_sends}
use Rattle.mio_edge.proofs.session.Session.wind_up.Goals as goal

pub returns-clause-sends : goal.returns-clause-sends
returns-clause-sends g c =
    let t = g.S.Stream.tells in
    let old = c.args.self.now.ports in
    let new = c.wind_up_all.new.ports in
    let same : take old.len (new ++ drop (length new) old.items) ≡ new = grind (arith, common_steps) in
    subst (λ xs. Moves (PortsTell t old.items) (PortsTell t xs) KeepAllSent) (sym same)
    (subst (λ xs. Moves (PortsTell t xs) (PortsTell t new) KeepAllSent) c.deref_mut.ensures.value (each_sends t c.deref_mut.result.now new c.wind_up_all.ensures.sends))

pub returns-clause-sent : goal.returns-clause-sent
returns-clause-sent g c =
    let old = c.args.self.now.ports in
    let new = c.wind_up_all.new.ports in
    let same : take old.len (new ++ drop (length new) old.items) ≡ new = grind (arith, common_steps) in
    subst (λ xs. AreFlushed xs) (sym same) c.wind_up_all.ensures.sent

pub returns-clause-told : goal.returns-clause-told
returns-clause-told g c =
    let old = c.args.self.now.ports in
    let new = c.wind_up_all.new.ports in
    let same : take old.len (new ++ drop (length new) old.items) ≡ new = grind (arith, common_steps) in
    subst (λ xs. EachPort (λ port. TellsItsEnd port) xs) (sym same) c.wind_up_all.ensures.told

pub returns-clause-gone : goal.returns-clause-gone
returns-clause-gone g c = grind (arith, common_steps)
