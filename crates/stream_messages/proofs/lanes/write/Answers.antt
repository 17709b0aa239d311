use Rattle.std.proofs.Common.{Some, Option, sym, subst}
use Rattle.gate_hub.specs.Hubs.{LinkWrites}
use Rattle.stream_messages.specs.declared.lane.Lane.{Lane}
use Rattle.stream_messages.specs.Lanes.{OneSideGoes}
use Rattle.stream_messages.proofs.Sides.{wrapped_goes, passed_write}
use Rattle.stream_messages.proofs.lanes.write.Goals as goal

pub returns-in-Some-clause-goes : goal.returns-in-Some-clause-goes
returns-in-Some-clause-goes g c =
    let told = g.H.Hub.tells c.args.hub.now in
    let told' = g.H.Hub.tells c.write.new.hub in
    subst (λ (l : Option Lane). OneSideGoes told told' l (Some c.write.new.self) c.args.k c.args.side (LinkWrites c.args.from.now c.write.result)) (sym c.in-Some.is)
    (wrapped_goes told told' c.args.k c.args.side c.in-Some.lane c.write.new.self (LinkWrites c.args.from.now c.write.result) c.write.ensures.goes)

pub returns-in-None-clause-goes : goal.returns-in-None-clause-goes
returns-in-None-clause-goes g c =
    let told = g.H.Hub.tells c.args.hub.now in
    let told' = g.H.Hub.tells c.write-in-None.new.self in
    subst (λ (l : Option Lane). OneSideGoes told told' l l c.args.k c.args.side (LinkWrites c.args.from.now c.write-in-None.result)) (sym c.in-None.is)
    (passed_write told told' c.args.k c.args.side c.args.from.now c.write-in-None.result c.write-in-None.ensures.leads)
