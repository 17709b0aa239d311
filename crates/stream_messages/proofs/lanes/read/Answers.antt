use Rattle.std.proofs.Common.{Some, Option, length, sym, subst}
use Rattle.gate_hub.specs.Hubs.{LinkReads}
use Rattle.stream_messages.specs.declared.lane.Lane.{Lane}
use Rattle.stream_messages.specs.Lanes.{OneSideGoes}
use Rattle.stream_messages.proofs.Sides.{wrapped_goes, passed_read}
use Rattle.stream_messages.proofs.lanes.read.Goals as goal

pub returns-in-Some-clause-goes : goal.returns-in-Some-clause-goes
returns-in-Some-clause-goes g c =
    let told = g.H.Hub.tells c.args.hub.now in
    let told' = g.H.Hub.tells c.read.new.hub in
    subst (λ (l : Option Lane). OneSideGoes told told' l (Some c.read.new.self) c.args.k c.args.side (LinkReads c.read.new.into c.read.result)) (sym c.in-Some.is)
    (wrapped_goes told told' c.args.k c.args.side c.in-Some.lane c.read.new.self (LinkReads c.read.new.into c.read.result) c.read.ensures.goes)

pub returns-in-None-clause-goes : goal.returns-in-None-clause-goes
returns-in-None-clause-goes g c =
    let told = g.H.Hub.tells c.args.hub.now in
    let told' = g.H.Hub.tells c.read-in-None.new.self in
    subst (λ (l : Option Lane). OneSideGoes told told' l l c.args.k c.args.side (LinkReads c.read-in-None.new.into c.read-in-None.result)) (sym c.in-None.is)
    (passed_read told told' c.args.k c.args.side (length c.args.into.now) c.read-in-None.new.into c.read-in-None.result c.read-in-None.ensures.leads)
