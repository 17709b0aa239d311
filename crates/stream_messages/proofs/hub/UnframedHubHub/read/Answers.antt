use Rattle.std.proofs.Common.{arith, length, refl, ap}
use Rattle.std.proofs.lemmas.Grind.{common_steps}
use Rattle.gate_hub.specs.Meaning.{Read}
use Rattle.gate_hub.specs.Hubs.{LinkReads}
use Rattle.stream_messages.proofs.Calls.{call_over, not_read}
use Rattle.stream_messages.proofs.hub.UnframedHubHub.read.Goals as goal

pub returns-in-Some-clause-leads : goal.returns-in-Some-clause-leads
returns-in-Some-clause-leads g c =
    let hub = c.args.self.now in
    call_over (g.H.Hub.tells hub.inner.now) (g.H.Hub.tells c.read.new.hub) hub.wrapping hub.slots c.read.new.slots c.args.k c.args.side (Read c.args.k c.args.side (length c.args.into.now) c.in-Some.got) (LinkReads c.read.new.into c.in-Some.got)
    c.in-Some.ensures.goes

pub returns-in-None-clause-leads : goal.returns-in-None-clause-leads
returns-in-None-clause-leads g c =
    let hub = c.args.self.now in
    let none = c.in-None.ensures.none refl in
    not_read (g.H.Hub.tells hub.inner.now) (g.H.Hub.tells c.read.new.hub) hub.wrapping hub.slots c.read.new.slots c.args.k c.args.side (length c.args.into.now) c.read.new.into none.0 none.1 (ap g.H.Hub.tells none.2)

pub returns-in-Some-clause-kept : goal.returns-in-Some-clause-kept
returns-in-Some-clause-kept g c = grind (arith, common_steps)

pub returns-in-None-clause-later : goal.returns-in-None-clause-later
returns-in-None-clause-later g c = grind (arith, common_steps)

pub returns-in-None-clause-wait : goal.returns-in-None-clause-wait
returns-in-None-clause-wait g c = grind (arith, common_steps)

pub returns-in-None-clause-kept : goal.returns-in-None-clause-kept
returns-in-None-clause-kept g c = grind (arith, common_steps)
