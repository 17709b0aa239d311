use Rattle.std.proofs.Common.{◌≡◌, length, refl, arith, inl, inr}
use Rattle.std.specs.Vec.{vec_len}
use Rattle.gate_hub.specs.Hubs.{LinkWrites}
use Rattle.gate_hub.specs.declared.hub.LinkPut.TheVariants as put
use Rattle.mio_edge.proofs.Ports.{writes_wait}
use Rattle.mio_edge.proofs.Sessions.{session_writes, session_nowhere, writes_nowhere, here, past, not_here, none_written}
use Rattle.mio_edge.proofs.session.Session.write.Goals as goal

pub returns-in_default-clause-leads : goal.returns-in_default-clause-leads
returns-in_default-clause-leads g c = λ may.
    let long : vec_len c.args.self.now.ports ≡ length c.args.self.now.ports.items = omega (arith, c.args.self.now.ports.ok.0) in
    let none = past c.args.self.now.ports.items _ c.args.port long c.in_default.ensures.variant.1 in
    session_nowhere g.S.Stream.tells c.args.self.now c.args.port (LinkWrites c.args.from.now put.Failed) none (writes_nowhere g.S.Stream.tells c.args.self.now.ports.items c.args.port c.args.from.now none)

pub returns-then-self-eq0-clause-leads : goal.returns-then-self-eq0-clause-leads
returns-then-self-eq0-clause-leads g c = λ may.
    let long : vec_len c.args.self.now.ports ≡ length c.args.self.now.ports.items = omega (arith, c.args.self.now.ports.ok.0) in
    let is = here c.args.self.now.ports.items _ c.args.port c.in-Some.port.now long (c.in-Some.ensures.variant.0 refl) c.in-Some.ensures.value in
    session_writes g.S.Stream.tells c.args.self.now _ c.args.port c.in-Some.port.now c.in-Some.port.now c.args.from.now put.NotReady is refl
    (writes_wait g.S.Stream.tells c.in-Some.port.now c.args.from.now) (λ e. inr (may.0 c.if-self-eq0.true)) (λ can. can) refl may.1

pub returns-in-Took-clause-leads : goal.returns-in-Took-clause-leads
returns-in-Took-clause-leads g c = λ may.
    let long : vec_len c.args.self.now.ports ≡ length c.args.self.now.ports.items = omega (arith, c.args.self.now.ports.ok.0) in
    let is = here c.args.self.now.ports.items _ c.args.port c.in-Some.port.now long (c.in-Some.ensures.variant.0 refl) c.in-Some.ensures.value in
    session_writes g.S.Stream.tells c.args.self.now _ c.args.port c.in-Some.port.now c.write-put.new.self c.args.from.now (put.Took c.in-Took.count) is refl c.in-Took.ensures.leads (λ e. absurd (cc)) c.in-Took.ensures.calm refl may.1

pub returns-in_default-put-clause-leads : goal.returns-in_default-put-clause-leads
returns-in_default-put-clause-leads g c = λ may.
    let long : vec_len c.args.self.now.ports ≡ length c.args.self.now.ports.items = omega (arith, c.args.self.now.ports.ok.0) in
    let is = here c.args.self.now.ports.items _ c.args.port c.in-Some.port.now long (c.in-Some.ensures.variant.0 refl) c.in-Some.ensures.value in
    session_writes g.S.Stream.tells c.args.self.now _ c.args.port c.in-Some.port.now c.write-put.new.self c.args.from.now c.write-put.result is refl c.write-put.ensures.leads (λ e. inl (c.write-put.ensures.waits e)) c.write-put.ensures.calm refl may.1

pub returns-in_default-clause-waits : goal.returns-in_default-clause-waits
returns-in_default-clause-waits g c = λ x spent at.
    let long : vec_len c.args.self.now.ports ≡ length c.args.self.now.ports.items = omega (arith, c.args.self.now.ports.ok.0) in
    let none = past c.args.self.now.ports.items _ c.args.port long c.in_default.ensures.variant.1 in
    absurd (not_here x none at)

pub returns-in-Took-clause-waits : goal.returns-in-Took-clause-waits
returns-in-Took-clause-waits g c = λ x spent at. absurd (omega (arith, c.if-self-eq0.false, spent))

pub returns-in_default-put-clause-waits : goal.returns-in_default-put-clause-waits
returns-in_default-put-clause-waits g c = λ x spent at. absurd (omega (arith, c.if-self-eq0.false, spent))

pub returns-in_default-put-clause-spends : goal.returns-in_default-put-clause-spends
returns-in_default-put-clause-spends g c = omega (arith, none_written c.write-put.result c.in_default-put.not-Took)
