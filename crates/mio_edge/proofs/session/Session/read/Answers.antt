use Rattle.std.proofs.Common.{◌≡◌, length, refl, arith, inl, inr}
use Rattle.std.specs.Vec.{vec_len}
use Rattle.gate_hub.specs.Hubs.{LinkReads}
use Rattle.gate_hub.specs.declared.hub.LinkGot.TheVariants as got
use Rattle.mio_edge.proofs.Ports.{reads_nothing}
use Rattle.mio_edge.proofs.Sessions.{session_reads, session_nowhere, reads_nowhere, here, past, not_here, still_open, none_read}
use Rattle.mio_edge.proofs.session.Session.read.Goals as goal
use Rattle.std.proofs.lemmas.Grind.{common_steps}

pub returns-in_default-clause-leads : goal.returns-in_default-clause-leads
returns-in_default-clause-leads g c = λ may.
    let long : vec_len c.args.self.now.ports ≡ length c.args.self.now.ports.items = omega (arith, c.args.self.now.ports.ok.0) in
    let none = past c.args.self.now.ports.items _ c.args.port long c.in_default.ensures.variant.1 in
    session_nowhere g.S.Stream.tells c.args.self.now c.args.port (LinkReads c.args.into.now got.Failed) none (reads_nowhere g.S.Stream.tells c.args.self.now.ports.items c.args.port c.args.into.now none)

pub returns-then-waits_for_turn-clause-leads : goal.returns-then-waits_for_turn-clause-leads
returns-then-waits_for_turn-clause-leads g c = λ may.
    let long : vec_len c.args.self.now.ports ≡ length c.args.self.now.ports.items = omega (arith, c.args.self.now.ports.ok.0) in
    let is = here c.args.self.now.ports.items _ c.args.port c.in-Some.port.now long (c.in-Some.ensures.variant.0 refl) c.in-Some.ensures.value in
    session_reads g.S.Stream.tells c.args.self.now _ c.args.port c.in-Some.port.now c.in-Some.port.now c.args.into.now got.NotReady is refl
    (reads_nothing g.S.Stream.tells c.in-Some.port.now c.args.into.now (c.waits_for_turn.ensures.over c.if-waits_for_turn.true)) (λ e. inr (may (c.waits_for_turn.ensures.spent c.if-waits_for_turn.true))) (λ can. can) (λ un. un) refl refl

pub returns-in-Bytes-clause-leads : goal.returns-in-Bytes-clause-leads
returns-in-Bytes-clause-leads g c = λ may.
    let long : vec_len c.args.self.now.ports ≡ length c.args.self.now.ports.items = omega (arith, c.args.self.now.ports.ok.0) in
    let is = here c.args.self.now.ports.items _ c.args.port c.in-Some.port.now long (c.in-Some.ensures.variant.0 refl) c.in-Some.ensures.value in
    session_reads g.S.Stream.tells c.args.self.now _ c.args.port c.in-Some.port.now c.read-got.new.self c.read-got.new.into (got.Bytes c.in-Bytes.count) is refl c.in-Bytes.ensures.leads (λ e. absurd (cc)) c.in-Bytes.ensures.calm.0 c.in-Bytes.ensures.calm.1 refl refl

pub returns-in_default-got-clause-leads : goal.returns-in_default-got-clause-leads
returns-in_default-got-clause-leads g c = λ may.
    let long : vec_len c.args.self.now.ports ≡ length c.args.self.now.ports.items = omega (arith, c.args.self.now.ports.ok.0) in
    let is = here c.args.self.now.ports.items _ c.args.port c.in-Some.port.now long (c.in-Some.ensures.variant.0 refl) c.in-Some.ensures.value in
    session_reads g.S.Stream.tells c.args.self.now _ c.args.port c.in-Some.port.now c.read-got.new.self c.read-got.new.into c.read-got.result is refl c.read-got.ensures.leads (λ e. inl (c.read-got.ensures.waits e)) c.read-got.ensures.calm.0 c.read-got.ensures.calm.1 refl refl

pub returns-in_default-clause-waits : goal.returns-in_default-clause-waits
returns-in_default-clause-waits g c = λ x spent at unread.
    let long : vec_len c.args.self.now.ports ≡ length c.args.self.now.ports.items = omega (arith, c.args.self.now.ports.ok.0) in
    let none = past c.args.self.now.ports.items _ c.args.port long c.in_default.ensures.variant.1 in
    absurd (not_here x none at)

pub returns-in-Bytes-clause-waits : goal.returns-in-Bytes-clause-waits
returns-in-Bytes-clause-waits g c = λ x spent at unread.
    let long : vec_len c.args.self.now.ports ≡ length c.args.self.now.ports.items = omega (arith, c.args.self.now.ports.ok.0) in
    let is = here c.args.self.now.ports.items _ c.args.port c.in-Some.port.now long (c.in-Some.ensures.variant.0 refl) c.in-Some.ensures.value in
    absurd (still_open c.in-Some.port.now x is at (c.waits_for_turn.ensures.ended c.if-waits_for_turn.false spent) unread)

pub returns-in_default-got-clause-waits : goal.returns-in_default-got-clause-waits
returns-in_default-got-clause-waits g c = λ x spent at unread.
    let long : vec_len c.args.self.now.ports ≡ length c.args.self.now.ports.items = omega (arith, c.args.self.now.ports.ok.0) in
    let is = here c.args.self.now.ports.items _ c.args.port c.in-Some.port.now long (c.in-Some.ensures.variant.0 refl) c.in-Some.ensures.value in
    absurd (still_open c.in-Some.port.now x is at (c.waits_for_turn.ensures.ended c.if-waits_for_turn.false spent) unread)

pub returns-in_default-got-clause-spends : goal.returns-in_default-got-clause-spends
returns-in_default-got-clause-spends g c = omega (arith, none_read c.read-got.result c.in_default-got.not-Bytes)

pub returns-in-Bytes-clause-still : goal.returns-in-Bytes-clause-still
returns-in-Bytes-clause-still g c = grind (arith, common_steps)

pub read-got-requires : goal.read-got-requires
read-got-requires g c = grind (arith, common_steps)
