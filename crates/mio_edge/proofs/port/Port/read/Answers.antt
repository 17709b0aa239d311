use Rattle.std.proofs.Common.{arith, refl}
use Rattle.gate_hub.specs.Hubs.{LinkReads}
use Rattle.gate_hub.specs.declared.hub.LinkGot.TheVariants as got
use Rattle.mio_edge.specs.Moving.{PortTells}
use Rattle.mio_edge.proofs.Ports.{then_moves, hands_out, only_incoming, reads_nothing, reads_found}
use Rattle.mio_edge.proofs.port.Port.read.Goals as goal
use Rattle.std.proofs.lemmas.Grind.{common_steps}

pub returns-in-Bytes-clause-leads : goal.returns-in-Bytes-clause-leads
returns-in-Bytes-clause-leads g c =
    let t = g.S.Stream.tells in
    let port = c.receive.new.self in
    then_moves (PortTells t c.args.self.now) (PortTells t port) _ (LinkReads c.hand_out-in-Bytes.new.into (got.Bytes c.hand_out-in-Bytes.result)) c.receive.ensures.keeps
    (hands_out t port _ c.hand_out-in-Bytes.new.into c.hand_out-in-Bytes.result c.in-Bytes.ensures.finds c.hand_out-in-Bytes.ensures.bytes (only_incoming port _ refl refl refl refl))

pub returns-in-Failed-clause-leads : goal.returns-in-Failed-clause-leads
returns-in-Failed-clause-leads g c =
    let t = g.S.Stream.tells in
    then_moves (PortTells t c.args.self.now) (PortTells t c.receive.new.self) (PortTells t c.receive.new.self) (LinkReads c.args.into.now got.NotReady) c.receive.ensures.keeps
    (reads_nothing t c.receive.new.self c.args.into.now c.in-Failed.ensures.finds.0)

pub returns-in_default-clause-leads : goal.returns-in_default-clause-leads
returns-in_default-clause-leads g c =
    let t = g.S.Stream.tells in
    then_moves (PortTells t c.args.self.now) (PortTells t c.receive.new.self) (PortTells t c.receive.new.self) (LinkReads c.args.into.now c.receive.result) c.receive.ensures.keeps
    (reads_found t c.receive.new.self c.args.into.now c.receive.result c.in_default.not-Bytes c.receive.ensures.finds)

pub returns-in_default-2-clause-leads : goal.returns-in_default-2-clause-leads
returns-in_default-2-clause-leads g c =
    let t = g.S.Stream.tells in
    then_moves (PortTells t c.args.self.now) (PortTells t c.receive.new.self) (PortTells t c.receive.new.self) (LinkReads c.args.into.now c.receive.result) c.receive.ensures.keeps
    (reads_found t c.receive.new.self c.args.into.now c.receive.result c.in_default.not-Bytes c.receive.ensures.finds)

pub receive-requires : goal.receive-requires
receive-requires g c = grind (arith, common_steps)

pub returns-then-not-is_empty-clause-leads : goal.returns-then-not-is_empty-clause-leads
returns-then-not-is_empty-clause-leads g c = grind (arith, common_steps)

pub returns-in-Bytes-clause-waits : goal.returns-in-Bytes-clause-waits
returns-in-Bytes-clause-waits g c = grind (arith, common_steps)

pub returns-in-Failed-clause-waits : goal.returns-in-Failed-clause-waits
returns-in-Failed-clause-waits g c = grind (arith, common_steps)

pub returns-in_default-2-clause-waits : goal.returns-in_default-2-clause-waits
returns-in_default-2-clause-waits g c = grind (arith, common_steps)

pub returns-in_default-clause-waits : goal.returns-in_default-clause-waits
returns-in_default-clause-waits g c = grind (arith, common_steps)

pub returns-then-not-is_empty-clause-waits : goal.returns-then-not-is_empty-clause-waits
returns-then-not-is_empty-clause-waits g c = grind (arith, common_steps)

pub hand_out-requires-clause-held : goal.hand_out-requires-clause-held
hand_out-requires-clause-held g c = grind (arith, common_steps)

pub returns-in_default-2-clause-within : goal.returns-in_default-2-clause-within
returns-in_default-2-clause-within g c = grind (arith, common_steps)

pub returns-in_default-clause-within : goal.returns-in_default-clause-within
returns-in_default-clause-within g c = grind (arith, common_steps)

pub hand_out-requires-in-Bytes-clause-room : goal.hand_out-requires-in-Bytes-clause-room
hand_out-requires-in-Bytes-clause-room g c = grind (arith, common_steps)
