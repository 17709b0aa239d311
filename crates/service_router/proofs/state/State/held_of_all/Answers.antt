use Rattle.std.proofs.Common.{arith}
use Rattle.service_router.proofs.Rooms.{held_next, held_all, held_fits, room_read, taken_all}
use Rattle.service_router.proofs.state.State.held_of_all.Goals as goal

pub overflow_add-held : goal.overflow_add-held
overflow_add-held c =
    let s = c.args.self.now in
    let n = c.targets.target in
    let read = room_read s.client.limit s.ports.items n c.index.result.now c.requires.ports (omega arith) c.index.ensures in
    omega (arith, held_fits s.client.limit n s.ports.items c.targets.held c.held-held.result c.requires.ports (omega arith) (omega (arith, c.requires.few_targets)) c.targets.invariant.held (omega (arith, c.held-held.ensures.within, read)), c.requires.small)

pub targets-preserved : goal.targets-preserved
targets-preserved c =
    let s = c.args.self.now in
    record { held = omega (arith, c.targets.invariant.held, held_next s.ports.items c.targets.target c.index.result.now (omega arith) c.index.ensures, c.held-held.ensures.count) }

pub returns-clause-within : goal.returns-clause-within
returns-clause-within c =
    let s = c.args.self.now in
    let all = held_all s.client.limit s.ports.items c.requires.ports in
    omega (arith, c.targets.invariant.held, all, taken_all s.ports.items c.targets.target (omega arith))
