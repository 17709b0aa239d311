use Rattle.std.proofs.Common.{rules}
use Rattle.gate_memory.specs.Link.{changed_by}
use Rattle.gate_memory.proofs.Events.{would_change}
use Rattle.gate_memory.proofs.hub.change.Goals as goal

pub returns-in-Err-clause-exact : goal.returns-in-Err-clause-exact
returns-in-Err-clause-exact c =
    let e = c.in-Err.ensures.err in
    let would = would_change c.args.k c.args.side (changed_by c.args.change) c.args.sessions.now.items c.index_mut.result.now (search rules) c.index_mut.ensures.value e.2 in
    (would.0, would.1, e.1)
