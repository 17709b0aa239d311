use Rattle.std.proofs.Common.{◌≡◌, ◌+◌, ◌-◌, ◌<◌, ◌≤◌}
use Rattle.gate_fan.specs.Fans.{Later}
use Rattle.service_router.specs.Router.{IsSame, HoldsWithin, targets_of}
use Rattle.route_server.specs.Matching.{Matches}
use Rattle.route_server.specs.Turning.{GoesTelling, Runs, to_write, first_of, IsWritten, AreDone, KeepsMarks}
use Rattle.route_server.proofs.Running.{Idle}
use Rattle.route_server.proofs.turning.write_all.Given as goal

-- the ports before this one are done, and what was wanted of them first was done first
abbrev pub invariant-ports : goal.invariant-ports
invariant-ports g l =
    let fan = g.M.Fan in
    let r0 = l.fn.router in
    let w0 = l.fn.waits in
    record {
      goes : GoesTelling (g.N.Notes.tells l.fn.notes l.notes) (fan.tells l.fn.fan) (fan.tells l.fan) (Matches r0) (Matches l.router) l.fn.k (Runs l.fn.k (targets_of r0) (first_of to_write l.port w0 r0) l.moved w0 l.waits);
      idle : Idle (first_of to_write l.port w0 r0) r0 l.router w0 l.waits;
      same : IsSame r0 l.router;
      holds : 0 < l.port → HoldsWithin l.router;
      later : Later (fan.counts l.fn.fan) (fan.counts l.fan);
      count : fan.target_count l.fan ≡ fan.target_count l.fn.fan;
      quiet : l.moved ≡ 0 → (l.router ≡ r0) × AreDone IsWritten l.port l.router l.waits;
      marks : KeepsMarks w0 l.waits;
      few : l.moved ≤ l.port;
      within : l.port ≤ targets_of r0 + 1;
    }

abbrev pub decreases-ports : goal.decreases-ports
decreases-ports g l = targets_of l.fn.router + 1 - l.port
