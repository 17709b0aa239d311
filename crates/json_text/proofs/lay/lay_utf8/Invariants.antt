use Rattle.std.proofs.Common.{◌≡◌, ◌-◌, ◌≤◌, take, true}
use Rattle.json_text.specs.Places.{IsAsciiRun}
use Rattle.json_text.proofs.Laid.{Laid}
use Rattle.json_text.proofs.lay.lay_utf8.Given as goal

abbrev pub invariant-runs : goal.invariant-runs
invariant-runs l = Laid l.fn.cells l.fn.into l.cells l.to (take l.size l.bytes) l.from × (l.from ≤ l.size) × (l.is_ascii ≡ true → IsAsciiRun l.bytes 0 l.from)

abbrev pub decreases-runs : goal.decreases-runs
decreases-runs l = l.size - l.from
