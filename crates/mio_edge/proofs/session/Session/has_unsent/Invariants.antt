use Rattle.std.proofs.Common.{ℕ, ◌<◌}
use Rattle.std.specs.List.{slice_get}
use Rattle.mio_edge.specs.Closing.{IsSettledAt}
use Rattle.mio_edge.specs.Places.{HoldsUnsentAt}
use Rattle.mio_edge.specs.Sessions.{IsUnsentAt}
use Rattle.mio_edge.proofs.session.Session.has_unsent.Given as goal

-- nothing waits at the ports so far, or no stream takes it
abbrev pub invariant-loop-port : goal.invariant-loop-port
invariant-loop-port g l = record {
  waits : (p : ℕ) → p < l.port-index → IsUnsentAt (slice_get l.fn.self.ports.items p) → ⊥;
  settled : (p : ℕ) → p < l.port-index → IsSettledAt (slice_get l.fn.self.ports.items p);
  nothing : (p : ℕ) → p < l.port-index → HoldsUnsentAt (slice_get l.fn.self.ports.items p) → ⊥;
}
