use Rattle.std.proofs.Common.{◌≡◌}
use Rattle.std.specs.Io.KnownBytes.{Keeps}
use Rattle.gate_io.proofs.std_streams.StdSinkSink.write.Given as goal

-- nothing was appended yet
abbrev pub invariant-loop : goal.invariant-loop
invariant-loop g l = record {
  faults : l.self.faults ≡ l.fn.self.faults;
  kept : Keeps (g.W.Write.contents l.fn.self.writer) (g.W.Write.contents l.self.writer);
}
