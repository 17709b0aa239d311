use Rattle.std.proofs.Common.{◌≡◌}
use Rattle.std.specs.Prelude.{◌==◌, if◌then◌else◌}
use Rattle.measure_text.specs.Measured.{spelling}
use Rattle.measure_text.proofs.write_rounds.Given as goal

abbrev pub invariant-loop-round : goal.invariant-loop-round
invariant-loop-round l = record {
  bytes : l.out.bytes ≡ (if l.round == 0 then l.initial.out.bytes else spelling l.as_blob l.meant);
  room : l.out.room ≡ l.initial.out.room;
}
