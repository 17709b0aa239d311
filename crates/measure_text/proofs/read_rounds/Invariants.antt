use Rattle.std.proofs.Common.{◌≡◌, length}
use Rattle.std.specs.Prelude.{◌==◌, ◌||◌}
use Rattle.measure_text.specs.Measured.{is_read}
use Rattle.measure_text.proofs.read_rounds.Given as goal

abbrev pub invariant-loop-round : goal.invariant-loop-round
invariant-loop-round l = l.good ≡ ((l.round == 0) || is_read l.as_blob l.size (length l.room) l.word)
