use Rattle.std.proofs.Common.{◌-◌, ◌^◌}
use Rattle.idl_names.proofs.sources.note_next.Given as goal

abbrev pub decreases-spots : goal.decreases-spots
decreases-spots l = 2 ^ 63 - l.i
