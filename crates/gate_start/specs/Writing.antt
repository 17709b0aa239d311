-- What a command writes that writes one text.
use Rattle.std.specs.Prelude.{◌≡◌, ℕ, List}
use Rattle.gate_io.specs.Fronts.{AppendsFront}
use Rattle.gate_start.specs.Endings.{EndsWith}
use Rattle.gate_start.specs.Streams.{Streams}
use Rattle.gate_start.specs.declared.status.Ending.{Ending}
use Rattle.gate_start.specs.declared.status.Ending.TheVariants as endings

-- nothing was read or reported, and this text was written; where the output failed a front of it was, and the command ends with a write fault
pub record Tells (text : List ℕ) (a b : Streams) (ending : Ending) : Type 0 where
  pub left : b.left ≡ a.left
  pub reported : b.reported ≡ a.reported
  pub front : AppendsFront a.written b.written text
  pub ends : EndsWith text endings.Done a.written b.written a.output_faults b.output_faults ending
