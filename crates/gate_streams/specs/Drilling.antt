-- What the making of messages writes and reports.
use Rattle.std.specs.Prelude.{◌≡◌, ℕ, List, ◌++◌, codes, decimal}
use Rattle.std.specs.Io.KnownBytes.{Appends}
use Rattle.gate_base.specs.Causes.{Rose}
use Rattle.drill_messages.specs.Messages.{messages}
use Rattle.drill_messages.specs.Outcome.{stream_of, totals_of}
use Rattle.drill_messages.specs.declared.totals.Totals.{Totals}
use Rattle.gate_words.specs.declared.command.Drilling.{Drilling}
use Rattle.gate_io.specs.Fronts.{AppendsFront}
use Rattle.gate_start.specs.Streams.{Streams}
use Rattle.gate_start.specs.Starting.{SaysLast}
use Rattle.gate_start.specs.declared.status.Ending.{Ending}
use Rattle.gate_start.specs.declared.status.Ending.TheVariants as endings

-- drill: N messages, B binary bytes, C compact bytes, J json bytes
unfoldable pub drill_text : ℕ → Totals → List ℕ
drill_text count totals =
    codes "drill: " ++ decimal count ++ codes " messages, " ++ decimal totals.binary ++ codes " binary bytes, " ++ decimal totals.compact ++ codes " compact bytes, "
    ++ decimal totals.json ++ codes " json bytes\n"

-- the frames of the messages, and their lengths in the three protocols, all together
abbrev pub drilled : Drilling → List ℕ
drilled k = stream_of (messages k.seed k.count)

abbrev pub drilled_line : Drilling → List ℕ
drilled_line k = drill_text k.count (totals_of (messages k.seed k.count))

-- nothing was read; the frames were written and the line reported, or a front of the one or of the other where the output or
-- the report failed; or there was no memory, and nothing was written
pub data Drills (k : Drilling) (a b : Streams) (ending : Ending) : Type 0 where
  Whole : ending ≡ endings.Done → b.left ≡ a.left → Appends a.written b.written (drilled k) → Appends a.reported b.reported (drilled_line k) → Drills k a b ending
  Unwritten : ending ≡ endings.WriteFault → b.left ≡ a.left → AppendsFront a.written b.written (drilled k) → b.reported ≡ a.reported →
      Rose a.output_faults b.output_faults → Drills k a b ending
  Unreported : ending ≡ endings.WriteFault → b.left ≡ a.left → Appends a.written b.written (drilled k) → AppendsFront a.reported b.reported (drilled_line k) →
      Rose a.report_faults b.report_faults → Drills k a b ending
  NoMemory : SaysLast endings.OutOfMemory a b ending → Drills k a b ending
