-- What a command works on besides hubs and fans, and from what it starts.
use Rattle.std.specs.Prelude.{ℕ, Option}
use Rattle.gate_io.specs.declared.byte_streams.Sink.{Ghosts as Sink}
use Rattle.gate_io.specs.declared.byte_streams.Source.{Ghosts as Source}
use Rattle.gate_io.specs.declared.files.Files.{Ghosts as Files}
use Rattle.gate_words.specs.declared.options.Declared.{Declared}
use Rattle.gate_start.specs.Calls.{streams_of}
use Rattle.gate_start.specs.Starting.{Holds, Starting}
use Rattle.gate_start.specs.Streams.{Streams}
use Rattle.gate_start.specs.declared.start.NoStart.{NoStart}
use Rattle.gate_start.specs.declared.start.Start.{Start}

-- what each command works on: what the files hold, where they tell it, and how often they failed; and the streams
pub record Outside : Type 0 where
  pub holds : Option Holds
  pub file_faults : ℕ
  pub streams : Streams

-- the command started from what these words declare, and did this; or it did not start, and this holds
abbrev pub StartsWith : Outside → Outside → Declared → (Start → Type 0) → (NoStart → Type 0) → Type 0
StartsWith x y words = Starting x.holds words x.file_faults y.file_faults

-- the same by what files, sources and sinks tell of themselves
abbrev pub outside : {F I O E : Type 0} → Files F → Source I → Sink O → Sink E → F → I → O → E → Outside
outside drives sources outputs reports files input output report =
    record { holds = drives.holds files; file_faults = drives.faults files; streams = streams_of sources outputs reports input output report }
