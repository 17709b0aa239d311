-- What a call does with the streams, by what sources and sinks tell of themselves.
use Rattle.std.specs.Prelude.{ℕ, List, Option}
use Rattle.gate_io.specs.declared.byte_streams.Source.{Ghosts as Source}
use Rattle.gate_io.specs.declared.byte_streams.Sink.{Ghosts as Sink}
use Rattle.gate_start.specs.Streams.{Streams, streams}
use Rattle.gate_start.specs.declared.status.Ending.{Ending}

-- the streams as they tell of themselves
abbrev pub streams_of : {I O E : Type 0} → Source I → Sink O → Sink E → I → O → E → Streams
streams_of sources outputs reports input output report =
    streams (sources.left input) (outputs.written output) (reports.written report) (sources.faults input) (outputs.faults output) (reports.faults report)

-- a call does this with all three
abbrev pub OnStreams : {I O E : Type 0} → Source I → Sink O → Sink E → (Streams → Streams → Ending → Type 0) → I → O → E → I → O → E → Ending → Type 0
OnStreams sources outputs reports Does input output report input' output' report' ending =
    Does (streams_of sources outputs reports input output report) (streams_of sources outputs reports input' output' report') ending

-- a call does this with the output and the report, and leaves the input alone, whatever that is
abbrev pub OnSinks : {O E : Type 0} → Sink O → Sink E → (Streams → Streams → Ending → Type 0) → O → E → O → E → Ending → Type 0
OnSinks outputs reports Does output report output' report' ending =
    (left : Option (List ℕ)) (input : ℕ) →
    Does (streams left (outputs.written output) (reports.written report) input (outputs.faults output) (reports.faults report))
    (streams left (outputs.written output') (reports.written report') input (outputs.faults output') (reports.faults report')) ending

-- a call does this with the output alone
abbrev pub OnOutput : {O : Type 0} → Sink O → (Streams → Streams → Ending → Type 0) → O → O → Ending → Type 0
OnOutput outputs Does output output' ending =
    (left reported : Option (List ℕ)) (input report : ℕ) →
    Does (streams left (outputs.written output) reported input (outputs.faults output) report)
    (streams left (outputs.written output') reported input (outputs.faults output') report) ending

-- a call does this with the report alone
abbrev pub OnReport : {E : Type 0} → Sink E → (Streams → Streams → Ending → Type 0) → E → E → Ending → Type 0
OnReport reports Does report report' ending =
    (left written : Option (List ℕ)) (input output : ℕ) →
    Does (streams left written (reports.written report) input output (reports.faults report))
    (streams left written (reports.written report') input output (reports.faults report')) ending
