-- How a command goes through its input, from its words on.
use Rattle.gate_io.specs.declared.byte_streams.Sink.{Ghosts as Sink}
use Rattle.gate_io.specs.declared.byte_streams.Source.{Ghosts as Source}
use Rattle.gate_io.specs.declared.files.Files.{Ghosts as Files}
use Rattle.gate_words.specs.declared.options.Declared.{Declared}
use Rattle.gate_start.specs.Outside.{Outside, StartsWith, outside}
use Rattle.gate_start.specs.Starting.{Halts}
use Rattle.gate_start.specs.declared.start.Start.{Start}
use Rattle.gate_start.specs.declared.status.Ending.{Ending}
use Rattle.gate_streams.specs.Outcome.{Streamed}
use Rattle.gate_streams.specs.Terms.{Terms, terms}
use Rattle.gate_streams.specs.declared.job.StreamJob.{StreamJob}

-- the command started from what these words declare, and went through the frames of the input on these terms; or it did not start
abbrev pub GoesThrough : (Start → Terms) → Declared → Outside → Outside → Ending → Type 0
GoesThrough k words x y ending = StartsWith x y words (λ start. Streamed (k start) x.streams y.streams ending) (λ stop. Halts stop x.streams y.streams ending)

-- by what the words say of the stream and what is declared
abbrev pub terms_of : StreamJob → Start → Terms
terms_of job start = terms start.schema start.service job.doing job.limit job.input job.output

abbrev pub StartsStream : {F I O E : Type 0} → Files F → Source I → Sink O → Sink E → StreamJob → F → I → O → E → F → I → O → E → Ending → Type 0
StartsStream drives sources outputs reports job files input output report files' input' output' report' ending =
    let at = outside drives sources outputs reports in
    GoesThrough (λ start. terms_of job start) job.declared.now (at files input output report) (at files' input' output' report') ending
