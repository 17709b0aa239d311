-- What the work on a whole stream read, wrote and reported.
use Rattle.std.specs.Prelude.{◌≡◌, ℕ, ◌≤◌, ◌⊎◌, List, [], ◌++◌, length, take, Bool, true, false, Option, ⊤}
use Rattle.std.specs.Io.KnownBytes.{Appends, Consumes, IsAtEnd}
use Rattle.gate_base.specs.Causes.{Rose}
use Rattle.line_transport.specs.Cuts.{Cuts, CutsAll}
use Rattle.line_transport.specs.Front.{front, Exceeds}
use Rattle.line_transport.specs.declared.transport.Excess.{Excess}
use Rattle.line_transport.specs.declared.transport.Transport.{Transport}
use Rattle.line_transport.specs.declared.transport.Transport.TheVariants.{Frames}
use Rattle.gate_start.specs.Endings.{last_line}
use Rattle.gate_start.specs.Streams.{Streams}
use Rattle.gate_start.specs.declared.status.Ending.{Ending}
use Rattle.gate_start.specs.declared.status.Ending.TheVariants as endings
use Rattle.gate_streams.specs.Handling.{outputs, lines, any_refused}
use Rattle.gate_streams.specs.Progress.{Moment, Breaks, HasRisen, IsStreamLine}
use Rattle.gate_streams.specs.Terms.{Terms}
use Rattle.gate_streams.specs.declared.stream.Broken.{Broken}
use Rattle.gate_streams.specs.declared.stream.TheConstants.{MOST_BYTES}

-- these bytes were read, and what is to be written and reported of these frames was, with this line at the end
pub record Covers (k : Terms) (a b : Streams) (read : List ℕ) (frames : List (List ℕ)) (line : List ℕ) : Type 0 where
  pub consumed : Consumes a.left b.left read
  pub written : Appends a.written b.written (outputs k 0 frames)
  pub reported : Appends a.reported b.reported (lines k 0 frames ++ line)

-- the line, or a front of it where the report failed
pub record IsLastLine (text line : List ℕ) (before now : ℕ) : Type 0 where
  pub front : (count : ℕ) × (count ≤ length text) × (line ≡ take count text)
  pub whole : (line ≡ text) ⊎ Rose before now

-- the input was read to its end and is whole frames, or lines
abbrev pub CoversAll : Terms → Streams → Streams → Bool → Type 0
CoversAll k a b refused =
    (read : List ℕ) × (frames : List (List ℕ)) × Covers k a b read frames [] × CutsAll k.input k.limit read frames × (any_refused k frames ≡ refused) × IsAtEnd b.left

abbrev pub IsTooLargeOrAtEnd : Transport → ℕ → List ℕ → Option (List ℕ) → Type 0
IsTooLargeOrAtEnd t limit rest left = ((e : Excess) × (front t limit rest ≡ Exceeds e)) ⊎ ((t ≡ Frames) × IsAtEnd left)

-- the next length is too large, or the next line longer than the limit, or the input ended within a frame
abbrev pub EndsWithinAFrame : Terms → Streams → Streams → Type 0
EndsWithinAFrame k a b =
    (read : List ℕ) × (frames : List (List ℕ)) × (rest : List ℕ) × (line : List ℕ) × Covers k a b read frames line × Cuts k.input k.limit read frames rest
    × IsStreamLine k.input k.limit (length frames) rest line × IsTooLargeOrAtEnd k.input k.limit rest b.left

-- the whole frames or lines that were read were handled, and this last line was written, or a front of it; so many bytes were read
abbrev pub StopsWith : Terms → Streams → Streams → List ℕ → (ℕ → Type 0) → Type 0
StopsWith k a b text Many =
    (read : List ℕ) × (frames : List (List ℕ)) × (rest : List ℕ) × (line : List ℕ) × Covers k a b read frames line × Cuts k.input k.limit read frames rest
    × IsLastLine text line a.report_faults b.report_faults × Many (length read)

-- before the first frame
abbrev pub beginning : Option (List ℕ) → Option (List ℕ) → Option (List ℕ) → Moment
beginning left written reported =
    record { left = left; written = written; reported = reported; held = []; frames = 0; taken = 0; refused = false }

-- a stream failed, and a front of what is to be written and reported was
abbrev pub BreaksOff : Broken → Terms → Streams → Streams → Type 0
BreaksOff broken k a b = Breaks broken k (beginning a.left a.written a.reported) (beginning b.left b.written b.reported)

-- this stream's count of faults rose
abbrev pub HasFailed : Broken → Streams → Streams → Type 0
HasFailed broken a b = HasRisen broken a.output_faults b.output_faults a.report_faults b.report_faults

-- the output or the report failed
abbrev pub WriteFailed : Streams → Streams → Type 0
WriteFailed a b = Rose a.output_faults b.output_faults ⊎ Rose a.report_faults b.report_faults

-- what a conversion or a showing did, by its ending
abbrev pub Streamed : Terms → Streams → Streams → Ending → Type 0
-- every frame passed
Streamed k a b endings.Done = CoversAll k a b false
-- a frame did not pass
Streamed k a b endings.Refused = CoversAll k a b true
Streamed k a b endings.StreamFault = EndsWithinAFrame k a b
Streamed k a b endings.ReadFault = Rose a.input_faults b.input_faults × StopsWith k a b (last_line endings.ReadFault) (λ _. ⊤)
Streamed k a b endings.WriteFault = (broken : Broken) × HasFailed broken a b × BreaksOff broken k a b
Streamed k a b endings.BudgetSpent = StopsWith k a b (last_line endings.BudgetSpent) (λ n. n ≡ MOST_BYTES)
-- nothing was read
Streamed k a b endings.OutOfMemory = StopsWith k a b (last_line endings.OutOfMemory) (λ n. n ≡ 0)
Streamed k a b endings.Usage = ⊥
Streamed k a b endings.FileFault = ⊥
Streamed k a b endings.HubFault = ⊥
