-- From one moment of a conversion to a later one.
use Rattle.std.specs.Prelude.{◌≡◌, ℕ, ◌+◌, ◌≤◌, ◌⊎◌, List, [], ◌++◌, length, take, Bool, ◌||◌, Option}
use Rattle.std.specs.Io.KnownBytes.{Appends, Consumes, IsAtEnd}
use Rattle.gate_base.specs.Causes.{Rose}
use Rattle.line_transport.specs.Cuts.{Spans, CutsAll, at_end}
use Rattle.line_transport.specs.Front.{front, Part, Exceeds}
use Rattle.line_transport.specs.declared.transport.Excess.{Excess}
use Rattle.line_transport.specs.declared.transport.Transport.{Transport}
use Rattle.line_transport.specs.declared.transport.Transport.TheVariants.{Frames}
use Rattle.gate_io.specs.Fronts.{AppendsFront}
use Rattle.gate_streams.specs.Lines.{excess_text, left_text}
use Rattle.gate_streams.specs.Handling.{outputs, lines, any_refused}
use Rattle.gate_streams.specs.Terms.{Terms}
use Rattle.gate_streams.specs.declared.stream.Broken.{Broken}
use Rattle.gate_streams.specs.declared.stream.Broken.TheVariants as streams

-- a moment: what the source has left and the sinks hold, the bytes held, and how many frames and bytes there were
pub record Moment : Type 0 where
  pub left : Option (List ℕ)
  pub written : Option (List ℕ)
  pub reported : Option (List ℕ)
  pub held : List ℕ
  pub frames : ℕ
  pub taken : ℕ
  pub refused : Bool

-- between the moments these bytes were read and these frames handled, all that is to be written of them was written
pub record Goes (c : Terms) (a b : Moment) : Type 0 where
  pub read : List ℕ
  pub frames : List (List ℕ)
  pub consumed : Consumes a.left b.left read
  pub split : Spans c.input c.limit (a.held ++ read) frames b.held
  pub written : Appends a.written b.written (outputs c a.frames frames)
  pub reported : Appends a.reported b.reported (lines c a.frames frames)
  pub counted : b.frames ≡ a.frames + length frames
  pub taken : b.taken ≡ a.taken + length read
  pub refused : b.refused ≡ (a.refused || any_refused c frames)

-- the same where the input was read to its end: all bytes are these frames, or lines of which the last may have no LF
pub record GoesToEnd (c : Terms) (a b : Moment) : Type 0 where
  pub read : List ℕ
  pub frames : List (List ℕ)
  pub consumed : Consumes a.left b.left read
  pub cuts : CutsAll c.input c.limit (a.held ++ read) frames
  pub written : Appends a.written b.written (outputs c a.frames frames)
  pub reported : Appends a.reported b.reported (lines c a.frames frames)
  pub refused : b.refused ≡ (a.refused || any_refused c frames)
  pub at_end : IsAtEnd b.left

-- what is reported of a rest that is no frame or line, after so many frames
unfoldable pub IsStreamLine : Transport → ℕ → ℕ → List ℕ → List ℕ → Type 0
IsStreamLine t limit frames rest line =
    ((e : Excess) × (front t limit rest ≡ Exceeds e) × (line ≡ excess_text limit (frames + 1) e))
    ⊎ ((t ≡ Frames) × (front t limit rest ≡ Part) × (rest ≡ [] → ⊥) × (line ≡ left_text frames (length rest)))

-- nothing, or at the end of the input the LF that the last line lacks
abbrev pub IsClosing : Transport → List ℕ → Option (List ℕ) → Type 0
IsClosing t closing left = (closing ≡ []) ⊎ ((closing ≡ at_end t []) × IsAtEnd left)

-- this count of faults has risen
abbrev pub HasRisen : Broken → ℕ → ℕ → ℕ → ℕ → Type 0
HasRisen streams.Output output output' report report' = Rose output output'
HasRisen streams.Report output output' report report' = Rose report report'

-- the output failed: all that is to be written and reported of the first frames was, of the others a front was written, and
-- nothing more was reported
pub record OutputFails (c : Terms) (a b : Moment) (frames : List (List ℕ)) : Type 0 where
  pub done : List (List ℕ)
  pub others : List (List ℕ)
  pub is : frames ≡ done ++ others
  pub count : ℕ
  pub within : count ≤ length (outputs c (a.frames + length done) others)
  pub written : Appends a.written b.written (outputs c a.frames done ++ take count (outputs c (a.frames + length done) others))
  pub reported : Appends a.reported b.reported (lines c a.frames done)

-- the report failed: all that is to be written of the frames was, and a front of what is to be reported, with this line at the end
pub record ReportFails (c : Terms) (a b : Moment) (frames : List (List ℕ)) (last : List ℕ) : Type 0 where
  pub written : Appends a.written b.written (outputs c a.frames frames)
  pub reported : AppendsFront a.reported b.reported (lines c a.frames frames ++ last)

-- what was written and reported of these frames and this last line where a stream failed
abbrev pub CutsOff : Broken → Terms → Moment → Moment → List (List ℕ) → List ℕ → Type 0
CutsOff streams.Output c a b frames last = OutputFails c a b frames × (last ≡ [])
CutsOff streams.Report c a b frames last = ReportFails c a b frames last

-- a write failed: of what is to be written and reported of the frames so far, and of the line of a rest, a front was
pub record Breaks (broken : Broken) (c : Terms) (a b : Moment) : Type 0 where
  pub read : List ℕ
  pub frames : List (List ℕ)
  pub more : List ℕ
  pub last : List ℕ
  pub closing : List ℕ
  pub consumed : Consumes a.left b.left read
  pub split : Spans c.input c.limit (a.held ++ (read ++ closing)) frames more
  pub closing_is : IsClosing c.input closing b.left
  pub cut : CutsOff broken c a b frames last
  pub last_is : (last ≡ []) ⊎ IsStreamLine c.input c.limit (a.frames + length frames) more last

-- and that before the end of the input was taken for an LF
abbrev pub BreaksBefore : Broken → Terms → Moment → Moment → Type 0
BreaksBefore broken c a b = (x : Breaks broken c a b) × (x.closing ≡ [])
