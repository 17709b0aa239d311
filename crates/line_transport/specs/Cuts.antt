-- How a stream is cut into its messages.
use Rattle.std.specs.Prelude.{◌≡◌, ℕ, ◌≤◌, List, [], ◌++◌, length, Bool, not, false}
use Rattle.std.specs.List.{flat_map, filter, All}
use Rattle.framed_transport.specs.Frames.{framed}
use Rattle.line_transport.specs.Front.{front, is_whole}
use Rattle.line_transport.specs.Lines.{IsLine, ended, is_blank}
use Rattle.line_transport.specs.declared.transport.Transport.{Transport}
use Rattle.line_transport.specs.declared.transport.Transport.TheVariants.{Frames, Lines}

-- a frame or a line on the stream
abbrev pub sent : Transport → List ℕ → List ℕ
sent Frames bytes = framed bytes
sent Lines bytes = ended bytes

-- a frame or a line that stands within the limit
abbrev pub IsPiece : Transport → ℕ → List ℕ → Type 0
IsPiece Frames limit piece = length piece ≤ limit
IsPiece Lines limit piece = IsLine limit piece

abbrev pub is_counted : List ℕ → Bool
is_counted line = not (is_blank line)

-- a line that is a message
abbrev pub IsMessage : ℕ → List ℕ → Type 0
IsMessage limit line = IsLine limit line × (is_blank line ≡ false)

abbrev pub Messages : Type 0
Messages = List (List ℕ)

abbrev pub AreMessages : ℕ → Messages → Type 0
AreMessages limit lines = All (IsMessage limit) lines

-- each on a line of its own
abbrev pub on_lines : Messages → List ℕ
on_lines lines = flat_map (sent Lines) lines

-- each frame is a message, and each line that isn't blank
abbrev pub messages_of : Transport → List (List ℕ) → List (List ℕ)
messages_of Frames pieces = pieces
messages_of Lines pieces = filter is_counted pieces

-- the piece stands at the front, and the rest behind it
pub record IsCut (t : Transport) (limit : ℕ) (bytes piece rest : List ℕ) : Type 0 where
  pub is : IsPiece t limit piece
  pub whole : bytes ≡ sent t piece ++ rest

-- the bytes are frames or lines, one after another, and a rest; these messages are among them
pub record Spans (t : Transport) (limit : ℕ) (bytes : List ℕ) (messages : List (List ℕ)) (rest : List ℕ) : Type 0 where
  pub pieces : List (List ℕ)
  pub whole : bytes ≡ flat_map (sent t) pieces ++ rest
  pub each : All (IsPiece t limit) pieces
  pub messages_are : messages ≡ messages_of t pieces

-- and the rest begins with no whole one
pub record Cuts (t : Transport) (limit : ℕ) (bytes : List ℕ) (messages : List (List ℕ)) (rest : List ℕ) : Type 0 where
  pub spans : Spans t limit bytes messages rest
  pub no_more : is_whole (front t limit rest) ≡ false

-- at the end of the input an LF stands for the one that the last line lacks; a blank line more counts for nothing
abbrev pub at_end : Transport → List ℕ → List ℕ
at_end Frames bytes = bytes
at_end Lines bytes = ended bytes

-- the bytes of a whole input are these messages
abbrev pub CutsAll : Transport → ℕ → List ℕ → List (List ℕ) → Type 0
CutsAll t limit bytes messages = Cuts t limit (at_end t bytes) messages []

-- how bytes are cut
pub record Cutting (t : Transport) (limit : ℕ) (bytes : List ℕ) : Type 0 where
  pub messages : List (List ℕ)
  pub rest : List ℕ
  pub cuts : Cuts t limit bytes messages rest
