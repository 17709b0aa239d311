-- What stands at the front of the bytes that are held.
use Rattle.std.specs.Prelude.{ℕ, ◌+◌, List, length, take, drop, nat_lt, if◌then◌else◌, Bool, true, false, Option, None, Some}
use Rattle.framed_transport.specs.Front as frames
use Rattle.line_transport.specs.Lines.{line_length, is_blank}
use Rattle.line_transport.specs.declared.transport.Excess.{Excess}
use Rattle.line_transport.specs.declared.transport.Excess.TheVariants as excesses
use Rattle.line_transport.specs.declared.transport.Transport.{Transport}
use Rattle.line_transport.specs.declared.transport.Transport.TheVariants as transports

-- less than a message, a whole one with what stands behind it, or what no message may begin with
pub data Front : Type 0 where
  Part : Front
  Whole : List ℕ → List ℕ → Front
  Exceeds : Excess → Front

abbrev pub of_frame : frames.Front → Front
of_frame frames.Part = Part
of_frame (frames.Whole frame rest) = Whole frame rest
of_frame (frames.Large n) = Exceeds (excesses.Length n)

-- the bytes before the first LF are a line; more than the limit are too many, whether an LF has come or not
unfoldable pub line_front : ℕ → List ℕ → Front
line_front limit bytes =
    if nat_lt limit (line_length bytes) then Exceeds excesses.Line
    else if nat_lt (line_length bytes) (length bytes) then Whole (take (line_length bytes) bytes) (drop (line_length bytes + 1) bytes)
    else Part

abbrev pub front : Transport → ℕ → List ℕ → Front
front transports.Frames limit bytes = of_frame (frames.front limit bytes)
front transports.Lines limit bytes = line_front limit bytes

-- what is held once the message at the front is let go
abbrev pub behind : List ℕ → Front → List ℕ
behind held (Whole message rest) = rest
behind held Part = held
behind held (Exceeds e) = held

-- the size of the whole message, where one stands there
abbrev pub whole_size : Front → Option ℕ
whole_size Part = None
whole_size (Whole message rest) = Some (length message)
whole_size (Exceeds e) = None

abbrev pub is_whole : Front → Bool
is_whole Part = false
is_whole (Whole message rest) = true
is_whole (Exceeds e) = false

-- whether a line stands there that is passed over
abbrev pub is_blank_front : Front → Bool
is_blank_front Part = false
is_blank_front (Whole line rest) = is_blank line
is_blank_front (Exceeds e) = false
