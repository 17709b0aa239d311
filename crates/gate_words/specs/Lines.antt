-- The sides of a conversion on which a message is a line and not a frame.
use Rattle.std.specs.Prelude.{ℕ, List, Option, Some, None, Bool, true, false, not, ◌||◌, ◌&&◌, if◌then◌else◌, codes}
use Rattle.decimal_words.specs.Same.{is}
use Rattle.protocol_traits.specs.declared.proto.Proto.{Proto}
use Rattle.protocol_traits.specs.declared.proto.Proto.TheVariants as protocols
use Rattle.line_transport.specs.declared.transport.Transport.{Transport}
use Rattle.line_transport.specs.declared.transport.Transport.TheVariants as transports
use Rattle.gate_words.specs.declared.lines.LineSides.{LineSides}
use Rattle.gate_words.specs.declared.lines.LineSides.TheVariants as sides

-- the sides of this name
unfoldable pub line_sides_of : List ℕ → Option LineSides
line_sides_of word =
    if is word (codes "in") then Some sides.In
    else if is word (codes "out") then Some sides.Out
    else if is word (codes "both") then Some sides.Both
    else None

abbrev pub has_input : LineSides → Bool
has_input sides.In = true
has_input sides.Out = false
has_input sides.Both = true

abbrev pub has_output : LineSides → Bool
has_output sides.In = false
has_output sides.Out = true
has_output sides.Both = true

abbrev pub transport_if : Bool → Transport
transport_if lines = if lines then transports.Lines else transports.Frames

-- how messages stand on the input
abbrev pub input_of : Option LineSides → Transport
input_of None = transports.Frames
input_of (Some lines) = transport_if (has_input lines)

-- how messages stand on the output
abbrev pub output_of : Option LineSides → Transport
output_of None = transports.Frames
output_of (Some lines) = transport_if (has_output lines)

abbrev pub is_json : Proto → Bool
is_json protocols.Json = true
is_json protocols.Binary = false
is_json protocols.Compact = false

-- each side on which a message is a line speaks JSON
abbrev pub can_convert : Proto → Proto → Option LineSides → Bool
can_convert from to None = true
can_convert from to (Some lines) = (not (has_input lines) || is_json from) && (not (has_output lines) || is_json to)

-- what is shown is no message, so only the input may have such lines
abbrev pub can_show : Proto → Option LineSides → Bool
can_show from None = true
can_show from (Some sides.In) = is_json from
can_show from (Some sides.Out) = false
can_show from (Some sides.Both) = false
