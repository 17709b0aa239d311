-- The line of each frame that was refused.
use Rattle.std.specs.Prelude.{ℕ, List, [], ◌++◌, Bool, true, false, ◌==◌, Option, Some, None, if◌then◌else◌, codes, decimal}
use Rattle.std.specs.Fmt.{signed_decimal}
use Rattle.gate_hub.specs.declared.hub.Side.{Side}
use Rattle.gate_hub.specs.declared.hub.Side.TheVariants as side
use Rattle.protocol_traits.specs.declared.proto.Proto.{Proto}
use Rattle.translate_verdicts.specs.declared.verdict.Cause.{Cause}
use Rattle.translate_verdicts.specs.declared.verdict.Cause.TheVariants.{Grammar, Barred, NoRoute}
use Rattle.translate_verdicts.specs.Texts.{cause_text}
use Rattle.message_show.specs.Texts.{quoted}
use Rattle.session_core.specs.declared.notes.Refusal.{Refusal}
use Rattle.refusal_lines.specs.Headers.{HeaderTold, header_in}

-- ---- which frame

-- session NUMBER:
unfoldable pub session_text : ℕ → List ℕ
session_text session = codes "session " ++ decimal session ++ codes ": "

-- one of several upstreams is named by its port; 0 stands for the only one
unfoldable pub port_text : ℕ → List ℕ
port_text port = if port == 0 then [] else decimal port ++ codes ":"

unfoldable pub sender_text : Side → ℕ → List ℕ
sender_text side.Client port = codes "call "
sender_text side.Upstream port = codes "answer " ++ port_text port

-- call NUMBER, answer NUMBER or answer PORT:NUMBER
unfoldable pub which_text : Side → ℕ → ℕ → List ℕ
which_text from port number = sender_text from port ++ decimal number

-- ---- what its header tells

-- the name between quotes, each byte as a shown message has it; two dots behind the front of a longer one
unfoldable pub name_text : List ℕ → Bool → List ℕ
name_text front true = quoted front ++ codes ".."
name_text front false = quoted front

-- "NAME" NUMBER
unfoldable pub header_text : HeaderTold → List ℕ
header_text h = codes " " ++ name_text h.front h.is_longer ++ codes " " ++ signed_decimal h.seq

-- ---- why

-- the place of the faulty item or of the barred value; what no target serves is the name
abbrev pub place_in : Cause → ℕ → ℕ
place_in (Grammar fault) name_place = fault.place
place_in (Barred place bar) name_place = place
place_in NoRoute name_place = name_place

-- at PLACE: CAUSE
unfoldable pub cause_line : Cause → ℕ → List ℕ
cause_line cause name_place = codes ": at " ++ decimal (place_in cause name_place) ++ codes ": " ++ cause_text cause

-- nothing goes back for the frame
unfoldable pub end_text : Bool → List ℕ
end_text true = codes ", dropped\n"
end_text false = codes "\n"

-- ---- the line

-- a frame that is refused has a whole header
abbrev pub read_text : Option HeaderTold → Cause → List ℕ
read_text (Some h) cause = header_text h ++ cause_line cause h.place
read_text None cause = cause_line cause 0

-- session NUMBER: call NUMBER "NAME" NUMBER: at PLACE: CAUSE
unfoldable pub refusal_text : Proto → ℕ → Refusal → List ℕ → List ℕ
refusal_text from session r frame = session_text session ++ which_text r.side r.port r.number ++ read_text (header_in from frame) r.cause ++ end_text r.dropped
