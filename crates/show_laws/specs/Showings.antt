-- What is shown of a frame: the line of the message that it spells, or the fault that stands in it.
use Rattle.std.specs.Prelude.{◌≡◌, ℕ, ◌<◌, List, ◌++◌, Option}
use Rattle.thrift_value.specs.Trees.{Message, items_of_members, depth_of_members}
use Rattle.type_tables.specs.declared.declared.ServiceId.{ServiceId}
use Rattle.type_tables.specs.Declarations.{Declarations}
use Rattle.type_walk.specs.Positions.{Position}
use Rattle.protocol_traits.specs.declared.fault.Fault.{Fault}
use Rattle.protocol_traits.specs.Heads.{Header}
use Rattle.translate_verdicts.specs.declared.route.Route.TheVariants.{ByName}
use Rattle.translate_core.specs.Answers.{marked, spelled}
use Rattle.translate_verdicts.specs.Routes.{start_of}
use Rattle.message_show.specs.Line.{begun, head_text, line_end}
use Rattle.message_show.specs.Shown.{Showing, Line, Refused, Unread, place, line_target, shown}
use Rattle.protocol_traits.specs.declared.proto.Proto.TheVariants as protocols
use Rattle.binary_protocol.specs.Grammar.{BinarySpells}
use Rattle.compact_protocol.specs.Grammar.{CompactSpells}
use Rattle.binary_laws.specs.Reads.{header_of_message}
use Rattle.binary_laws.specs.Faults as binary_faults
use Rattle.compact_laws.specs.Faults as compact_faults
use Rattle.json_laws.specs.Fronts.{SpellsHeader as JsonHead}
use Rattle.verdict_laws.specs.Spellings.{SpellsBy}
use Rattle.verdict_laws.specs.Verdicts.{BinaryHead, CompactHead, JsonFault}

-- what is known of the beginning of a body, where names without a service before them are those of this service
abbrev pub body_start : Declarations → Option ServiceId → Header → Position
body_start d service h = start_of d (ByName service) h

-- the text of each item where it stands, one behind another
abbrev pub body_text : Position → Message → List ℕ
body_text p m = spelled (line_target (place p begun)).plain (line_target (place p begun)).after (place p begun) (marked p (items_of_members m.body))

-- the line of a message: its head, its body, and the end of the line
abbrev pub message_line : Declarations → Option ServiceId → Message → List ℕ
message_line d service m = (head_text (header_of_message m) ++ body_text (body_start d service (header_of_message m)) m) ++ line_end

-- The frame spells a message of depth at most 256, of which its body is one level, and its line is shown; or the fault that stands in it is
-- told, as one of a frame that no front of is a whole header, or of another.
pub data IsShowing (SpellsHead : Header → List ℕ → Type 0) (Spells : Message → List ℕ → Type 0) (FaultAt : List ℕ → Fault → Type 0)
    (d : Declarations) (service : Option ServiceId) (frame : List ℕ) (s : Showing) : Type 0 where
  ShowsMessage : (m : Message) → Spells m frame → depth_of_members m.body < 256 → s ≡ Line (message_line d service m)
      → IsShowing SpellsHead Spells FaultAt d service frame s
  TellsFault : (header : Header) (front rest : List ℕ) (f : Fault) → frame ≡ front ++ rest → SpellsHead header front → FaultAt frame f → s ≡ Refused f
      → IsShowing SpellsHead Spells FaultAt d service frame s
  TellsNoHeader : (f : Fault) → ((header : Header) (front rest : List ℕ) → frame ≡ front ++ rest → SpellsHead header front → ⊥)
      → FaultAt frame f → s ≡ Unread f → IsShowing SpellsHead Spells FaultAt d service frame s

-- what is shown of a frame of Binary, of Compact, and of JSON
abbrev pub IsBinaryShowing : Declarations → Option ServiceId → List ℕ → Type 0
IsBinaryShowing d service frame = IsShowing BinaryHead BinarySpells binary_faults.FaultAt d service frame (shown d service protocols.Binary frame)

abbrev pub IsCompactShowing : Declarations → Option ServiceId → List ℕ → Type 0
IsCompactShowing d service frame = IsShowing CompactHead CompactSpells compact_faults.FaultAt d service frame (shown d service protocols.Compact frame)

abbrev pub IsJsonShowing : Declarations → Option ServiceId → List ℕ → Type 0
IsJsonShowing d service frame =
    IsShowing JsonHead (SpellsBy d (ByName service) protocols.Json) (JsonFault d (ByName service)) d service frame (shown d service protocols.Json frame)
