-- The verdict on a frame in the words of the grammars.
use Rattle.std.specs.Prelude.{◌≡◌, ◌⊎◌, ℕ, ◌<◌, ◌^◌, List, [], ◌++◌, length, FitsSigned}
use Rattle.std.specs.Int.{w32}
use Rattle.thrift_value.specs.Trees.{Message, no_members, depth_of_members}
use Rattle.protocol_traits.specs.declared.fault.Bar.{Bar}
use Rattle.protocol_traits.specs.declared.fault.Fault.{Fault}
use Rattle.protocol_traits.specs.declared.proto.Proto.{Proto}
use Rattle.protocol_traits.specs.declared.proto.Proto.TheVariants as protocols
use Rattle.protocol_traits.specs.Heads.{Header}
use Rattle.type_tables.specs.Declarations.{Declarations}
use Rattle.translate_verdicts.specs.declared.route.Route.{Route}
use Rattle.translate_verdicts.specs.declared.verdict.Cause.TheVariants.{Grammar, Barred}
use Rattle.translate_verdicts.specs.declared.verdict.Verdict.TheVariants.{Passed, Refused, Unread}
use Rattle.translate_verdicts.specs.Routes.{info_of}
use Rattle.translate_verdicts.specs.Judged.{Judged, judged}
use Rattle.protocol_pairs.specs.Pairs.{binary_target, compact_target, json_target}
use Rattle.protocol_pairs.specs.Pairs as pairs
use Rattle.binary_protocol.specs.Grammar.{SpellsStrictHeader, SpellsOldHeader, BinarySpells}
use Rattle.compact_protocol.specs.Grammar.{SpellsHeader, CompactSpells}
use Rattle.binary_laws.specs.Reads.{header_of_message}
use Rattle.binary_laws.specs.Faults as binary_faults
use Rattle.compact_laws.specs.Faults as compact_faults
use Rattle.json_laws.specs.Fronts.{SpellsHeader as JsonHead}
use Rattle.json_laws.specs.Stated.{Known}
use Rattle.json_laws.specs.Faults.{FaultStands}
use Rattle.json_laws.specs.Firsts.{FirstFault}
use Rattle.verdict_laws.specs.Bars.{Spot, HoldsAll, IsFirstBar, BinaryPlace, CompactPlace, JsonPlace}
use Rattle.verdict_laws.specs.Spellings.{plain_of, known_by, SpellsBy}

-- the plain spelling in a protocol, of a message that it holds
abbrev pub IsPlain : Proto → Declarations → Route → Message → List ℕ → Type 0
IsPlain protocols.Binary d route m bytes = bytes ≡ plain_of binary_target d route m
IsPlain protocols.Compact d route m bytes = bytes ≡ plain_of compact_target d route m
IsPlain protocols.Json d route m bytes = bytes ≡ plain_of json_target d route m

-- a message with this header
abbrev headed : Header → Message
headed h = record { name = h.name; mtype = h.mtype; seq = h.seq; body = no_members }

-- these bytes spell the header
abbrev pub BinaryHead : Header → List ℕ → Type 0
BinaryHead h bytes = (length h.name < 2 ^ 31) × FitsSigned w32 h.seq × (SpellsStrictHeader (headed h) bytes ⊎ SpellsOldHeader (headed h) bytes)

abbrev pub CompactHead : Header → List ℕ → Type 0
CompactHead h bytes = SpellsHeader (headed h) bytes

-- The frame spells a message of depth at most 256, of which its body is one level, that the protocol holds, and that passes with its plain
-- spelling; or one that is refused with the first thing that the protocol can't hold; or it is refused with the fault that stands in it.
-- Where no front of it is a whole header, it is unread. Nothing is written but where it passes.
pub data IsVerdict (SpellsHead : Header → List ℕ → Type 0) (Spells : Message → List ℕ → Type 0) (FaultAt : List ℕ → Fault → Type 0) (Place : Message → List ℕ → Spot → ℕ → Type 0) (d : Declarations) (route : Route) (to : Proto) (frame : List ℕ) (j : Judged) : Type 0 where
  Passes : (m : Message) (bytes : List ℕ) → Spells m frame → depth_of_members m.body < 256 → HoldsAll to d route m → IsPlain to d route m bytes
      → j ≡ judged (Passed (info_of d route (header_of_message m))) bytes → IsVerdict SpellsHead Spells FaultAt Place d route to frame j
  IsBarred : (m : Message) (spot : Spot) (place : ℕ) (bar : Bar) → Spells m frame → depth_of_members m.body < 256 → IsFirstBar to d route m spot bar → Place m frame spot place
      → j ≡ judged (Refused (info_of d route (header_of_message m)) (Barred place bar)) [] → IsVerdict SpellsHead Spells FaultAt Place d route to frame j
  IsFaulty : (header : Header) (front rest : List ℕ) (f : Fault) → frame ≡ front ++ rest → SpellsHead header front → FaultAt frame f
      → j ≡ judged (Refused (info_of d route header) (Grammar f)) [] → IsVerdict SpellsHead Spells FaultAt Place d route to frame j
  IsUnread : (f : Fault) → ((header : Header) (front rest : List ℕ) → frame ≡ front ++ rest → SpellsHead header front → ⊥) → FaultAt frame f
      → j ≡ judged (Unread f) [] → IsVerdict SpellsHead Spells FaultAt Place d route to frame j

-- the verdict on a frame of Binary, and of Compact, for any protocol
abbrev pub IsBinaryVerdict : Declarations → Route → Proto → List ℕ → Type 0
IsBinaryVerdict d route to frame =
    IsVerdict BinaryHead BinarySpells binary_faults.FaultAt BinaryPlace d route to frame (pairs.judged d route protocols.Binary to frame)

abbrev pub IsCompactVerdict : Declarations → Route → Proto → List ℕ → Type 0
IsCompactVerdict d route to frame =
    IsVerdict CompactHead CompactSpells compact_faults.FaultAt CompactPlace d route to frame (pairs.judged d route protocols.Compact to frame)

-- what is known of the body of a frame of JSON, by the header at its front, if one stands there
abbrev pub IsKnownOf : Declarations → Route → List ℕ → Known → Type 0
IsKnownOf d route frame k = (header : Header) (front rest : List ℕ) → frame ≡ front ++ rest → JsonHead header front → k ≡ known_by d route header

-- the fault of a frame of JSON, where this is known of its body: it stands there by the messages that begin with the frame, and in the first
-- part that is called for and doesn't stand
abbrev pub JsonFault : Declarations → Route → List ℕ → Fault → Type 0
JsonFault d route frame f = (k : Known) × IsKnownOf d route frame k × FaultStands k frame f × FirstFault k frame f

-- the verdict on a frame of JSON, for any protocol
abbrev pub IsJsonVerdict : Declarations → Route → Proto → List ℕ → Type 0
IsJsonVerdict d route to frame =
    IsVerdict JsonHead (SpellsBy d route protocols.Json) (JsonFault d route) (JsonPlace d route) d route to frame (pairs.judged d route protocols.Json to frame)
