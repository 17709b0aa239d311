-- What is found of a frame in the words of the grammars: that the message which it spells meets its declarations, or its first breach, or the
-- fault that stands in the frame.
use Rattle.std.specs.Prelude.{◌≡◌, ℕ, ◌<◌, List, ◌++◌, Option, Some}
use Rattle.thrift_value.specs.Trees.{Message, depth_of_members}
use Rattle.type_tables.specs.declared.declared.ServiceId.{ServiceId}
use Rattle.type_tables.specs.Declarations.{Declarations}
use Rattle.protocol_traits.specs.declared.fault.Fault.{Fault}
use Rattle.protocol_traits.specs.Heads.{Header}
use Rattle.protocol_pairs.specs.Pairs.{binary_source, compact_source, json_source}
use Rattle.binary_protocol.specs.Grammar.{BinarySpells}
use Rattle.compact_protocol.specs.Grammar.{CompactSpells}
use Rattle.translate_verdicts.specs.declared.route.Route.TheVariants.{ByName}
use Rattle.translate_verdicts.specs.Routes.{body_of}
use Rattle.binary_laws.specs.Faults as binary_faults
use Rattle.binary_laws.specs.Reads.{header_of_message}
use Rattle.compact_laws.specs.Faults as compact_faults
use Rattle.protocol_traits.specs.declared.proto.Proto.TheVariants as protocols
use Rattle.json_laws.specs.Fronts.{SpellsHeader as JsonHead}
use Rattle.verdict_laws.specs.Spellings.{SpellsBy}
use Rattle.verdict_laws.specs.Verdicts.{BinaryHead, CompactHead, JsonFault}
use Rattle.conform_check.specs.Checking.{Broken, Finding, Breaks, Refused, Unread, checked_by}
use Rattle.conform_check.specs.Checking as findings
use Rattle.conform_laws.specs.Meeting.{MeetsBody}
use Rattle.conform_laws.specs.Breaking.{breach_of_body}

-- the message meets its declarations, where names without a service before them are those of this service
abbrev pub MessageMeets : Declarations → Option ServiceId → Message → Type 0
MessageMeets d service m = MeetsBody d (body_of d (ByName service) (header_of_message m)) m.body

abbrev pub first_breach : Declarations → Option ServiceId → Message → Option Broken
first_breach d service m = breach_of_body d (body_of d (ByName service) (header_of_message m)) m.body

-- The frame spells a message of depth at most 256, of which its body is one level, and it meets its declarations, or has a first breach; or the
-- fault that stands in it is told, as one of a frame that no front of is a whole header, or of another.
pub data IsChecking (SpellsHead : Header → List ℕ → Type 0) (Spells : Message → List ℕ → Type 0) (FaultAt : List ℕ → Fault → Type 0)
    (d : Declarations) (service : Option ServiceId) (frame : List ℕ) (s : Finding) : Type 0 where
  MessageIsMet : (m : Message) → Spells m frame → depth_of_members m.body < 256 → MessageMeets d service m → s ≡ findings.Meets
      → IsChecking SpellsHead Spells FaultAt d service frame s
  MessageBreaks : (m : Message) (b : Broken) → Spells m frame → depth_of_members m.body < 256 → (MessageMeets d service m → ⊥) → first_breach d service m ≡ Some b
      → s ≡ Breaks b → IsChecking SpellsHead Spells FaultAt d service frame s
  TellsFault : (header : Header) (front rest : List ℕ) (f : Fault) → frame ≡ front ++ rest → SpellsHead header front → FaultAt frame f → s ≡ Refused f
      → IsChecking SpellsHead Spells FaultAt d service frame s
  TellsNoHeader : (f : Fault) → ((header : Header) (front rest : List ℕ) → frame ≡ front ++ rest → SpellsHead header front → ⊥)
      → FaultAt frame f → s ≡ Unread f → IsChecking SpellsHead Spells FaultAt d service frame s

-- what is found of a frame of Binary, of one of Compact, and of one of JSON
abbrev pub ChecksBinary : Declarations → Option ServiceId → List ℕ → Type 0
ChecksBinary d service frame = IsChecking BinaryHead BinarySpells binary_faults.FaultAt d service frame (checked_by binary_source d service frame)

abbrev pub ChecksCompact : Declarations → Option ServiceId → List ℕ → Type 0
ChecksCompact d service frame = IsChecking CompactHead CompactSpells compact_faults.FaultAt d service frame (checked_by compact_source d service frame)

abbrev pub ChecksJson : Declarations → Option ServiceId → List ℕ → Type 0
ChecksJson d service frame =
    IsChecking JsonHead (SpellsBy d (ByName service) protocols.Json) (JsonFault d (ByName service)) d service frame (checked_by json_source d service frame)
