-- What a frame says in its protocol, and what goes on for it or is answered.
use Rattle.std.specs.Prelude.{◌≡◌, ℕ, ◌<◌, ℤ, pos, List, [], ◌++◌, if◌then◌else◌}
use Rattle.std.specs.Str.{is_utf8}
use Rattle.thrift_value.specs.declared.kind.MessageType.TheVariants as types
use Rattle.thrift_value.specs.Trees.{Message, Members, no_members, one_member, characters, whole_32, depth_of_members}
use Rattle.protocol_traits.specs.declared.fault.Bar.{Bar}
use Rattle.protocol_traits.specs.declared.fault.Fault.{Fault}
use Rattle.protocol_traits.specs.declared.proto.Proto.{Proto}
use Rattle.protocol_traits.specs.declared.proto.Proto.TheVariants as protocols
use Rattle.protocol_traits.specs.Heads.{Header}
use Rattle.type_tables.specs.Declarations.{Declarations}
use Rattle.type_tables.specs.Known.{built_in}
use Rattle.translate_verdicts.specs.declared.route.Route.{Route}
use Rattle.translate_verdicts.specs.declared.verdict.Cause.{Cause}
use Rattle.translate_verdicts.specs.declared.verdict.Cause.TheVariants.{Grammar, Barred, NoRoute}
use Rattle.translate_core.specs.Answers.{method_name}
use Rattle.translate_verdicts.specs.Texts.{cause_text, failure_type}
use Rattle.binary_laws.specs.Faults as binary_faults
use Rattle.compact_laws.specs.Faults as compact_faults
use Rattle.json_laws.specs.Fronts.{SpellsHeader as JsonHead}
use Rattle.verdict_laws.specs.Bars.{Spot, IsFirstBar, HoldsAll, BinaryPlace, CompactPlace, JsonPlace}
use Rattle.verdict_laws.specs.Rounds.{plain_in}
use Rattle.verdict_laws.specs.Spellings.{SpellsBy, IsShort}
use Rattle.verdict_laws.specs.Verdicts.{BinaryHead, CompactHead, JsonFault}
use Rattle.protocol_pairs.specs.Pairs.{answered}

-- from one protocol to another, by what is declared and by the route that names a body's struct; refusals are told in the third
pub record Passage : Type 0 where
  pub declarations : Declarations
  pub route : Route
  pub from : Proto
  pub to : Proto
  pub teller : Proto

-- the bytes spell the message
abbrev pub Spells : Passage → Proto → Message → List ℕ → Type 0
Spells p protocol m bytes = SpellsBy p.declarations p.route protocol m bytes

-- the bytes are the message's plain spelling, and spell it
abbrev pub SpellsPlainly : Passage → Proto → Message → List ℕ → Type 0
SpellsPlainly p protocol m bytes = Spells p protocol m bytes × (bytes ≡ plain_in protocol p.declarations p.route m)

-- the most levels of a message, of which its body is one
abbrev pub most_levels : ℕ
most_levels = 256

abbrev pub IsShallow : Message → Type 0
IsShallow m = depth_of_members m.body < most_levels

-- these bytes spell the header
abbrev pub SpellsHead : Proto → Header → List ℕ → Type 0
SpellsHead protocols.Binary header bytes = BinaryHead header bytes
SpellsHead protocols.Compact header bytes = CompactHead header bytes
SpellsHead protocols.Json header bytes = JsonHead header bytes

-- the frame begins with the whole header
abbrev pub BeginsWith : Proto → Header → List ℕ → Type 0
BeginsWith protocol header frame = (front : List ℕ) × (rest : List ℕ) × (frame ≡ front ++ rest) × SpellsHead protocol header front

-- the frame, of less than 2^31 bytes in JSON, begins with the whole header
abbrev pub IsHeadedBy : Passage → Header → List ℕ → Type 0
IsHeadedBy p header frame = BeginsWith p.from header frame × IsShort p.from frame

-- the fault that stands in a frame of this protocol; of JSON it is said too that its reader refuses the frame with it
abbrev pub FaultBy : Passage → Proto → List ℕ → Fault → Type 0
FaultBy p protocols.Binary frame f = binary_faults.FaultAt frame f
FaultBy p protocols.Compact frame f = compact_faults.FaultAt frame f
FaultBy p protocols.Json frame f = JsonFault p.declarations p.route frame f

abbrev pub FaultIn : Passage → List ℕ → Fault → Type 0
FaultIn p frame f = FaultBy p p.from frame f

-- where a spot of the message stands in the frame
abbrev pub PlaceBy : Passage → Proto → Message → List ℕ → Spot → ℕ → Type 0
PlaceBy p protocols.Binary m frame spot place = BinaryPlace m frame spot place
PlaceBy p protocols.Compact m frame spot place = CompactPlace m frame spot place
PlaceBy p protocols.Json m frame spot place = JsonPlace p.declarations p.route m frame spot place

-- the frame spells a message of which the other protocol can't hold this, at this place, nor is there anything earlier
pub record BarIn (p : Passage) (frame : List ℕ) (place : ℕ) (bar : Bar) : Type 0 where
  pub message : Message
  pub spot : Spot
  pub spells : Spells p p.from message frame
  pub shallow : IsShallow message
  pub first : IsFirstBar p.to p.declarations p.route message spot bar
  pub stands : PlaceBy p p.from message frame spot place

-- why a message with a whole header can't go on: a fault stands in the frame, or else something is barred
abbrev pub StandsIn : Passage → List ℕ → Cause → Type 0
StandsIn p frame (Grammar f) = FaultIn p frame f
StandsIn p frame (Barred place bar) = BarIn p frame place bar
StandsIn p frame NoRoute = ⊥

-- ---- the exception that tells a refusal (Thrift remote procedure call specification, "Response struct": a TApplicationException)

-- field 1, the text; field 2, the type
abbrev pub message_id : ℤ
message_id = pos 1

abbrev pub type_id : ℤ
type_id = pos 2

abbrev pub failure_body : List ℕ → ℤ → Members
failure_body text kind = one_member message_id (characters text) (one_member type_id (whole_32 kind) no_members)

-- JSON can't spell a name that isn't UTF-8, and has the empty one for it
abbrev pub told_name : Proto → List ℕ → List ℕ
told_name protocols.Binary name = name
told_name protocols.Compact name = name
told_name protocols.Json name = if is_utf8 name then name else []

-- the name without the service before it, the sequence number, and the text and the type of the cause
abbrev pub failure_of : Proto → Header → Cause → Message
failure_of teller h cause =
    record { name = told_name teller (method_name h.mtype h.name); mtype = types.Exception; seq = h.seq; body = failure_body (cause_text cause) (failure_type cause) }

-- The bytes are the plain spelling of an exception that tells a refusal, and spell it, by what is built in: that a TApplicationException has
-- a text and a type, whatever else is declared.
abbrev pub TellsPlainly : Passage → Proto → Message → List ℕ → Type 0
TellsPlainly p protocol m bytes = SpellsBy built_in p.route protocol m bytes × (bytes ≡ plain_in protocol built_in p.route m)

-- ---- a frame

-- a message that goes on, with its spelling in the other protocol; one that is refused, with its header, the cause and the exception
-- that tells it; or no message, since no header stands there
pub data Said : Type 0 where
  GoesOn : Message → List ℕ → Said
  IsRefused : Header → Cause → List ℕ → Said
  IsUnread : Fault → Said

-- the frame says this
abbrev pub Says : Passage → List ℕ → Said → Type 0
Says p frame (GoesOn m out) = Spells p p.from m frame × IsShallow m × HoldsAll p.to p.declarations p.route m × SpellsPlainly p p.to m out
Says p frame (IsRefused header cause answer) =
    BeginsWith p.from header frame × StandsIn p frame cause × TellsPlainly p p.teller (failure_of p.teller header cause) answer
Says p frame (IsUnread f) = ((header : Header) → BeginsWith p.from header frame → ⊥) × FaultIn p frame f

-- the answer to the message with this header, refused for this cause, is the plain spelling of the exception that tells it
abbrev pub AnswerSpells : Passage → List ℕ → Header → Cause → Type 0
AnswerSpells p frame header cause = TellsPlainly p p.to (failure_of p.to header cause) (answered p.from p.to frame cause)
