-- The fault that stands in a frame, by what the grammar spells: where it stands, and which part of a message is called for there.
use Rattle.std.specs.Prelude.{◌≡◌, ⊤, ◌⊎◌, ℕ, suc, ℤ, ◌+◌, ◌<◌, ◌^◌, Bool, false, List, [], ◌∷◌, ◌++◌, length, Option, None, Some, FitsSigned}
use Rattle.std.specs.Int.{w16}
use Rattle.std.specs.Fmt.{decimal}
use Rattle.thrift_value.specs.declared.kind.Kind.{Kind}
use Rattle.thrift_value.specs.declared.kind.Kind.TheVariants as kinds
use Rattle.thrift_value.specs.Items.{Item}
use Rattle.protocol_traits.specs.declared.nest.Slot.{Slot}
use Rattle.protocol_traits.specs.declared.nest.Slot.TheVariants as slots
use Rattle.protocol_traits.specs.Heads.{Header}
use Rattle.type_walk.specs.Positions.{start}
use Rattle.json_protocol.specs.declared.opening.Opening.TheVariants as openings
use Rattle.thrift_value.specs.declared.kind.MessageType.{MessageType}
use Rattle.thrift_value.specs.Trees.{Message, depth_of_members}
use Rattle.protocol_traits.specs.declared.fault.Fault.{Fault}
use Rattle.protocol_traits.specs.declared.fault.Reason.{Reason}
use Rattle.protocol_traits.specs.declared.fault.Reason.TheVariants as reasons
use Rattle.json_text.specs.Number.{is_number_byte}
use Rattle.json_text.specs.Grammar.{SpellsInt, SpellsText, SpellsBlob}
use Rattle.json_text_laws.specs.Strings.{IsFault}
use Rattle.json_protocol.specs.Writing.{quoted, number, flag, type_digit}
use Rattle.json_protocol.specs.Grammar.{Tokens, Laid, mark, name_token, IsNamed, IsDoubleToken}
use Rattle.json_laws.specs.Fronts.{head_tokens, leading, Leads, levels_behind, opening_behind, body_nest, BeginsToken}
use Rattle.json_laws.specs.Stated.{Known, JsonSpells, NoMessage, Begins, IsViable, IsCutShort}

-- A token of the sort that a fault of this reason stands in: the version, a message's type, a kind's name, a field's id, a size, a bool, a
-- number, a string as base64 or as text, or a bracket, a brace, a comma or a colon.
abbrev pub IsSort : Reason → List ℕ → Type 0
IsSort reasons.BadVersion token = token ≡ mark 49
IsSort reasons.BadType token = (t : MessageType) × (token ≡ type_digit t)
IsSort reasons.BadKind token = (kind : Kind) × IsNamed kind × (token ≡ name_token kind)
IsSort reasons.BadId token = (id : ℤ) × (digits : List ℕ) × SpellsInt id digits × (token ≡ quoted digits)
IsSort reasons.BadSize token = (size : ℕ) × (token ≡ decimal size)
IsSort reasons.BadBool token = (key : Bool) × (b : Bool) × (token ≡ number key (flag b))
IsSort reasons.BadNumber token =
    ((key : Bool) × (n : ℤ) × (digits : List ℕ) × SpellsInt n digits × (token ≡ number key digits)) ⊎ ((key : Bool) × (digits : List ℕ) × IsDoubleToken key digits (token ∷ []))
IsSort reasons.BadBase64 token = (meant : List ℕ) × SpellsBlob meant token
IsSort reasons.BadString token = (meant : List ℕ) × SpellsText meant token
IsSort reasons.BadToken token = (byte : ℕ) × (token ≡ mark byte)
IsSort reason token = ⊥

-- A fault stands so many bytes into what stands where its token is called for: in a string at the fault of the string, else right there.
abbrev pub IsInside : Reason → List ℕ → ℕ → Type 0
IsInside reasons.BadString left at = IsFault left at
IsInside reason left at = at ≡ 0

-- none of these tokens stands there
abbrev pub NoneStands : (List ℕ → Type 0) → List ℕ → Type 0
NoneStands Is left = (token rest : List ℕ) → Is token → left ≡ token ++ rest → ⊥

-- nothing follows, or a byte that ends a number
abbrev pub EndsNumber : List ℕ → Type 0
EndsNumber [] = ⊤
EndsNumber (x ∷ rest) = is_number_byte x ≡ false

-- none of these numbers stands there and ends
abbrev pub NoneEnds : (List ℕ → Type 0) → List ℕ → Type 0
NoneEnds Is left = (token rest : List ℕ) → Is token → EndsNumber rest → left ≡ token ++ rest → ⊥

-- Where one of these is called for, none stands there: the version, a message's type, a kind's name, a field's id of 16 bits, a size of 31
-- bits, a bool, which is in quotes or isn't as the one that is called for, or a string; where a mark is called for, it doesn't. Of a number
-- nothing is said, since its range hangs on the kind that is announced for it.
abbrev pub IsUnlike : Reason → List ℕ → List ℕ → Type 0
IsUnlike reasons.BadVersion left token = NoneEnds (IsSort reasons.BadVersion) left
IsUnlike reasons.BadType left token = NoneEnds (IsSort reasons.BadType) left
IsUnlike reasons.BadId left token = NoneStands (λ other. (id : ℤ) × (digits : List ℕ) × SpellsInt id digits × FitsSigned w16 id × (other ≡ quoted digits)) left
IsUnlike reasons.BadSize left token = NoneEnds (λ other. (size : ℕ) × (size < 2 ^ 31) × (other ≡ decimal size)) left
IsUnlike reasons.BadBool left token = (key : Bool) → ((b : Bool) × (token ≡ number key (flag b))) → NoneEnds (λ other. (b : Bool) × (other ≡ number key (flag b))) left
IsUnlike reasons.BadKind left token = NoneStands (IsSort reasons.BadKind) left
IsUnlike reasons.BadBase64 left token = NoneStands (IsSort reasons.BadBase64) left
IsUnlike reasons.BadString left token = NoneStands (IsSort reasons.BadString) left
IsUnlike reasons.BadToken left token = NoneStands (λ other. other ≡ token) left
IsUnlike reason left token = ⊤

-- the tokens are those of the message, with whatever whitespace round them
abbrev pub AreOf : Known → Message → Tokens → Type 0
AreOf k m tokens = (bytes : List ℕ) → Laid tokens bytes → JsonSpells k m bytes

-- it stands neither in a value that lies too deep nor behind a message
abbrev pub IsOfPart : Fault → Type 0
IsOfPart f = (f.reason ≡ reasons.TooDeep → ⊥) × (f.reason ≡ reasons.Trailing → ⊥)

-- Before the fault stand the first tokens of a message, and whatever whitespace, and the message has next a token of the sort that the fault's
-- reason names. It is called for where no whitespace stands.
pub record PartStands (k : Known) (bytes : List ℕ) (f : Fault) : Type 0 where
  pub message : Message
  pub before : Tokens
  pub token : List ℕ
  pub later : Tokens
  pub are : AreOf k message (before ++ (token ∷ later))
  pub sort : IsSort f.reason token
  pub front : List ℕ
  pub left : List ℕ
  pub laid : Laid before front
  pub is : bytes ≡ front ++ left
  pub begins : BeginsToken left
  pub inside : ℕ
  pub stands : IsInside f.reason left inside
  pub unlike : IsUnlike f.reason left token
  pub place : f.place ≡ length front + inside
  pub within : inside < length left

-- A byte that is no whitespace stands behind a whole message of depth at most 256, and the whitespace behind that.
pub record TrailsAt (k : Known) (bytes : List ℕ) (place : ℕ) : Type 0 where
  pub message : Message
  pub shallow : depth_of_members message.body < 256
  pub front : List ℕ
  pub left : List ℕ
  pub spelled : JsonSpells k message front
  pub is : bytes ≡ front ++ left
  pub begins : BeginsToken left
  pub place_is : place ≡ length front

-- the kind of the value that the innermost of these levels calls for, if it calls for one
abbrev pub called_kind : List Slot → Option Kind
called_kind (slots.Value kind id ∷ up) = Some kind
called_kind (slots.Elements kind (suc left) ∷ up) = Some kind
called_kind (slots.Keys key value (suc left) ∷ up) = Some key
called_kind (slots.Values key value left ∷ up) = Some value
called_kind nest = None

-- a struct, a map, a set or a list
abbrev pub IsLevel : Kind → Type 0
IsLevel kinds.Struct = ⊤
IsLevel kinds.Map = ⊤
IsLevel kinds.Set = ⊤
IsLevel kinds.List = ⊤
IsLevel kind = ⊥

-- A struct, map, set or list is called for at this place, and 256 levels lie around it: a header stands before it, and the first items of a
-- body, which leave that many open, and the marks that lead to the value, and whatever whitespace.
pub record DeepStands (k : Known) (bytes : List ℕ) (place : ℕ) : Type 0 where
  pub header : Header
  pub items : List Item
  pub name : List ℕ
  pub seq : List ℕ
  pub tokens : Tokens
  pub text : SpellsText header.name name
  pub int : SpellsInt header.seq seq
  pub leads : Leads (start k.declared k.body) body_nest openings.Body items tokens
  pub full : length (levels_behind body_nest items) ≡ 256
  pub kind : Kind
  pub called : called_kind (levels_behind body_nest items) ≡ Some kind
  pub level : IsLevel kind
  pub front : List ℕ
  pub left : List ℕ
  pub laid : Laid (head_tokens header.mtype name seq (tokens ++ leading (opening_behind openings.Body items) (levels_behind body_nest items) [])) front
  pub is : bytes ≡ front ++ left
  pub begins : 0 < length left → BeginsToken left
  pub place_is : place ≡ length front

-- Truncated: some bytes behind the frame make it a message, of any depth, and it is none of depth at most 256. The place is its end.
-- Trailing: a message stands before the place, and something else there.
-- TooDeep: a value is called for there inside 256 levels, and no message of depth at most 256 begins with the frame.
-- A part: no message, of any depth, begins with the frame, and before the place stand the first tokens of one that has next a token of this sort.
abbrev pub StandsAt : Reason → Known → List ℕ → Fault → Type 0
StandsAt reasons.Truncated k bytes f = IsCutShort k bytes f × NoMessage k bytes
StandsAt reasons.Trailing k bytes f = TrailsAt k bytes f.place
StandsAt reasons.TooDeep k bytes f = DeepStands k bytes f.place × (Begins k bytes → ⊥)
StandsAt reason k bytes f = PartStands k bytes f × (IsViable k bytes → ⊥)

abbrev pub FaultStands : Known → List ℕ → Fault → Type 0
FaultStands k bytes f = StandsAt f.reason k bytes f
