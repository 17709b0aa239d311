-- How a message is spelled up to any place: its header, the items of its body one behind another, and the marks that lead to each of them.
use Rattle.std.specs.Prelude.{◌≡◌, ⊤, ◌⊎◌, ℕ, ℤ, pos, Bool, true, false, List, [], ◌∷◌, ◌++◌, length, FitsSigned}
use Rattle.std.specs.Int.{w32}
use Rattle.std.specs.Fmt.{decimal}
use Rattle.thrift_value.specs.declared.kind.Kind.{Kind}
use Rattle.thrift_value.specs.declared.kind.MessageType.{MessageType}
use Rattle.thrift_value.specs.Items.{Item, field, stop, bool_value, i8_value, i16_value, i32_value, i64_value, text, number_text, unknown_text, struct_begin, empty_map, map_begin, set_begin, list_begin, end}
use Rattle.protocol_traits.specs.declared.nest.Slot.{Slot}
use Rattle.protocol_traits.specs.declared.nest.Slot.TheVariants as slots
use Rattle.protocol_traits.specs.declared.proto.Hint.{Hint}
use Rattle.protocol_traits.specs.Stack.{first_of}
use Rattle.protocol_traits.specs.Follow.{after as levels_after}
use Rattle.protocol_traits.specs.Heads.{Header}
use Rattle.type_walk.specs.Positions.{Position, hint_of}
use Rattle.type_walk.specs.Positions.{after as position_after}
use Rattle.json_text.specs.Grammar.{SpellsInt, SpellsText, IsWhite}
use Rattle.json_protocol.specs.declared.opening.Opening.{Opening}
use Rattle.json_protocol.specs.declared.opening.Opening.TheVariants as openings
use Rattle.json_protocol.specs.Reading.{opening_after}
use Rattle.json_protocol.specs.Writing.{quoted, number, flag, type_digit, is_key}
use Rattle.json_protocol.specs.Grammar.{Tokens, Laid, mark, comma, name_token, map_tokens, sequence_tokens, IsNamed, IsIntToken, IsDoubleToken, IsStringToken, IsLooseToken}

-- ---- the header

-- [1,"name",type,number, and what stands behind
abbrev pub head_tokens : MessageType → List ℕ → List ℕ → Tokens → Tokens
head_tokens mtype name seq more = mark 91 ∷ mark 49 ∷ mark 44 ∷ name ∷ mark 44 ∷ type_digit mtype ∷ mark 44 ∷ seq ∷ mark 44 ∷ more

-- the bytes spell the header
abbrev pub SpellsHeader : Header → List ℕ → Type 0
SpellsHeader h bytes =
    (name : List ℕ) × (seq : List ℕ) × SpellsText h.name name × SpellsInt h.seq seq × FitsSigned w32 h.seq × Laid (head_tokens h.mtype name seq []) bytes

-- ---- the marks before an item

-- before a value, by the level that calls for it
abbrev pub leading : Opening → List Slot → Tokens → Tokens
leading opening [] tokens = tokens
leading opening (slots.Fields last ∷ up) tokens = tokens
leading opening (slots.Value kind id ∷ up) tokens = mark 58 ∷ tokens
leading opening (slots.Elements kind left ∷ up) tokens = mark 44 ∷ tokens
leading openings.Old (slots.Keys key value left ∷ up) tokens = mark 44 ∷ tokens
leading opening (slots.Keys key value left ∷ up) tokens = mark 44 ∷ mark 123 ∷ tokens
leading opening (slots.Values key value left ∷ up) tokens = mark 58 ∷ tokens

-- before a field or a stop
abbrev pub field_leading : Opening → Tokens → Tokens
field_leading openings.Body tokens = mark 123 ∷ tokens
field_leading openings.New tokens = tokens
field_leading openings.Old tokens = mark 125 ∷ tokens

-- before the end of a container
abbrev pub end_leading : List Slot → Tokens → Tokens
end_leading (slots.Keys key value left ∷ up) tokens = mark 125 ∷ tokens
end_leading nest tokens = tokens

-- nothing of the level has been read
abbrev pub is_first : Opening → Bool
is_first openings.Old = false
is_first opening = true

-- ---- an item

-- the tokens of a value that holds no others, or of the begin of one that does, as a key or not, where a string is spelled by this hint
abbrev pub SpellsValue : Bool → Hint → Item → Tokens → Type 0
SpellsValue key hint (bool_value b) tokens = tokens ≡ number key (flag b) ∷ []
SpellsValue key hint (i8_value n) tokens = IsIntToken key n tokens
SpellsValue key hint (i16_value n) tokens = IsIntToken key n tokens
SpellsValue key hint (i32_value n) tokens = IsIntToken key n tokens
SpellsValue key hint (i64_value n) tokens = IsIntToken key n tokens
SpellsValue key hint (text bytes) tokens = IsStringToken hint bytes tokens
SpellsValue key hint (number_text bytes) tokens = IsDoubleToken key bytes tokens
SpellsValue key hint (unknown_text bytes) tokens = IsLooseToken hint bytes tokens
SpellsValue key hint struct_begin tokens = tokens ≡ mark 123 ∷ []
SpellsValue key hint empty_map tokens = (k : Kind) × (v : Kind) × IsNamed k × IsNamed v × (tokens ≡ map_tokens k v 0 ++ (mark 125 ∷ mark 93 ∷ []))
SpellsValue key hint (map_begin k v size) tokens =
    IsNamed k × IsNamed v × (tokens ≡ mark 91 ∷ name_token k ∷ mark 44 ∷ name_token v ∷ mark 44 ∷ decimal size ∷ [])
SpellsValue key hint (set_begin kind size) tokens = IsNamed kind × (tokens ≡ sequence_tokens kind size)
SpellsValue key hint (list_begin kind size) tokens = IsNamed kind × (tokens ≡ sequence_tokens kind size)
SpellsValue key hint item tokens = ⊥

-- The item and the marks before it, where these levels are open and so much was read of the innermost: a field, the end of a struct or of a
-- container, or a value.
abbrev pub SpellsItem : Hint → Opening → List Slot → Item → Tokens → Type 0
SpellsItem hint opening nest item tokens =
    ((id : ℤ) × (kind : Kind) × (digits : List ℕ) × (item ≡ field id kind) × SpellsInt id digits × IsNamed kind
    × (tokens ≡ field_leading opening (comma (is_first opening) ++ (quoted digits ∷ mark 58 ∷ mark 123 ∷ name_token kind ∷ []))))
    ⊎ (((item ≡ stop) × (tokens ≡ field_leading opening (mark 125 ∷ [])))
    ⊎ (((item ≡ end) × (tokens ≡ end_leading nest (mark 93 ∷ [])))
    ⊎ ((own : Tokens) × SpellsValue (is_key (first_of nest)) hint item own × (tokens ≡ leading opening nest own))))

-- ---- items one behind another

-- these items stand behind one another, from this position on, with these levels open and so much read of the innermost
abbrev pub Leads : Position → List Slot → Opening → List Item → Tokens → Type 0
Leads p nest opening [] tokens = tokens ≡ []
Leads p nest opening (item ∷ items) tokens =
    (own : Tokens) × (rest : Tokens) × SpellsItem (hint_of p) opening nest item own
    × Leads (position_after p item) (levels_after item nest) (opening_after item) items rest × (tokens ≡ own ++ rest)

-- the levels that are open behind the items, and what was read of the innermost
abbrev pub levels_behind : List Slot → List Item → List Slot
levels_behind nest [] = nest
levels_behind nest (item ∷ items) = levels_behind (levels_after item nest) items

abbrev pub opening_behind : Opening → List Item → Opening
opening_behind opening [] = opening
opening_behind opening (item ∷ items) = opening_behind (opening_after item) items

-- the level of a body
abbrev pub body_nest : List Slot
body_nest = slots.Fields (pos 0) ∷ []

-- ---- where something stands

-- the item is a value or begins one
abbrev pub IsOfValue : Item → Type 0
IsOfValue (field id kind) = ⊥
IsOfValue stop = ⊥
IsOfValue end = ⊥
IsOfValue item = ⊤

-- the first byte is no whitespace
abbrev pub BeginsToken : List ℕ → Type 0
BeginsToken [] = ⊥
BeginsToken (x ∷ xs) = IsWhite x → ⊥

-- the token of a message's name stands at this place of the frame
pub record NameStands (name frame : List ℕ) (place : ℕ) : Type 0 where
  pub front : List ℕ
  pub token : List ℕ
  pub rest : List ℕ
  pub spells : SpellsText name token
  pub laid : Laid (mark 91 ∷ mark 49 ∷ mark 44 ∷ []) front
  pub is : frame ≡ front ++ (token ++ rest)
  pub place_is : place ≡ length front

-- the first token of the value behind these items of a body stands at this place: before it stand the header, the items, and the marks
-- that lead to the value
pub record ValueStands (start : Position) (h : Header) (before : List Item) (frame : List ℕ) (place : ℕ) : Type 0 where
  pub name : List ℕ
  pub seq : List ℕ
  pub tokens : Tokens
  pub front : List ℕ
  pub rest : List ℕ
  pub text : SpellsText h.name name
  pub int : SpellsInt h.seq seq
  pub leads : Leads start body_nest openings.Body before tokens
  pub laid : Laid (head_tokens h.mtype name seq (tokens ++ leading (opening_behind openings.Body before) (levels_behind body_nest before) [])) front
  pub is : frame ≡ front ++ rest
  pub begins : BeginsToken rest
  pub place_is : place ≡ length front

-- a whole message, item by item: its header, the items of its body, and the bracket that closes it
pub record SpellsByItems (start : Position) (h : Header) (items : List Item) (bytes : List ℕ) : Type 0 where
  pub name : List ℕ
  pub seq : List ℕ
  pub tokens : Tokens
  pub text : SpellsText h.name name
  pub int : SpellsInt h.seq seq
  pub leads : Leads start body_nest openings.Body items tokens
  pub laid : Laid (head_tokens h.mtype name seq (tokens ++ (mark 93 ∷ []))) bytes
