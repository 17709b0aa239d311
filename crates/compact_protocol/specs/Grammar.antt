-- The grammar of the Compact protocol: which bytes spell which message. From the Compact protocol specification of
-- Apache Thrift, and the Thrift remote procedure call specification for the parts of a message.
use Rattle.std.specs.Prelude.{◌≡◌, ◌⊎◌, ℕ, ℤ, pos, ◌+◌, ◌+ℤ◌, ◌*◌, ◌<◌, ◌≤◌, ◌^◌, Bool, true, false, List, [], ◌∷◌, ◌++◌, length, reverse, FitsSigned}
use Rattle.std.specs.Int.{w8, w16, w32, w64, cast_unsigned}
use Rattle.varint_zigzag.specs.Varint.{Spells}
use Rattle.varint_zigzag.specs.Zigzag.{folded}
use Rattle.thrift_value.specs.declared.kind.Kind.{Kind}
use Rattle.thrift_value.specs.declared.kind.Kind.TheVariants as kinds
use Rattle.thrift_value.specs.Trees.{Tree, truth, whole_8, whole_16, whole_32, whole_64, double, characters, loose_number, loose_text, structure, mapping_of_none, mapping, collection, sequence, unique_id, Members, no_members, one_member, Trees, no_trees, one_tree, Pairs, no_pairs, one_pair, Message, kind_of, count_of_trees, count_of_pairs}
use Rattle.compact_protocol.specs.Codes.{code_of, flag_code, type_code}

-- A signed number is folded onto an unsigned one, and that is a varint. It may be padded: to five bytes where the
-- number has 16 or 32 bits, to ten where it has 64.
abbrev pub IsSmall : ℤ → List ℕ → Type 0
IsSmall n bytes = FitsSigned w16 n × Spells 5 16 bytes (folded n)

abbrev pub IsWord : ℤ → List ℕ → Type 0
IsWord n bytes = FitsSigned w32 n × Spells 5 32 bytes (folded n)

abbrev pub IsLong : ℤ → List ℕ → Type 0
IsLong n bytes = FitsSigned w64 n × Spells 10 64 bytes (folded n)

-- a size or a length: a varint, at most 2^31 - 1
abbrev pub IsSize : ℕ → List ℕ → Type 0
IsSize n bytes = (n < 2 ^ 31) × Spells 5 32 bytes n

-- a string or a name: its length and its bytes
abbrev pub IsString : List ℕ → List ℕ → Type 0
IsString text bytes = (size : List ℕ) × IsSize (length text) size × (bytes ≡ size ++ text)

-- a bool in a container: 1 is true, 2 and 0 are false
abbrev pub IsFlag : Bool → ℕ → Type 0
IsFlag true byte = byte ≡ 1
IsFlag false byte = (byte ≡ 2) ⊎ (byte ≡ 0)

-- the kind of elements, keys or values; for bool either of its two numbers
abbrev pub IsKind : Kind → ℕ → Type 0
IsKind kinds.Bool code = (code ≡ 1) ⊎ (code ≡ 2)
IsKind kind code = code ≡ code_of kind

-- the kind of a field; for a bool it is the value
abbrev pub field_code : Tree → ℕ
field_code (truth b) = flag_code b
field_code t = code_of (kind_of t)

-- a field's header has told the value
abbrev pub is_told : Tree → Bool
is_told (truth b) = true
is_told t = false

-- A field's header behind the field with the id `last`, or behind the struct's start with 0 for it. Short: one byte,
-- with what the id lies above the last in the high half, 1 to 15, and the kind in the low half. Long: the kind, and the
-- id in full.
abbrev pub IsFieldHeader : ℤ → ℤ → ℕ → List ℕ → Type 0
IsFieldHeader last id code bytes =
    ((step : ℕ) × (1 ≤ step) × (step ≤ 15) × (id ≡ last +ℤ pos step) × FitsSigned w16 id × (bytes ≡ (16 * step + code) ∷ []))
    ⊎ ((number : List ℕ) × IsSmall id number × (bytes ≡ code ∷ number))

-- The header of a list or a set. Short: one byte, with the size, 0 to 14, in the high half and the kind in the low half.
-- Long: 15 in the high half, and the size, whatever it is, behind the byte.
abbrev pub IsElementsHeader : Kind → ℕ → List ℕ → Type 0
IsElementsHeader kind size bytes =
    (code : ℕ) × IsKind kind code
    × (((size ≤ 14) × (bytes ≡ (16 * size + code) ∷ [])) ⊎ ((number : List ℕ) × IsSize size number × (bytes ≡ (240 + code) ∷ number)))

-- the header of a map with pairs: their number, and one byte with the kind of the keys in the high half and that of the
-- values in the low half
abbrev pub IsPairsHeader : Kind → Kind → ℕ → List ℕ → Type 0
IsPairsHeader key value size bytes =
    (number : List ℕ) × IsSize size number
    × ((key_code : ℕ) × (value_code : ℕ) × IsKind key key_code × IsKind value value_code × (bytes ≡ number ++ (16 * key_code + value_code) ∷ []))

-- The bytes spell the value where it is no field of a struct. Text and numbers that are kept as JSON spells them have
-- no Compact spelling.
abbrev mutual
  pub SpellsValue : Tree → List ℕ → Type 0
  SpellsValue (truth b) bytes = (byte : ℕ) × IsFlag b byte × (bytes ≡ byte ∷ [])
  SpellsValue (whole_8 n) bytes = FitsSigned w8 n × (bytes ≡ cast_unsigned w8 n ∷ [])
  SpellsValue (whole_16 n) bytes = IsSmall n bytes
  SpellsValue (whole_32 n) bytes = IsWord n bytes
  SpellsValue (whole_64 n) bytes = IsLong n bytes
  SpellsValue (double eight) bytes = (length eight ≡ 8) × (bytes ≡ reverse eight)
  SpellsValue (characters text) bytes = IsString text bytes
  SpellsValue (loose_number text) bytes = ⊥
  SpellsValue (loose_text text) bytes = ⊥
  SpellsValue (structure ms) bytes = SpellsMembers (pos 0) ms bytes
  SpellsValue mapping_of_none bytes = IsSize 0 bytes
  SpellsValue (mapping key value ps) bytes = (1 ≤ count_of_pairs ps)
      × ((header : List ℕ) × (pairs : List ℕ) × IsPairsHeader key value (count_of_pairs ps) header × SpellsPairs key value ps pairs × (bytes ≡ header ++ pairs))
  SpellsValue (collection kind ts) bytes = (count_of_trees ts < 2 ^ 31)
      × ((header : List ℕ) × (elements : List ℕ) × IsElementsHeader kind (count_of_trees ts) header × SpellsElements kind ts elements × (bytes ≡ header ++ elements))
  SpellsValue (sequence kind ts) bytes = (count_of_trees ts < 2 ^ 31)
      × ((header : List ℕ) × (elements : List ℕ) × IsElementsHeader kind (count_of_trees ts) header × SpellsElements kind ts elements × (bytes ≡ header ++ elements))
  SpellsValue (unique_id sixteen) bytes = (length sixteen ≡ 16) × (bytes ≡ sixteen)

  -- each field is its header and its value, nothing for a bool; a byte 0 ends the struct
  pub SpellsMembers : ℤ → Members → List ℕ → Type 0
  SpellsMembers last no_members bytes = bytes ≡ 0 ∷ []
  SpellsMembers last (one_member id t ms) bytes =
      (header : List ℕ) × (value : List ℕ) × (rest : List ℕ)
      × IsFieldHeader last id (field_code t) header × (((is_told t ≡ true) × (value ≡ [])) ⊎ ((is_told t ≡ false) × SpellsValue t value))
      × SpellsMembers id ms rest × (bytes ≡ header ++ (value ++ rest))

  -- elements of one kind, one after another
  pub SpellsElements : Kind → Trees → List ℕ → Type 0
  SpellsElements kind no_trees bytes = bytes ≡ []
  SpellsElements kind (one_tree t ts) bytes = (kind_of t ≡ kind)
      × ((first : List ℕ) × (rest : List ℕ) × SpellsValue t first × SpellsElements kind ts rest × (bytes ≡ first ++ rest))

  -- keys and values in turn
  pub SpellsPairs : Kind → Kind → Pairs → List ℕ → Type 0
  SpellsPairs key value no_pairs bytes = bytes ≡ []
  SpellsPairs key value (one_pair k v ps) bytes = (kind_of k ≡ key) × (kind_of v ≡ value)
      × ((first : List ℕ) × (second : List ℕ) × (rest : List ℕ) × SpellsValue k first × SpellsValue v second × SpellsPairs key value ps rest × (bytes ≡ first ++ (second ++ rest)))

-- The header: the protocol's byte 82 (hexadecimal), the version 1 in the low five bits of a byte and the type in its high
-- three, the sequence number's 32 bits as a varint that isn't folded, and the name.
abbrev pub SpellsHeader : Message → List ℕ → Type 0
SpellsHeader m bytes = FitsSigned w32 m.seq
    × ((number : List ℕ) × (name : List ℕ) × Spells 5 32 number (cast_unsigned w32 m.seq) × IsString m.name name
    × (bytes ≡ 130 ∷ (32 * type_code m.mtype + 1) ∷ (number ++ name)))

-- The bytes spell the message: a header, and the fields of its body.
abbrev pub CompactSpells : Message → List ℕ → Type 0
CompactSpells m bytes = (header : List ℕ) × (body : List ℕ) × SpellsHeader m header × SpellsMembers (pos 0) m.body body × (bytes ≡ header ++ body)
