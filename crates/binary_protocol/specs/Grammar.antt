-- The grammar of the Binary protocol: which bytes spell which message. From the Binary protocol specification of
-- Apache Thrift, and the Thrift remote procedure call specification for the parts of a message.
use Rattle.std.specs.Prelude.{◌≡◌, ◌⊎◌, ℕ, ℤ, ◌<◌, ◌≤◌, ◌^◌, Bool, true, false, List, [], ◌∷◌, ◌++◌, length, FitsSigned}
use Rattle.std.specs.Int.{Width, w8, w16, w32, w64, to_be_bytes, cast_unsigned}
use Rattle.thrift_value.specs.declared.kind.Kind.{Kind}
use Rattle.thrift_value.specs.Trees.{Tree, truth, whole_8, whole_16, whole_32, whole_64, double, characters, loose_number, loose_text, structure, mapping_of_none, mapping, collection, sequence, unique_id, Members, no_members, one_member, Trees, no_trees, one_tree, Pairs, no_pairs, one_pair, Message, kind_of, count_of_trees, count_of_pairs}
use Rattle.binary_protocol.specs.Codes.{code_of_kind, code_of_type}

-- an integer: big endian two's complement of its width
abbrev pub number : Width → ℤ → List ℕ
number w n = to_be_bytes w (cast_unsigned w n)

-- a size or a length: an i32 that isn't negative
abbrev pub size : ℕ → List ℕ
size n = to_be_bytes w32 n

-- a string or a name: its length and its bytes
abbrev pub string : List ℕ → List ℕ
string bytes = size (length bytes) ++ bytes

-- a bool: one byte
abbrev pub flag : Bool → ℕ
flag true = 1
flag false = 0

-- a kind byte of an empty map: 0 or a kind's code
abbrev pub IsKindByte : ℕ → Type 0
IsKindByte byte = (byte ≡ 0) ⊎ ((kind : Kind) × (byte ≡ code_of_kind kind))

-- The bytes spell the value. Text and numbers that are kept as JSON spells them have no Binary spelling.
abbrev mutual
  pub SpellsValue : Tree → List ℕ → Type 0
  SpellsValue (truth b) bytes = bytes ≡ flag b ∷ []
  SpellsValue (whole_8 n) bytes = FitsSigned w8 n × (bytes ≡ number w8 n)
  SpellsValue (whole_16 n) bytes = FitsSigned w16 n × (bytes ≡ number w16 n)
  SpellsValue (whole_32 n) bytes = FitsSigned w32 n × (bytes ≡ number w32 n)
  SpellsValue (whole_64 n) bytes = FitsSigned w64 n × (bytes ≡ number w64 n)
  SpellsValue (double eight) bytes = (length eight ≡ 8) × (bytes ≡ eight)
  SpellsValue (characters text) bytes = (length text < 2 ^ 31) × (bytes ≡ string text)
  SpellsValue (loose_number text) bytes = ⊥
  SpellsValue (loose_text text) bytes = ⊥
  SpellsValue (structure ms) bytes = SpellsMembers ms bytes
  SpellsValue mapping_of_none bytes = (key : ℕ) × (value : ℕ) × IsKindByte key × IsKindByte value × (bytes ≡ key ∷ value ∷ size 0)
  SpellsValue (mapping key value ps) bytes = (1 ≤ count_of_pairs ps) × (count_of_pairs ps < 2 ^ 31)
      × ((pairs : List ℕ) × SpellsPairs key value ps pairs × (bytes ≡ code_of_kind key ∷ code_of_kind value ∷ size (count_of_pairs ps) ++ pairs))
  SpellsValue (collection kind ts) bytes = (count_of_trees ts < 2 ^ 31)
      × ((elements : List ℕ) × SpellsElements kind ts elements × (bytes ≡ code_of_kind kind ∷ size (count_of_trees ts) ++ elements))
  SpellsValue (sequence kind ts) bytes = (count_of_trees ts < 2 ^ 31)
      × ((elements : List ℕ) × SpellsElements kind ts elements × (bytes ≡ code_of_kind kind ∷ size (count_of_trees ts) ++ elements))
  SpellsValue (unique_id sixteen) bytes = (length sixteen ≡ 16) × (bytes ≡ sixteen)

  -- each field is its kind, its id and its value; a byte 0 ends the struct
  pub SpellsMembers : Members → List ℕ → Type 0
  SpellsMembers no_members bytes = bytes ≡ 0 ∷ []
  SpellsMembers (one_member id t ms) bytes = FitsSigned w16 id
      × ((value : List ℕ) × (rest : List ℕ) × SpellsValue t value × SpellsMembers ms rest × (bytes ≡ code_of_kind (kind_of t) ∷ number w16 id ++ (value ++ rest)))

  -- elements of one kind, one after another
  pub SpellsElements : Kind → Trees → List ℕ → Type 0
  SpellsElements kind no_trees bytes = bytes ≡ []
  SpellsElements kind (one_tree t ts) bytes = (kind_of t ≡ kind)
      × ((first : List ℕ) × (rest : List ℕ) × SpellsValue t first × SpellsElements kind ts rest × (bytes ≡ first ++ rest))

  -- keys and values in turn
  pub SpellsPairs : Kind → Kind → Pairs → List ℕ → Type 0
  SpellsPairs key value no_pairs bytes = bytes ≡ []
  SpellsPairs key value (one_pair k v ps) bytes = (kind_of k ≡ key) × (kind_of v ≡ value)
      × ((first : List ℕ) × (second : List ℕ) × (rest : List ℕ) × SpellsValue k first × SpellsValue v second × SpellsPairs key value ps rest × (bytes ≡ first ++ (second ++ rest)))

-- The strict header: the version 1 with its highest bit, one unused byte, the type, the name and the sequence number.
abbrev pub SpellsStrictHeader : Message → List ℕ → Type 0
SpellsStrictHeader m bytes = (unused : ℕ) × (unused < 256) × (bytes ≡ 128 ∷ 1 ∷ unused ∷ code_of_type m.mtype ∷ string m.name ++ number w32 m.seq)

-- The old header, which has no version: the name, the type and the sequence number.
abbrev pub SpellsOldHeader : Message → List ℕ → Type 0
SpellsOldHeader m bytes = bytes ≡ string m.name ++ code_of_type m.mtype ∷ number w32 m.seq

-- The bytes spell the message: a header of either form, and the fields of its body.
abbrev pub BinarySpells : Message → List ℕ → Type 0
BinarySpells m bytes = (length m.name < 2 ^ 31) × FitsSigned w32 m.seq
    × ((header : List ℕ) × (body : List ℕ) × (SpellsStrictHeader m header ⊎ SpellsOldHeader m header) × SpellsMembers m.body body × (bytes ≡ header ++ body))
