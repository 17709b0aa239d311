-- TJSON as a relation between messages and bytes, by cases on the value. No reader or writer is named here: the tokens of
-- a message stand in order, with any whitespace before, between and after them.
use Rattle.std.specs.Prelude.{◌≡◌, ℕ, ℤ, ◌⊎◌, Bool, true, false, List, [], ◌∷◌, ◌++◌, FitsSigned}
use Rattle.std.specs.Int.{w32}
use Rattle.std.specs.Fmt.{decimal}
use Rattle.thrift_value.specs.declared.kind.Kind.{Kind}
use Rattle.thrift_value.specs.Trees.{Tree, truth, whole_8, whole_16, whole_32, whole_64, double, characters, loose_number, loose_text, structure, mapping_of_none, mapping, collection, sequence, unique_id, Members, no_members, one_member, Trees, no_trees, one_tree, Pairs, no_pairs, one_pair, Message, kind_of, count_of_trees, count_of_pairs, AreMembers}
use Rattle.protocol_traits.specs.declared.proto.Hint.{Hint}
use Rattle.protocol_traits.specs.declared.proto.Hint.TheVariants as hints
use Rattle.json_text.specs.Grammar.{SpellsInt, IsNumber, SpellsText, SpellsBlob, AreWhite}
use Rattle.json_protocol.specs.Writing.{is_uuid, kind_name, quoted, number, flag, type_digit}

-- what is declared of each position of a body: how a string there is spelled, and what is declared inside it
pub record Declared : Type 1 where
  pub Position : Type 0
  pub hint : Position → Hint
  pub field : Position → ℤ → Kind → Position
  pub element : Position → Kind → Position
  pub key : Position → Kind → Position
  pub value : Position → Kind → Position

abbrev pub Tokens : Type 0
Tokens = List (List ℕ)

-- tokens in order, with any whitespace round them
abbrev pub Laid : Tokens → List ℕ → Type 0
Laid [] bytes = AreWhite bytes
Laid (token ∷ more) bytes = (white : List ℕ) × (rest : List ℕ) × (bytes ≡ white ++ (token ++ rest)) × AreWhite white × Laid more rest

abbrev pub mark : ℕ → List ℕ
mark byte = byte ∷ []

-- the kind has a name: each but uuid
abbrev pub IsNamed : Kind → Type 0
IsNamed kind = is_uuid kind ≡ false

abbrev pub name_token : Kind → List ℕ
name_token kind = quoted (kind_name kind)

-- NaN, Infinity and -Infinity
abbrev pub IsWord : List ℕ → Type 0
IsWord word =
    (word ≡ 78 ∷ 97 ∷ 78 ∷ []) ⊎ ((word ≡ 73 ∷ 110 ∷ 102 ∷ 105 ∷ 110 ∷ 105 ∷ 116 ∷ 121 ∷ []) ⊎ (word ≡ 45 ∷ 73 ∷ 110 ∷ 102 ∷ 105 ∷ 110 ∷ 105 ∷ 116 ∷ 121 ∷ []))

-- an integer, in quotes where it is a key
abbrev pub IsIntToken : Bool → ℤ → Tokens → Type 0
IsIntToken key n tokens = (digits : List ℕ) × SpellsInt n digits × (tokens ≡ number key digits ∷ [])

-- a number in quotes where it is a key, or a word in its one pair of quotes
abbrev pub IsDoubleToken : Bool → List ℕ → Tokens → Type 0
IsDoubleToken key bytes tokens = (IsNumber bytes × (tokens ≡ number key bytes ∷ [])) ⊎ (IsWord bytes × (tokens ≡ quoted bytes ∷ []))

-- a string of which it is known what it means
abbrev pub IsStringToken : Hint → List ℕ → Tokens → Type 0
IsStringToken hints.Text bytes tokens = (token : List ℕ) × SpellsText bytes token × (tokens ≡ token ∷ [])
IsStringToken hints.Blob bytes tokens = (token : List ℕ) × SpellsBlob bytes token × (tokens ≡ token ∷ [])
IsStringToken hints.Unknown bytes tokens = ⊥

-- a string of which nothing is known
abbrev pub IsLooseToken : Hint → List ℕ → Tokens → Type 0
IsLooseToken hints.Unknown bytes tokens = (token : List ℕ) × SpellsText bytes token × (tokens ≡ token ∷ [])
IsLooseToken hint bytes tokens = ⊥

-- a comma before all but the first
abbrev pub comma : Bool → Tokens
comma true = []
comma false = mark 44 ∷ []

-- a bracket, a kind, a comma and a size
abbrev pub sequence_tokens : Kind → ℕ → Tokens
sequence_tokens kind size = mark 91 ∷ name_token kind ∷ mark 44 ∷ decimal size ∷ []

abbrev pub map_tokens : Kind → Kind → ℕ → Tokens
map_tokens key value size = mark 91 ∷ name_token key ∷ mark 44 ∷ name_token value ∷ mark 44 ∷ decimal size ∷ mark 44 ∷ mark 123 ∷ []

module _ (declared : Declared) where
  abbrev mutual
    -- a value at a position, as a key or not
    pub Spells : Bool → declared.Position → Tree → Tokens → Type 0
    Spells key at (truth b) tokens = tokens ≡ number key (flag b) ∷ []
    Spells key at (whole_8 n) tokens = IsIntToken key n tokens
    Spells key at (whole_16 n) tokens = IsIntToken key n tokens
    Spells key at (whole_32 n) tokens = IsIntToken key n tokens
    Spells key at (whole_64 n) tokens = IsIntToken key n tokens
    Spells key at (double bytes) tokens = ⊥
    Spells key at (characters bytes) tokens = IsStringToken (declared.hint at) bytes tokens
    Spells key at (loose_number bytes) tokens = IsDoubleToken key bytes tokens
    Spells key at (loose_text bytes) tokens = IsLooseToken (declared.hint at) bytes tokens
    Spells key at (structure ms) tokens = (inner : Tokens) × SpellsMembers true at ms inner × (tokens ≡ mark 123 ∷ (inner ++ mark 125 ∷ []))
    Spells key at mapping_of_none tokens = (k : Kind) × (v : Kind) × IsNamed k × IsNamed v × (tokens ≡ map_tokens k v 0 ++ (mark 125 ∷ mark 93 ∷ []))
    Spells key at (mapping k v ps) tokens =
        (inner : Tokens) × IsNamed k × IsNamed v × SpellsPairs true at k v ps inner × (tokens ≡ map_tokens k v (count_of_pairs ps) ++ (inner ++ (mark 125 ∷ mark 93 ∷ [])))
    Spells key at (collection kind ts) tokens =
        (inner : Tokens) × IsNamed kind × SpellsTrees at kind ts inner × (tokens ≡ sequence_tokens kind (count_of_trees ts) ++ (inner ++ (mark 93 ∷ [])))
    Spells key at (sequence kind ts) tokens =
        (inner : Tokens) × IsNamed kind × SpellsTrees at kind ts inner × (tokens ≡ sequence_tokens kind (count_of_trees ts) ++ (inner ++ (mark 93 ∷ [])))
    Spells key at (unique_id bytes) tokens = ⊥

    -- the fields of a struct: the id in quotes, and an object with the kind's name and the value
    pub SpellsMembers : Bool → declared.Position → Members → Tokens → Type 0
    SpellsMembers first at no_members tokens = tokens ≡ []
    SpellsMembers first at (one_member id t ms) tokens =
        (digits : List ℕ) × (value : Tokens) × (rest : Tokens) × SpellsInt id digits × IsNamed (kind_of t)
        × Spells false (declared.field at id (kind_of t)) t value × SpellsMembers false at ms rest
        × (tokens ≡ comma first ++ (quoted digits ∷ mark 58 ∷ mark 123 ∷ name_token (kind_of t) ∷ mark 58 ∷ (value ++ (mark 125 ∷ rest))))

    -- the elements of a list or a set, each behind a comma
    pub SpellsTrees : declared.Position → Kind → Trees → Tokens → Type 0
    SpellsTrees at kind no_trees tokens = tokens ≡ []
    SpellsTrees at kind (one_tree t ts) tokens =
        (value : Tokens) × (rest : Tokens) × Spells false (declared.element at kind) t value × SpellsTrees at kind ts rest × (tokens ≡ mark 44 ∷ (value ++ rest))

    -- the pairs of a map, with a colon between key and value
    pub SpellsPairs : Bool → declared.Position → Kind → Kind → Pairs → Tokens → Type 0
    SpellsPairs first at key value no_pairs tokens = tokens ≡ []
    SpellsPairs first at key value (one_pair k v ps) tokens =
        (left : Tokens) × (right : Tokens) × (rest : Tokens) × Spells true (declared.key at key) k left × Spells false (declared.value at value) v right
        × SpellsPairs false at key value ps rest × (tokens ≡ comma first ++ (left ++ (mark 58 ∷ (right ++ rest))))

  -- [1,"name",type,number,{fields}]
  abbrev pub SpellsMessage : declared.Position → Message → List ℕ → Type 0
  SpellsMessage body m bytes =
      (name : List ℕ) × (seq : List ℕ) × (inner : Tokens) × SpellsText m.name name × SpellsInt m.seq seq × FitsSigned w32 m.seq
      × AreMembers m.body × SpellsMembers true body m.body inner
      × Laid (mark 91 ∷ mark 49 ∷ mark 44 ∷ name ∷ mark 44 ∷ type_digit m.mtype ∷ mark 44 ∷ seq ∷ mark 44 ∷ mark 123 ∷ (inner ++ (mark 125 ∷ mark 93 ∷ []))) bytes
