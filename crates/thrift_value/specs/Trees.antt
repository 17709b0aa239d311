-- Values and messages as trees: what a spelling means, whichever the protocol.
use Rattle.std.specs.Prelude.{◌≡◌, ⊤, ℕ, ℤ, ◌+◌, ◌≤◌, ◌<◌, ◌^◌, max, Bool, List, [], ◌∷◌, ◌++◌, length, FitsSigned}
use Rattle.std.specs.Int.{w8, w16, w32, w64}
use Rattle.thrift_value.specs.declared.kind.Kind.{Kind}
use Rattle.thrift_value.specs.declared.kind.Kind.TheVariants as kinds
use Rattle.thrift_value.specs.declared.kind.MessageType.{MessageType}
use Rattle.thrift_value.specs.Items.{Item, field, stop, bool_value, i8_value, i16_value, i32_value, i64_value, double_value, text, number_text, unknown_text, struct_begin, empty_map, map_begin, set_begin, list_begin, end, uuid_value}

mutual
  -- a value, by its kind
  pub data Tree : Type 0 where
    truth : Bool → Tree
    whole_8 : ℤ → Tree
    whole_16 : ℤ → Tree
    whole_32 : ℤ → Tree
    whole_64 : ℤ → Tree
    double : List ℕ → Tree
    characters : List ℕ → Tree
    loose_number : List ℕ → Tree
    loose_text : List ℕ → Tree
    structure : Members → Tree
    mapping_of_none : Tree
    mapping : Kind → Kind → Pairs → Tree
    collection : Kind → Trees → Tree
    sequence : Kind → Trees → Tree
    unique_id : List ℕ → Tree

  -- the fields of a struct in order, repeats kept
  pub data Members : Type 0 where
    no_members : Members
    one_member : ℤ → Tree → Members → Members

  -- the ts of a list or a set
  pub data Trees : Type 0 where
    no_trees : Trees
    one_tree : Tree → Trees → Trees

  -- the ps of a map
  pub data Pairs : Type 0 where
    no_pairs : Pairs
    one_pair : Tree → Tree → Pairs → Pairs

-- a message: its name, its type, its sequence number and the fields of its body
pub record Message : Type 0 where
  pub name : List ℕ
  pub mtype : MessageType
  pub seq : ℤ
  pub body : Members

-- loose number text counts as a double, loose text as a string
abbrev pub kind_of : Tree → Kind
kind_of (truth b) = kinds.Bool
kind_of (whole_8 n) = kinds.I8
kind_of (whole_16 n) = kinds.I16
kind_of (whole_32 n) = kinds.I32
kind_of (whole_64 n) = kinds.I64
kind_of (double bytes) = kinds.Double
kind_of (characters bytes) = kinds.Str
kind_of (loose_number bytes) = kinds.Double
kind_of (loose_text bytes) = kinds.Str
kind_of (structure ms) = kinds.Struct
kind_of mapping_of_none = kinds.Map
kind_of (mapping key value ps) = kinds.Map
kind_of (collection kind ts) = kinds.Set
kind_of (sequence kind ts) = kinds.List
kind_of (unique_id bytes) = kinds.Uuid

abbrev pub count_of_trees : Trees → ℕ
count_of_trees no_trees = 0
count_of_trees (one_tree t ts) = count_of_trees ts + 1

abbrev pub count_of_pairs : Pairs → ℕ
count_of_pairs no_pairs = 0
count_of_pairs (one_pair k v ps) = count_of_pairs ps + 1

-- the events of a value, of fields with their stop, and of elements and pairs with their end
abbrev mutual
  pub items_of : Tree → List Item
  items_of (truth b) = bool_value b ∷ []
  items_of (whole_8 n) = i8_value n ∷ []
  items_of (whole_16 n) = i16_value n ∷ []
  items_of (whole_32 n) = i32_value n ∷ []
  items_of (whole_64 n) = i64_value n ∷ []
  items_of (double bytes) = double_value bytes ∷ []
  items_of (characters bytes) = text bytes ∷ []
  items_of (loose_number bytes) = number_text bytes ∷ []
  items_of (loose_text bytes) = unknown_text bytes ∷ []
  items_of (structure ms) = struct_begin ∷ items_of_members ms
  items_of mapping_of_none = empty_map ∷ []
  items_of (mapping key value ps) = map_begin key value (count_of_pairs ps) ∷ items_of_pairs ps
  items_of (collection kind ts) = set_begin kind (count_of_trees ts) ∷ items_of_trees ts
  items_of (sequence kind ts) = list_begin kind (count_of_trees ts) ∷ items_of_trees ts
  items_of (unique_id bytes) = uuid_value bytes ∷ []

  pub items_of_members : Members → List Item
  items_of_members no_members = stop ∷ []
  items_of_members (one_member id t ms) = field id (kind_of t) ∷ (items_of t ++ items_of_members ms)

  pub items_of_trees : Trees → List Item
  items_of_trees no_trees = end ∷ []
  items_of_trees (one_tree t ts) = items_of t ++ items_of_trees ts

  pub items_of_pairs : Pairs → List Item
  items_of_pairs no_pairs = end ∷ []
  items_of_pairs (one_pair k v ps) = items_of k ++ (items_of v ++ items_of_pairs ps)

-- how deep structs and containers lie in one another
abbrev mutual
  pub depth_of : Tree → ℕ
  depth_of (truth b) = 0
  depth_of (whole_8 n) = 0
  depth_of (whole_16 n) = 0
  depth_of (whole_32 n) = 0
  depth_of (whole_64 n) = 0
  depth_of (double bytes) = 0
  depth_of (characters bytes) = 0
  depth_of (loose_number bytes) = 0
  depth_of (loose_text bytes) = 0
  depth_of (structure ms) = depth_of_members ms + 1
  depth_of mapping_of_none = 1
  depth_of (mapping key value ps) = depth_of_pairs ps + 1
  depth_of (collection kind ts) = depth_of_trees ts + 1
  depth_of (sequence kind ts) = depth_of_trees ts + 1
  depth_of (unique_id bytes) = 0

  pub depth_of_members : Members → ℕ
  depth_of_members no_members = 0
  depth_of_members (one_member id t ms) = max (depth_of t) (depth_of_members ms)

  pub depth_of_trees : Trees → ℕ
  depth_of_trees no_trees = 0
  depth_of_trees (one_tree t ts) = max (depth_of t) (depth_of_trees ts)

  pub depth_of_pairs : Pairs → ℕ
  depth_of_pairs no_pairs = 0
  depth_of_pairs (one_pair k v ps) = max (depth_of k) (max (depth_of v) (depth_of_pairs ps))

-- the parts of a value are those of their kinds: numbers in range, elements and pairs of the kinds that are named,
-- no more of them than a size can tell
abbrev mutual
  pub IsValue : Tree → Type 0
  IsValue (truth b) = ⊤
  IsValue (whole_8 n) = FitsSigned w8 n
  IsValue (whole_16 n) = FitsSigned w16 n
  IsValue (whole_32 n) = FitsSigned w32 n
  IsValue (whole_64 n) = FitsSigned w64 n
  IsValue (double bytes) = length bytes ≡ 8
  IsValue (characters bytes) = length bytes < 2 ^ 31
  IsValue (loose_number bytes) = ⊤
  IsValue (loose_text bytes) = length bytes < 2 ^ 31
  IsValue (structure ms) = AreMembers ms
  IsValue mapping_of_none = ⊤
  IsValue (mapping key value ps) = (1 ≤ count_of_pairs ps) × (count_of_pairs ps < 2 ^ 31) × ArePairs key value ps
  IsValue (collection kind ts) = (count_of_trees ts < 2 ^ 31) × AreAll kind ts
  IsValue (sequence kind ts) = (count_of_trees ts < 2 ^ 31) × AreAll kind ts
  IsValue (unique_id bytes) = length bytes ≡ 16

  pub AreMembers : Members → Type 0
  AreMembers no_members = ⊤
  AreMembers (one_member id t ms) = FitsSigned w16 id × IsValue t × AreMembers ms

  pub AreAll : Kind → Trees → Type 0
  AreAll kind no_trees = ⊤
  AreAll kind (one_tree t ts) = (kind_of t ≡ kind) × IsValue t × AreAll kind ts

  pub ArePairs : Kind → Kind → Pairs → Type 0
  ArePairs key value no_pairs = ⊤
  ArePairs key value (one_pair k v ps) = (kind_of k ≡ key) × (kind_of v ≡ value) × IsValue k × IsValue v × ArePairs key value ps
