-- How a body is spelled item by item, up to any place, and which levels are open behind the items ("Compact protocol encoding", Apache
-- Thrift: "Struct", "List and Set", "Map").
use Rattle.std.specs.Prelude.{◌≡◌, ◌⊎◌, ℕ, ℤ, ◌≤◌, Bool, List, [], ◌∷◌, ◌++◌}
use Rattle.thrift_value.specs.declared.kind.Kind.{Kind}
use Rattle.thrift_value.specs.declared.kind.Kind.TheVariants as kinds
use Rattle.thrift_value.specs.Items.{Item, field, stop, bool_value, struct_begin, empty_map, map_begin, set_begin, list_begin, end}
use Rattle.thrift_value.specs.Trees.{Tree, kind_of, items_of, depth_of}
use Rattle.protocol_traits.specs.declared.nest.Slot.{Slot}
use Rattle.protocol_traits.specs.declared.nest.Slot.TheVariants as slots
use Rattle.protocol_traits.specs.Follow.{after}
use Rattle.compact_protocol.specs.Grammar.{IsKind, IsSize, IsFieldHeader, IsElementsHeader, IsPairsHeader, SpellsValue}

-- The first item of a struct, map, set or list: a struct has no bytes of its own, the others have a header.
abbrev pub Opens : Kind → Item → List ℕ → Type 0
Opens kinds.Struct item bytes = (item ≡ struct_begin) × (bytes ≡ [])
Opens kinds.Set item bytes = (kind : Kind) × (size : ℕ) × (item ≡ set_begin kind size) × IsElementsHeader kind size bytes
Opens kinds.List item bytes = (kind : Kind) × (size : ℕ) × (item ≡ list_begin kind size) × IsElementsHeader kind size bytes
Opens kinds.Map item bytes =
    ((item ≡ empty_map) × IsSize 0 bytes)
    ⊎ ((key : Kind) × (value : Kind) × (size : ℕ) × (1 ≤ size) × (item ≡ map_begin key value size) × IsPairsHeader key value size bytes)
Opens kind item bytes = ⊥

-- The first item of a value of this kind: the whole of a value that holds no others, or the first of one that does.
abbrev pub Begins : Kind → Item → List ℕ → Type 0
Begins kind item bytes =
    ((t : Tree) × (kind_of t ≡ kind) × (depth_of t ≡ 0) × (items_of t ≡ item ∷ []) × SpellsValue t bytes)
    ⊎ Opens kind item bytes

-- How the item is spelled that stands where this level goes on. The header of a bool field has told its value. Where no element or pair
-- is left, the end has no bytes.
abbrev pub SpellsItem : Slot → Item → List ℕ → Type 0
SpellsItem (slots.Fields last) item bytes =
    ((item ≡ stop) × (bytes ≡ 0 ∷ []))
    ⊎ ((id : ℤ) × (kind : Kind) × (code : ℕ) × (item ≡ field id kind) × IsKind kind code × IsFieldHeader last id code bytes)
SpellsItem (slots.Value kind id) item bytes = ((kind ≡ kinds.Bool) × (b : Bool) × (item ≡ bool_value b) × (bytes ≡ [])) ⊎ (((kind ≡ kinds.Bool) → ⊥) × Begins kind item bytes)
SpellsItem (slots.Elements kind left) item bytes = ((left ≡ 0) × (item ≡ end) × (bytes ≡ [])) ⊎ ((1 ≤ left) × Begins kind item bytes)
SpellsItem (slots.Keys key value left) item bytes = ((left ≡ 0) × (item ≡ end) × (bytes ≡ [])) ⊎ ((1 ≤ left) × Begins key item bytes)
SpellsItem (slots.Values key value left) item bytes = Begins value item bytes

-- the item that the innermost of these levels goes on with
abbrev pub SpellsNext : List Slot → Item → List ℕ → Type 0
SpellsNext [] item bytes = ⊥
SpellsNext (slot ∷ up) item bytes = SpellsItem slot item bytes

-- From the first levels on, these items, one behind another, are spelled by the bytes, and leave the last levels open.
abbrev pub Leads : List Slot → List Item → List ℕ → List Slot → Type 0
Leads first [] bytes last = (bytes ≡ []) × (first ≡ last)
Leads first (item ∷ items) bytes last = (own : List ℕ) × (rest : List ℕ) × SpellsNext first item own × Leads (after item first) items rest last × (bytes ≡ own ++ rest)
