-- Which item a front of a frame calls for: some message begins with the front and has the item behind it.
use Rattle.std.specs.Prelude.{◌≡◌, ◌⊎◌, ℕ, ◌+◌, List, [], ◌∷◌, ◌++◌, length, take}
use Rattle.thrift_value.specs.Items.{Item, field, stop, bool_value, i8_value, i16_value, i32_value, i64_value, double_value, text, struct_begin, empty_map, map_begin, set_begin, list_begin, uuid_value}
use Rattle.thrift_value.specs.Trees.{Message, items_of_members}
use Rattle.protocol_traits.specs.declared.fault.Reason.{Reason}
use Rattle.protocol_traits.specs.declared.fault.Reason.TheVariants as reasons
use Rattle.protocol_traits.specs.Follow.{depth_after}
use Rattle.binary_protocol.specs.Grammar.{SpellsStrictHeader, SpellsOldHeader, BinarySpells}

-- The number of bytes that spell an item. A struct has none of its own, and nor has the end of a list, a set or a map.
abbrev pub width : Item → ℕ
width (field id kind) = 3
width stop = 1
width (bool_value b) = 1
width (i8_value n) = 1
width (i16_value n) = 2
width (i32_value n) = 4
width (i64_value n) = 8
width (double_value eight) = 8
width (text bytes) = length bytes + 4
width (uuid_value sixteen) = 16
width empty_map = 6
width (map_begin key value size) = 6
width (set_begin kind size) = 5
width (list_begin kind size) = 5
width item = 0

abbrev pub width_of_all : List Item → ℕ
width_of_all [] = 0
width_of_all (item ∷ items) = width item + width_of_all items

-- how many levels are open behind these items
abbrev pub depth_behind : List Item → ℕ → ℕ
depth_behind [] depth = depth
depth_behind (item ∷ items) depth = depth_behind items (depth_after item depth)

-- what a fault of this reason stands in lies so many bytes into the item
abbrev pub IsPart : Reason → ℕ → Reason → ℕ → Type 0
IsPart part place reason at = (reason ≡ part) × (at ≡ place)

-- a struct, map, set or list that 256 levels lie around
abbrev pub IsTooDeep : ℕ → Reason → ℕ → Type 0
IsTooDeep depth reason at = IsPart reasons.TooDeep 0 reason at × (depth ≡ 256)

-- the kind of a list's or set's elements, and their number
abbrev pub HasListPart : ℕ → Reason → ℕ → Type 0
HasListPart depth reason at = IsPart reasons.BadKind 0 reason at ⊎ IsPart reasons.BadSize 1 reason at ⊎ IsTooDeep depth reason at

-- the kinds of a map's keys and values, and the number of its pairs
abbrev pub HasMapPart : ℕ → Reason → ℕ → Type 0
HasMapPart depth reason at = IsPart reasons.BadKind 0 reason at ⊎ IsPart reasons.BadKind 1 reason at ⊎ IsPart reasons.BadSize 2 reason at ⊎ IsTooDeep depth reason at

-- Inside so many levels, the item has at this place of its spelling what a fault of this reason stands in.
abbrev pub HasPart : ℕ → Item → Reason → ℕ → Type 0
HasPart depth (field id kind) reason at = IsPart reasons.BadKind 0 reason at
HasPart depth stop reason at = IsPart reasons.BadKind 0 reason at
HasPart depth (bool_value b) reason at = IsPart reasons.BadBool 0 reason at
HasPart depth (text bytes) reason at = IsPart reasons.BadSize 0 reason at
HasPart depth struct_begin reason at = IsTooDeep depth reason at
HasPart depth empty_map reason at = HasMapPart depth reason at
HasPart depth (map_begin key value size) reason at = HasMapPart depth reason at
HasPart depth (set_begin kind size) reason at = HasListPart depth reason at
HasPart depth (list_begin kind size) reason at = HasListPart depth reason at
HasPart depth item reason at = ⊥

-- the version, the type and the length of the name
abbrev pub HasStrictPart : Reason → ℕ → Type 0
HasStrictPart reason at = IsPart reasons.BadVersion 0 reason at ⊎ IsPart reasons.BadType 3 reason at ⊎ IsPart reasons.BadSize 4 reason at

-- The type behind the name. The length of the name is at fault in no frame, since a first byte of 80 hex or more begins a version.
abbrev pub HasOldPart : Message → Reason → ℕ → Type 0
HasOldPart m reason at = IsPart reasons.BadType (length m.name + 4) reason at

-- the message, spelled by these bytes, has what a fault of this reason stands in at this place of its body
pub record HasItem (m : Message) (bytes : List ℕ) (reason : Reason) (place : ℕ) : Type 0 where
  pub header : List ℕ
  pub body : List ℕ
  pub before : List Item
  pub item : Item
  pub behind : List Item
  pub at : ℕ
  pub head : SpellsStrictHeader m header ⊎ SpellsOldHeader m header
  pub laid : bytes ≡ header ++ body
  pub items : items_of_members m.body ≡ before ++ item ∷ behind
  pub is : place ≡ length header + (width_of_all before + at)
  pub part : HasPart (depth_behind before 1) item reason at

-- or at this place of its header
abbrev pub HasAt : Message → List ℕ → Reason → ℕ → Type 0
HasAt m bytes reason place =
    ((header : List ℕ) × (body : List ℕ) × (bytes ≡ header ++ body) × SpellsStrictHeader m header × HasStrictPart reason place)
    ⊎ ((header : List ℕ) × (body : List ℕ) × (bytes ≡ header ++ body) × SpellsOldHeader m header × HasOldPart m reason place)
    ⊎ HasItem m bytes reason place

-- what a fault of this reason stands in is called for at this place
abbrev pub IsCalled : Reason → List ℕ → ℕ → Type 0
IsCalled reason bytes place = (more : List ℕ) × (m : Message) × BinarySpells m (take place bytes ++ more) × HasAt m (take place bytes ++ more) reason place
