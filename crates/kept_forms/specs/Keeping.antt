-- One item of a frame that a reader reads, and that a writer spells by the very bytes that stand there.
use Rattle.std.specs.Prelude.{◌≡◌, ◌+◌, ◌*◌, ℕ, ℤ, Bool, ◌<◌, List, Option}
use Rattle.thrift_value.specs.declared.kind.Kind.{Kind}
use Rattle.thrift_value.specs.declared.kind.Kind.TheVariants as kinds
use Rattle.thrift_value.specs.Items.{Item, bool_value, i8_value, i16_value, i32_value, i64_value, double_value, text, uuid_value, struct_begin, map_begin}
use Rattle.protocol_traits.specs.declared.fault.Bar.{Bar}
use Rattle.protocol_traits.specs.declared.forms.Container.{Container}
use Rattle.protocol_traits.specs.declared.forms.Lead.{Lead}
use Rattle.protocol_traits.specs.declared.forms.Lead.TheVariants as leads
use Rattle.protocol_traits.specs.declared.forms.Opening.{Opening}
use Rattle.protocol_traits.specs.declared.forms.Pairs.{Pairs}
use Rattle.protocol_traits.specs.declared.forms.Stand.{Stand}
use Rattle.protocol_traits.specs.declared.forms.Stand.TheVariants as stands
use Rattle.protocol_traits.specs.declared.nest.Slot.{Slot}
use Rattle.protocol_traits.specs.declared.proto.Hint.{Hint}
use Rattle.protocol_traits.specs.declared.proto.Mark.{Mark}
use Rattle.protocol_traits.specs.Steps.{Step}
use Rattle.protocol_traits.specs.Forms.{container_kind, elements_item, lead_item, pairs_item, StepsLead, StepsFlag, StepsValue, StepsInto, StepsEnd, SpellsField, SpellsFlag, SpellsStop, SpellsValue, SpellsElements, SpellsEnd}

-- what a value of a kind is that is no level
abbrev pub LeafOf : Kind → Type 0
LeafOf kinds.Bool = Bool
LeafOf kinds.I8 = ℤ
LeafOf kinds.I16 = ℤ
LeafOf kinds.I32 = ℤ
LeafOf kinds.I64 = ℤ
LeafOf kinds.Double = List ℕ
LeafOf kinds.Str = List ℕ
LeafOf kinds.Uuid = List ℕ
LeafOf kind = ⊥

-- the item of such a value
abbrev pub leaf_item : (kind : Kind) → LeafOf kind → Item
leaf_item kinds.Bool value = bool_value value
leaf_item kinds.I8 value = i8_value value
leaf_item kinds.I16 value = i16_value value
leaf_item kinds.I32 value = i32_value value
leaf_item kinds.I64 value = i64_value value
leaf_item kinds.Double value = double_value value
leaf_item kinds.Str value = text value
leaf_item kinds.Uuid value = uuid_value value
leaf_item kinds.Struct value = absurd value
leaf_item kinds.Map value = absurd value
leaf_item kinds.Set value = absurd value
leaf_item kinds.List value = absurd value

module _ {S T : Type 0} (reads : S → Hint → Step S Item) (reader_at : S → List ℕ → ℕ → Opening → List Slot → Type 0)
    (bar : Item → Mark → Option Bar) (plain : T → Item → Mark → List ℕ) (writer_at : T → Opening → List Slot → Type 0) where
  -- the bytes between two places spell what a lead announces; those of a bool field are told with its value
  abbrev pub SpellsLead : List ℕ → ℕ → Opening → ℤ → Lead → ℤ → ℕ → Type 0
  SpellsLead frame at opening last leads.Bool id behind = Unit {0}
  SpellsLead frame at opening last leads.Bad id behind = Unit {0}
  SpellsLead frame at opening last leads.Stop id behind = (depth : ℕ) → SpellsStop bar plain writer_at frame at frame behind opening depth
  SpellsLead frame at opening last lead id behind = SpellsField bar plain writer_at frame at frame behind opening last (lead_item lead id)

  -- what stands next in a struct is read, and is spelled so
  abbrev pub KeepsLead : List ℕ → ℕ → Opening → ℤ → Lead → ℤ → ℕ → Type 0
  KeepsLead frame at opening last lead id behind =
      StepsLead reads reader_at frame at opening last lead id behind × SpellsLead frame at opening last lead id behind

  -- where the id of a bool field is read to the first of two places, the field is read to the second, and it is spelled so
  abbrev pub KeepsFlag : (T → Item → Mark → T) → List ℕ → ℕ → Opening → ℤ → ℤ → ℕ → ℕ → Type 0
  KeepsFlag next frame at opening last id named behind =
      (value : Bool) × StepsFlag reads reader_at frame at opening named value behind
      × (StepsLead reads reader_at frame at opening last leads.Bool id named → SpellsFlag bar plain writer_at next frame at frame behind opening last id value)

  -- a value that is no level is read where it is called for, and is spelled so
  abbrev pub KeepsValue : List ℕ → ℕ → Stand → Kind → ℕ → Type 0
  KeepsValue frame at stand kind behind =
      (value : LeafOf kind) × StepsValue reads reader_at frame at stand kind (leaf_item kind value) behind
      × SpellsValue bar plain writer_at frame at frame behind stand kind (leaf_item kind value)

  -- So many elements of a list or set stand one behind another, each of as many bytes as the others. Each is read where it is
  -- called for, and is spelled so.
  pub record KeepsRun (frame : List ℕ) (at : ℕ) (kind : Kind) (size behind : ℕ) : Type 0 where
    pub width : ℕ
    pub place : behind ≡ at + size * width
    pub each : (i : ℕ) → i < size → KeepsValue frame (at + i * width) stands.Element kind (at + i * width + width)

  -- the beginning of a struct is read, and is spelled so
  abbrev pub KeepsStruct : List ℕ → ℕ → Stand → ℕ → Type 0
  KeepsStruct frame at stand behind =
      StepsInto reads reader_at frame at stand kinds.Struct struct_begin behind
      × SpellsValue bar plain writer_at frame at frame behind stand kinds.Struct struct_begin

  -- the beginning of a list or set is read, and is spelled so
  abbrev pub KeepsElements : List ℕ → ℕ → Stand → Container → Kind → ℕ → ℕ → Type 0
  KeepsElements frame at stand container kind size behind =
      StepsInto reads reader_at frame at stand (container_kind container) (elements_item container kind size) behind
      × SpellsElements bar plain writer_at frame at frame behind stand container kind size

  -- the beginning of a map is read, and is spelled so where there are pairs
  abbrev pub KeepsPairs : List ℕ → ℕ → Stand → Pairs → Type 0
  KeepsPairs frame at stand pairs =
      StepsInto reads reader_at frame at stand kinds.Map (pairs_item pairs.key pairs.value pairs.size) pairs.behind
      × (0 < pairs.size → SpellsValue bar plain writer_at frame at frame pairs.behind stand kinds.Map (map_begin pairs.key pairs.value pairs.size))

  -- the end of a container is read, and is spelled so
  abbrev pub KeepsEnd : List ℕ → ℕ → Container → ℕ → Type 0
  KeepsEnd frame at container behind = StepsEnd reads reader_at frame at container behind × SpellsEnd bar plain writer_at frame at frame behind container
