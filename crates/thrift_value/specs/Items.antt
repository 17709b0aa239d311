-- Events as values, without where their text lies in memory.
use Rattle.std.specs.Prelude.{ℕ, ℤ, Bool, List}
use Rattle.thrift_value.specs.declared.kind.Kind.{Kind}
use Rattle.thrift_value.specs.declared.event.Event.{Event}
use Rattle.thrift_value.specs.declared.event.Event.TheVariants as events

-- one piece of a body
pub data Item : Type 0 where
  field : ℤ → Kind → Item
  stop : Item
  bool_value : Bool → Item
  i8_value : ℤ → Item
  i16_value : ℤ → Item
  i32_value : ℤ → Item
  i64_value : ℤ → Item
  double_value : List ℕ → Item
  text : List ℕ → Item
  number_text : List ℕ → Item
  unknown_text : List ℕ → Item
  struct_begin : Item
  empty_map : Item
  map_begin : Kind → Kind → ℕ → Item
  set_begin : Kind → ℕ → Item
  list_begin : Kind → ℕ → Item
  end : Item
  uuid_value : List ℕ → Item

-- the event as a value
abbrev pub item_of : Event → Item
item_of (events.Field id kind) = field id kind
item_of events.Stop = stop
item_of (events.Bool b) = bool_value b
item_of (events.I8 n) = i8_value n
item_of (events.I16 n) = i16_value n
item_of (events.I32 n) = i32_value n
item_of (events.I64 n) = i64_value n
item_of (events.Double bytes) = double_value bytes
item_of (events.Str bytes) = text bytes.now
item_of (events.NumberText bytes) = number_text bytes.now
item_of (events.UnknownText bytes) = unknown_text bytes.now
item_of events.StructBegin = struct_begin
item_of events.EmptyMap = empty_map
item_of (events.MapBegin key value size) = map_begin key value size
item_of (events.SetBegin kind size) = set_begin kind size
item_of (events.ListBegin kind size) = list_begin kind size
item_of events.End = end
item_of (events.Uuid bytes) = uuid_value bytes
