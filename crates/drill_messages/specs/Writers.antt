-- What is asked of a writer, and what it has written.
use Rattle.std.specs.Prelude.{◌≡◌, ℕ, ℤ, Bool, List, [], ◌∷◌, ◌++◌, Option, None}
use Rattle.std.specs.Str.{IsAscii}
use Rattle.gate_io.specs.Buffer.{Buffer}
use Rattle.thrift_value.specs.declared.kind.Kind.{Kind}
use Rattle.thrift_value.specs.declared.kind.Kind.TheVariants as kinds
use Rattle.thrift_value.specs.Items.{Item, field, stop, bool_value, i32_value, i64_value, text, struct_begin, empty_map, map_begin, list_begin, end}
use Rattle.protocol_traits.specs.declared.fault.Bar.{Bar}
use Rattle.protocol_traits.specs.declared.proto.Mark.{Mark}
use Rattle.drill_messages.specs.Events.{Events, other, as_text, as_bytes, as_flags}
use Rattle.drill_messages.specs.Spellings.{spelled, behind}

-- the writer's protocol can hold all that the messages are made of
pub record TakesAll (name_bar : List ℕ → Option Bar) (bar : Item → Mark → Option Bar) : Type 0 where
  pub name : name_bar (112 ∷ 117 ∷ 116 ∷ []) ≡ None
  pub fields : (id : ℤ) (kind : Kind) → bar (field id kind) other ≡ None
  pub id : (n : ℤ) → bar (i64_value n) other ≡ None
  pub texts : (bytes : List ℕ) → IsAscii bytes → bar (text bytes) as_text ≡ None
  pub raw : (bytes : List ℕ) → bar (text bytes) as_bytes ≡ None
  pub marks : (n : ℕ) → bar (list_begin kinds.I32 n) other ≡ None
  pub mark : (n : ℤ) → bar (i32_value n) other ≡ None
  pub flags : (n : ℕ) → bar (map_begin kinds.Str kinds.Bool n) other ≡ None
  pub no_flags : bar empty_map as_flags ≡ None
  pub flag : (b : Bool) → bar (bool_value b) other ≡ None
  pub items : (n : ℕ) → bar (list_begin kinds.Struct n) other ≡ None
  pub begin : bar struct_begin other ≡ None
  pub finish : bar stop other ≡ None
  pub ends : bar end other ≡ None

-- these bytes were appended
abbrev pub IsAppended : Buffer → Buffer → List ℕ → Type 0
IsAppended old new bytes = new ≡ record old { bytes = old.bytes ++ bytes }

module _ {T : Type 0} (plain : T → Item → Mark → List ℕ) (after : T → Item → Mark → T) where
  -- a writer went from one state to another, and these events were appended
  pub record Writes (from : T) (old : Buffer) (to : T) (new : Buffer) (events : Events) : Type 0 where
    pub state : to ≡ behind plain after from events
    pub out : IsAppended old new (spelled plain after from events)
