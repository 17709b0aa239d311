-- Whole numbers that are varints of folded numbers, as the Compact protocol spells them.
use Rattle.std.specs.Prelude.{◌≡◌, ℕ, ℤ, ◌+◌, List, drop, Option, Ok}
use Rattle.varint_zigzag.specs.Varint.{varint_at, shortest}
use Rattle.varint_zigzag.specs.Zigzag.{unfolded}
use Rattle.thrift_value.specs.declared.kind.Kind.{Kind}
use Rattle.thrift_value.specs.declared.kind.Kind.TheVariants as kinds
use Rattle.thrift_value.specs.Items.{Item, i16_value, i32_value, i64_value}
use Rattle.protocol_traits.specs.declared.fault.Bar.{Bar}
use Rattle.protocol_traits.specs.declared.forms.Opening.{Opening}
use Rattle.protocol_traits.specs.declared.forms.Stand.{Stand}
use Rattle.protocol_traits.specs.declared.nest.Slot.{Slot}
use Rattle.protocol_traits.specs.declared.proto.Hint.{Hint}
use Rattle.protocol_traits.specs.declared.proto.Mark.{Mark}
use Rattle.protocol_traits.specs.Steps.{Step}
use Rattle.protocol_traits.specs.Forms.{Appends, StepsValue, SpellsValue}

-- where a varint of so many bits stands, of at most so many bytes, the value of the number that it folds is read
abbrev pub ReadsVarint : {S : Type 0} → (S → Hint → Step S Item) → (S → List ℕ → ℕ → Opening → List Slot → Type 0) → ℕ → ℕ → Kind → (ℤ → Item) → Type 0
ReadsVarint reads stands_at most width kind value =
    (frame : List ℕ) (at number count : ℕ) (stand : Stand) → varint_at most width (drop at frame) ≡ Ok (number, count)
    → StepsValue reads stands_at frame at stand kind (value (unfolded number)) (at + count)

-- where the cells grew by a number's shortest varint, they spell the value of the number that it folds
abbrev pub SpellsVarint : {T : Type 0} → (Item → Mark → Option Bar) → (T → Item → Mark → List ℕ) → (T → Opening → List Slot → Type 0) → Kind → (ℤ → Item) → Type 0
SpellsVarint bar plain stands_at kind value =
    (old : List ℕ) (to : ℕ) (new : List ℕ) (behind number : ℕ) (stand : Stand) → Appends old to new behind (shortest number)
    → SpellsValue bar plain stands_at old to new behind stand kind (value (unfolded number))

-- a reader reads whole numbers of each size so
pub record ReadsVarints {S : Type 0} (reads : S → Hint → Step S Item) (stands_at : S → List ℕ → ℕ → Opening → List Slot → Type 0) : Type 0 where
  pub i16 : ReadsVarint reads stands_at 5 16 kinds.I16 i16_value
  pub i32 : ReadsVarint reads stands_at 5 32 kinds.I32 i32_value
  pub i64 : ReadsVarint reads stands_at 10 64 kinds.I64 i64_value

-- a writer spells whole numbers of each size so
pub record SpellsVarints {T : Type 0} (bar : Item → Mark → Option Bar) (plain : T → Item → Mark → List ℕ) (stands_at : T → Opening → List Slot → Type 0) : Type 0 where
  pub i16 : SpellsVarint bar plain stands_at kinds.I16 i16_value
  pub i32 : SpellsVarint bar plain stands_at kinds.I32 i32_value
  pub i64 : SpellsVarint bar plain stands_at kinds.I64 i64_value
