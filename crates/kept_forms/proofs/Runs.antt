-- Values of a kind that stand one behind another, each of as many bytes as the others.
use Rattle.std.proofs.Common.{ℕ, suc, ◌+◌, ◌*◌, ◌<◌, ◌≤◌, List, length, Option, ap, arith, mul-le-mul_right, suc-mul, mul_comm}
use Rattle.thrift_value.specs.declared.kind.Kind.{Kind}
use Rattle.thrift_value.specs.Items.{Item}
use Rattle.protocol_traits.specs.declared.fault.Bar.{Bar}
use Rattle.protocol_traits.specs.declared.forms.Opening.{Opening}
use Rattle.protocol_traits.specs.declared.forms.Stand.TheVariants as stands
use Rattle.protocol_traits.specs.declared.nest.Slot.{Slot}
use Rattle.protocol_traits.specs.declared.proto.Hint.{Hint}
use Rattle.protocol_traits.specs.declared.proto.Mark.{Mark}
use Rattle.protocol_traits.specs.Steps.{Step}
use Rattle.kept_forms.specs.Keeping.{KeepsRun, KeepsValue}

-- one of so many values ends where all of them end, or before
one_within : (at i size width : ℕ) → i < size → at + i * width + width ≤ at + width * size
one_within at i size width before =
    let most : suc i * width ≤ size * width = mul-le-mul_right width before in
    omega (arith, most, suc-mul i width, mul_comm size width)

module _ {S T : Type 0} (reads : S → Hint → Step S Item) (reader_at : S → List ℕ → ℕ → Opening → List Slot → Type 0)
    (bar : Item → Mark → Option Bar) (plain : T → Item → Mark → List ℕ) (writer_at : T → Opening → List Slot → Type 0) where
  -- where a value is kept wherever the frame has all its bytes, so many of them are
  pub run_there : (frame : List ℕ) (at : ℕ) (kind : Kind) (size width : ℕ) → ((begin : ℕ) → begin + width ≤ length frame → KeepsValue reads reader_at bar plain writer_at frame begin stands.Element kind (begin + width))
      → at + width * size ≤ length frame → KeepsRun reads reader_at bar plain writer_at frame at kind size (at + width * size)
  run_there frame at kind size width there within = record {
    width = width;
    place = ap (λ n. at + n) (mul_comm width size);
    each = λ i before. there (at + i * width) (omega (arith, one_within at i size width before, within));
  }
