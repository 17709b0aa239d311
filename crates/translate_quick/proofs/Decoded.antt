-- A text that was decoded behind the cells that are written.
use Rattle.std.proofs.Common.{◌≡◌, ◌≤◌, ℕ, List, ◌++◌, length, take, Option, arith, ap, subst, ◌∙◌}
use Rattle.std.proofs.lemmas.List.{take-append-le, take-take}
use Rattle.thrift_value.specs.Items.{Item, text}
use Rattle.protocol_traits.specs.declared.fault.Bar.{Bar}
use Rattle.protocol_traits.specs.declared.forms.Opening.{Opening}
use Rattle.protocol_traits.specs.declared.nest.Slot.{Slot}
use Rattle.protocol_traits.specs.declared.proto.Mark.{Mark}
use Rattle.protocol_traits.specs.Forms.{Spells, part}

-- the front of what was decoded
part_decoded : (room decoded : List ℕ) (most size : ℕ) → decoded ≡ take most room → size ≤ most → part decoded 0 size ≡ take size room
part_decoded room decoded most size is fits = ap (λ n. take n decoded) (omega arith) ∙ (ap (take size) is ∙ take-take size most room fits)

module _ {T : Type 0} (bar : Item → Mark → Option Bar) (plain : T → Item → Mark → List ℕ) (stands_at : T → Opening → List Slot → Type 0) where
  -- what is written in front of the room stands in all the cells
  pub decoded_spells : (cells old front room decoded : List ℕ) (apart to behind most size : ℕ) (opening : Opening) (nest : List Slot) (mark : Mark) → old ≡ take apart cells → decoded ≡ take most room → size ≤ most → to ≤ apart → behind ≤ length front
      → Spells bar plain stands_at old to front behind opening nest mark (text (part decoded 0 size)) → Spells bar plain stands_at cells to (front ++ room) behind opening nest mark (text (take size room))
  decoded_spells cells old front room decoded apart to behind most size opening nest mark cut is fits order short spells t stood =
      let same : part decoded 0 size ≡ take size room = part_decoded room decoded most size is fits in
      let spell = (subst (λ (bytes : List ℕ). Spells bar plain stands_at old to front behind opening nest mark (text bytes)) same spells) t stood in
      let kept : take to old ≡ take to cells = ap (take to) cut ∙ take-take to apart cells order in
      (spell.0, take-append-le behind front room short ∙ (spell.1 ∙ ap (λ (bytes : List ℕ). bytes ++ plain t (text (take size room)) mark) kept))
