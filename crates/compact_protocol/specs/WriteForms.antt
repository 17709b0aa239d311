-- The quick forms of the Compact protocol's writer.
use Rattle.std.proofs.Common.{◌≡◌, ℕ, pos, negsuc, ◌/◌, ◌%◌, ◌<◌, Bool, true, false, cond, List, [], ◌∷◌, ◌++◌, length, take, refl, sym, ap, ◌∙◌, arith}
use Rattle.std.specs.Prelude.{◌==◌}
use Rattle.std.proofs.lemmas.Bool.Decides.{nat_tests}
use Rattle.varint_zigzag.specs.Varint.{shortest}
use Rattle.varint_zigzag.specs.Zigzag.{folded, unfolded}
use Rattle.thrift_value.specs.Items.{Item}
use Rattle.protocol_traits.specs.declared.forms.Opening.{Opening}
use Rattle.protocol_traits.specs.declared.forms.Opening.TheVariants as openings
use Rattle.protocol_traits.specs.declared.nest.Slot.{Slot}
use Rattle.protocol_traits.specs.declared.nest.Slot.TheVariants as slots
use Rattle.protocol_traits.specs.declared.proto.Mark.{Mark}
use Rattle.protocol_traits.specs.Follow.{after}
use Rattle.protocol_traits.specs.Forms.{opening_after}
use Rattle.compact_protocol.specs.Varints.{SpellsVarints}
use Rattle.compact_protocol.specs.Plain.{Writer, bar, begun, follows, spelling}

-- the writer stands in these levels
abbrev pub stands_at : Writer → Opening → List Slot → Type 0
stands_at w opening nest = w.nest ≡ nest

pub starts_at : stands_at begun openings.Body (slots.Fields (pos 0) ∷ [])
starts_at = refl

pub goes_on : (w : Writer) (opening : Opening) (nest : List Slot) (item : Item) (mark : Mark) → 0 < length nest → stands_at w opening nest → stands_at (follows w item) (opening_after item) (after item nest)
goes_on w opening nest item mark some there = ap (after item) there

folded_again : (number : ℕ) → folded (unfolded number) ≡ number
folded_again number = by_half (number % 2 == 0) refl
  where
    by_half : (even : Bool) → (number % 2 == 0) ≡ even → folded (cond even (pos (number / 2)) (negsuc (number / 2))) ≡ number
    by_half true e = grind (arith, nat_tests, e)
    by_half false e = grind (arith, nat_tests, e)

-- the shortest bytes of a number stand where the number that it folds is spelled
spelled_again : (old new : List ℕ) (to behind number : ℕ) → take behind new ≡ take to old ++ shortest number → take behind new ≡ take to old ++ shortest (folded (unfolded number))
spelled_again old new to behind number grown = grown ∙ ap (λ n. take to old ++ shortest n) (sym (folded_again number))

pub spells_varints : SpellsVarints (λ item mark. bar item) (λ w item mark. spelling w item) stands_at
unfolding spelling
spells_varints = record {
  i16 = λ old to new behind number stand grown opening nest mark calls w there. (refl, spelled_again old new to behind number grown);
  i32 = λ old to new behind number stand grown opening nest mark calls w there. (refl, spelled_again old new to behind number grown);
  i64 = λ old to new behind number stand grown opening nest mark calls w there. (refl, spelled_again old new to behind number grown);
}
