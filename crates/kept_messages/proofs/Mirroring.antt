-- Cells that from a place on are as a frame: what the frame has between two places, they have too.
use Rattle.std.proofs.Common.{◌≡◌, ◌+◌, ◌-◌, ◌≤◌, ℕ, List, Option, Some, None, ◌++◌, take, drop, arith, subst, sym, ap, ◌∙◌, take-add}
use Rattle.std.specs.Prelude.{IfSome}
use Rattle.std.proofs.lemmas.List.{append_cancel_left, drop-drop}
use Rattle.thrift_value.specs.Items.{Item}
use Rattle.protocol_traits.specs.declared.fault.Bar.{Bar}
use Rattle.protocol_traits.specs.declared.proto.Mark.{Mark}
use Rattle.protocol_traits.specs.Forms.{Appends, Spells}
use Rattle.protocol_traits.specs.declared.forms.Opening.{Opening}
use Rattle.protocol_traits.specs.declared.nest.Slot.{Slot}
use Rattle.translate_verdicts.specs.Body.{Source, TargetRules}
use Rattle.translate_known.specs.Quick.{Spot, Takes}
use Rattle.kept_messages.specs.Kept.{Mirrors}

take_between : (xs : List ℕ) (at behind : ℕ) → at ≤ behind → take behind xs ≡ take at xs ++ take (behind - at) (drop at xs)
take_between xs at behind order =
    let e : at + (behind - at) ≡ behind = omega arith in
    subst (λ (n : ℕ). take n xs ≡ take at xs ++ take (behind - at) (drop at xs)) e (take-add at (behind - at) xs)

drop_between : (xs : List ℕ) (at behind : ℕ) → at ≤ behind → drop behind xs ≡ drop (behind - at) (drop at xs)
drop_between xs at behind order =
    let e : at + (behind - at) ≡ behind = omega arith in
    subst (λ (n : ℕ). drop n xs ≡ drop (behind - at) (drop at xs)) e (sym (drop-drop (behind - at) at xs))

-- from a later place on they are so as well
pub mirrors_on : (cells frame : List ℕ) (at behind : ℕ) → at ≤ behind → Mirrors cells at frame → Mirrors cells behind frame
mirrors_on cells frame at behind order mirrors =
    (mirrors.0, drop_between cells at behind order ∙ (ap (drop (behind - at)) mirrors.1 ∙ sym (drop_between frame at behind order)))

pub appends_mirrored : (cells frame text : List ℕ) (at behind : ℕ) → at ≤ behind → Mirrors cells at frame → Appends frame at frame behind text → Appends cells at cells behind text
appends_mirrored cells frame text at behind order mirrors appends =
    let between : take (behind - at) (drop at frame) ≡ text = append_cancel_left (take at frame) _ text (sym (take_between frame at behind order) ∙ appends) in
    take_between cells at behind order ∙ ap (λ (more : List ℕ). take at cells ++ more) (ap (take (behind - at)) mirrors.1 ∙ between)

-- what leads a body on by what stands in the frame leads it on by what stands in the cells
pub takes_mirrored : {S T : Type 0} (source : Source S) (target : TargetRules T) (reader_at : S → List ℕ → ℕ → Opening → List Slot → Type 0) (writer_at : T → Opening → List Slot → Type 0)
    (frame cells : List ℕ) (a b : Spot) (at behind : ℕ) → at ≤ behind → Mirrors cells at frame
    → Takes source target reader_at writer_at frame a b frame at frame behind → Takes source target reader_at writer_at frame a b cells at cells behind
takes_mirrored source target reader_at writer_at frame cells a b at behind order mirrors takes s t hs ht =
    let x = takes s t hs ht in
    (x.0, x.1, x.2, x.3, x.4, appends_mirrored cells frame x.2 at behind order mirrors x.5, x.6)

-- what spells an item in the frame spells it in the cells
pub spells_mirrored : {T : Type 0} (bar : Item → Mark → Option Bar) (plain : T → Item → Mark → List ℕ) (writer_at : T → Opening → List Slot → Type 0)
    (frame cells : List ℕ) (at behind : ℕ) (opening : Opening) (nest : List Slot) (mark : Mark) (item : Item) → at ≤ behind → Mirrors cells at frame
    → Spells bar plain writer_at frame at frame behind opening nest mark item → Spells bar plain writer_at cells at cells behind opening nest mark item
spells_mirrored bar plain writer_at frame cells at behind opening nest mark item order mirrors spells t ht =
    let x = spells t ht in
    (x.0, appends_mirrored cells frame (plain t item mark) at behind order mirrors x.1)

-- what holds of the answer, if there is one, by two clauses
pub if_both : {A : Type 0} (P Q R : A → Type 0) (o : Option A) → ((x : A) → P x → Q x → R x) → IfSome o P → IfSome o Q → IfSome o R
if_both P Q R (Some x) go first second = go x first second
if_both P Q R None go first second = first
