use Rattle.std.proofs.Common.{◌≡◌, ◌+◌, ◌-◌, ◌*◌, ◌≤◌, ◌<◌, ℕ, pos, Some, List, ◌∷◌, length}
use Rattle.protocol_traits.specs.declared.forms.Opening.{Opening}
use Rattle.protocol_traits.specs.declared.forms.Opening.TheVariants as openings
use Rattle.protocol_traits.specs.declared.nest.Slot.{Slot}
use Rattle.protocol_traits.specs.declared.nest.Slot.TheVariants as slots
use Rattle.protocol_traits.specs.Forms.{Calls}
use Rattle.type_tables.specs.declared.declared.Ty.{Ty}
use Rattle.type_walk.specs.declared.levels.Level.{Level}
use Rattle.type_walk.specs.Positions.{called_for, in_struct, standing}
use Rattle.translate_verdicts.specs.Body.{source_in, target_in}
use Rattle.translate_known.specs.Quick.{Grows, IsFlat, Takes, Turns, spot, turned}
use Rattle.translate_known.proofs.Levels.{key_opening}
use Rattle.translate_quick.proofs.quick.+body.Given as goal

-- one for each level that may still be opened, and within a level the order of the calls
abbrev rank : ℕ → ℕ → ℕ
rank depth step = 16 * (256 - depth) + step

abbrev pub decreases-take_elements : goal.decreases-take_elements
decreases-take_elements g l = rank l.depth 12

abbrev pub decreases-take_run : goal.decreases-take_run
decreases-take_run g l = rank l.depth 11

abbrev pub decreases-take_levels : goal.decreases-take_levels
decreases-take_levels g l = rank l.depth 10

abbrev pub decreases-take_pairs : goal.decreases-take_pairs
decreases-take_pairs g l = rank l.depth 9

abbrev pub decreases-take_fields : goal.decreases-take_fields
decreases-take_fields g l = rank l.depth 9

abbrev pub decreases-take_struct_field : goal.decreases-take_struct_field
decreases-take_struct_field g l = rank l.depth 7

abbrev pub decreases-take_map_field : goal.decreases-take_map_field
decreases-take_map_field g l = rank l.depth 7

abbrev pub decreases-take_list_field : goal.decreases-take_list_field
decreases-take_list_field g l = rank l.depth 7

abbrev pub decreases-take_value : goal.decreases-take_value
decreases-take_value g l = rank l.depth 8

abbrev pub decreases-take_inner : goal.decreases-take_inner
decreases-take_inner g l = rank l.depth 7

abbrev pub decreases-call_level : goal.decreases-call_level
decreases-call_level g l = rank l.depth 6

abbrev pub decreases-take_level : goal.decreases-take_level
decreases-take_level g l = rank l.depth 5

abbrev pub decreases-take_list : goal.decreases-take_list
decreases-take_list g l = rank l.depth 3

abbrev pub decreases-take_other_list : goal.decreases-take_other_list
decreases-take_other_list g l = rank l.depth 2

abbrev pub decreases-take_map : goal.decreases-take_map
decreases-take_map g l = rank l.depth 3

abbrev pub decreases-take_struct : goal.decreases-take_struct
decreases-take_struct g l = rank l.depth 3

abbrev pub decreases-take_fields-fields : goal.decreases-take_fields-fields
decreases-take_fields-fields g l = length l.frame - l.at

abbrev pub invariant-take_fields-fields : goal.invariant-take_fields-fields
invariant-take_fields-fields g l =
    let source = source_in g.R.ReadRules in
    let target = target_in g.W.WireWrite in
    record {
      place : (l.fn.from ≤ l.at) × (l.at ≤ length l.frame);
      kept : length l.cells ≡ length l.fn.cells;
      grows : Grows l.fn.from l.fn.into l.at l.to;
      takes : (ty : Ty) (up : List Slot) (outer : List Level) → g.K.Known.means l.known ty → length up + 1 ≡ l.depth
          → Takes source target g.R.ReadRules.stands_at g.W.WireWrite.stands_at l.frame (spot l.fn.from l.fn.opening (slots.Fields (pos 0) ∷ up) (standing l.schema (in_struct ty ∷ outer)))
          (spot l.at l.opening (slots.Fields l.last ∷ up) (standing l.schema (in_struct ty ∷ outer))) l.fn.cells l.fn.into l.cells l.to;
    }

abbrev pub invariant-take_levels-elements : goal.invariant-take_levels-elements
invariant-take_levels-elements g l =
    let source = source_in g.R.ReadRules in
    let target = target_in g.W.WireWrite in
    record {
      place : (l.fn.from ≤ l.at) × (l.at ≤ length l.frame);
      kept : length l.cells ≡ length l.fn.cells;
      grows : Grows l.fn.from l.fn.into l.at l.to;
      takes : (level : Level) (opening : Opening) (up : List Slot) (outer : List Level) → IsFlat level → g.K.Known.means l.known (called_for (Some level)) → length up + 1 ≡ l.depth
          → (now : Opening) × Takes source target g.R.ReadRules.stands_at g.W.WireWrite.stands_at l.frame (spot l.fn.from opening (slots.Elements l.kind l.size ∷ up) (standing l.schema (level ∷ outer)))
          (spot l.at now (slots.Elements l.kind (l.size - l.i) ∷ up) (standing l.schema (level ∷ outer))) l.fn.cells l.fn.into l.cells l.to;
    }

abbrev pub invariant-take_pairs-pairs : goal.invariant-take_pairs-pairs
invariant-take_pairs-pairs g l =
    let source = source_in g.R.ReadRules in
    let target = target_in g.W.WireWrite in
    record {
      place : (l.pairs.behind ≤ l.at) × (l.at ≤ length l.frame);
      kept : length l.cells ≡ length l.fn.cells;
      grows : Grows l.pairs.behind l.fn.into l.at l.to;
      key : (left : ℕ) (up : List Slot) → 0 < left → Calls l.stand l.pairs.key (key_opening l.stand) (slots.Keys l.pairs.key l.pairs.value left ∷ up);
      takes : (level : Level) (up : List Slot) (outer : List Level) → Turns level → g.K.Known.means l.key (called_for (Some level)) → g.K.Known.means l.value (called_for (Some (turned level))) → length up + 1 ≡ l.depth
          → Takes source target g.R.ReadRules.stands_at g.W.WireWrite.stands_at l.frame (spot l.pairs.behind openings.New (slots.Keys l.pairs.key l.pairs.value l.pairs.size ∷ up) (standing l.schema (level ∷ outer)))
          (spot l.at (key_opening l.stand) (slots.Keys l.pairs.key l.pairs.value (l.pairs.size - l.i) ∷ up) (standing l.schema (level ∷ outer))) l.fn.cells l.fn.into l.cells l.to;
    }
