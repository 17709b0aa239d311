use Rattle.std.proofs.Common.{◌≡◌, ◌+◌, ◌-◌, ◌*◌, ◌≤◌, ◌<◌, ℕ, pos, Some, List, ◌∷◌, length}
use Rattle.protocol_traits.specs.declared.forms.Opening.{Opening}
use Rattle.protocol_traits.specs.declared.forms.Opening.TheVariants as openings
use Rattle.protocol_traits.specs.declared.nest.Slot.{Slot}
use Rattle.protocol_traits.specs.declared.nest.Slot.TheVariants as slots
use Rattle.protocol_traits.specs.Forms.{Calls}
use Rattle.type_tables.specs.declared.declared.Ty.{Ty}
use Rattle.type_walk.specs.declared.levels.Level.{Level}
use Rattle.type_walk.specs.Positions.{called_for, in_struct, standing}
use Rattle.translate_verdicts.specs.Body.{source_in, target_in}
use Rattle.translate_known.specs.Quick.{IsFlat, Takes, Turns, spot, turned}
use Rattle.translate_known.proofs.Levels.{key_opening}
use Rattle.kept_messages.specs.Kept.{Mirrors}
use Rattle.kept_messages.proofs.body.+body.Given as goal

-- one for each level that may still be opened, and within a level the order of the calls
abbrev rank : ℕ → ℕ → ℕ
rank depth step = 16 * (256 - depth) + step

abbrev pub decreases-keep_elements : goal.decreases-keep_elements
decreases-keep_elements g l = rank l.depth 11

abbrev pub decreases-keep_run : goal.decreases-keep_run
decreases-keep_run g l = rank l.depth 10

abbrev pub decreases-keep_levels : goal.decreases-keep_levels
decreases-keep_levels g l = rank l.depth 9

abbrev pub decreases-keep_pairs : goal.decreases-keep_pairs
decreases-keep_pairs g l = rank l.depth 10

abbrev pub decreases-call_pairs : goal.decreases-call_pairs
decreases-call_pairs g l = rank l.depth 9

abbrev pub decreases-keep_fields : goal.decreases-keep_fields
decreases-keep_fields g l = rank l.depth 10

abbrev pub decreases-walk_fields : goal.decreases-walk_fields
decreases-walk_fields g l = rank l.depth 9

abbrev pub decreases-keep_field : goal.decreases-keep_field
decreases-keep_field g l = rank l.depth 8

abbrev pub decreases-keep_value : goal.decreases-keep_value
decreases-keep_value g l = rank l.depth 8

abbrev pub decreases-keep_level_field : goal.decreases-keep_level_field
decreases-keep_level_field g l = rank l.depth 7

abbrev pub decreases-keep_inner : goal.decreases-keep_inner
decreases-keep_inner g l = rank l.depth 7

abbrev pub decreases-call_level : goal.decreases-call_level
decreases-call_level g l = rank l.depth 6

abbrev pub decreases-keep_list : goal.decreases-keep_list
decreases-keep_list g l = rank l.depth 3

abbrev pub decreases-keep_map : goal.decreases-keep_map
decreases-keep_map g l = rank l.depth 3

abbrev pub decreases-keep_struct : goal.decreases-keep_struct
decreases-keep_struct g l = rank l.depth 3

abbrev pub decreases-walk_fields-fields : goal.decreases-walk_fields-fields
decreases-walk_fields-fields g l = length l.frame - l.at

abbrev pub invariant-walk_fields-fields : goal.invariant-walk_fields-fields
invariant-walk_fields-fields g l =
    let source = source_in g.R.ReadRules in
    let target = target_in g.W.WireWrite in
    record {
      place : (l.fn.from ≤ l.at) × (l.at ≤ length l.frame);
      mirrors : Mirrors l.cells l.at l.frame;
      takes : (ty : Ty) (up : List Slot) (outer : List Level) → g.K.Known.means l.known ty → length up + 1 ≡ l.depth
          → Takes source target g.R.ReadRules.stands_at g.W.WireWrite.stands_at l.frame (spot l.fn.from l.fn.opening (slots.Fields (pos 0) ∷ up) (standing l.schema (in_struct ty ∷ outer)))
          (spot l.at l.opening (slots.Fields l.last ∷ up) (standing l.schema (in_struct ty ∷ outer))) l.fn.cells l.fn.from l.cells l.at;
    }

abbrev pub invariant-keep_levels-elements : goal.invariant-keep_levels-elements
invariant-keep_levels-elements g l =
    let source = source_in g.R.ReadRules in
    let target = target_in g.W.WireWrite in
    record {
      place : (l.fn.from ≤ l.at) × (l.at ≤ length l.frame);
      mirrors : Mirrors l.cells l.at l.frame;
      takes : (level : Level) (opening : Opening) (up : List Slot) (outer : List Level) → IsFlat level → g.K.Known.means l.known (called_for (Some level)) → length up + 1 ≡ l.depth
          → (now : Opening) × Takes source target g.R.ReadRules.stands_at g.W.WireWrite.stands_at l.frame (spot l.fn.from opening (slots.Elements l.kind l.size ∷ up) (standing l.schema (level ∷ outer)))
          (spot l.at now (slots.Elements l.kind (l.size - l.i) ∷ up) (standing l.schema (level ∷ outer))) l.fn.cells l.fn.from l.cells l.at;
    }

abbrev pub invariant-call_pairs-pairs : goal.invariant-call_pairs-pairs
invariant-call_pairs-pairs g l =
    let source = source_in g.R.ReadRules in
    let target = target_in g.W.WireWrite in
    record {
      place : (l.pairs.behind ≤ l.at) × (l.at ≤ length l.frame);
      mirrors : Mirrors l.cells l.at l.frame;
      key : (left : ℕ) (up : List Slot) → 0 < left → Calls l.stand l.pairs.key (key_opening l.stand) (slots.Keys l.pairs.key l.pairs.value left ∷ up);
      takes : (level : Level) (up : List Slot) (outer : List Level) → Turns level → g.K.Known.means l.key (called_for (Some level)) → g.K.Known.means l.value (called_for (Some (turned level))) → length up + 1 ≡ l.depth
          → Takes source target g.R.ReadRules.stands_at g.W.WireWrite.stands_at l.frame (spot l.pairs.behind openings.New (slots.Keys l.pairs.key l.pairs.value l.pairs.size ∷ up) (standing l.schema (level ∷ outer)))
          (spot l.at (key_opening l.stand) (slots.Keys l.pairs.key l.pairs.value (l.pairs.size - l.i) ∷ up) (standing l.schema (level ∷ outer))) l.fn.cells l.pairs.behind l.cells l.at;
    }
