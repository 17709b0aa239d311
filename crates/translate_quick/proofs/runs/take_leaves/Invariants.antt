use Rattle.std.proofs.Common.{◌≡◌, ◌+◌, ◌-◌, ◌≤◌, ℕ, List, ◌∷◌, length}
use Rattle.protocol_traits.specs.declared.forms.Opening.{Opening}
use Rattle.protocol_traits.specs.declared.nest.Slot.{Slot}
use Rattle.protocol_traits.specs.declared.nest.Slot.TheVariants as slots
use Rattle.type_tables.specs.Declarations.{Declarations}
use Rattle.type_walk.specs.declared.levels.Level.{Level}
use Rattle.type_walk.specs.Positions.{standing}
use Rattle.translate_verdicts.specs.Body.{source_in, target_in}
use Rattle.translate_known.specs.Quick.{Grows, IsFlat, Takes, spot}
use Rattle.translate_quick.proofs.runs.take_leaves.Given as goal

abbrev pub invariant-elements : goal.invariant-elements
invariant-elements g l =
    let source = source_in g.R.ReadRules in
    let target = target_in g.W.WireWrite in
    record {
      place : (l.fn.from ≤ l.at) × (l.at ≤ length l.frame);
      kept : length l.cells ≡ length l.fn.cells;
      grows : Grows l.fn.from l.fn.into l.at l.to;
      takes : (d : Declarations) (level : Level) (opening : Opening) (up : List Slot) (outer : List Level) → IsFlat level → (depth : ℕ) → length up + 1 ≡ depth
          → (now : Opening) × Takes source target g.R.ReadRules.stands_at g.W.WireWrite.stands_at l.frame (spot l.fn.from opening (slots.Elements g.L.Leaf.kind l.size ∷ up) (standing d (level ∷ outer)))
          (spot l.at now (slots.Elements g.L.Leaf.kind (l.size - l.i) ∷ up) (standing d (level ∷ outer))) l.fn.cells l.fn.into l.cells l.to;
    }
