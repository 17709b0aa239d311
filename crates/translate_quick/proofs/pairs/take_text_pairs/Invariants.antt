use Rattle.std.proofs.Common.{◌≡◌, ◌+◌, ◌-◌, ◌≤◌, ◌<◌, ℕ, List, ◌∷◌, length}
use Rattle.thrift_value.specs.declared.kind.Kind.TheVariants as kinds
use Rattle.protocol_traits.specs.declared.forms.Opening.TheVariants as openings
use Rattle.protocol_traits.specs.declared.nest.Slot.{Slot}
use Rattle.protocol_traits.specs.declared.nest.Slot.TheVariants as slots
use Rattle.protocol_traits.specs.Forms.{Calls}
use Rattle.type_tables.specs.Declarations.{Declarations}
use Rattle.type_walk.specs.declared.levels.Level.{Level}
use Rattle.type_walk.specs.Positions.{standing}
use Rattle.translate_verdicts.specs.Body.{source_in, target_in}
use Rattle.translate_known.specs.Quick.{Grows, Takes, Turns, spot}
use Rattle.translate_known.proofs.Levels.{key_opening}
use Rattle.translate_quick.proofs.pairs.take_text_pairs.Given as goal

abbrev pub invariant-pairs : goal.invariant-pairs
invariant-pairs g l =
    let source = source_in g.R.ReadRules in
    let target = target_in g.W.WireWrite in
    record {
      place : (l.fn.pairs.behind ≤ l.at) × (l.at ≤ length l.frame);
      kept : length l.cells ≡ length l.fn.cells;
      grows : Grows l.fn.pairs.behind l.fn.into l.at l.to;
      key : (left : ℕ) (up : List Slot) → 0 < left → Calls l.stand kinds.Str (key_opening l.stand) (slots.Keys l.fn.pairs.key l.fn.pairs.value left ∷ up);
      takes : (d : Declarations) (level : Level) (depth : ℕ) (up : List Slot) (outer : List Level) → Turns level → length up + 1 ≡ depth
          → Takes source target g.R.ReadRules.stands_at g.W.WireWrite.stands_at l.frame (spot l.fn.pairs.behind openings.New (slots.Keys l.fn.pairs.key l.fn.pairs.value l.fn.pairs.size ∷ up) (standing d (level ∷ outer)))
          (spot l.at (key_opening l.stand) (slots.Keys l.fn.pairs.key l.fn.pairs.value (l.fn.pairs.size - l.i) ∷ up) (standing d (level ∷ outer))) l.fn.cells l.fn.into l.cells l.to;
    }
