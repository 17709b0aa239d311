-- The first item of a body that is barred.
use Rattle.std.proofs.Common.{◌≡◌, List, [], ◌∷◌, ◌++◌, Option, None, Some, refl, ap, ◌∙◌}
use Rattle.thrift_value.specs.Items.{Item}
use Rattle.protocol_traits.specs.declared.fault.Bar.{Bar}
use Rattle.protocol_traits.specs.declared.proto.Mark.{Mark}
use Rattle.type_walk.specs.Positions.{Position, mark_of, after}
use Rattle.translate_core.specs.Answers.{TakesAll, marked}
use Rattle.verdict_laws.specs.Following.{behind}

-- all items are taken, or one is the first that is not
pub data FirstBarred (bar : Item → Mark → Option Bar) (p : Position) (items : List Item) : Type 0 where
  AllTaken : TakesAll bar (marked p items) → FirstBarred bar p items
  StopsAt : (before rest : List Item) (item : Item) (b : Bar) → items ≡ before ++ item ∷ rest → TakesAll bar (marked p before) → bar item (mark_of (behind p before) item) ≡ Some b → FirstBarred bar p items

module _ (bar : Item → Mark → Option Bar) where
  pub first_barred : (items : List Item) (p : Position) → FirstBarred bar p items
  first_barred [] p = AllTaken tt
  first_barred (item ∷ items) p = by_bar (bar item (mark_of p item)) refl (first_barred items (after p item))
    where
      further : bar item (mark_of p item) ≡ None → FirstBarred bar (after p item) items → FirstBarred bar p (item ∷ items)
      further e (AllTaken t) = AllTaken (e, t)
      further e (StopsAt before rest x b laid taken is) = StopsAt (item ∷ before) rest x b (ap (λ l. item ∷ l) laid) (e, taken) is

      by_bar : (found : Option Bar) → bar item (mark_of p item) ≡ found → FirstBarred bar (after p item) items → FirstBarred bar p (item ∷ items)
      by_bar (Some b) e others = StopsAt [] items item b refl tt e
      by_bar None e others = further e others

pub takes_as : (bar other : Item → Mark → Option Bar) → ((item : Item) (mark : Mark) → other item mark ≡ bar item mark) → (items : List Item) (p : Position) → TakesAll bar (marked p items) → TakesAll other (marked p items)
takes_as bar other same [] p t = tt
takes_as bar other same (item ∷ items) p t = (same item (mark_of p item) ∙ t.0, takes_as bar other same items (after p item) t.1)
