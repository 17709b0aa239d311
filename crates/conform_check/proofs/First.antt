-- Only the first breach counts.
use Rattle.std.proofs.Common.{◌≡◌, List, Option, Some, None, refl, ap, sym}
use Rattle.thrift_value.specs.Items.{Item}
use Rattle.type_walk.specs.Positions.{Position}
use Rattle.conform_check.specs.declared.step.Step.{Step}
use Rattle.conform_check.specs.declared.breach.Breach.{Breach}
use Rattle.conform_check.specs.Inside.{Inside}
use Rattle.conform_check.specs.Breaches.{found_in}
use Rattle.conform_check.specs.Checking.{first_broken, kept_broken, placed}

-- behind a breach it doesn't matter what is open
pub first_same : (found : Option Breach) (path : List Step) (p : Position) (a b : List Inside) (item : Item) → (found ≡ None → a ≡ b)
    → first_broken (kept_broken found path) (placed b (found_in p b item)) ≡ first_broken (kept_broken found path) (placed a (found_in p a item))
first_same (Some breach) path p a b item same = refl
first_same None path p a b item same = ap (λ x. first_broken None (placed x (found_in p x item))) (sym (same refl))
