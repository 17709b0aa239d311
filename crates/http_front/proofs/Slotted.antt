-- What holds of each slot, where one is taken away.
use Rattle.std.proofs.Common.{◌≡◌, ℕ, suc, ◌<◌, List, length, take, drop, All, slice_index_or, sym, subst}
use Rattle.std.specs.List.{remove}
use Rattle.std.proofs.lemmas.List.Elements.{All-append, All-take, All-drop}

module _ {X : Type 0} (P : X → Type 0) where
  pub all_remove : (xs : List X) (n : ℕ) → All P xs → All P (remove xs n)
  all_remove xs n all = All-append P (take n xs) (drop (suc n) xs) (All-take P n xs all) (All-drop P (suc n) xs all)

  -- the element that a read gives
  pub all_read : (xs : List X) (n : ℕ) (x : X) → All P xs → n < length xs → x ≡ slice_index_or xs n x → P x
  all_read xs n x all within is = subst P (sym is) (all n x within)
