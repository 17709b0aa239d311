-- What holds of all that each definition adds holds of all that the files add.
use Rattle.std.proofs.Common.{◌≡◌, refl, sym, subst, ℕ, zero, suc, ◌+◌, List, [], ◌∷◌, ◌++◌, slice_get, Some, option_and_then, arith}
use Rattle.idl_document.specs.Trees.{DefinitionTree}
use Rattle.idl_names.specs.Files.{FileTree}
use Rattle.idl_schema.specs.Numbers.{after, after_all, files_numbers, numbers_in}
use Rattle.idl_schema.specs.Shares.{Share, both, files_shares, none, share, shares}
use Rattle.idl_laws.proofs.Firsts.{First}

module _ {X : Type 0} (P : X → Type 0) where
  abbrev pub Each : List X → Type 0
  Each xs = (i : ℕ) (x : X) → slice_get xs i ≡ Some x → P x

  pub each_none : Each []
  each_none i x e = absurd (cc)

  pub each_more : (x : X) (xs : List X) → P x → Each xs → Each (x ∷ xs)
  each_more x xs p all zero y e =
      let same : x ≡ y = cc in
      subst P same p
  each_more x xs p all (suc i) y e = all i y e

  pub each_both : (xs ys : List X) → Each xs → Each ys → Each (xs ++ ys)
  each_both [] ys all others = others
  each_both (x ∷ xs) ys all others = each_more x (xs ++ ys) (all 0 x refl) (each_both xs ys (λ i y e. all (suc i) y e) others)

-- a kind of things that definitions add
module _ {X : Type 0} (list : Share → List X) (joined : (s t : Share) → list (both s t) ≡ list s ++ list t) (empty : list none ≡ []) (files : List FileTree) (P : X → Type 0) where
  nothing : Each P (list none)
  nothing = subst (Each P) (sym empty) (each_none P)

  of_both : (s t : Share) → Each P (list s) → Each P (list t) → Each P (list (both s t))
  of_both s t a b = subst (Each P) (sym (joined s t)) (each_both P (list s) (list t) a b)

  shares_each : (file : ℕ) (n : First) (ds : List DefinitionTree) →
      ((j : ℕ) (x : DefinitionTree) (m : First) → slice_get ds j ≡ Some x → slice_get (numbers_in n ds) j ≡ Some m → Each P (list (share files file m x))) → Each P (list (shares files file n ds))
  shares_each file n [] all = nothing
  shares_each file n (x ∷ ds) all =
      of_both (share files file n x) (shares files file (after n x) ds) (all 0 x n refl refl)
      (shares_each file (after n x) ds (λ j y m e f. all (suc j) y m e f))

  pub files_each : (file : ℕ) (n : First) (fs : List FileTree) →
      ((k j : ℕ) (x : DefinitionTree) (m : First) → option_and_then (λ tree. slice_get tree.document.definitions j) (slice_get fs k) ≡ Some x →
      option_and_then (λ ns. slice_get ns j) (slice_get (files_numbers n fs) k) ≡ Some m → Each P (list (share files (file + k) m x))) → Each P (list (files_shares files file n fs))
  files_each file n [] all = nothing
  files_each file n (f ∷ fs) all =
      let ds = f.document.definitions in
      let here : file + 0 ≡ file = omega arith in
      of_both (shares files file n ds) (files_shares files (suc file) (after_all n ds) fs)
      (shares_each file n ds (λ j x m e g. subst (λ (p : ℕ). Each P (list (share files p m x))) here (all 0 j x m e g)))
      (files_each (suc file) (after_all n ds) fs (λ k j x m e g. subst (λ (p : ℕ). Each P (list (share files p m x))) (next file k) (all (suc k) j x m e g)))
    where
      next : (file k : ℕ) → file + suc k ≡ suc file + k
      next file k = omega arith
