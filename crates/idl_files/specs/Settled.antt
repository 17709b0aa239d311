-- Laws of names: what is settled has no `.`, and no segment that a `..` behind it takes away.
use Rattle.std.specs.Prelude.{◌≡◌, ℕ, suc, ◌-◌, List, [], ◌∷◌, ◌++◌, Bool, true, false, ◌&&◌, cond, length, take, refl, ⊤}
use Rattle.std.specs.List.{fold}
use Rattle.std.proofs.Common.{ap, ◌∙◌, sym, subst, arith}
use Rattle.idl_files.specs.Names.{is_here, is_up, is_plain, ends_plain, kept_with, settled}

abbrev pub IsSettled : List (List ℕ) → Type 0
IsSettled [] = ⊤
IsSettled (s ∷ []) = is_here s ≡ false
IsSettled (s ∷ t ∷ rest) = (is_here s ≡ false) × ((is_plain s && is_up t) ≡ false) × IsSettled (t ∷ rest)

-- all but the last
abbrev front : List (List ℕ) → List (List ℕ)
front [] = []
front (s ∷ []) = []
front (s ∷ t ∷ rest) = s ∷ front (t ∷ rest)

front_is : (xs : List (List ℕ)) → take (length xs - 1) xs ≡ front xs
front_is [] = refl
front_is (s ∷ []) = refl
front_is (s ∷ t ∷ rest) =
    let n : suc (suc (length rest)) - 1 ≡ suc (suc (length rest) - 1) = omega arith in
    ap (λ (k : ℕ). take k (s ∷ t ∷ rest)) n ∙ ap (λ (xs : List (List ℕ)). s ∷ xs) (front_is (t ∷ rest))

settled_front : (xs : List (List ℕ)) → IsSettled xs → IsSettled (front xs)
settled_front [] h = tt
settled_front (s ∷ []) h = tt
settled_front (s ∷ t ∷ []) h = h.0
settled_front (s ∷ t ∷ u ∷ rest) h = (h.0, h.1, settled_front (t ∷ u ∷ rest) h.2)

turned : (a b : Bool) → (a && b) ≡ false → (b && a) ≡ false
turned true true h = h
turned true false h = refl
turned false true h = refl
turned false false h = refl

settled_push : (xs : List (List ℕ)) (g : List ℕ) → IsSettled xs → is_here g ≡ false → (is_up g && ends_plain xs) ≡ false → IsSettled (xs ++ g ∷ [])
settled_push [] g h here up = here
settled_push (s ∷ []) g h here up = (h, turned (is_up g) (is_plain s) up, here)
settled_push (s ∷ t ∷ rest) g h here up = (h.0, h.1, settled_push (t ∷ rest) g h.2 here up)

settled_with : (kept : List (List ℕ)) (g : List ℕ) → IsSettled kept → IsSettled (kept_with kept g)
settled_with kept g h = by (is_here g) refl
  where
    by_up : (u : Bool) → (is_up g && ends_plain kept) ≡ u → is_here g ≡ false → IsSettled (cond u (take (length kept - 1) kept) (kept ++ g ∷ []))
    by_up true e here = subst IsSettled (sym (front_is kept)) (settled_front kept h)
    by_up false e here = settled_push kept g h here e

    by : (t : Bool) → is_here g ≡ t → IsSettled (cond t kept (cond (is_up g && ends_plain kept) (take (length kept - 1) kept) (kept ++ g ∷ [])))
    by true e = h
    by false e = by_up (is_up g && ends_plain kept) refl e

settled_from : (kept segments : List (List ℕ)) → IsSettled kept → IsSettled (fold kept_with kept segments)
settled_from kept [] h = h
settled_from kept (s ∷ ss) h = settled_from (kept_with kept s) ss (settled_with kept s h)

pub settled_is_settled : (segments : List (List ℕ)) → IsSettled (settled segments)
settled_is_settled segments = settled_from [] segments tt
