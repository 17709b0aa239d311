-- Lists that stand within others, and spots that stand in a list once each.
use Rattle.std.proofs.Common.{◌≡◌, ◌∙◌, ap, sym, subst, refl, ℕ, zero, suc, ◌+◌, ◌≤◌, inl, inr, List, [], ◌∷◌, ◌++◌, length, slice_get, Some, arith}
use Rattle.idl_names.specs.declared.documents.Spot.{Spot}
use Rattle.idl_names.specs.Sets.{Has}

module _ {X : Type 0} where
  -- these stand in the whole, the first of them with this number
  abbrev pub IsRun : List X → ℕ → List X → Type 0
  IsRun whole at xs = (i : ℕ) (x : X) → slice_get xs i ≡ Some x → slice_get whole (at + i) ≡ Some x

  pub none_of_both : (xs ys : List X) → xs ++ ys ≡ [] → (xs ≡ []) × (ys ≡ [])
  none_of_both [] ys e = (refl, e)
  none_of_both (x ∷ xs) ys e = absurd (cc)

  get_left : (xs ys : List X) (k : ℕ) (x : X) → slice_get xs k ≡ Some x → slice_get (xs ++ ys) k ≡ Some x
  get_left [] ys k x e = absurd (cc)
  get_left (y ∷ xs) ys zero x e = e
  get_left (y ∷ xs) ys (suc k) x e = get_left xs ys k x e

  get_right : (xs ys : List X) (k : ℕ) → slice_get (xs ++ ys) (length xs + k) ≡ slice_get ys k
  get_right [] ys k = ap (slice_get ys) (omega arith)
  get_right (x ∷ xs) ys k =
      let next : length (x ∷ xs) + k ≡ suc (length xs + k) = omega arith in
      ap (slice_get (x ∷ (xs ++ ys))) next ∙ get_right xs ys k

  pub run_at : (whole xs : List X) (a b : ℕ) → a ≡ b → IsRun whole a xs → IsRun whole b xs
  run_at whole xs a b e r = subst (λ (n : ℕ). IsRun whole n xs) e r

  pub run_first : (whole : List X) (at : ℕ) (x : X) (xs : List X) → IsRun whole at (x ∷ xs) → slice_get whole at ≡ Some x
  run_first whole at x xs r =
      let here : at + 0 ≡ at = omega arith in
      subst (λ (n : ℕ). slice_get whole n ≡ Some x) here (r 0 x refl)

  pub run_rest : (whole : List X) (at : ℕ) (x : X) (xs : List X) → IsRun whole at (x ∷ xs) → IsRun whole (at + 1) xs
  run_rest whole at x xs r i y e =
      let next : at + suc i ≡ at + 1 + i = omega arith in
      subst (λ (n : ℕ). slice_get whole n ≡ Some y) next (r (suc i) y e)

  pub run_left : (whole : List X) (at : ℕ) (xs ys : List X) → IsRun whole at (xs ++ ys) → IsRun whole at xs
  run_left whole at xs ys r i x e = r i x (get_left xs ys i x e)

  pub run_right : (whole : List X) (at n : ℕ) (xs ys : List X) → length xs ≡ n → IsRun whole at (xs ++ ys) → IsRun whole (at + n) ys
  run_right whole at n xs ys l r i y e =
      let next : at + (length xs + i) ≡ at + n + i = omega (arith, l) in
      subst (λ (m : ℕ). slice_get whole m ≡ Some y) next (r (length xs + i) y (get_right xs ys i ∙ e))

  pub in_left : (xs ys zs : List X) (k : ℕ) → IsRun xs k zs → IsRun (xs ++ ys) k zs
  in_left xs ys zs k r i z e = get_left xs ys (k + i) z (r i z e)

  pub in_right : (xs ys zs : List X) (k : ℕ) → IsRun ys k zs → IsRun (xs ++ ys) (length xs + k) zs
  in_right xs ys zs k r i z e =
      let next : length xs + (k + i) ≡ length xs + k + i = omega arith in
      subst (λ (m : ℕ). slice_get (xs ++ ys) m ≡ Some z) next (get_right xs ys (k + i) ∙ r i z e)

  pub itself : (xs : List X) → IsRun xs 0 xs
  itself xs i x e =
      let none : i ≡ 0 + i = omega arith in
      subst (λ (n : ℕ). slice_get xs n ≡ Some x) none e

abbrev pub IsDistinct : List Spot → Type 0
IsDistinct [] = Unit {0}
IsDistinct (s ∷ ss) = (Has ss s → ⊥) × IsDistinct ss

-- a list without one that it has
abbrev without : (s : Spot) (ys : List Spot) → Has ys s → List Spot
without s [] h = absurd h
without s (y ∷ ys) (inl e) = ys
without s (y ∷ ys) (inr h) = y ∷ without s ys h

one_less : (s : Spot) (ys : List Spot) (h : Has ys s) → length ys ≡ suc (length (without s ys h))
one_less s [] h = absurd h
one_less s (y ∷ ys) (inl e) = refl
one_less s (y ∷ ys) (inr h) = ap suc (one_less s ys h)

still : (s t : Spot) (ys : List Spot) (h : Has ys s) → Has ys t → (t ≡ s → ⊥) → Has (without s ys h) t
still s t [] h g other = absurd h
still s t (y ∷ ys) (inl e) (inl f) other = absurd (other (f ∙ sym e))
still s t (y ∷ ys) (inl e) (inr g) other = g
still s t (y ∷ ys) (inr h) (inl f) other = inl f
still s t (y ∷ ys) (inr h) (inr g) other = inr (still s t ys h g other)

-- distinct ones are at most as many as those among which they are
pub few : (xs ys : List Spot) → IsDistinct xs → ((s : Spot) → Has xs s → Has ys s) → length xs ≤ length ys
few [] ys d within = omega arith
few (x ∷ xs) ys d within =
    let h : Has ys x = within x (inl refl) in
    let rest : length xs ≤ length (without x ys h) = few xs (without x ys h) d.1 (λ s g. still x s ys h (within s (inr g)) (λ e. d.0 (subst (Has xs) e g))) in
    omega (arith, rest, one_less x ys h)
