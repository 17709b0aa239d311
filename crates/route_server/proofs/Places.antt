-- Entries of a list by their places.
use Rattle.std.proofs.Common.{◌≡◌, ◌≢◌, ℕ, zero, suc, ◌+◌, ◌<◌, ◌≤◌, ◌⊎◌, inl, inr, List, [], ◌∷◌, ◌++◌, length, Option, None, Some, Bool, true, false, nat_lt, arith, ap, sym, ◌∙◌, subst, refl, ltb-true, ltb-false}
use Rattle.std.specs.List.{slice_get, remove}
use Rattle.std.proofs.Math.ListN.{set as put}
use Rattle.service_router.specs.Router.{targets_of}
use Rattle.route_server.specs.Serving.{Entry, HaveTargets, IsRising}

pub decide : (i j : ℕ) → (i ≡ j) ⊎ (i ≢ j)
decide zero zero = inl refl
decide zero (suc j) = inr (λ e. absurd (omega (arith, e)))
decide (suc i) zero = inr (λ e. absurd (omega (arith, e)))
decide (suc i) (suc j) = next (decide i j)
  where
    next : (i ≡ j) ⊎ (i ≢ j) → (suc i ≡ suc j) ⊎ (suc i ≢ suc j)
    next (inl e) = inl (ap suc e)
    next (inr e) = inr (λ d. e (omega (arith, d)))

abbrev value_or : {X : Type 0} → Option X → X → X
value_or None d = d
value_or (Some x) d = x

pub some_same : {X : Type 0} → (o : Option X) (x y : X) → o ≡ Some x → o ≡ Some y → x ≡ y
some_same o x y p q = ap (λ z. value_or z x) (sym p ∙ q)

pub get_put_same : {X : Type 0} → (xs : List X) (k : ℕ) (x : X) → k < length xs → slice_get (put xs k x) k ≡ Some x
get_put_same [] k x within = absurd (omega (arith, within))
get_put_same (y ∷ xs) zero x within = refl
get_put_same (y ∷ xs) (suc k) x within = get_put_same xs k x (omega (arith, within))

pub get_put_other : {X : Type 0} → (xs : List X) (k j : ℕ) (x : X) → j ≢ k → slice_get (put xs k x) j ≡ slice_get xs j
get_put_other [] k j x other = refl
get_put_other (y ∷ xs) zero zero x other = absurd (other refl)
get_put_other (y ∷ xs) zero (suc j) x other = refl
get_put_other (y ∷ xs) (suc k) zero x other = refl
get_put_other (y ∷ xs) (suc k) (suc j) x other = get_put_other xs k j x (λ e. other (ap suc e))

pub put_as_it_was : {X : Type 0} → (xs : List X) (k : ℕ) (x : X) → slice_get xs k ≡ Some x → put xs k x ≡ xs
put_as_it_was [] k x is = refl
put_as_it_was (y ∷ xs) zero x is = ap (λ z. z ∷ xs) (sym (some_same (Some y) y x refl is))
put_as_it_was (y ∷ xs) (suc k) x is = ap (λ zs. y ∷ zs) (put_as_it_was xs k x is)

pub get_within : {X : Type 0} → (xs : List X) (k : ℕ) (x : X) → slice_get xs k ≡ Some x → k < length xs
get_within [] k x is = absurd (cc)
get_within (y ∷ xs) zero x is = omega arith
get_within (y ∷ xs) (suc k) x is = omega (arith, get_within xs k x is)

pub get_last : {X : Type 0} → (xs : List X) (x : X) → slice_get (xs ++ x ∷ []) (length xs) ≡ Some x
get_last [] x = refl
get_last (y ∷ xs) x = get_last xs x

pub get_before : {X : Type 0} → (xs : List X) (x y : X) (j : ℕ) → slice_get xs j ≡ Some y → slice_get (xs ++ x ∷ []) j ≡ Some y
get_before [] x y j is = absurd (cc)
get_before (z ∷ xs) x y zero is = is
get_before (z ∷ xs) x y (suc j) is = get_before xs x y j is

-- an entry of a list with one more behind is that one, or stood there before
pub behind_cases : {X : Type 0} → (xs : List X) (x y : X) (j : ℕ) → slice_get (xs ++ x ∷ []) j ≡ Some y → ((j ≡ length xs) × (y ≡ x)) ⊎ (slice_get xs j ≡ Some y)
behind_cases [] x y zero is = inl (refl, some_same (Some x) y x is refl)
behind_cases [] x y (suc j) is = inr is
behind_cases (z ∷ xs) x y zero is = inr is
behind_cases (z ∷ xs) x y (suc j) is = next (behind_cases xs x y j is)
  where
    next : ((j ≡ length xs) × (y ≡ x)) ⊎ (slice_get xs j ≡ Some y) → ((suc j ≡ length (z ∷ xs)) × (y ≡ x)) ⊎ (slice_get xs j ≡ Some y)
    next (inl e) = inl (omega (arith, e.0), e.1)
    next (inr e) = inr e

-- an entry of a list that was written at a place is the new one, or stands elsewhere and stood there before
pub put_cases : {X : Type 0} → (xs : List X) (k : ℕ) (x y : X) (j : ℕ) → k < length xs → slice_get (put xs k x) j ≡ Some y → ((j ≡ k) × (y ≡ x)) ⊎ ((j ≢ k) × (slice_get xs j ≡ Some y))
put_cases xs k x y j within is = by (decide j k)
  where
    by : (j ≡ k) ⊎ (j ≢ k) → ((j ≡ k) × (y ≡ x)) ⊎ ((j ≢ k) × (slice_get xs j ≡ Some y))
    by (inl e) = inl (e, some_same (Some y) y x refl (sym is ∙ (ap (λ i. slice_get (put xs k x) i) e ∙ get_put_same xs k x within)))
    by (inr e) = inr (e, sym (get_put_other xs k j x e) ∙ is)

-- ---- a list without the entry at a place

abbrev pub shift : ℕ → ℕ → ℕ
shift zero i = suc i
shift (suc k) zero = zero
shift (suc k) (suc i) = suc (shift k i)

pub shift_get : {X : Type 0} → (xs : List X) (k i : ℕ) → k < length xs → slice_get (remove xs k) i ≡ slice_get xs (shift k i)
shift_get [] k i within = absurd (omega (arith, within))
shift_get (x ∷ xs) zero i within = refl
shift_get (x ∷ xs) (suc k) zero within = refl
shift_get (x ∷ xs) (suc k) (suc i) within = shift_get xs k i (omega (arith, within))

pub shift_rises : (k i j : ℕ) → i < j → shift k i < shift k j
shift_rises zero i j less = omega (arith, less)
shift_rises (suc k) i zero less = absurd (omega (arith, less))
shift_rises (suc k) zero (suc j) less = omega arith
shift_rises (suc k) (suc i) (suc j) less = omega (arith, shift_rises k i j (omega (arith, less)))

pub shift_elsewhere : (k i : ℕ) → shift k i ≢ k
shift_elsewhere zero i = λ e. absurd (omega (arith, e))
shift_elsewhere (suc k) zero = λ e. absurd (omega (arith, e))
shift_elsewhere (suc k) (suc i) = λ e. shift_elsewhere k i (omega (arith, e))

pub unshift : (k i : ℕ) → i ≢ k → ((j : ℕ) × (shift k j ≡ i))
unshift zero zero other = absurd (other refl)
unshift zero (suc i) other = (i, refl)
unshift (suc k) zero other = (zero, refl)
unshift (suc k) (suc i) other = let r = unshift k i (λ e. other (ap suc e)) in (suc r.0, ap suc r.1)

-- ---- numbers that rise

pub below_on : (held : List Entry) (number middle : ℕ) (d : Entry) → IsRising held → slice_get held middle ≡ Some d → d.number < number → (i : ℕ) (e : Entry) → i < middle + 1 → slice_get held i ≡ Some e → e.number < number
below_on held number middle d rising is less i e under got = by (decide i middle)
  where
    by : (i ≡ middle) ⊎ (i ≢ middle) → e.number < number
    by (inl at) = subst (λ (x : Entry). x.number < number) (some_same (slice_get held middle) d e is (ap (λ j. slice_get held j) (sym at) ∙ got)) less
    by (inr at) = omega (arith, rising i middle e d (omega (arith, under, at)) got is, less)

pub above_on : (held : List Entry) (number middle : ℕ) (d : Entry) → IsRising held → slice_get held middle ≡ Some d → number < d.number → (i : ℕ) (e : Entry) → middle ≤ i → slice_get held i ≡ Some e → number < e.number
above_on held number middle d rising is more i e over got = by (decide i middle)
  where
    by : (i ≡ middle) ⊎ (i ≢ middle) → number < e.number
    by (inl at) = subst (λ (x : Entry). number < x.number) (some_same (slice_get held middle) d e is (ap (λ j. slice_get held j) (sym at) ∙ got)) more
    by (inr at) = omega (arith, rising middle i d e (omega (arith, over, at)) is got, more)

-- entries at two places have two numbers
pub elsewhere : (held : List Entry) (i j : ℕ) (d e : Entry) → IsRising held → i ≢ j → slice_get held i ≡ Some d → slice_get held j ≡ Some e → d.number ≢ e.number
elsewhere held i j d e rising other p q = by (nat_lt i j) refl
  where
    by : (b : Bool) → nat_lt i j ≡ b → d.number ≢ e.number
    by true less = λ same. absurd (omega (arith, rising i j d e (ltb-true i j less) p q, same))
    by false less = λ same. absurd (omega (arith, rising j i e d (omega (arith, ltb-false i j less, other)) q p, same))

-- ---- how many targets each has

pub targets_at : (n : ℕ) (held : List Entry) (at : ℕ) (e : Entry) → HaveTargets n held → slice_get held at ≡ Some e → targets_of e.router ≡ n
targets_at n held at e have p = have at e p

pub targets_put : (n : ℕ) (held : List Entry) (at : ℕ) (e : Entry) → HaveTargets n held → at < length held → targets_of e.router ≡ n → HaveTargets n (put held at e)
targets_put n held at e have within p = λ i d got. by i d (put_cases held at e d i within got)
  where
    by : (i : ℕ) (d : Entry) → ((i ≡ at) × (d ≡ e)) ⊎ ((i ≢ at) × (slice_get held i ≡ Some d)) → targets_of d.router ≡ n
    by i d (inl is) = subst (λ (x : Entry). targets_of x.router ≡ n) (sym is.1) p
    by i d (inr was) = have i d was.1

pub targets_without : (n : ℕ) (held : List Entry) (at : ℕ) → HaveTargets n held → at < length held → HaveTargets n (remove held at)
targets_without n held at have within = λ i d got. have (shift at i) d (sym (shift_get held at i within) ∙ got)

pub targets_behind : (n : ℕ) (held : List Entry) (e : Entry) → HaveTargets n held → targets_of e.router ≡ n → HaveTargets n (held ++ e ∷ [])
targets_behind n held e have p = λ i d got. by i d (behind_cases held e d i got)
  where
    by : (i : ℕ) (d : Entry) → ((i ≡ length held) × (d ≡ e)) ⊎ (slice_get held i ≡ Some d) → targets_of d.router ≡ n
    by i d (inl is) = subst (λ (x : Entry). targets_of x.router ≡ n) (sym is.1) p
    by i d (inr was) = have i d was

pub targets_none : (n : ℕ) (held : List Entry) → held ≡ [] → HaveTargets n held
targets_none n held is = λ i d got. absurd (none i d (ap (λ (xs : List Entry). slice_get xs i) (sym is) ∙ got))
  where
    none : (i : ℕ) (d : Entry) → slice_get [] i ≡ Some d → ⊥
    none i d got = absurd (cc)

pub get_some : {X : Type 0} → (xs : List X) (k : ℕ) → k < length xs → ((x : X) × (slice_get xs k ≡ Some x))
get_some [] k within = absurd (omega (arith, within))
get_some (x ∷ xs) zero within = (x, refl)
get_some (x ∷ xs) (suc k) within = get_some xs k (omega (arith, within))
