-- What a binary search finds among the entries.
use Rattle.std.proofs.Common.{◌≡◌, ◌≢◌, ℕ, zero, suc, ◌+◌, ◌<◌, ◌≤◌, List, [], ◌∷◌, length, get_or, Option, None, Some, IfSome, Result, Ok, Err, subst, ◌⊎◌, inl, inr, ◌==◌, sym, refl, ap, ◌∙◌, arith}
use Rattle.std.specs.List.{slice_get}
use Rattle.std.specs.Result.{result_ok}
use Rattle.std.specs.List.Sorted.{IsSearchInRange, IsBinarySearchResult, IsNonDecreasingBy}
use Rattle.std.specs.Ordering.{nat_cmp, ordering_index}
use Rattle.std.proofs.lemmas.Cmp.{ranked}
use Rattle.std.proofs.lemmas.List.Sorted.{IsNonDecreasingBy-from_default}
use Rattle.std.proofs.lemmas.Option.{slice_get-get_or, get_or_from_slice_get}
use Rattle.std.proofs.lemmas.Bool.{cases_lt}
use Rattle.std.proofs.lemmas.Bool.Decides.{nat_tests}
use Rattle.mio_edge.specs.Tables.{place_of, RisesFrom}
use Rattle.mio_edge.specs.declared.table.Entry.{Entry}
use Rattle.mio_edge.proofs.Entries.{if_false, other_test, place_at}

none : Entry
none = record { number = 0; place = 0 }

-- each number is at least the one that they rise from
at_least : (least : ℕ) (entries : List Entry) (i : ℕ) → RisesFrom least entries → i < length entries → least ≤ (get_or entries i none).number
at_least least [] i rises within = absurd (omega (arith, within))
at_least least (x ∷ entries) zero rises within = rises.0
at_least least (x ∷ entries) (suc i) rises within = omega (arith, rises.0, at_least (x.number + 1) entries i rises.1 (omega (arith, within)))

rise : (least : ℕ) (entries : List Entry) (i j : ℕ) → RisesFrom least entries → i ≤ j → j < length entries → (get_or entries i none).number ≤ (get_or entries j none).number
rise least [] i j rises less within = absurd (omega (arith, within))
rise least (x ∷ entries) zero zero rises less within = omega arith
rise least (x ∷ entries) zero (suc j) rises less within = omega (arith, at_least (x.number + 1) entries j rises.1 (omega (arith, within)))
rise least (x ∷ entries) (suc i) zero rises less within = absurd (omega (arith, less))
rise least (x ∷ entries) (suc i) (suc j) rises less within = rise (x.number + 1) entries i j rises.1 (omega (arith, less)) (omega (arith, within))

absent : (entries : List Entry) (k : ℕ) → ((i : ℕ) → i < length entries → (get_or entries i none).number ≢ k) → place_of entries k ≡ None
absent [] k never = refl
absent (x ∷ entries) k never =
    if_false (x.number == k) (Some x.place) (place_of entries k) (other_test x.number k (never 0 (omega arith)))
    ∙ absent entries k (λ i within. never (suc i) (omega (arith, within)))

comparisons_rise : (entries : List Entry) (k : ℕ) → RisesFrom 0 entries → IsNonDecreasingBy (λ (e : Entry). ordering_index (nat_cmp e.number k)) entries
comparisons_rise entries k rises = IsNonDecreasingBy-from_default (λ (e : Entry). ordering_index (nat_cmp e.number k)) entries none (λ i j less within.
    let keys_rise = rise 0 entries i j rises less within in
    grind (arith, nat_tests))

pub found_at : (entries : List Entry) (k at : ℕ) → at < length entries → IsBinarySearchResult (λ (e : Entry). nat_cmp e.number k) entries (Ok at) → (e : Entry) × (slice_get entries at ≡ Some e) × (e.number ≡ k)
found_at entries k at within equal = (get_or entries at none, slice_get-get_or entries at none within, ranked _ k _ (sym (equal none)))

pub found_none : (entries : List Entry) (k at : ℕ) → RisesFrom 0 entries → IsBinarySearchResult (λ (e : Entry). nat_cmp e.number k) entries (Err at) → place_of entries k ≡ None
found_none entries k at rises parted = absent entries k (λ i within same. by i within same (cases i at))
  where
    cases : (i at : ℕ) → (i < at) ⊎ (at ≤ i)
    cases i at = cases_lt i at

    by : (i : ℕ) → i < length entries → (get_or entries i none).number ≡ k → (i < at) ⊎ (at ≤ i) → ⊥
    by i within same (inl less) = absurd (omega (arith, same, ranked _ k _ (sym ((parted (comparisons_rise entries k rises)).0 i none (omega arith) less))))
    by i within same (inr more) = absurd (omega (arith, same, ranked _ k _ (sym ((parted (comparisons_rise entries k rises)).1 i none more within))))

-- the same of what `ok` leaves of the answer
pub search_finds : (entries slice : List Entry) (k : ℕ) (r : Result ℕ ℕ) (o : Option ℕ) → slice ≡ entries → o ≡ result_ok r → IsSearchInRange r (length slice) → IsBinarySearchResult (λ (e : Entry). nat_cmp e.number k) slice r → IfSome o (λ at. (e : Entry) × (slice_get entries at ≡ Some e) × (e.number ≡ k))
search_finds entries slice k r o is ok within answers = subst (λ (o : Option ℕ). IfSome o (λ at. (e : Entry) × (slice_get entries at ≡ Some e) × (e.number ≡ k))) (sym ok) (subst (λ (xs : List Entry). IfSome (result_ok r) (λ at. (e : Entry) × (slice_get xs at ≡ Some e) × (e.number ≡ k))) is (by r within answers))
  where
    by : (r : Result ℕ ℕ) → IsSearchInRange r (length slice) → IsBinarySearchResult (λ (e : Entry). nat_cmp e.number k) slice r → IfSome (result_ok r) (λ at. (e : Entry) × (slice_get slice at ≡ Some e) × (e.number ≡ k))
    by (Ok at) within answers = found_at slice k at within answers
    by (Err at) within answers = tt

pub search_misses : (entries slice : List Entry) (k : ℕ) (r : Result ℕ ℕ) (o : Option ℕ) → slice ≡ entries → o ≡ result_ok r → IsBinarySearchResult (λ (e : Entry). nat_cmp e.number k) slice r → RisesFrom 0 entries → o ≡ None → place_of entries k ≡ None
search_misses entries slice k r o is ok answers rises missed = subst (λ (xs : List Entry). place_of xs k ≡ None) is (by r (sym ok ∙ missed) answers)
  where
    by : (r : Result ℕ ℕ) → result_ok r ≡ None → IsBinarySearchResult (λ (e : Entry). nat_cmp e.number k) slice r → place_of slice k ≡ None
    by (Ok at) e answers = absurd (cc)
    by (Err at) e answers = found_none slice k at (subst (λ (xs : List Entry). RisesFrom 0 xs) (sym is) rises) answers

-- the entry that was found has the place of its number
pub found_entry : (entries slice : List Entry) (k at : ℕ) (entry : Entry) → RisesFrom 0 entries → (e : Entry) × (slice_get entries at ≡ Some e) × (e.number ≡ k) → slice ≡ entries → entry ≡ get_or slice at entry → Some entry.place ≡ place_of entries k
found_entry entries slice k at entry rises (e, is, number) same read =
    let entry_is : entry ≡ e = read ∙ (ap (λ xs. get_or xs at entry) same ∙ get_or_from_slice_get entries at e entry is) in
    ap (λ (x : Entry). Some x.place) entry_is ∙ (sym (place_at 0 entries at e rises is).1 ∙ ap (place_of entries) number)
