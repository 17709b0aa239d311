-- A binary search among the members of an enum finds what their list has.
use Rattle.std.proofs.Common.{◌≡◌, ℕ, ℤ, List, length, refl, ap, sym, ◌∙◌, subst, arith, Bool, true, false, true≢false, Result, Ok, Err, ltb-true, ltb-false}
use Rattle.std.specs.Prelude.{◌↔◌, IsTrue, Contains, slice_index_or, nat_lt, is_ok, ◌<ℤ◌}
use Rattle.std.specs.Cmp.{int_ranks}
use Rattle.std.specs.List.Sorted.{IsBinarySearchResult, IsSearchInRange, IsPartitionPoint}
use Rattle.std.specs.Ordering.{int_cmp, MatchOrdering, ordering_reverse}
use Rattle.std.specs.declared.cmp.Ordering.{Ordering}
use Rattle.std.specs.declared.cmp.Ordering.TheVariants.{Less, Equal, Greater}
use Rattle.std.proofs.lemmas.Cmp.{int_cmp_total}
use Rattle.std.proofs.lemmas.List.Sorted.{Contains-permutation, IsPermutation-sym, searchable_from_sorted}
use Rattle.type_tables.specs.Members.{IsOrdered}

is_at : (a z : ℤ) → int_cmp a z ≡ Equal → a ≡ z
is_at a z e = subst (λ (o : Ordering). MatchOrdering o (a <ℤ z) (a ≡ z) (z <ℤ a)) e (int_ranks a z)

not_less : (z : ℤ) → int_cmp z z ≡ Less → ⊥
not_less z e =
    let turned : Less ≡ Greater = sym e ∙ int_cmp_total.antisymm z z ∙ ap ordering_reverse e in
    cc

not_greater : (z : ℤ) → int_cmp z z ≡ Greater → ⊥
not_greater z e =
    let turned : Greater ≡ Less = sym e ∙ int_cmp_total.antisymm z z ∙ ap ordering_reverse e in
    cc

pub found : (members sorted : List ℤ) (z : ℤ) (r : Result ℕ ℕ) (b : Bool) → IsOrdered members sorted → IsSearchInRange r (length sorted) →
    IsBinarySearchResult (λ y. int_cmp y z) sorted r → b ≡ is_ok r → IsTrue b ↔ Contains members z
found members sorted z (Ok i) b o h s e =
    (λ t. Contains-permutation sorted members z (IsPermutation-sym members sorted o.same) (i, h, is_at (slice_index_or sorted i z) z (s z)), λ c. e)
found members sorted z (Err i) b o h s e = (λ t. absurd (true≢false (sym t ∙ e)), λ c. absurd (none (Contains-permutation members sorted z o.same c)))
  where
    none : Contains sorted z → ⊥
    none (k, l, m) = by (nat_lt k i) refl
      where
        parts : IsPartitionPoint (λ y. int_cmp y z ≡ Less) (λ y. int_cmp y z ≡ Greater) sorted i
        parts = s (searchable_from_sorted int_cmp_total (λ y. y) sorted z o.rising)

        by : (t : Bool) → nat_lt k i ≡ t → ⊥
        by true f = not_less z (ap (λ (y : ℤ). int_cmp y z) (sym m) ∙ parts.0 k z (omega arith) (ltb-true k i f))
        by false f = not_greater z (ap (λ (y : ℤ). int_cmp y z) (sym m) ∙ parts.1 k z (ltb-false k i f) l)
