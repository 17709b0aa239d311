-- The entries of the open sessions, by rising numbers.
use Rattle.std.proofs.Common.{◌≡◌, ◌≢◌, ℕ, zero, suc, ◌+◌, ◌<◌, ◌≤◌, ◌==◌, List, [], ◌∷◌, ◌++◌, length, take, drop, Bool, true, false, true≢false, not, Option, None, Some, if◌then◌else◌, ◌⊎◌, inl, inr, refl, sym, ap, ◌∙◌, subst, arith}
use Rattle.std.specs.List.{slice_get, filter}
use Rattle.std.proofs.lemmas.Bool.Decides.{nat_tests}
use Rattle.mio_edge.specs.Tables.{place_of, RisesFrom}
use Rattle.mio_edge.specs.declared.table.Entry.{Entry}

pub some_same : {X : Type 0} (o : Option X) (x y : X) → o ≡ Some x → o ≡ Some y → x ≡ y
some_same {X} o x y a b = un_some (sym a ∙ b)
  where
    un_some : Some x ≡ Some y → x ≡ y
    un_some e = cc

if_true : {A : Type 0} (t : Bool) (a b : A) → t ≡ true → (if t then a else b) ≡ a
if_true true a b e = refl
if_true false a b e = absurd (cc)

pub if_false : {A : Type 0} (t : Bool) (a b : A) → t ≡ false → (if t then a else b) ≡ b
if_false true a b e = absurd (cc)
if_false false a b e = refl

same_test : (x y : ℕ) → x ≡ y → (x == y) ≡ true
same_test x y e = grind (arith, nat_tests)

pub other_test : (x y : ℕ) → x ≢ y → (x == y) ≡ false
other_test x y off = by (x == y) refl
  where
    by : (t : Bool) → (x == y) ≡ t → (x == y) ≡ false
    by true is = absurd (off (grind (arith, nat_tests)))
    by false is = is

-- no entry has a number below the least
pub none_below : (least k : ℕ) (entries : List Entry) → RisesFrom least entries → k < least → place_of entries k ≡ None
none_below least k [] rises below = refl
none_below least k (x ∷ entries) rises below =
    if_false (x.number == k) (Some x.place) (place_of entries k) (other_test x.number k (λ e. absurd (omega (arith, e, rises.0, below))))
    ∙ none_below (x.number + 1) k entries rises.1 (omega (arith, rises.0, below))

-- the entry at a place is found by its number
pub place_at : (least : ℕ) (entries : List Entry) (at : ℕ) (e : Entry) → RisesFrom least entries → slice_get entries at ≡ Some e → (least ≤ e.number) × (place_of entries e.number ≡ Some e.place)
place_at least [] at e rises is = absurd (cc)
place_at least (x ∷ entries) zero e rises is =
    let same : x ≡ e = some_same (Some x) x e refl is in (
      omega (arith, rises.0, ap (λ (y : Entry). y.number) same),
      if_true (x.number == e.number) (Some x.place) (place_of entries e.number) (same_test x.number e.number (ap (λ (y : Entry). y.number) same)) ∙ ap (λ (y : Entry). Some y.place) same,
    )
place_at least (x ∷ entries) (suc at) e rises is =
    let rest = place_at (x.number + 1) entries at e rises.1 is in (
      omega (arith, rises.0, rest.0),
      if_false (x.number == e.number) (Some x.place) (place_of entries e.number) (other_test x.number e.number (λ same. absurd (omega (arith, same, rest.0)))) ∙ rest.1,
    )

-- numbers that rise from one rise from each that is less
pub rises_less : (least more : ℕ) (entries : List Entry) → least ≤ more → RisesFrom more entries → RisesFrom least entries
rises_less least more [] less rises = tt
rises_less least more (x ∷ entries) less rises = (omega (arith, less, rises.0), rises.1)

-- an entry is taken out
pub cut_out : (least : ℕ) (entries : List Entry) (at : ℕ) (e : Entry) → RisesFrom least entries → slice_get entries at ≡ Some e → RisesFrom least (take at entries ++ drop (suc at) entries) × ((j : ℕ) → j ≢ e.number → place_of (take at entries ++ drop (suc at) entries) j ≡ place_of entries j) × (place_of (take at entries ++ drop (suc at) entries) e.number ≡ None)
cut_out least [] at e rises is = absurd (cc)
cut_out least (x ∷ entries) zero e rises is =
    let same : x ≡ e = some_same (Some x) x e refl is in
    let number : x.number ≡ e.number = ap (λ (y : Entry). y.number) same in (
      rises_less least (x.number + 1) entries (omega (arith, rises.0)) rises.1,
      λ j off. sym (if_false (x.number == j) (Some x.place) (place_of entries j) (other_test x.number j (λ is_j. off (sym is_j ∙ number)))),
      none_below (x.number + 1) e.number entries rises.1 (omega (arith, number)),
    )
cut_out least (x ∷ entries) (suc at) e rises is =
    let rest = cut_out (x.number + 1) entries at e rises.1 is in
    let above = (place_at (x.number + 1) entries at e rises.1 is).0 in (
      (rises.0, rest.0),
      λ j off. by j (x.number == j) off (rest.1 j off),
      if_false (x.number == e.number) (Some x.place) (place_of (take at entries ++ drop (suc at) entries) e.number) (other_test x.number e.number (λ same. absurd (omega (arith, same, above)))) ∙ rest.2,
    )
  where
    by : (j : ℕ) (t : Bool) → j ≢ e.number → place_of (take at entries ++ drop (suc at) entries) j ≡ place_of entries j → (if t then Some x.place else place_of (take at entries ++ drop (suc at) entries) j) ≡ (if t then Some x.place else place_of entries j)
    by j true off same = refl
    by j false off same = same

-- an entry is put behind
pub pushed_here : (entries : List Entry) (e : Entry) → place_of entries e.number ≡ None → place_of (entries ++ e ∷ []) e.number ≡ Some e.place
pushed_here [] e none = if_true (e.number == e.number) (Some e.place) None (same_test e.number e.number refl)
pushed_here (x ∷ entries) e none = by (x.number == e.number) (λ q. pushed_here entries e q) none
  where
    by : (t : Bool) → (place_of entries e.number ≡ None → place_of (entries ++ e ∷ []) e.number ≡ Some e.place) → (if t then Some x.place else place_of entries e.number) ≡ None → (if t then Some x.place else place_of (entries ++ e ∷ []) e.number) ≡ Some e.place
    by true on none = absurd (cc)
    by false on none = on none

pub pushed_other : (entries : List Entry) (e : Entry) (j : ℕ) → j ≢ e.number → place_of (entries ++ e ∷ []) j ≡ place_of entries j
pushed_other [] e j off = if_false (e.number == j) (Some e.place) None (other_test e.number j (λ is. off (sym is)))
pushed_other (x ∷ entries) e j off = by (x.number == j) (pushed_other entries e j off)
  where
    by : (t : Bool) → place_of (entries ++ e ∷ []) j ≡ place_of entries j → (if t then Some x.place else place_of (entries ++ e ∷ []) j) ≡ (if t then Some x.place else place_of entries j)
    by true on = refl
    by false on = on

pub rises_pushed : (least : ℕ) (entries : List Entry) (e : Entry) → RisesFrom least entries → ((n : ℕ) (x : Entry) → slice_get entries n ≡ Some x → x.number < e.number) → least ≤ e.number → RisesFrom least (entries ++ e ∷ [])
rises_pushed least [] e rises below at_least = (at_least, tt)
rises_pushed least (x ∷ entries) e rises below at_least =
    (rises.0, rises_pushed (x.number + 1) entries e rises.1 (λ n y is. below (suc n) y is) (omega (arith, below 0 x refl)))

-- what stands in a list with one more at its end
pub from_pushed : {X : Type 0} (xs : List X) (x : X) (n : ℕ) (y : X) → slice_get (xs ++ x ∷ []) n ≡ Some y → (slice_get xs n ≡ Some y) ⊎ (y ≡ x)
from_pushed [] x zero y is = inr (sym (some_same (Some x) x y refl is))
from_pushed [] x (suc n) y is = absurd (cc)
from_pushed (z ∷ xs) x zero y is = inl is
from_pushed (z ∷ xs) x (suc n) y is = from_pushed xs x n y is

pub get_last : {X : Type 0} (xs : List X) (x : X) → slice_get (xs ++ x ∷ []) (length xs) ≡ Some x
get_last [] x = refl
get_last (y ∷ xs) x = get_last xs x

pub get_front : {X : Type 0} (xs : List X) (x : X) (n : ℕ) (y : X) → slice_get xs n ≡ Some y → slice_get (xs ++ x ∷ []) n ≡ Some y
get_front [] x n y is = absurd (cc)
get_front (z ∷ xs) x zero y is = is
get_front (z ∷ xs) x (suc n) y is = get_front xs x n y is

-- what is put behind is all that is new
pub from_behind : (xs xs' : List ℕ) (x : ℕ) → xs' ≡ xs ++ x ∷ [] → (n q : ℕ) → slice_get xs' n ≡ Some q → (slice_get xs n ≡ Some q) ⊎ (q ≡ x)
from_behind xs xs' x is n q at = from_pushed xs x n q (subst (λ ys. slice_get ys n ≡ Some q) is at)

-- what is left of a list without a number
pub filtered : (place : ℕ) (xs : List ℕ) (n q : ℕ) → slice_get (filter (λ other. not (other == place)) xs) n ≡ Some q → (m : ℕ) × (slice_get xs m ≡ Some q) × (q ≢ place)
filtered place [] n q is = absurd (cc)
filtered place (x ∷ xs) n q is = by (x == place) refl n (λ m at. filtered place xs m q at) is
  where
    by : (t : Bool) → (x == place) ≡ t → (n : ℕ) → ((m : ℕ) → slice_get (filter (λ other. not (other == place)) xs) m ≡ Some q → (m : ℕ) × (slice_get xs m ≡ Some q) × (q ≢ place)) → slice_get (if not t then x ∷ filter (λ other. not (other == place)) xs else filter (λ other. not (other == place)) xs) n ≡ Some q → (m : ℕ) × (slice_get (x ∷ xs) m ≡ Some q) × (q ≢ place)
    by true test n on is = let rest = on n is in (suc rest.0, rest.1, rest.2)
    by false test zero on is = (0, is, λ same. absurd (apart (some_same (Some x) x q refl is) same test))
      where
        apart : x ≡ q → q ≡ place → (x == place) ≡ false → ⊥
        apart first second test = true≢false (sym (same_test x place (first ∙ second)) ∙ test)
    by false test (suc n) on is = let rest = on n is in (suc rest.0, rest.1, rest.2)
