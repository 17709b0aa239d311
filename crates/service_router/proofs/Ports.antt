-- One port of several.
use Rattle.std.proofs.Common.{◌≡◌, ℕ, zero, suc, ◌==◌, ◌<◌, ◌≤◌, List, [], ◌∷◌, length, drop, arith, refl, sym, ◌∙◌, ap, Bool, true, false, if◌then◌else◌}
use Rattle.std.specs.Prelude.{get_or, slice_set}
use Rattle.std.specs.List.{All}
use Rattle.std.proofs.lemmas.Bool.Decides.{nat_tests}
use Rattle.std.proofs.lemmas.Option.{get_or_from_slice_get, slice_get_read}
use Rattle.std.proofs.lemmas.List.Elements.{All-head, All-tail, All-cons}
use Rattle.service_router.specs.Standing.{Standing, Inbox, inbox_of, with_inbox, due_to}

pub same_port : (m n : ℕ) → (m == n) ≡ true → m ≡ n
same_port m n e = grind (arith, nat_tests)

pub same_again : (n : ℕ) → (n == n) ≡ true
same_again n = grind (arith, nat_tests)

pub port_turned : (m n : ℕ) (b : Bool) → (m == n) ≡ b → (n == m) ≡ b
port_turned m n true e = grind (arith, nat_tests)
port_turned m n false e = grind (arith, nat_tests)

pub first_differs : (n : ℕ) → (0 == suc n) ≡ false
first_differs n = grind (arith, nat_tests)

pub later_differs : (n : ℕ) → (suc n == 0) ≡ false
later_differs n = grind (arith, nat_tests)

pub both_later : (m n : ℕ) → (m == n) ≡ (suc m == suc n)
both_later m n = by (m == n) refl
  where
    by : (b : Bool) → (m == n) ≡ b → b ≡ (suc m == suc n)
    by true e = grind (arith, nat_tests)
    by false e = grind (arith, nat_tests)

-- one element was set
pub set_at : {X : Type 0} (xs : List X) (at u : ℕ) (new d : X) → at < length xs → get_or (slice_set xs at new) u d ≡ (if u == at then new else get_or xs u d)
set_at [] at u new d h = absurd (omega (arith, h))
set_at (x ∷ xs) zero zero new d h = sym (ap (λ (b : Bool). if b then new else x) (same_again 0))
set_at (x ∷ xs) zero (suc u) new d h = sym (ap (λ (b : Bool). if b then new else get_or xs u d) (later_differs u))
set_at (x ∷ xs) (suc at) zero new d h = sym (ap (λ (b : Bool). if b then new else x) (first_differs at))
set_at (x ∷ xs) (suc at) (suc u) new d h = set_at xs at u new d (omega (arith, h)) ∙ ap (λ (b : Bool). if b then new else get_or xs u d) (both_later u at)

pub set_length : {X : Type 0} (xs : List X) (at : ℕ) (new : X) → length (slice_set xs at new) ≡ length xs
set_length [] zero new = refl
set_length [] (suc at) new = refl
set_length (x ∷ xs) zero new = refl
set_length (x ∷ xs) (suc at) new = ap suc (set_length xs at new)

-- an element that was read is the one at its place
pub read_at : {X : Type 0} (xs : List X) (at : ℕ) (x d : X) → at < length xs → x ≡ get_or xs at x → x ≡ get_or xs at d
read_at xs at x d within is = sym (get_or_from_slice_get xs at x d (slice_get_read xs (length xs) at x refl within is))

-- what holds of each element holds of the one at a place, and of each once one that has it is set
pub all_at : {X : Type 0} (P : X → Type 0) (xs : List X) (at : ℕ) (d : X) → at < length xs → All P xs → P (get_or xs at d)
all_at P [] at d h all = absurd (omega (arith, h))
all_at P (x ∷ xs) zero d h all = All-head P x xs all
all_at P (x ∷ xs) (suc at) d h all = all_at P xs at d (omega (arith, h)) (All-tail P x xs all)

pub all_set : {X : Type 0} (P : X → Type 0) (xs : List X) (at : ℕ) (new : X) → P new → All P xs → All P (slice_set xs at new)
all_set P [] zero new p all = all
all_set P [] (suc at) new p all = all
all_set P (x ∷ xs) zero new p all = All-cons P new xs p (All-tail P x xs all)
all_set P (x ∷ xs) (suc at) new p all = All-cons P x (slice_set xs at new) (All-head P x xs all) (all_set P xs at new p (All-tail P x xs all))

pub all_behind : {X : Type 0} (P : X → Type 0) (n : ℕ) (xs : List X) → All P xs → All P (drop n xs)
all_behind P zero xs all = all
all_behind P (suc n) [] all = all
all_behind P (suc n) (x ∷ xs) all = all_behind P n xs (All-tail P x xs all)

-- ---- of a router

-- a port is the client's, or that of a target
pub set_of : (port other : ℕ) (inbox : Inbox) (s : Standing) → port ≤ length s.upstreams → inbox_of other (with_inbox port inbox s) ≡ (if other == port then inbox else inbox_of other s)
set_of zero zero inbox s h = sym (ap (λ (b : Bool). if b then inbox else s.client) (same_again 0))
set_of zero (suc v) inbox s h = sym (ap (λ (b : Bool). if b then inbox else inbox_of (suc v) s) (later_differs v))
set_of (suc u) zero inbox s h = sym (ap (λ (b : Bool). if b then inbox else s.client) (first_differs u))
set_of (suc u) (suc v) inbox s h = set_at s.upstreams u v inbox _ (omega (arith, h)) ∙ ap (λ (b : Bool). if b then inbox else inbox_of (suc v) s) (both_later v u)

pub same_due : (port other : ℕ) (inbox : Inbox) (s : Standing) → due_to other (with_inbox port inbox s) ≡ due_to other s
same_due zero zero inbox s = refl
same_due zero (suc v) inbox s = refl
same_due (suc u) zero inbox s = refl
same_due (suc u) (suc v) inbox s = refl
