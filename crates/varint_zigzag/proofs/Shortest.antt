-- The fewest bytes of a number, and that no form begins another.
use Rattle.std.proofs.Common.{add-one, ◌≡◌, ℕ, zero, suc, ◌+◌, ◌/◌, ◌%◌, ◌^◌, ◌<◌, ◌≤◌, ◌⊎◌, inl, inr, List, [], ◌∷◌, ◌++◌, length, arith, refl, sym, ◌∙◌, subst, append_assoc, take, set}
use Rattle.std.proofs.lemmas.List.{take_more_set, length-set}
use Rattle.varint_zigzag.specs.Varint.{IsVarint, shortest_in, shortest}
use Rattle.varint_zigzag.specs.Bounds.{shortest_last, shortest_more, shortest_most}
use Rattle.varint_zigzag.proofs.Groups.{more_form}

-- which of the two
small_or_large : (n : ℕ) → (n < 128) ⊎ (128 ≤ n)
small_or_large n = grind arith

-- the fewest bytes are a form of their number
form_in : (groups n : ℕ) → n < 128 ^ suc groups → IsVarint (shortest_in (suc groups) n) n
form_in zero n h = rw (shortest_last zero n (omega arith)) (omega arith, refl)
form_in (suc groups) n h =
    elim (small_or_large n) as (λ _. IsVarint (shortest_in (suc (suc groups)) n) n) [
      | inl small ↦ rw (shortest_last (suc groups) n small) (small, refl)
      | inr large ↦ rw (shortest_more (suc groups) n large) (more_form (n % 128 + 128) (shortest_in (suc groups) (n / 128)) n (n / 128) (omega arith) (omega arith) (omega arith) (form_in groups (n / 128) (omega arith)))
    ]

-- the number behind the first byte of a form of a number from 128 on
behind_large : (b : ℕ) (bs : List ℕ) (n : ℕ) → 128 ≤ n → IsVarint (b ∷ bs) n → IsVarint bs (n / 128)
behind_large b [] n large form = absurd (omega (arith, form.0, form.1))
behind_large b (c ∷ bs) n large form =
    let e : n / 128 ≡ form.2 = omega (arith, form.0, form.1, form.3) in
    subst (λ h. IsVarint (c ∷ bs) h) (sym e) form.4

-- no form of a number has fewer
least_in : (groups n : ℕ) (bytes : List ℕ) → IsVarint bytes n → length (shortest_in groups n) ≤ length bytes
least_in zero n bytes form = omega arith
least_in (suc groups) n [] form = absurd form
least_in (suc groups) n (b ∷ bs) form =
    elim (small_or_large n) as (λ _. length (shortest_in (suc groups) n) ≤ length (b ∷ bs)) [
      | inl small ↦ rw (shortest_last groups n small) (omega arith)
      | inr large ↦ rw (shortest_more groups n large) (omega (arith, least_in groups (n / 128) bs (behind_large b bs n large form)))
    ]

-- seven bits a byte
pub shortest_within : (groups n : ℕ) → n < 2 ^ 64 → n < 128 ^ (groups + 1) → length (shortest n) ≤ groups + 1
shortest_within groups n _ h = rw (add-one) (shortest_most groups n (rw add-one at h))

pub shortest_form : (n : ℕ) → n < 2 ^ 64 → IsVarint (shortest n) n
unfolding shortest
shortest_form n h = form_in 9 n (omega arith)

pub shortest_least : (n : ℕ) (bytes : List ℕ) → n < 2 ^ 64 → IsVarint bytes n → length (shortest n) ≤ length bytes
unfolding shortest
shortest_least n bytes h form = least_in 10 n bytes form

-- no form begins another
pub one_front : (a b x y : List ℕ) (m n : ℕ) → IsVarint a m → IsVarint b n → a ++ x ≡ b ++ y → (a ≡ b) × (m ≡ n)
one_front [] b x y m n f g e = absurd f
one_front (i ∷ a) [] x y m n f g e = absurd g
one_front (i ∷ []) (j ∷ []) x y m n f g e = (cc, cc (f.1, g.1))
one_front (i ∷ []) (j ∷ d ∷ b) x y m n f g e = let h : i ≡ j = cc in absurd (omega (arith, f.0, g.0))
one_front (i ∷ c ∷ a) (j ∷ []) x y m n f g e = let h : i ≡ j = cc in absurd (omega (arith, f.0, g.0))
one_front (i ∷ c ∷ a) (j ∷ d ∷ b) x y m n f g e =
    let h : i ≡ j = cc in
    let t : c ∷ a ++ x ≡ d ∷ b ++ y = cc in
    let rest = one_front (c ∷ a) (d ∷ b) x y f.2 g.2 f.4 g.4 t in
    (cc (rest.0), omega (arith, f.3, g.3, rest.1))

-- ---- the code that writes

pub shortest_small : (n : ℕ) → n < 128 → shortest n ≡ n ∷ []
unfolding shortest
shortest_small n h = shortest_last 9 n h

-- What stands in the buffer and the fewest bytes of the rest are the fewest bytes of the number.
pub record Building (bytes : List ℕ) (count rest n : ℕ) : Type 0 where
  pub groups : ℕ
  pub places : count + suc groups ≡ 10
  pub room : length bytes ≡ 10
  pub small : rest < 128 ^ suc groups
  pub same : take count bytes ++ shortest_in (suc groups) rest ≡ shortest n

pub building : (bytes : List ℕ) (n : ℕ) → length bytes ≡ 10 → n < 2 ^ 64 → Building bytes 0 n n
unfolding shortest
building bytes n room small = record { groups = 9; places = refl; room = room; small = omega arith; same = refl }

one_more : (bytes all : List ℕ) (count groups rest : ℕ) → count < length bytes → 128 ≤ rest → take count bytes ++ shortest_in (suc (suc groups)) rest ≡ all → take (count + 1) (set bytes count (rest % 128 + 128)) ++ shortest_in (suc groups) (rest / 128) ≡ all
one_more bytes all count groups rest some large e =
    rw (take_more_set bytes count (rest % 128 + 128) some)
    (append_assoc (take count bytes) ((rest % 128 + 128) ∷ []) (shortest_in (suc groups) (rest / 128)) ∙ rw (shortest_more (suc groups) rest large) at e)

goes_on : (bytes : List ℕ) (count rest n groups : ℕ) → count + suc groups ≡ 10 → length bytes ≡ 10 → rest < 128 ^ suc groups → take count bytes ++ shortest_in (suc groups) rest ≡ shortest n → 128 ≤ rest → Building (set bytes count (rest % 128 + 128)) (count + 1) (rest / 128) n
goes_on bytes count rest n zero places room small same large = absurd (omega arith)
goes_on bytes count rest n (suc groups) places room small same large = record {
  groups = groups;
  places = omega arith;
  room = length-set bytes count (rest % 128 + 128) ∙ room;
  small = omega arith;
  same = one_more bytes (shortest n) count groups rest (omega arith) large same;
}

pub built_on : (bytes : List ℕ) (count rest n : ℕ) → Building bytes count rest n → 128 ≤ rest → Building (set bytes count (rest % 128 + 128)) (count + 1) (rest / 128) n
built_on bytes count rest n b large = goes_on bytes count rest n b.groups b.places b.room b.small b.same large

-- there is room for one more
pub has_place : (bytes : List ℕ) (count rest n : ℕ) → Building bytes count rest n → count < 10
has_place bytes count rest n b = omega (arith, b.places)

-- the last byte ends it
pub built : (bytes : List ℕ) (count rest n : ℕ) → Building bytes count rest n → rest < 128 → take (count + 1) (set bytes count rest) ≡ shortest n
built bytes count rest n b last =
    take_more_set bytes count rest (omega (arith, b.places, b.room)) ∙ rw (shortest_last b.groups rest last) at b.same
