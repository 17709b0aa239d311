-- What the levels are after one place was written.
use Rattle.std.proofs.Common.{◌≡◌, ℕ, zero, suc, ◌-◌, ◌+◌, ◌<◌, List, ◌∷◌, length, Some, None, nat_lt, Bool, true, false, refl, ap, ◌∙◌, sym, subst, arith, slice_index_or, slice_set, replicate}
use Rattle.std.proofs.lemmas.Grind.{common_steps}
use Rattle.std.proofs.lemmas.Bool.Decides.{nat_tests}
use Rattle.std.proofs.lemmas.List.{get_or-set_same, get_or-set_other}
use Rattle.type_walk.specs.declared.levels.Level.{Level}
use Rattle.type_walk.specs.declared.levels.Level.TheVariants.{Unknown}
use Rattle.type_walk.specs.declared.levels.Places.{Places}
use Rattle.type_walk.specs.Stack.{rest_of}
use Rattle.type_walk.specs.Places.{level_at, outer_levels, nested}

pub length-levels : (places : Places) (depth : ℕ) → length (outer_levels places depth) ≡ depth
length-levels places zero = refl
length-levels places (suc depth) = ap suc (length-levels places depth)

-- the same levels stand in the same places
pub levels-same : (p q : Places) (depth : ℕ) → ((i : ℕ) → i < depth → level_at q i ≡ level_at p i) → outer_levels q depth ≡ outer_levels p depth
levels-same p q zero same = refl
levels-same p q (suc depth) same =
    let below : outer_levels q depth ≡ outer_levels p depth = levels-same p q depth (λ i h. same i (omega arith)) in
    rw (same depth (omega arith), below) refl

-- one level more was written
pub levels-push : (p q : Places) (depth : ℕ) (level : Level) → level_at q depth ≡ level
    → ((i : ℕ) → (i ≡ depth → ⊥) → level_at q i ≡ level_at p i) → outer_levels q (suc depth) ≡ level ∷ outer_levels p depth
levels-push p q depth level there others =
    let below : outer_levels q depth ≡ outer_levels p depth = levels-same p q depth (λ i h. others i (λ e. omega arith)) in
    rw (there, below) refl

pub length-nested : (top : Level) (outer : Places) (depth : ℕ) → length (nested top outer depth) ≡ depth
length-nested top outer zero = refl
length-nested top outer (suc depth) = ap suc (length-levels outer depth)

-- one level more was opened
pub nested-push : (top : Level) (p q : Places) (depth : ℕ) (level : Level) (now : List Level) → nested top p depth ≡ now → 0 < length now → level_at q (depth - 1) ≡ top
    → ((i : ℕ) → (i ≡ depth - 1 → ⊥) → level_at q i ≡ level_at p i) → nested level q (suc depth) ≡ level ∷ now
nested-push top p q zero level now is some there others = absurd (omega (arith, ap length is))
nested-push top p q (suc depth) level now is some there others =
    let below : suc depth - 1 ≡ depth = omega arith in
    let at : level_at q depth ≡ top = subst (λ (i : ℕ). level_at q i ≡ top) below there in
    let rest : (i : ℕ) → (i ≡ depth → ⊥) → level_at q i ≡ level_at p i = subst (λ (j : ℕ). (i : ℕ) → (i ≡ j → ⊥) → level_at q i ≡ level_at p i) below others in
    ap (λ (up : List Level). level ∷ up) (levels-push p q depth top at rest ∙ is)

-- the innermost level was closed, and the one around it is the innermost
pub nested-pop : (top : Level) (p : Places) (depth : ℕ) (now : List Level) → nested top p depth ≡ now → 0 < depth - 1
    → nested (level_at p (depth - 1 - 1)) p (depth - 1) ≡ rest_of now
nested-pop top p zero now is some = absurd (omega arith)
nested-pop top p (suc zero) now is some = absurd (omega arith)
nested-pop top p (suc (suc depth)) now is some =
    let one : suc (suc depth) - 1 ≡ suc depth = omega arith in
    let two : suc (suc depth) - 1 - 1 ≡ depth = omega arith in
    subst (λ (n : ℕ). nested (level_at p n) p (suc (suc depth) - 1) ≡ rest_of now) (sym two)
    (subst (λ (n : ℕ). nested (level_at p depth) p n ≡ rest_of now) (sym one) (ap rest_of is))

-- the innermost level was written anew
pub nested-set_top : (top : Level) (p : Places) (depth : ℕ) (level : Level) (now : List Level) → nested top p depth ≡ now → 0 < length now
    → nested level p depth ≡ level ∷ rest_of now
nested-set_top top p zero level now is some = absurd (omega (arith, ap length is))
nested-set_top top p (suc depth) level now is some = ap (λ (up : List Level). level ∷ rest_of up) is

blank-by : (n i : ℕ) → slice_index_or (replicate n Unknown) i Unknown ≡ Unknown
blank-by zero i = refl
blank-by (suc n) zero = refl
blank-by (suc n) (suc i) = blank-by n i

-- a far place that was not made ready holds what a blank one does
pub far-blank : (far : List Level) → far ≡ replicate 240 Unknown → (i : ℕ) → slice_index_or far i Unknown ≡ Unknown
far-blank far is i = rw is (blank-by 240 i)

pub set_far-there : (near far new : List Level) (at : ℕ) (level : Level) → new ≡ slice_set far at level → length far ≡ 240 → at < 240
    → level_at (record { near = near; far = Some new }) (at + 16) ≡ level
set_far-there near far new at level is places h = let same = get_or-set_same far at level Unknown (omega (arith, places, h)) in grind (arith, nat_tests, common_steps, same, is)

pub set_far-keeps : (places : Places) (far new : List Level) (at : ℕ) (level : Level) → places.far ≡ Some far → new ≡ slice_set far at level
    → (i : ℕ) → (i ≡ at + 16 → ⊥) → level_at (record { near = places.near; far = Some new }) i ≡ level_at places i
set_far-keeps places far new at level some is i other =
    split (nat_lt i 16) refl
  where
    split : (b : Bool) → nat_lt i 16 ≡ b → level_at (record { near = places.near; far = Some new }) i ≡ level_at places i
    split true e = rw e refl
    split false e =
        let same = get_or-set_other far at (i - 16) level Unknown (λ h. other (grind (arith, nat_tests, e))) in
        rw (e, some, is, same) refl

pub set_far-others : (places : Places) (far : List Level) (at : ℕ) (level : Level) → places.far ≡ None → far ≡ replicate 240 Unknown
    → (i : ℕ) → (i ≡ at + 16 → ⊥) → level_at (record { near = places.near; far = Some (slice_set far at level) }) i ≡ level_at places i
set_far-others places far at level none is i other =
    split (nat_lt i 16) refl
  where
    split : (b : Bool) → nat_lt i 16 ≡ b → level_at (record { near = places.near; far = Some (slice_set far at level) }) i ≡ level_at places i
    split true e = rw e refl
    split false e =
        let same = get_or-set_other far at (i - 16) level Unknown (λ h. other (grind (arith, nat_tests, e))) in
        let plain = far-blank far is (i - 16) in
        rw (e, none, same, plain) refl
