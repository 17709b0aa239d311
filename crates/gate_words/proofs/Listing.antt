-- The targets of a router are read one after another.
use Rattle.std.proofs.Common.{◌≡◌, ℕ, zero, suc, ◌+◌, ◌-◌, ◌<◌, ◌≤◌, List, [], ◌∷◌, ◌++◌, length, take, drop, Option, Some, None, Bool, true, false, true≢false, if◌then◌else◌, nat_lt, sym, ◌∙◌, ap, refl, arith, append_assoc}
use Rattle.std.proofs.lemmas.Bool.Decides.{nat_tests}
use Rattle.gate_fan.specs.declared.fan.Target.{Target}
use Rattle.peer_addresses.specs.Places.{place}
use Rattle.gate_words.specs.Targets.{Adds, AddsOne, AreFew, alone, and_more, are_distinct, if_distinct, target_of, targets_within}
use Rattle.gate_words.specs.declared.limits.TheConstants.{MOST_TARGETS}

abbrev value_or : Option (List Target) → List Target → List Target
value_or None d = d
value_or (Some ts) d = ts

some_same : (xs ys : List Target) → Some xs ≡ Some ys → xs ≡ ys
some_same xs ys e = ap (λ (o : Option (List Target)). value_or o xs) e

-- ---- what is added

pub adds_alone : (t : Option Target) (old new : List Target) (done : Bool) → AddsOne t old new done → Adds (alone t) old new done
adds_alone None old new done p = p
adds_alone (Some t) old new done p = p

pub adds_nothing : (t : Option Target) (more : Option (List Target)) (old new after : List Target) → AddsOne t old new false → Adds (and_more t more) old after false
adds_nothing None more old new after p = refl
adds_nothing (Some t) more old new after p = absurd (true≢false (sym p.0))

pub adds_both : (t : Option Target) (more : Option (List Target)) (old mid new : List Target) (done : Bool) → AddsOne t old mid true → Adds more mid new done → Adds (and_more t more) old new done
adds_both None more old mid new done p q = absurd (true≢false p)
adds_both (Some t) None old mid new done p q = q
adds_both (Some t) (Some ts) old mid new done p q = (q.0, q.1 ∙ (ap (λ (xs : List Target). xs ++ ts) p.1 ∙ append_assoc old (t ∷ []) ts))

-- ---- what is read

pub reads_none : (o : Option (List Target)) (new : List Target) → Adds o [] new false → None ≡ if_distinct o
reads_none None new p = refl
reads_none (Some ts) new p = absurd (true≢false (sym p.0))

pub reads_twice : (o : Option (List Target)) (new : List Target) → Adds o [] new true → are_distinct new ≡ false → None ≡ if_distinct o
reads_twice None new p off = absurd (true≢false p)
reads_twice (Some ts) new p off =
    let same : are_distinct ts ≡ false = ap are_distinct (sym p.1) ∙ off in
    sym (ap (λ (b : Bool). if b then Some ts else None) same)

pub reads_all : (o : Option (List Target)) (new : List Target) → Adds o [] new true → are_distinct new ≡ true → Some new ≡ if_distinct o
reads_all None new p on = absurd (true≢false p)
reads_all (Some ts) new p on =
    let same : are_distinct ts ≡ true = ap are_distinct (sym p.1) ∙ on in
    ap (λ (xs : List Target). Some xs) p.1 ∙ sym (ap (λ (b : Bool). if b then Some ts else None) same)

-- ---- how many there are

alone_few : (t : Option Target) (ts : List Target) → alone t ≡ Some ts → (0 < length ts) × (length ts ≤ 1)
alone_few None ts e = absurd (cc)
alone_few (Some t) ts e =
    let same = ap length (some_same (t ∷ []) ts e) in
    (omega (arith, same), omega (arith, same))

more_few : (n : ℕ) (t : Option Target) (more : Option (List Target)) (ts : List Target) → ((us : List Target) → more ≡ Some us → (0 < length us) × (length us ≤ n + 1)) → and_more t more ≡ Some ts → (0 < length ts) × (length ts ≤ suc n + 1)
more_few n None more ts few e = absurd (cc)
more_few n (Some t) None ts few e = absurd (cc)
more_few n (Some t) (Some us) ts few e =
    let same = ap length (some_same (t ∷ us) ts e) in
    let rest = few us refl in
    (omega (arith, same), omega (arith, same, rest.1))

within_few : (n : ℕ) (word : List ℕ) (ts : List Target) → targets_within n word ≡ Some ts → (0 < length ts) × (length ts ≤ n + 1)
within_few zero word ts e = let r = alone_few (target_of word) ts e in (r.0, omega (arith, r.1))
within_few (suc n) word ts e = by (λ us q. within_few n (drop (place 44 word + 1) word) us q) (nat_lt (place 44 word) (length word)) e
  where
    front : Option Target
    front = target_of (take (place 44 word) word)

    rest : Option (List Target)
    rest = targets_within n (drop (place 44 word + 1) word)

    by : ((us : List Target) → rest ≡ Some us → (0 < length us) × (length us ≤ n + 1)) → (b : Bool) → (if b then and_more front rest else alone (target_of word)) ≡ Some ts → (0 < length ts) × (length ts ≤ suc n + 1)
    by few true is = more_few n front rest ts few is
    by few false is = let r = alone_few (target_of word) ts is in (r.0, omega (arith, r.1))

-- the targets that were added to none
pub added_few : (word : List ℕ) (new : List Target) → Adds (targets_within (MOST_TARGETS - 1) word) [] new true → AreFew new
added_few word new p = by (targets_within (MOST_TARGETS - 1) word) refl p
  where
    by : (o : Option (List Target)) → targets_within (MOST_TARGETS - 1) word ≡ o → Adds o [] new true → AreFew new
    by None is q = absurd (true≢false q)
    by (Some ts) is q =
        let few = within_few (MOST_TARGETS - 1) word ts is in
        let same = ap length q.1 in
        (omega (arith, few.0, same), omega (arith, few.1, same))

-- ---- by the first comma

is_over : (a b : ℕ) → b ≤ a → nat_lt a b ≡ false
is_over a b over = grind (arith, nat_tests, over)

is_under : (a b : ℕ) → a < b → nat_lt a b ≡ true
is_under a b under = grind (arith, nat_tests, under)

pub last_one : (more : ℕ) (word : List ℕ) → length word ≤ place 44 word → targets_within more word ≡ alone (target_of word)
last_one zero word over = refl
last_one (suc more) word over =
    ap (λ (b : Bool). if b then and_more (target_of (take (place 44 word) word)) (targets_within more (drop (place 44 word + 1) word)) else alone (target_of word)) (is_over (place 44 word) (length word) over)

pub one_of_more : (more : ℕ) (word : List ℕ) → (more ≡ 0 → ⊥) → place 44 word < length word → targets_within more word ≡ and_more (target_of (take (place 44 word) word)) (targets_within (more - 1) (drop (place 44 word + 1) word))
one_of_more zero word some under = absurd (some refl)
one_of_more (suc more) word some under =
    let before : suc more - 1 ≡ more = omega arith in
    ap (λ (b : Bool). if b then and_more (target_of (take (place 44 word) word)) (targets_within more (drop (place 44 word + 1) word)) else alone (target_of word)) (is_under (place 44 word) (length word) under)
    ∙ ap (λ (n : ℕ). and_more (target_of (take (place 44 word) word)) (targets_within n (drop (place 44 word + 1) word))) (sym before)
