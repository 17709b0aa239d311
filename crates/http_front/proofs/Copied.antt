-- Copies of a list that is two lists one after another.
use Rattle.std.proofs.Common.{◌≡◌, ℕ, ◌+◌, ◌-◌, ◌≤◌, ◌<◌, ◌⊎◌, inl, inr, List, [], ◌∷◌, ◌++◌, length, take, drop, min, ap, sym, ◌∙◌, refl, arith, append_assoc}
use Rattle.gate_io.specs.Buffer.{Buffer}
use Rattle.std.proofs.lemmas.Bool.{cases_lt}
use Rattle.std.proofs.lemmas.List.{drop-drop, drop_at, take_all, take-append-le, drop-append-le, length-drop, length-take}
use Rattle.std.proofs.Math.Seq.{take-append-add}

-- from a place of the second on
pub second : (at n size : ℕ) (xs ys : List ℕ) → length xs ≡ size → size ≤ at → take n (drop (at - size) ys) ≡ take n (drop at (xs ++ ys))
second at n size xs ys long le =
    ap (λ (zs : List ℕ). take n (drop (at - size) zs)) (sym (drop_at xs ys size long))
    ∙ (ap (take n) (drop-drop (at - size) size (xs ++ ys)) ∙ ap (λ (k : ℕ). take n (drop k (xs ++ ys))) (sum at size le))
  where
    sum : (at size : ℕ) → size ≤ at → size + (at - size) ≡ at
    sum at size le = omega (arith, le)

-- of the first, and of the second where the first is copied to its end
pub both : (at n m : ℕ) (xs ys : List ℕ) → at ≤ length xs → n ≤ length xs - at → (m ≡ 0) ⊎ (n ≡ length xs - at) → take n (drop at xs) ++ take m ys ≡ take (n + m) (drop at (xs ++ ys))
both at n m xs ys le few (inl none) =
    ap (λ (k : ℕ). take n (drop at xs) ++ take k ys) none
    ∙ (nil_behind (take n (drop at xs))
    ∙ (sym (take-append-le n (drop at xs) ys (omega (arith, few, length-drop at xs)))
    ∙ (ap (λ (zs : List ℕ). take n zs) (sym (drop-append-le at xs ys le)) ∙ ap (λ (k : ℕ). take k (drop at (xs ++ ys))) (sum n m none))))
  where
    sum : (n m : ℕ) → m ≡ 0 → n ≡ n + m
    sum n m is = omega (arith, is)

    nil_behind : (zs : List ℕ) → zs ++ [] ≡ zs
    nil_behind [] = refl
    nil_behind (z ∷ zs) = ap (λ (l : List ℕ). z ∷ l) (nil_behind zs)
both at n m xs ys le few (inr all) =
    ap (λ (zs : List ℕ). zs ++ take m ys) (take_all n (drop at xs) (omega (arith, all, length-drop at xs)))
    ∙ (sym (take-append-add (drop at xs) ys m)
    ∙ (ap (λ (k : ℕ). take (k + m) (drop at xs ++ ys)) (length-drop at xs ∙ sym all) ∙ ap (take (n + m)) (sym (drop-append-le at xs ys le))))

-- three pieces behind what a buffer holds
pub laid_behind : (a b c d : Buffer) (xs ys zs : List ℕ) → b ≡ record a { bytes = a.bytes ++ xs } → c ≡ record b { bytes = b.bytes ++ ys } → d ≡ record c { bytes = c.bytes ++ zs } → d ≡ record a { bytes = a.bytes ++ (xs ++ ys ++ zs) }
laid_behind a b c d xs ys zs p q r =
    r ∙ (ap (λ (k : Buffer). record k { bytes = k.bytes ++ zs }) (q ∙ ap (λ (k : Buffer). record k { bytes = k.bytes ++ ys }) p)
    ∙ ap (λ (l : List ℕ). record a { bytes = l }) (ap (λ (l : List ℕ). l ++ zs) (append_assoc a.bytes xs ys) ∙ append_assoc a.bytes (xs ++ ys) zs))

-- a copy of the first, and behind it one of the second
pub copied_both : (at n m : ℕ) (xs ys into after rest : List ℕ) (size : ℕ) → at ≤ length xs → n ≡ min (length xs - at) size → take n into ≡ take n (drop at xs)
    → m ≡ min (length ys - 0) (length (take (length into - n) (drop n into))) → take m after ≡ take m (drop 0 ys)
    → length into ≡ size → length after ≡ length (take (length into - n) (drop n into)) → take (n + m) (take n into ++ (after ++ rest)) ≡ take (n + m) (drop at (xs ++ ys))
copied_both at n m xs ys into after rest size le count copied count' copied' long long' =
    ap (λ (k : ℕ). take (k + m) (take n into ++ (after ++ rest))) (sym taken)
    ∙ (take-append-add (take n into) (after ++ rest) m
    ∙ (ap (λ (zs : List ℕ). take n into ++ zs) (take-append-le m after rest (omega (arith, count', long')) ∙ copied')
    ∙ (ap (λ (zs : List ℕ). zs ++ take m ys) copied ∙ both at n m xs ys le (omega (arith, count)) (ends (cases_lt size (length xs - at))))))
  where
    taken : length (take n into) ≡ n
    taken = length-take n into ∙ omega (arith, long, count)

    left : length (take (length into - n) (drop n into)) ≡ size - n
    left = omega (arith, long, length-take (length into - n) (drop n into), length-drop n into)

    ends : (size < length xs - at) ⊎ (length xs - at ≤ size) → (m ≡ 0) ⊎ (n ≡ length xs - at)
    ends (inl less) = inl (omega (arith, less, count, count', left))
    ends (inr enough) = inr (omega (arith, enough, count))
