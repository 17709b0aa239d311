-- How much of some bytes is UTF-8, behind a character.
use Rattle.std.proofs.Common.{◌≡◌, ℕ, zero, suc, ◌+◌, ◌-◌, ◌<◌, ◌≤◌, Bool, true, false, cond, List, ◌++◌, length, take, refl, sym, ap, ◌∙◌, subst, arith, ◌⊎◌, inl, inr, length-append}
use Rattle.std.specs.Str.{IsUtf8, is_utf8}
use Rattle.std.specs.Str.Lossy.{utf8_valid_len, valid_len_up_to}
use Rattle.std.specs.Char.{IsScalar, encode_utf8}
use Rattle.std.proofs.lemmas.Bool.Decides.{nat_tests}
use Rattle.std.specs.Prelude.{nat_lt}
use Rattle.std.proofs.lemmas.List.{take_all}
use Rattle.std.proofs.Math.Seq.{take-append-add}
use Rattle.std.proofs.lemmas.Str.{utf8_valid_len-IsUtf8, utf8_valid_len-IsValidUpTo, utf8_valid_len_le, IsUtf8-from_is_utf8, is_utf8-from_IsUtf8, IsUtf8-append, IsUtf8-encode, IsUtf8-past_char, IsUtf8-nil}
use Rattle.json_text_laws.proofs.Choices.{either_way}

by_size : {P : Type 0} → (v n : ℕ) → (v < n → P) → (n ≤ v → P) → P
by_size {P} v n f g = by_test (either_way (nat_lt v n))
  where
    by_test : (nat_lt v n ≡ true) ⊎ (nat_lt v n ≡ false) → P
    by_test (inl e) = f (grind (arith, nat_tests))
    by_test (inr e) = g (grind (arith, nat_tests))

front_at : (bs : List ℕ) (n : ℕ) (b : Bool) (k : ℕ) → is_utf8 (take n bs) ≡ b → IsUtf8 (take k bs) → IsUtf8 (take (cond b n k) bs)
front_at bs n true k e h = IsUtf8-from_is_utf8 (take n bs) e
front_at bs n false k e h = h

front_up_to : (bs : List ℕ) (k : ℕ) → IsUtf8 (take (valid_len_up_to bs k) bs)
front_up_to bs zero = IsUtf8-nil
front_up_to bs (suc n) = front_at bs (suc n) (is_utf8 (take (suc n) bs)) (valid_len_up_to bs n) refl (front_up_to bs n)

longest_at : (bs : List ℕ) (n m k : ℕ) (b : Bool) → is_utf8 (take (suc n) bs) ≡ b → cond b (suc n) k < m → m ≤ suc n → (k < m → m ≤ n → IsUtf8 (take m bs) → ⊥) → IsUtf8 (take m bs) → ⊥
longest_at bs n m k true e less most h u = omega arith
longest_at bs n m k false e less most h u =
    by_size m (suc n) (λ below. h less (omega arith) u) (λ above.
    let same : m ≡ suc n = omega arith in
    let wrong : false ≡ true = sym e ∙ is_utf8-from_IsUtf8 (take (suc n) bs) (subst (λ j. IsUtf8 (take j bs)) same u) in absurd (cc))

longest_up_to : (bs : List ℕ) (k m : ℕ) → valid_len_up_to bs k < m → m ≤ k → IsUtf8 (take m bs) → ⊥
longest_up_to bs zero m less most u = omega arith
longest_up_to bs (suc n) m less most u = longest_at bs n m (valid_len_up_to bs n) (is_utf8 (take (suc n) bs)) refl less most (λ l p. longest_up_to bs n m l p) u

pub valid_front : (bs : List ℕ) → IsUtf8 (take (utf8_valid_len bs) bs)
unfolding utf8_valid_len
valid_front bs = front_up_to bs (length bs)

valid_longest : (bs : List ℕ) (m : ℕ) → utf8_valid_len bs < m → m ≤ length bs → IsUtf8 (take m bs) → ⊥
unfolding utf8_valid_len
valid_longest bs m less most u = longest_up_to bs (length bs) m less most u

-- a character in front adds its length
module _ (c : ℕ) (scalar : IsScalar c) (x : List ℕ) where
  whole : IsUtf8 x → utf8_valid_len (encode_utf8 c ++ x) ≡ length (encode_utf8 c) + utf8_valid_len x
  whole u =
      utf8_valid_len-IsUtf8 (encode_utf8 c ++ x) (IsUtf8-append (encode_utf8 c) x (IsUtf8-encode c scalar) u) ∙ length-append (encode_utf8 c) x
      ∙ ap (λ n. length (encode_utf8 c) + n) (sym (utf8_valid_len-IsUtf8 x u))

  past : (m : ℕ) → length (encode_utf8 c) ≤ m → take m (encode_utf8 c ++ x) ≡ encode_utf8 c ++ take (m - length (encode_utf8 c)) x
  past m h = let e : length (encode_utf8 c) + (m - length (encode_utf8 c)) ≡ m = omega arith in ap (λ k. take k (encode_utf8 c ++ x)) (sym e) ∙ take-append-add (encode_utf8 c) x (m - length (encode_utf8 c))

  broken_off : (IsUtf8 x → ⊥) → utf8_valid_len (encode_utf8 c ++ x) ≡ length (encode_utf8 c) + utf8_valid_len x
  broken_off no_text =
      let n = utf8_valid_len x in
      let l = length (encode_utf8 c) in
      let most = utf8_valid_len_le x in
      let less : n < length x = by_size n (length x) (λ h. h) (λ h. absurd (no_text (subst IsUtf8 (take_all n x h) (valid_front x)))) in
      utf8_valid_len-IsValidUpTo (encode_utf8 c ++ x) (l + n) (record {
        short = omega (arith, length-append (encode_utf8 c) x);
        front = subst IsUtf8 (sym (take-append-add (encode_utf8 c) x n)) (IsUtf8-append (encode_utf8 c) (take n x) (IsUtf8-encode c scalar) (valid_front x));
        longest = (λ m more u.
            let rest : IsUtf8 (take (m - l) x) = IsUtf8-past_char (take m (encode_utf8 c ++ x)) (take (m - l) x) c u (past m (omega arith)) in
            by_size (m - l) (length x) (λ h. valid_longest x (m - l) (omega arith) (omega arith) rest) (λ h. no_text (subst IsUtf8 (take_all (m - l) x h) rest)));
      })

  pub valid_behind : utf8_valid_len (encode_utf8 c ++ x) ≡ length (encode_utf8 c) + utf8_valid_len x
  valid_behind = by_test (either_way (is_utf8 x))
    where
      by_test : (is_utf8 x ≡ true) ⊎ (is_utf8 x ≡ false) → utf8_valid_len (encode_utf8 c ++ x) ≡ length (encode_utf8 c) + utf8_valid_len x
      by_test (inl e) = whole (IsUtf8-from_is_utf8 x e)
      by_test (inr e) = broken_off (λ u. let wrong : false ≡ true = sym e ∙ is_utf8-from_IsUtf8 x u in absurd (cc))
