-- A number that was read is the one that the word spells.
use Rattle.std.proofs.Common.{◌≡◌, ℕ, ◌<◌, ◌^◌, ◌&&◌, List, Option, Some, None, IfSome, Bool, true, false, if◌then◌else◌, decimal, nat_lt, refl, sym, ◌∙◌, ap, arith}
use Rattle.std.specs.Str.Parse.{digits_value}
use Rattle.std.proofs.lemmas.Bool.Decides.{Decides-eqb, nat_tests}
use Rattle.std.proofs.lemmas.Slice.Eq.{slice_eq-Decides}
use Rattle.std.proofs.lemmas.Str.Parse.{numerals_by_value, tells_digits}
use Rattle.std.proofs.lemmas.Fmt.{digits_value-decimal}
use Rattle.decimal_words.specs.Same.{is}
use Rattle.decimal_words.specs.Numbers.{number_of}

same_yes : (word other : List ℕ) → word ≡ other → is word other ≡ true
same_yes word other e = (slice_eq-Decides Decides-eqb word other (is word other) refl).1 e

same_is : (word other : List ℕ) → is word other ≡ true → word ≡ other
same_is word other e = (slice_eq-Decides Decides-eqb word other (is word other) refl).0 e

-- a word that is the spelling of a number spells it
spells : (word : List ℕ) (n : ℕ) → n < 2 ^ 64 → word ≡ decimal n → Some n ≡ number_of word
unfolding number_of
spells word n small e =
    let value : digits_value 10 word ≡ n = ap (digits_value 10) e ∙ digits_value-decimal (numerals_by_value _ tells_digits) n small in
    let same : is (decimal (digits_value 10 word)) word ≡ true = same_yes (decimal (digits_value 10 word)) word (ap decimal value ∙ sym e) in
    grind (arith, nat_tests, value, same, small)

pick : (b c : Bool) (k : ℕ) → (b ≡ true → c ≡ true → ⊥) → None ≡ (if b && c then Some k else None)
pick true true k never = absurd (never refl refl)
pick true false k never = refl
pick false c k never = refl

absent : (word : List ℕ) → ((n : ℕ) → n < 2 ^ 64 → word ≡ decimal n → ⊥) → None ≡ number_of word
unfolding number_of
absent word none =
    let k = digits_value 10 word in
    pick (is (decimal k) word) (nat_lt k (2 ^ 64)) k (λ b c. none k (grind (arith, nat_tests, c)) (sym (same_is (decimal k) word b)))

pub told : (word : List ℕ) (r : Option ℕ) → IfSome r (λ n. word ≡ decimal n) → IfSome r (λ n. n < 2 ^ 64) →
    (r ≡ None → (n : ℕ) → n < 2 ^ 64 → word ≡ decimal n → ⊥) → r ≡ number_of word
told word (Some n) is small none = spells word n small is
told word None is small none = absent word (none refl)
