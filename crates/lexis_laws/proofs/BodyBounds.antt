-- How long the number behind a sign is, and that none at the front is longer.
use Rattle.std.proofs.Common.{◌≡◌, ℕ, ◌+◌, ◌<◌, ◌≤◌, true, false, cond, List, [], ◌∷◌, ◌++◌, length, drop, refl, sym, ap, ◌∙◌, subst, arith, ◌⊎◌, inl, inr, length-append}
use Rattle.std.specs.Prelude.{nat_lt, ◌==◌, ◌&&◌}
use Rattle.std.specs.List.{prefix_len, list_all}
use Rattle.std.proofs.lemmas.Bool.{cond-true, cond-false, lt-ltb, ne_eqb, and_parts, and_from}
use Rattle.std.proofs.lemmas.Bool.Decides.{nat_tests}
use Rattle.idl_lexer.specs.Bytes.{is_digit, is_hex, is_sign}
use Rattle.idl_lexer.specs.Grammar.{IsDigits, IsSign, IsMantissa, IsExponent}
use Rattle.idl_lexer.specs.Grammar as grammar
use Rattle.idl_lexer.specs.Pieces.{is_e, sign_len, hex_len, mantissa_len, with_fraction, exponent_len, exponent_of}
use Rattle.idl_lexer.specs.declared.token.TokenForm.{TokenForm}
use Rattle.lexis_laws.proofs.Fronts.{Apart, true_false, same_head, same_tail, drop_front, regroup, run_cut, run_least, all_joined, all_as}
use Rattle.lexis_laws.proofs.Signs.{sign_there}
use Rattle.lexis_laws.proofs.Bodies.{zero_or_some, hex_on, hex_begins, is_plain, digit_plain, e_plain, no_hex, mantissa_point, mantissa_whole, mantissa_least, fraction_some, exponent_on, exponent_of_some}
use Rattle.lexis_laws.proofs.Firsts.{IsNumber, Begins, is_start, start_apart, start_of, digits_begin, begins_more}
use Rattle.lexis_laws.proofs.Firsts as numbers

abbrev pub unsigned_len : List ℕ → ℕ
unsigned_len bytes = cond (mantissa_len bytes == 0) 0 (mantissa_len bytes + exponent_len (drop (mantissa_len bytes) bytes))

-- hexadecimal digits with 0x before them, or a mantissa and its exponent
abbrev pub body_len : List ℕ → ℕ
body_len bytes = cond (nat_lt 0 (hex_len bytes)) (2 + hex_len bytes) (unsigned_len bytes)

pub body_hex : (bytes : List ℕ) → 0 < hex_len bytes → body_len bytes ≡ 2 + hex_len bytes
body_hex bytes h = cond-true (nat_lt 0 (hex_len bytes)) (2 + hex_len bytes) (unsigned_len bytes) (lt-ltb 0 (hex_len bytes) h)

pub body_plain : (bytes : List ℕ) → hex_len bytes ≡ 0 → body_len bytes ≡ unsigned_len bytes
body_plain bytes e = ap (λ n. cond (nat_lt 0 n) (2 + n) (unsigned_len bytes)) e

pub body_none : (bytes : List ℕ) → hex_len bytes ≡ 0 → mantissa_len bytes ≡ 0 → body_len bytes ≡ 0
body_none bytes e m = body_plain bytes e ∙ ap (λ n. cond (n == 0) 0 (n + exponent_len (drop n bytes))) m

pub body_some : (bytes : List ℕ) → hex_len bytes ≡ 0 → 0 < mantissa_len bytes → body_len bytes ≡ mantissa_len bytes + exponent_len (drop (mantissa_len bytes) bytes)
body_some bytes e m =
    body_plain bytes e
    ∙ cond-false (mantissa_len bytes == 0) 0 (mantissa_len bytes + exponent_len (drop (mantissa_len bytes) bytes)) (ne_eqb (mantissa_len bytes) 0 (λ z. not_none (mantissa_len bytes) m z))
  where
    not_none : (n : ℕ) → 0 < n → n ≡ 0 → ⊥
    not_none n h z = omega (arith, h, z)

-- ---- what a body of each shape is found as

few_digits : (digits rest tail : List ℕ) → list_all is_digit digits ≡ true → digits ++ rest ≡ 48 ∷ 120 ∷ tail → length digits ≤ 1
few_digits [] rest tail all e = omega arith
few_digits (x ∷ []) rest tail all e = omega arith
few_digits (x ∷ y ∷ ds) rest tail all e =
    let second : y ≡ 120 = same_head y 120 (ds ++ rest) tail (same_tail x 48 (y ∷ (ds ++ rest)) (120 ∷ tail) e) in
    let digit = and_parts (is_digit y) (list_all is_digit ds) (and_parts (is_digit x) (is_digit y && list_all is_digit ds) all).1 in
    absurd (true_false (is_digit 120) (ap is_digit (sym second) ∙ digit.0) refl)

decimal_bound : (digits rest : List ℕ) → IsDigits digits → length digits ≤ body_len (digits ++ rest)
decimal_bound digits rest d = by_hex (zero_or_some (hex_len (digits ++ rest)))
  where
    by_hex : (hex_len (digits ++ rest) ≡ 0) ⊎ (0 < hex_len (digits ++ rest)) → length digits ≤ body_len (digits ++ rest)
    by_hex (inl e) =
        let runs = run_least is_digit digits rest d.all in
        let least = mantissa_least (digits ++ rest) in
        let some = d.some in
        let more : 0 < mantissa_len (digits ++ rest) = omega (arith, runs, least, some) in
        let size = body_some (digits ++ rest) e more in
        omega (arith, runs, least, size)
    by_hex (inr h) =
        let few = few_digits digits rest (drop 2 (digits ++ rest)) d.all (hex_begins (digits ++ rest) h) in
        let size = body_hex (digits ++ rest) h in
        omega (arith, few, size)

hexadecimal_bound : (digits rest : List ℕ) → 0 < length digits → list_all is_hex digits ≡ true → length (48 ∷ 120 ∷ digits) ≤ body_len (48 ∷ 120 ∷ (digits ++ rest))
hexadecimal_bound digits rest some all =
    let runs = run_least is_hex digits rest all in
    let many = hex_on (digits ++ rest) in
    let more : 0 < hex_len (48 ∷ 120 ∷ (digits ++ rest)) = omega (arith, runs, many, some) in
    let size = body_hex (48 ∷ 120 ∷ (digits ++ rest)) more in
    omega (arith, runs, many, size)

plain_digits : (digits : List ℕ) → list_all is_digit digits ≡ true → list_all is_plain digits ≡ true
plain_digits digits all = all_as is_digit is_plain digit_plain digits all

pointed_plain : (front digits : List ℕ) → list_all is_digit front ≡ true → list_all is_digit digits ≡ true → list_all is_plain (front ++ 46 ∷ digits) ≡ true
pointed_plain front digits a d = all_joined is_plain front (46 ∷ digits) (plain_digits front a) (plain_digits digits d)

pub pointed_no_hex : (front digits rest : List ℕ) → list_all is_digit front ≡ true → IsDigits digits → hex_len (front ++ 46 ∷ (digits ++ rest)) ≡ 0
pointed_no_hex front digits rest a d =
    let some = d.some in
    ap hex_len (sym (regroup front (46 ∷ digits) rest))
    ∙ no_hex (front ++ 46 ∷ digits) rest (pointed_plain front digits a d.all) (omega (arith, some, length-append front (46 ∷ digits)))

pointed_bound : (front digits rest : List ℕ) → list_all is_digit front ≡ true → IsDigits digits → length (front ++ 46 ∷ digits) ≤ body_len (front ++ 46 ∷ (digits ++ rest))
pointed_bound front digits rest a d =
    let bytes = front ++ 46 ∷ (digits ++ rest) in
    let n = prefix_len is_digit (digits ++ rest) in
    let runs = run_least is_digit digits rest d.all in
    let some = d.some in
    let more : 0 < n = omega (arith, runs, some) in
    let many : mantissa_len bytes ≡ length front + 1 + n = mantissa_point front (digits ++ rest) a ∙ fraction_some (length front) n more in
    let whole : 0 < mantissa_len bytes = omega (arith, many) in
    let size = body_some bytes (pointed_no_hex front digits rest a d) whole in
    let total = length-append front (46 ∷ digits) in
    omega (arith, runs, many, size, total)

-- the mantissa ends where another byte stands behind it
pub mantissa_exact : (mantissa rest : List ℕ) → IsMantissa mantissa → Apart is_digit rest → Apart (λ b. b == 46) rest → mantissa_len (mantissa ++ rest) ≡ length mantissa
mantissa_exact mantissa rest (grammar.whole digits d) apart point = mantissa_whole digits rest d.all apart point
mantissa_exact mantissa rest (grammar.pointed front digits a d) apart point =
    let total = length-append front (46 ∷ digits) in
    let same : length front + 1 + length digits ≡ length (front ++ 46 ∷ digits) = omega (arith, total) in
    ap mantissa_len (regroup front (46 ∷ digits) rest) ∙ mantissa_point front (digits ++ rest) a
    ∙ ap (with_fraction (length front)) (run_cut is_digit digits rest d.all apart) ∙ fraction_some (length front) (length digits) d.some ∙ same

mantissa_plain : (mantissa : List ℕ) → IsMantissa mantissa → list_all is_plain mantissa ≡ true
mantissa_plain mantissa (grammar.whole digits d) = plain_digits digits d.all
mantissa_plain mantissa (grammar.pointed front digits a d) = pointed_plain front digits a d.all

pub mantissa_some : (mantissa : List ℕ) → IsMantissa mantissa → 0 < length mantissa
mantissa_some mantissa (grammar.whole digits d) = d.some
mantissa_some mantissa (grammar.pointed front digits a d) = omega (arith, length-append front (46 ∷ digits))

pub raised_no_hex : (mantissa : List ℕ) (e : ℕ) (rest : List ℕ) → IsMantissa mantissa → is_e e ≡ true → hex_len (mantissa ++ e ∷ rest) ≡ 0
raised_no_hex mantissa e rest m is =
    let some = mantissa_some mantissa m in
    ap hex_len (sym (regroup mantissa (e ∷ []) rest))
    ∙ no_hex (mantissa ++ e ∷ []) rest (all_joined is_plain mantissa (e ∷ []) (mantissa_plain mantissa m) (and_from (is_plain e) true (e_plain e is) refl)) (omega (arith, some, length-append mantissa (e ∷ [])))

pub e_no_digit : (e : ℕ) → is_e e ≡ true → is_digit e ≡ false
e_no_digit e is = grind (arith, nat_tests)

e_no_point : (e : ℕ) → is_e e ≡ true → (e == 46) ≡ false
e_no_point e is = grind (arith, nat_tests)

-- with an exponent at least that long, and just that long where no digit stands behind
pub raised_len : (mantissa : List ℕ) (e : ℕ) (sign tail : List ℕ) → IsMantissa mantissa → is_e e ≡ true → sign_len (sign ++ tail) ≡ length sign
    → body_len (mantissa ++ e ∷ (sign ++ tail)) ≡ length mantissa + exponent_of (length sign) (prefix_len is_digit tail)
raised_len mantissa e sign tail m is many =
    let bytes = mantissa ++ e ∷ (sign ++ tail) in
    let whole : mantissa_len bytes ≡ length mantissa = mantissa_exact mantissa (e ∷ (sign ++ tail)) m (e_no_digit e is) (e_no_point e is) in
    let some : 0 < mantissa_len bytes = subst (λ n. 0 < n) (sym whole) (mantissa_some mantissa m) in
    body_some bytes (raised_no_hex mantissa e (sign ++ tail) m is) some
    ∙ ap (λ n. n + exponent_len (drop n bytes)) whole
    ∙ ap (λ xs. length mantissa + exponent_len xs) (drop_front mantissa (e ∷ (sign ++ tail)))
    ∙ ap (λ n. length mantissa + n) (exponent_on e sign tail is many)

pub is_e_of : (e : ℕ) → (e ≡ 101) ⊎ (e ≡ 69) → is_e e ≡ true
is_e_of e (inl p) = ap is_e p
is_e_of e (inr p) = ap is_e p

digits_apart : (digits rest : List ℕ) → IsDigits digits → Apart is_sign (digits ++ rest)
digits_apart digits rest d = start_apart (digits ++ rest) (begins_more is_start digits rest (start_of digits (digits_begin digits d.all d.some)))

raised_bound : (mantissa exponent rest : List ℕ) → IsMantissa mantissa → IsExponent exponent → length (mantissa ++ exponent) ≤ body_len (mantissa ++ (exponent ++ rest))
raised_bound mantissa exponent rest m (grammar.exponent e sign digits is s d) =
    let runs = run_least is_digit digits rest d.all in
    let some = d.some in
    let n = prefix_len is_digit (digits ++ rest) in
    let more : 0 < n = omega (arith, runs, some) in
    let bytes = mantissa ++ e ∷ (sign ++ (digits ++ rest)) in
    let size : body_len bytes ≡ length mantissa + (1 + length sign + n) =
    raised_len mantissa e sign (digits ++ rest) m (is_e_of e is) (sign_there sign (digits ++ rest) s (digits_apart digits rest d)) ∙ ap (λ k. length mantissa + k) (exponent_of_some (length sign) n more) in
    let total = length-append mantissa (e ∷ (sign ++ digits)) in
    let inner = length-append sign digits in
    let least : length (mantissa ++ e ∷ (sign ++ digits)) ≤ body_len bytes = omega (arith, size, total, inner, runs) in
    subst (λ xs. length (mantissa ++ e ∷ (sign ++ digits)) ≤ body_len (mantissa ++ e ∷ xs)) (sym (regroup sign digits rest)) least

pub body_bound : (form : TokenForm) (sign body rest : List ℕ) → IsNumber form sign body → length body ≤ body_len (body ++ rest)
body_bound form sign body rest (numbers.decimal s digits z d i) = decimal_bound digits rest d
body_bound form sign body rest (numbers.hexadecimal s digits z n a i) = hexadecimal_bound digits rest n a
body_bound form sign body rest (numbers.pointed s front digits i a d) =
    subst (λ xs. length (front ++ 46 ∷ digits) ≤ body_len xs) (sym (regroup front (46 ∷ digits) rest)) (pointed_bound front digits rest a d)
body_bound form sign body rest (numbers.raised s mantissa exponent i m e) =
    subst (λ xs. length (mantissa ++ exponent) ≤ body_len xs) (sym (regroup mantissa exponent rest)) (raised_bound mantissa exponent rest m e)
