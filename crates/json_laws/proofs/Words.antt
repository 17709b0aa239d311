-- Each word of TJSON is read, whatever stands behind it that goes on with no number.
use Rattle.std.proofs.Common.{◌≡◌, ℕ, ℤ, zero, suc, pos, negsuc, ◌+◌, ◌*◌, ◌/◌, ◌%◌, ◌-◌, ◌<◌, ◌≤◌, ◌^◌, ◌≤ℤ◌, Bool, true, false, cond, List, [], ◌∷◌, ◌++◌, length, take, Some, None, Ok, refl, ap, ◌∙◌, sym, subst, arith, ◌⊎◌, inl, inr, length-append}
use Rattle.std.specs.Prelude.{slice_index, nat_lt, nat_le, int_lt, ◌==◌, ◌||◌, FitsSigned}
use Rattle.std.specs.Int.{w8, w16, w32, w64}
use Rattle.std.specs.Fmt.{decimal}
use Rattle.std.specs.List.{prefix_len}
use Rattle.std.proofs.lemmas.Bool.Decides.{nat_tests}
use Rattle.std.proofs.lemmas.Fmt.{decimal_by_steps}
use Rattle.std.proofs.lemmas.List.{append-nil}
use Rattle.thrift_value.specs.declared.kind.Kind.{Kind}
use Rattle.thrift_value.specs.declared.kind.Kind.TheVariants as kinds
use Rattle.protocol_traits.specs.declared.fault.Reason.{Reason}
use Rattle.protocol_traits.specs.declared.fault.Reason.TheVariants as reasons
use Rattle.json_text.specs.declared.scanned.Scan.{Scan as Text}
use Rattle.json_text.specs.declared.scanned.Scan.TheVariants.{Whole, Short, Bad}
use Rattle.json_text.specs.Scan.{is_white, moved}
use Rattle.json_text.specs.Int.{is_int_byte, within, run_scan, int_run, int_at, integer}
use Rattle.json_text.specs.Number.{is_number_byte, number_run, number_at}
use Rattle.json_text.specs.Text.{text_at}
use Rattle.json_text.specs.Blob.{blob_at}
use Rattle.json_text.specs.Grammar.{IsDigit, AreDigits, IsCounting, value_from, value_of, SpellsInt, IsMinus, IsSign, IsWhole, IsFraction, IsExponent, IsNumber, SpellsText, SpellsBlob}
use Rattle.json_text_laws.specs.Judged.{Judges, GoodNumber}
use Rattle.json_text_laws.proofs.Choices.{cond_true, cond_false}
use Rattle.json_text_laws.proofs.Integers.{Fits64, int_found}
use Rattle.json_text_laws.proofs.NumberLaw.{number_judged}
use Rattle.json_text_laws.proofs.TextLaw.{text_judged}
use Rattle.json_text_laws.proofs.BlobLaw.{good_read}
use Rattle.json_text_laws.proofs.Parts.{All, Apart, all_append, cut_len, take_front, at_seam, append_more}
use Rattle.json_protocol.specs.Scan.{fault, item}
use Rattle.json_protocol.specs.Words.{kind_at, wide_kind_at, large_kind_at, int_in, closed, quoted_int_in, whole_in, number_in, quoted_number_in, text_in, blob_in}
use Rattle.json_protocol.specs.Values.{size_in}
use Rattle.json_protocol.specs.Writing.{quoted, number}
use Rattle.json_protocol.specs.Grammar.{Tokens, IsNamed, name_token}
use Rattle.json_laws.proofs.Marks.{IsSolid, IsClear, lies_apart, IsWord}

-- ---- integers

digit_passes : (x : ℕ) → IsDigit x → (is_int_byte x ≡ true) × (is_number_byte x ≡ true) × (is_white x ≡ false)
digit_passes x d = let low = d.0 in let high = d.1 in (grind (arith, nat_tests), grind (arith, nat_tests), grind (arith, nat_tests))

digits_pass : (xs : List ℕ) → AreDigits xs → All is_int_byte xs × All is_number_byte xs
digits_pass [] h = (tt, tt)
digits_pass (x ∷ xs) h = let p = digit_passes x h.0 in let q = digits_pass xs h.1 in ((p.0, q.0), (p.1, q.1))

counting_digits : (xs : List ℕ) → IsCounting xs → AreDigits xs
counting_digits [] h = absurd h
counting_digits (x ∷ xs) h = ((omega (arith, h.0), h.1), h.2)

pub int_passes : (z : ℤ) (digits : List ℕ) → SpellsInt z digits → All is_int_byte digits
int_passes z digits (inl e) = subst (All is_int_byte) (sym e.0) (refl, tt)
int_passes z digits (inr (inl e)) = (digits_pass digits (counting_digits digits e.0)).0
int_passes z digits (inr (inr (xs, is, counting, value))) = subst (All is_int_byte) (sym is) (refl, (digits_pass xs (counting_digits xs counting)).0)

digits_solid : (xs : List ℕ) → IsCounting xs → IsSolid xs
digits_solid [] h = absurd h
digits_solid (x ∷ xs) h = (digit_passes x (omega (arith, h.0), h.1)).2

pub int_solid : (z : ℤ) (digits : List ℕ) → SpellsInt z digits → IsSolid digits
int_solid z digits (inl e) = subst IsSolid (sym e.0) refl
int_solid z digits (inr (inl e)) = digits_solid digits e.0
int_solid z digits (inr (inr (xs, is, counting, value))) = subst IsSolid (sym is) refl

number_no_int : (x : ℕ) → is_number_byte x ≡ false → is_int_byte x ≡ false
number_no_int x e = grind (arith, nat_tests)

pub int_apart : (rest : List ℕ) → Apart is_number_byte rest → Apart is_int_byte rest
int_apart [] h = tt
int_apart (x ∷ xs) h = number_no_int x h

run_is : (p : ℕ → Bool) (digits rest : List ℕ) → All p digits → Apart p rest → take (prefix_len p (digits ++ rest)) (digits ++ rest) ≡ digits
run_is p digits rest all apart = ap (λ n. take n (digits ++ rest)) (cut_len p digits rest all apart) ∙ take_front digits rest

-- an integer of this range, spelled so
pub record IsIn (low high z : ℤ) (digits : List ℕ) : Type 0 where
  pub spells : SpellsInt z digits
  pub least : low ≤ℤ z
  pub most : z ≤ℤ high
  pub fits : Fits64 z

within_found : (low high z : ℤ) (digits : List ℕ) → IsIn low high z digits → within low high (Some z) ≡ Some z
within_found low high z digits i = let l = i.least in let m = i.most in cond_false (int_lt z low || int_lt high z) None (Some z) (grind (arith, nat_tests))

int_scan : (low high z : ℤ) (digits rest : List ℕ) → IsIn low high z digits → Apart is_int_byte rest → int_at low high (digits ++ rest) ≡ Whole z (length digits)
unfolding int_at
int_scan low high z digits rest i apart =
    let run : int_run (digits ++ rest) ≡ digits = run_is is_int_byte digits rest (int_passes z digits i.spells) apart in
    ap (λ r. run_scan low r (digits ++ rest) (within low high (integer r))) run
    ∙ ap (λ v. run_scan low digits (digits ++ rest) (within low high v)) (int_found z digits i.spells i.fits)
    ∙ ap (run_scan low digits (digits ++ rest)) (within_found low high z digits i)

pub none_more : {X : Type 0} → (reason : Reason) (bytes : List ℕ) (scan : Text X) (x : X) (n : ℕ) → scan ≡ Whole x n → item reason bytes (moved 0 scan) ≡ Ok (x, n)
none_more reason bytes scan x n e = ap (λ s. item reason bytes (moved 0 s)) e ∙ ap (λ k. Ok (x, k)) (omega arith)

pub int_read : (reason : Reason) (low high z : ℤ) (digits rest : List ℕ) → IsIn low high z digits → Apart is_int_byte rest → int_in reason low high (digits ++ rest) ≡ Ok (z, length digits)
unfolding int_in
int_read reason low high z digits rest i apart = none_more reason (digits ++ rest) (int_at low high (digits ++ rest)) z (length digits) (int_scan low high z digits rest i apart)

-- what is read between two quotes
closes : {X : Type 0} → (reason : Reason) (word rest : List ℕ) (scan : Text X) (x : X) → scan ≡ Whole x (length word) → closed reason (34 ∷ (word ++ 34 ∷ rest)) (moved 1 scan) ≡ Ok (x, length word + 2)
closes {X} reason word rest scan x e =
    let bytes = 34 ∷ (word ++ 34 ∷ rest) in
    let at = 1 + length word in
    let size : length bytes ≡ suc (length word + suc (length rest)) = ap suc (length-append word (34 ∷ rest)) in
    let some : nat_le (length bytes) at ≡ false = grind (arith, nat_tests) in
    let step : at ≡ suc (length word) = omega arith in
    let there : slice_index bytes at ≡ 34 = ap (slice_index bytes) step ∙ at_seam word 34 rest in
    let quote : (slice_index bytes at == 34) ≡ true = grind (arith, nat_tests) in
    let good = cond (slice_index bytes at == 34) (Ok (x, at + 1)) (fault 0 reason) in
    ap (λ s. closed reason bytes (moved 1 s)) e ∙ cond_false (nat_le (length bytes) at) (fault (length bytes) reasons.Truncated) good some ∙ cond_true (slice_index bytes at == 34) (Ok (x, at + 1)) (fault 0 reason) quote ∙ ap (λ k. Ok (x, k)) (omega arith)

pub quoted_append : (word rest : List ℕ) → quoted word ++ rest ≡ 34 ∷ (word ++ 34 ∷ rest)
quoted_append word rest = ap (λ b. 34 ∷ b) (append_more word (34 ∷ []) rest)

pub quoted_length : (word : List ℕ) → length word + 2 ≡ length (quoted word)
quoted_length word = omega (arith, length-append word (34 ∷ []))

behind_quote : (reason : Reason) (low high : ℤ) (all : List ℕ) → quoted_int_in reason low high (34 ∷ all) ≡ closed reason (34 ∷ all) (moved 1 (int_at low high all))
unfolding quoted_int_in
behind_quote reason low high all =
    let some : nat_lt (length (34 ∷ all)) 1 ≡ false = grind (arith, nat_tests) in
    cond_false (nat_lt (length (34 ∷ all)) 1) (fault 0 reasons.Truncated) (closed reason (34 ∷ all) (moved 1 (int_at low high all))) some

pub quoted_read : (reason : Reason) (low high z : ℤ) (digits rest : List ℕ) → IsIn low high z digits → quoted_int_in reason low high (quoted digits ++ rest) ≡ Ok (z, length (quoted digits))
quoted_read reason low high z digits rest i =
    ap (quoted_int_in reason low high) (quoted_append digits rest) ∙ behind_quote reason low high (digits ++ 34 ∷ rest)
    ∙ closes reason digits rest (int_at low high (digits ++ 34 ∷ rest)) z (int_scan low high z digits (34 ∷ rest) i refl) ∙ ap (λ k. Ok (z, k)) (quoted_length digits)

-- ---- numbers

minus_passes : (bytes : List ℕ) → IsMinus bytes → All is_number_byte bytes
minus_passes bytes (inl e) = subst (All is_number_byte) (sym e) tt
minus_passes bytes (inr e) = subst (All is_number_byte) (sym e) (refl, tt)

sign_passes : (bytes : List ℕ) → IsSign bytes → All is_number_byte bytes
sign_passes bytes (inl e) = subst (All is_number_byte) (sym e) tt
sign_passes bytes (inr (inl e)) = subst (All is_number_byte) (sym e) (refl, tt)
sign_passes bytes (inr (inr e)) = subst (All is_number_byte) (sym e) (refl, tt)

whole_passes : (bytes : List ℕ) → IsWhole bytes → All is_number_byte bytes
whole_passes bytes (inl e) = subst (All is_number_byte) (sym e) (refl, tt)
whole_passes bytes (inr h) = (digits_pass bytes (counting_digits bytes h)).1

fraction_passes : (bytes : List ℕ) → IsFraction bytes → All is_number_byte bytes
fraction_passes bytes (inl e) = subst (All is_number_byte) (sym e) tt
fraction_passes bytes (inr (digits, is, are, some)) = subst (All is_number_byte) (sym is) (refl, (digits_pass digits are).1)

mark_passes : (x : ℕ) → (x ≡ 101) ⊎ (x ≡ 69) → is_number_byte x ≡ true
mark_passes x (inl e) = grind (arith, nat_tests)
mark_passes x (inr e) = grind (arith, nat_tests)

exponent_passes : (bytes : List ℕ) → IsExponent bytes → All is_number_byte bytes
exponent_passes bytes (inl e) = subst (All is_number_byte) (sym e) tt
exponent_passes bytes (inr (x, sign, digits, is, which, s, are, some)) =
    subst (All is_number_byte) (sym is) (mark_passes x which, all_append is_number_byte sign digits (sign_passes sign s) (digits_pass digits are).1)

pub number_passes : (bytes : List ℕ) → IsNumber bytes → All is_number_byte bytes
number_passes bytes (minus, whole, fraction, exponent, is, m, w, f, e) =
    subst (All is_number_byte) (sym is) (all_append is_number_byte minus (whole ++ (fraction ++ exponent)) (minus_passes minus m)
    (all_append is_number_byte whole (fraction ++ exponent) (whole_passes whole w) (all_append is_number_byte fraction exponent (fraction_passes fraction f) (exponent_passes exponent e))))

pub judged_whole : (bytes : List ℕ) (n : ℕ) (scan : Text ℕ) → GoodNumber bytes n n → Judges GoodNumber bytes scan → scan ≡ Whole n n
judged_whole bytes n (Whole x after) good j =
    let same : x ≡ n = j.0 ∙ sym good.0 in
    ap (λ k. Whole k after) same ∙ ap (Whole n) (j.1 ∙ same)
judged_whole bytes n Short good j = absurd (j.0 n n good)
judged_whole bytes n (Bad place) good j = absurd (j.1 [] n n (subst (λ b. GoodNumber b n n) (sym (append-nil bytes)) good))

pub number_scan : (digits rest : List ℕ) → IsNumber digits → Apart is_number_byte rest → number_at (digits ++ rest) ≡ Whole (length digits) (length digits)
number_scan digits rest is apart =
    let run : number_run (digits ++ rest) ≡ digits = run_is is_number_byte digits rest (number_passes digits is) apart in
    judged_whole (digits ++ rest) (length digits) (number_at (digits ++ rest)) (ap length (sym run), refl, subst IsNumber (sym run) is) (number_judged (digits ++ rest))

pub number_read : (digits rest : List ℕ) → IsNumber digits → Apart is_number_byte rest → number_in (digits ++ rest) ≡ Ok (length digits, length digits)
unfolding number_in
number_read digits rest is apart = none_more reasons.BadNumber (digits ++ rest) (number_at (digits ++ rest)) (length digits) (length digits) (number_scan digits rest is apart)

number_quote : (all : List ℕ) → quoted_number_in (34 ∷ all) ≡ closed reasons.BadNumber (34 ∷ all) (moved 1 (number_at all))
unfolding quoted_number_in
number_quote all =
    let some : nat_lt (length (34 ∷ all)) 1 ≡ false = grind (arith, nat_tests) in
    cond_false (nat_lt (length (34 ∷ all)) 1) (fault 0 reasons.Truncated) (closed reasons.BadNumber (34 ∷ all) (moved 1 (number_at all))) some

pub quoted_number_read : (digits rest : List ℕ) → IsNumber digits → quoted_number_in (34 ∷ (digits ++ 34 ∷ rest)) ≡ Ok (length digits, length (quoted digits))
quoted_number_read digits rest is =
    number_quote (digits ++ 34 ∷ rest) ∙ closes reasons.BadNumber digits rest (number_at (digits ++ 34 ∷ rest)) (length digits) (number_scan digits (34 ∷ rest) is refl) ∙ ap (λ k. Ok (length digits, k)) (quoted_length digits)

-- ---- words among tokens

module _ (tail : List ℕ) where
  pub int_word : (reason : Reason) (low high z : ℤ) (digits : List ℕ) (more : Tokens) → IsIn low high z digits → IsClear more → IsWord tail more (int_in reason low high) digits z
  int_word reason low high z digits more i clear rest lies = int_read reason low high z digits rest i (int_apart rest (lies_apart tail more rest clear lies))

  pub quoted_word : (reason : Reason) (low high z : ℤ) (digits : List ℕ) (more : Tokens) → IsIn low high z digits → IsWord tail more (quoted_int_in reason low high) (quoted digits) z
  quoted_word reason low high z digits more i rest lies = quoted_read reason low high z digits rest i

  pub whole_word : (key : Bool) (reason : Reason) (low high z : ℤ) (digits : List ℕ) (more : Tokens) → IsIn low high z digits → IsClear more → IsWord tail more (whole_in key reason low high) (number key digits) z
  whole_word true reason low high z digits more i clear = quoted_word reason low high z digits more i
  whole_word false reason low high z digits more i clear = int_word reason low high z digits more i clear

  pub text_word : (meant token : List ℕ) (more : Tokens) → SpellsText meant token → IsWord tail more text_in token meant
  unfolding text_in
  text_word meant token more h rest lies = none_more reasons.BadString (token ++ rest) (text_at (token ++ rest)) meant (length token) (((text_judged (token ++ rest)).0 meant (length token)).1 (token, rest, refl, refl, h))

  pub blob_word : (meant token : List ℕ) (more : Tokens) → SpellsBlob meant token → IsWord tail more blob_in token meant
  unfolding blob_in
  blob_word meant token more h rest lies = none_more reasons.BadBase64 (token ++ rest) (blob_at (token ++ rest)) meant (length token) (good_read (token ++ rest) meant (length token) (token, rest, refl, refl, h))

pub text_solid : (meant token : List ℕ) → SpellsText meant token → IsSolid token
text_solid meant token (ps, are, means, is) = subst IsSolid (sym is) refl

pub blob_solid : (meant token : List ℕ) → SpellsBlob meant token → IsSolid token
blob_solid meant token (padding, are, pads, is) = subst IsSolid (sym is) refl

pub number_solid : (key : Bool) (digits : List ℕ) → IsSolid digits → IsSolid (number key digits)
number_solid true digits h = refl
number_solid false digits h = h

-- ---- kinds

pub kind_read : (kind : Kind) (rest : List ℕ) → IsNamed kind → kind_at (name_token kind ++ rest) ≡ Ok (kind, length (name_token kind))
unfolding kind_at wide_kind_at large_kind_at
kind_read kinds.Bool rest named = grind (arith, nat_tests)
kind_read kinds.I8 rest named = grind (arith, nat_tests)
kind_read kinds.I16 rest named = grind (arith, nat_tests)
kind_read kinds.I32 rest named = grind (arith, nat_tests)
kind_read kinds.I64 rest named = grind (arith, nat_tests)
kind_read kinds.Double rest named = grind (arith, nat_tests)
kind_read kinds.Str rest named = grind (arith, nat_tests)
kind_read kinds.Struct rest named = grind (arith, nat_tests)
kind_read kinds.Map rest named = grind (arith, nat_tests)
kind_read kinds.Set rest named = grind (arith, nat_tests)
kind_read kinds.List rest named = grind (arith, nat_tests)
kind_read kinds.Uuid rest named = absurd (cc)

pub kind_word : (tail : List ℕ) (kind : Kind) (more : Tokens) → IsNamed kind → IsWord tail more kind_at (name_token kind) kind
kind_word tail kind more named rest lies = kind_read kind rest named

-- ---- sizes

-- a decimal number is an integer of JSON
abbrev pub IsDecimal : ℕ → List ℕ → Type 0
IsDecimal n digits = ((n ≡ 0) × (digits ≡ 48 ∷ [])) ⊎ (IsCounting digits × (value_of digits ≡ n))

one_digit : (n : ℕ) → n < 10 → IsDecimal n ((48 + n) ∷ [])
one_digit zero h = inl (refl, refl)
one_digit (suc n) h = inr ((omega arith, omega arith, tt), omega arith)

value_last : (s x : ℕ) (xs : List ℕ) → value_from s (xs ++ x ∷ []) ≡ value_from s xs * 10 + (x - 48)
value_last s x [] = refl
value_last s x (y ∷ ys) = value_last (s * 10 + (y - 48)) x ys

digits_last : (x : ℕ) (xs : List ℕ) → AreDigits xs → IsDigit x → AreDigits (xs ++ x ∷ [])
digits_last x [] h d = (d, tt)
digits_last x (y ∷ ys) h d = (h.0, digits_last x ys h.1 d)

counting_last : (x : ℕ) (xs : List ℕ) → IsCounting xs → IsDigit x → IsCounting (xs ++ x ∷ [])
counting_last x [] h d = absurd h
counting_last x (y ∷ ys) h d = (h.0, h.1, digits_last x ys h.2 d)

more_digits : (n : ℕ) (digits : List ℕ) → 10 ≤ n → IsDecimal (n / 10) digits → IsDecimal n (digits ++ (48 + n % 10) ∷ [])
more_digits n digits many (inl e) = absurd (omega (arith, e.0))
more_digits n digits many (inr (counting, value)) =
    inr (counting_last (48 + n % 10) digits counting (omega arith, omega arith), value_last 0 (48 + n % 10) digits ∙ omega (arith, value))

pub decimal_is : (n : ℕ) → n < 2 ^ 64 → IsDecimal n (decimal n)
decimal_is n small = decimal_by_steps IsDecimal one_digit more_digits n small

pub spells_decimal : (n : ℕ) (digits : List ℕ) → IsDecimal n digits → SpellsInt (pos n) digits
spells_decimal n digits (inl e) = inl (e.1, ap pos e.0)
spells_decimal n digits (inr e) = inr (inl (e.0, ap pos (sym e.1)))

pub decimal_in : (n : ℕ) → n < 2 ^ 31 → IsIn (pos 0) (pos 2147483647) (pos n) (decimal n)
decimal_in n small = record {
  spells = spells_decimal n (decimal n) (decimal_is n (omega arith));
  least = grind (arith, nat_tests);
  most = grind (arith, nat_tests);
  fits = (grind (arith, nat_tests), grind (arith, nat_tests));
}

pub size_word : (tail : List ℕ) (n : ℕ) (more : Tokens) → n < 2 ^ 31 → IsClear more → IsWord tail more size_in (decimal n) n
size_word tail n more small clear rest lies =
    rw (int_word tail reasons.BadSize (pos 0) (pos 2147483647) (pos n) (decimal n) more (decimal_in n small) clear rest lies) refl

pub size_solid : (n : ℕ) → n < 2 ^ 31 → IsSolid (decimal n)
size_solid n small = int_solid (pos n) (decimal n) (decimal_in n small).spells

-- ---- ranges

pub in_16 : (z : ℤ) (digits : List ℕ) → SpellsInt z digits → FitsSigned w16 z → IsIn (negsuc 32767) (pos 32767) z digits
in_16 z digits h f = let s = f.sfits in record { spells = h; least = grind (arith, nat_tests); most = grind (arith, nat_tests); fits = (grind (arith, nat_tests), grind (arith, nat_tests)) }

pub in_8 : (z : ℤ) (digits : List ℕ) → SpellsInt z digits → FitsSigned w8 z → IsIn (negsuc 127) (pos 127) z digits
in_8 z digits h f = let s = f.sfits in record { spells = h; least = grind (arith, nat_tests); most = grind (arith, nat_tests); fits = (grind (arith, nat_tests), grind (arith, nat_tests)) }

pub in_32 : (z : ℤ) (digits : List ℕ) → SpellsInt z digits → FitsSigned w32 z → IsIn (negsuc 2147483647) (pos 2147483647) z digits
in_32 z digits h f = let s = f.sfits in record { spells = h; least = grind (arith, nat_tests); most = grind (arith, nat_tests); fits = (grind (arith, nat_tests), grind (arith, nat_tests)) }

pub in_64 : (z : ℤ) (digits : List ℕ) → SpellsInt z digits → FitsSigned w64 z → IsIn (negsuc 9223372036854775807) (pos 9223372036854775807) z digits
in_64 z digits h f = let s = f.sfits in record { spells = h; least = grind (arith, nat_tests); most = grind (arith, nat_tests); fits = (grind (arith, nat_tests), grind (arith, nat_tests)) }
