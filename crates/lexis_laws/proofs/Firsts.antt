-- What a token begins with.
use Rattle.std.proofs.Common.{◌≡◌, ℕ, ℤ, ◌<◌, Bool, true, false, List, [], ◌∷◌, ◌++◌, length, refl, sym, ap, ◌∙◌, subst, arith}
use Rattle.std.specs.Prelude.{◌==◌, ◌&&◌, ◌||◌}
use Rattle.std.specs.List.{list_all}
use Rattle.std.proofs.lemmas.Bool.{agree_below, agree_below_at, and_parts, and_from, or_left, or_right, false_from_ne_true}
use Rattle.std.proofs.lemmas.Bool.Decides.{nat_tests}
use Rattle.idl_lexer.specs.Bytes.{is_digit, is_letter, is_hex, is_inner, is_sign, is_mark, is_blank}
use Rattle.idl_lexer.specs.Grammar.{IsToken, IsSign, IsSigned, IsDigits, IsMantissa, IsExponent, IsQuoted, number_of}
use Rattle.idl_lexer.specs.Grammar as grammar
use Rattle.idl_lexer.specs.declared.token.TokenForm.{TokenForm}
use Rattle.idl_lexer.specs.declared.token.TokenForm.TheVariants as forms
use Rattle.lexis_laws.proofs.Fronts.{Apart, true_false, same_head}
use Rattle.lexis_laws.proofs.Values.{sign_of_signed}

-- a number by its sign and what stands behind it
pub data IsNumber : TokenForm → List ℕ → List ℕ → Type 0 where
  decimal : (sign digits : List ℕ) (z : ℤ) → IsDigits digits → IsSigned sign (number_of 10 0 digits) z → IsNumber (forms.Int z) sign digits
  hexadecimal : (sign digits : List ℕ) (z : ℤ) → 0 < length digits → list_all is_hex digits ≡ true → IsSigned sign (number_of 16 0 digits) z
      → IsNumber (forms.Int z) sign (48 ∷ 120 ∷ digits)
  pointed : (sign front digits : List ℕ) → IsSign sign → list_all is_digit front ≡ true → IsDigits digits → IsNumber forms.Double sign (front ++ 46 ∷ digits)
  raised : (sign mantissa exponent : List ℕ) → IsSign sign → IsMantissa mantissa → IsExponent exponent → IsNumber forms.Double sign (mantissa ++ exponent)

abbrev pub is_quote : ℕ → Bool
is_quote b = b == 34 || b == 39

pub data TokenView : TokenForm → List ℕ → Type 0 where
  a_word : (b : ℕ) (bs : List ℕ) → is_letter b ≡ true → list_all is_inner bs ≡ true → TokenView forms.Word (b ∷ bs)
  a_number : (form : TokenForm) (sign body : List ℕ) → IsNumber form sign body → TokenView form (sign ++ body)
  a_literal : (quote : ℕ) (bs : List ℕ) → is_quote quote ≡ true → IsQuoted quote bs → TokenView forms.Literal (quote ∷ (bs ++ quote ∷ []))
  a_mark : (m : ℕ) → is_mark m ≡ true → TokenView (forms.Mark m) (m ∷ [])

pub token_view : (form : TokenForm) (bytes : List ℕ) → IsToken form bytes → TokenView form bytes
token_view form bytes (grammar.word b bs l a) = a_word b bs l a
token_view form bytes (grammar.decimal sign digits z d s) = a_number (forms.Int z) sign digits (decimal sign digits z d s)
token_view form bytes (grammar.hexadecimal sign digits z n a s) = a_number (forms.Int z) sign (48 ∷ 120 ∷ digits) (hexadecimal sign digits z n a s)
token_view form bytes (grammar.pointed_double sign front digits s a d) = a_number forms.Double sign (front ++ 46 ∷ digits) (pointed sign front digits s a d)
token_view form bytes (grammar.raised_double sign mantissa exponent s m e) = a_number forms.Double sign (mantissa ++ exponent) (raised sign mantissa exponent s m e)
token_view form bytes (grammar.double_quoted bs q) = a_literal 34 bs refl q
token_view form bytes (grammar.single_quoted bs q) = a_literal 39 bs refl q
token_view form bytes (grammar.mark m is) = a_mark m is

-- ---- what a number begins with

-- a digit or a point
abbrev pub is_start : ℕ → Bool
is_start b = is_digit b || b == 46

abbrev pub is_number : ℕ → Bool
is_number b = is_sign b || is_start b

-- the first byte is of a kind
pub record Begins (p : ℕ → Bool) (xs : List ℕ) : Type 0 where
  pub first : ℕ
  pub rest : List ℕ
  pub joined : xs ≡ first ∷ rest
  pub is : p first ≡ true

begins_first : (p : ℕ → Bool) (x : ℕ) (xs : List ℕ) → p x ≡ true → Begins p (x ∷ xs)
begins_first p x xs e = record { first = x; rest = xs; joined = refl; is = e }

pub digits_begin : (digits : List ℕ) → list_all is_digit digits ≡ true → 0 < length digits → Begins is_digit digits
digits_begin [] all some = absurd (omega (arith, some))
digits_begin (x ∷ xs) all some = begins_first is_digit x xs (and_parts (is_digit x) (list_all is_digit xs) all).0

as_start : (b : ℕ) → is_digit b ≡ true → is_start b ≡ true
as_start b e = or_left (is_digit b) (b == 46) e

pub start_of : (xs : List ℕ) → Begins is_digit xs → Begins is_start xs
start_of xs b = record { first = b.first; rest = b.rest; joined = b.joined; is = as_start b.first b.is }

point_begins : (front digits : List ℕ) → list_all is_digit front ≡ true → Begins is_start (front ++ 46 ∷ digits)
point_begins [] digits all = begins_first is_start 46 digits refl
point_begins (x ∷ xs) digits all = begins_first is_start x (xs ++ 46 ∷ digits) (as_start x (and_parts (is_digit x) (list_all is_digit xs) all).0)

pub begins_more : (p : ℕ → Bool) (xs ys : List ℕ) → Begins p xs → Begins p (xs ++ ys)
begins_more p xs ys b = record { first = b.first; rest = b.rest ++ ys; joined = ap (λ z. z ++ ys) b.joined; is = b.is }

mantissa_begins : (mantissa : List ℕ) → IsMantissa mantissa → Begins is_start mantissa
mantissa_begins mantissa (grammar.whole digits d) = start_of digits (digits_begin digits d.all d.some)
mantissa_begins mantissa (grammar.pointed front digits a d) = point_begins front digits a

pub body_begins : (form : TokenForm) (sign body : List ℕ) → IsNumber form sign body → Begins is_start body
body_begins form sign body (decimal s digits z d i) = start_of digits (digits_begin digits d.all d.some)
body_begins form sign body (hexadecimal s digits z n a i) = begins_first is_start 48 (120 ∷ digits) refl
body_begins form sign body (pointed s front digits i a d) = point_begins front digits a
body_begins form sign body (raised s mantissa exponent i m e) = begins_more is_start mantissa exponent (mantissa_begins mantissa m)

pub number_sign : (form : TokenForm) (sign body : List ℕ) → IsNumber form sign body → IsSign sign
number_sign form sign body (decimal s digits z d i) = sign_of_signed s (number_of 10 0 digits) z i
number_sign form sign body (hexadecimal s digits z n a i) = sign_of_signed s (number_of 16 0 digits) z i
number_sign form sign body (pointed s front digits i a d) = i
number_sign form sign body (raised s mantissa exponent i m e) = i

as_number : (b : ℕ) → is_start b ≡ true → is_number b ≡ true
as_number b e = or_right (is_sign b) (is_start b) e

signed_begins : (sign body : List ℕ) → IsSign sign → Begins is_start body → Begins is_number (sign ++ body)
signed_begins sign body grammar.no_sign b = record { first = b.first; rest = b.rest; joined = b.joined; is = as_number b.first b.is }
signed_begins sign body grammar.plus_sign b = begins_first is_number 43 body refl
signed_begins sign body grammar.minus_sign b = begins_first is_number 45 body refl

pub number_begins : (form : TokenForm) (sign body : List ℕ) → IsNumber form sign body → Begins is_number (sign ++ body)
number_begins form sign body n = signed_begins sign body (number_sign form sign body n) (body_begins form sign body n)

start_no_sign : (x : ℕ) → is_start x ≡ true → is_sign x ≡ false
start_no_sign x e = grind (arith, nat_tests)

pub start_apart : (xs : List ℕ) → Begins is_start xs → Apart is_sign xs
start_apart xs b = subst (Apart is_sign) (sym b.joined) (start_no_sign b.first b.is)

-- ---- no byte begins tokens of two kinds

-- two kinds of bytes below 128 have no byte in common if none of these 128 is in both
kinds_apart : (p q : ℕ → Bool) → agree_below (λ x. p x && q x) (λ x. false) 128 ≡ true → ((x : ℕ) → p x ≡ true → x < 128) → (x : ℕ) → p x ≡ true → q x ≡ false
kinds_apart p q table small x e =
    false_from_ne_true (q x) (λ f. true_false (p x && q x) (and_from (p x) (q x) e f) (agree_below_at (λ y. p y && q y) (λ y. false) 128 x table (small x e)))

letter_small : (x : ℕ) → is_letter x ≡ true → x < 128
letter_small x e = grind (arith, nat_tests)

blank_small : (x : ℕ) → is_blank x ≡ true → x < 128
blank_small x e = grind (arith, nat_tests)

mark_small : (x : ℕ) → is_mark x ≡ true → x < 128
mark_small x e = grind (arith, nat_tests)

quote_small : (x : ℕ) → is_quote x ≡ true → x < 128
quote_small x e = grind (arith, nat_tests)

-- a byte begins tokens of one kind at most, and none where a gap begins
pub record NoToken (x : ℕ) : Type 0 where
  pub letter : is_letter x ≡ false
  pub number : is_number x ≡ false
  pub quote : is_quote x ≡ false
  pub mark : is_mark x ≡ false

pub blank_no_token : (x : ℕ) → is_blank x ≡ true → NoToken x
blank_no_token x e = record {
  letter = kinds_apart is_blank is_letter refl blank_small x e;
  number = kinds_apart is_blank is_number refl blank_small x e;
  quote = kinds_apart is_blank is_quote refl blank_small x e;
  mark = kinds_apart is_blank is_mark refl blank_small x e;
}

pub hash_no_token : NoToken 35
hash_no_token = record { letter = refl; number = refl; quote = refl; mark = refl }

pub slash_no_token : NoToken 47
slash_no_token = record { letter = refl; number = refl; quote = refl; mark = refl }

pub letter_no_number : (x : ℕ) → is_letter x ≡ true → is_number x ≡ false
letter_no_number = kinds_apart is_letter is_number refl letter_small

pub letter_no_quote : (x : ℕ) → is_letter x ≡ true → is_quote x ≡ false
letter_no_quote = kinds_apart is_letter is_quote refl letter_small

pub letter_no_mark : (x : ℕ) → is_letter x ≡ true → is_mark x ≡ false
letter_no_mark = kinds_apart is_letter is_mark refl letter_small

pub mark_no_number : (x : ℕ) → is_mark x ≡ true → is_number x ≡ false
mark_no_number = kinds_apart is_mark is_number refl mark_small

pub mark_no_quote : (x : ℕ) → is_mark x ≡ true → is_quote x ≡ false
mark_no_quote = kinds_apart is_mark is_quote refl mark_small

pub quote_no_letter : (x : ℕ) → is_quote x ≡ true → is_letter x ≡ false
quote_no_letter = kinds_apart is_quote is_letter refl quote_small

pub quote_no_mark : (x : ℕ) → is_quote x ≡ true → is_mark x ≡ false
quote_no_mark = kinds_apart is_quote is_mark refl quote_small

pub quote_no_number : (x : ℕ) → is_quote x ≡ true → is_number x ≡ false
quote_no_number = kinds_apart is_quote is_number refl quote_small

-- the first byte of a front is that of the whole
pub first_is : (x : ℕ) (xs front rest : List ℕ) (p : ℕ → Bool) → x ∷ xs ≡ front ++ rest → Begins p front → p x ≡ true
first_is x xs front rest p e b = ap p (same_head x b.first xs (b.rest ++ rest) (e ∙ ap (λ z. z ++ rest) b.joined)) ∙ b.is

-- the kind of a token's first byte
abbrev pub Kind : TokenForm → ℕ → Type 0
Kind forms.Word x = is_letter x ≡ true
Kind (forms.Int z) x = is_number x ≡ true
Kind forms.Double x = is_number x ≡ true
Kind forms.Literal x = is_quote x ≡ true
Kind (forms.Mark m) x = is_mark x ≡ true

pub no_kind : (form : TokenForm) (x : ℕ) → NoToken x → Kind form x → ⊥
no_kind forms.Word x never k = true_false (is_letter x) k never.letter
no_kind (forms.Int z) x never k = true_false (is_number x) k never.number
no_kind forms.Double x never k = true_false (is_number x) k never.number
no_kind forms.Literal x never k = true_false (is_quote x) k never.quote
no_kind (forms.Mark m) x never k = true_false (is_mark x) k never.mark

number_kind : (form : TokenForm) (sign body : List ℕ) (x : ℕ) → IsNumber form sign body → is_number x ≡ true → Kind form x
number_kind form sign body x (decimal s digits z d i) e = e
number_kind form sign body x (hexadecimal s digits z n a i) e = e
number_kind form sign body x (pointed s front digits i a d) e = e
number_kind form sign body x (raised s mantissa exponent i m f) e = e

kind_by : (form : TokenForm) (x : ℕ) (xs front rest : List ℕ) → x ∷ xs ≡ front ++ rest → TokenView form front → Kind form x
kind_by form x xs front rest e (a_word b bs l a) = ap is_letter (same_head x b xs (bs ++ rest) e) ∙ l
kind_by form x xs front rest e (a_number f sign body n) = number_kind f sign body x n (first_is x xs (sign ++ body) rest is_number e (number_begins f sign body n))
kind_by form x xs front rest e (a_literal quote bs q i) = ap is_quote (same_head x quote xs ((bs ++ quote ∷ []) ++ rest) e) ∙ q
kind_by form x xs front rest e (a_mark m is) = ap is_mark (same_head x m xs rest e) ∙ is

pub token_kind : (form : TokenForm) (x : ℕ) (xs front rest : List ℕ) → x ∷ xs ≡ front ++ rest → IsToken form front → Kind form x
token_kind form x xs front rest e t = kind_by form x xs front rest e (token_view form front t)
