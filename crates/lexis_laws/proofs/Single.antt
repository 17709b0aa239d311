-- One token stands at a place.
use Rattle.std.proofs.Common.{◌≡◌, ℕ, ℤ, ◌<◌, Bool, true, false, List, [], ◌∷◌, ◌++◌, length, refl, sym, ap, ◌∙◌, subst, arith, append-nil}
use Rattle.std.specs.List.{list_all}
use Rattle.std.proofs.lemmas.Bool.{and_parts}
use Rattle.idl_lexer.specs.Bytes.{is_digit, is_letter, is_hex, is_mark}
use Rattle.idl_lexer.specs.Grammar.{IsToken, IsSigned, IsMantissa, IsExponent, IsDigits, number_of}
use Rattle.idl_lexer.specs.Grammar as grammar
use Rattle.idl_lexer.specs.Pieces.{hex_len}
use Rattle.idl_lexer.specs.declared.token.TokenForm.{TokenForm}
use Rattle.idl_lexer.specs.declared.token.TokenForm.TheVariants as forms
use Rattle.lexis_laws.specs.Cutting.{Stands}
use Rattle.lexis_laws.proofs.Fronts.{true_false, same_head, same_front, all_behind, run_least}
use Rattle.lexis_laws.proofs.Values.{one_value}
use Rattle.lexis_laws.proofs.Signs.{one_sign}
use Rattle.lexis_laws.proofs.Bodies.{hex_on}
use Rattle.lexis_laws.proofs.BodyBounds.{pointed_no_hex, raised_no_hex, is_e_of, e_no_digit}
use Rattle.lexis_laws.proofs.Firsts.{IsNumber, TokenView, a_word, a_number, a_literal, a_mark, token_view, is_quote, is_number, Begins, number_begins, body_begins, number_sign, start_apart, letter_no_number, letter_no_quote, letter_no_mark, mark_no_number, mark_no_quote, quote_no_number}
use Rattle.lexis_laws.proofs.Firsts as numbers
use Rattle.lexis_laws.proofs.Longest.{bound_of}

-- ---- numbers

decimal_is : (sign other digits more : List ℕ) (y z : ℤ) → sign ≡ other → digits ≡ more → IsSigned sign (number_of 10 0 digits) y → IsSigned other (number_of 10 0 more) z → forms.Int y ≡ forms.Int z
decimal_is sign other digits more y z s d i j =
    ap forms.Int (one_value other (number_of 10 0 more) y z (subst (λ k. IsSigned k (number_of 10 0 more) y) s (subst (λ k. IsSigned sign (number_of 10 0 k) y) d i)) j)

hexadecimal_is : (sign other digits more : List ℕ) (y z : ℤ) → sign ≡ other → digits ≡ more → IsSigned sign (number_of 16 0 digits) y → IsSigned other (number_of 16 0 more) z → forms.Int y ≡ forms.Int z
hexadecimal_is sign other digits more y z s d i j =
    ap forms.Int (one_value other (number_of 16 0 more) y z (subst (λ k. IsSigned k (number_of 16 0 more) y) s (subst (λ k. IsSigned sign (number_of 16 0 k) y) d i)) j)

decimal_hex : (digits more : List ℕ) → list_all is_digit digits ≡ true → digits ≡ 48 ∷ 120 ∷ more → ⊥
decimal_hex digits more all e = true_false (list_all is_digit (48 ∷ 120 ∷ more)) (ap (list_all is_digit) (sym e) ∙ all) refl

decimal_pointed : (digits front more : List ℕ) → list_all is_digit digits ≡ true → digits ≡ front ++ 46 ∷ more → ⊥
decimal_pointed digits front more all e = true_false (list_all is_digit (46 ∷ more)) (all_behind is_digit front (46 ∷ more) (ap (list_all is_digit) (sym e) ∙ all)) refl

exponent_no_digits : (exponent : List ℕ) → IsExponent exponent → list_all is_digit exponent ≡ true → ⊥
exponent_no_digits exponent (grammar.exponent e sign digits is s d) all =
    true_false (is_digit e) (and_parts (is_digit e) (list_all is_digit (sign ++ digits)) all).0 (e_no_digit e (is_e_of e is))

decimal_raised : (digits mantissa exponent : List ℕ) → list_all is_digit digits ≡ true → IsExponent exponent → digits ≡ mantissa ++ exponent → ⊥
decimal_raised digits mantissa exponent all x e = exponent_no_digits exponent x (all_behind is_digit mantissa exponent (ap (list_all is_digit) (sym e) ∙ all))

hex_some : (digits : List ℕ) → list_all is_hex digits ≡ true → 0 < length digits → hex_len (48 ∷ 120 ∷ digits) ≡ 0 → ⊥
hex_some digits all some e =
    let runs = run_least is_hex digits [] all in
    let many = hex_on (digits ++ []) in
    let same : hex_len (48 ∷ 120 ∷ (digits ++ [])) ≡ 0 = ap (λ xs. hex_len (48 ∷ 120 ∷ xs)) (append-nil digits) ∙ e in
    omega (arith, runs, many, same, some)

hex_pointed : (digits front more : List ℕ) → list_all is_hex digits ≡ true → 0 < length digits → list_all is_digit front ≡ true → IsDigits more → 48 ∷ 120 ∷ digits ≡ front ++ 46 ∷ more → ⊥
hex_pointed digits front more all some a d e =
    hex_some digits all some (ap hex_len e ∙ ap (λ xs. hex_len (front ++ 46 ∷ xs)) (sym (append-nil more)) ∙ pointed_no_hex front more [] a d)

exponent_no_hex : (mantissa exponent : List ℕ) → IsMantissa mantissa → IsExponent exponent → hex_len (mantissa ++ exponent) ≡ 0
exponent_no_hex mantissa exponent m (grammar.exponent e sign digits is s d) = raised_no_hex mantissa e (sign ++ digits) m (is_e_of e is)

hex_raised : (digits mantissa exponent : List ℕ) → list_all is_hex digits ≡ true → 0 < length digits → IsMantissa mantissa → IsExponent exponent → 48 ∷ 120 ∷ digits ≡ mantissa ++ exponent → ⊥
hex_raised digits mantissa exponent all some m x e = hex_some digits all some (ap hex_len e ∙ exponent_no_hex mantissa exponent m x)

same_hex : (digits more : List ℕ) → 48 ∷ 120 ∷ digits ≡ 48 ∷ 120 ∷ more → digits ≡ more
same_hex digits more e = cc

number_form : (f g : TokenForm) (sign other body more : List ℕ) → IsNumber f sign body → IsNumber g other more → sign ≡ other → body ≡ more → f ≡ g
number_form f g sign other body more (numbers.decimal s ds z d i) (numbers.decimal s' ds' z' d' i') e b = decimal_is s s' ds ds' z z' e b i i'
number_form f g sign other body more (numbers.decimal s ds z d i) (numbers.hexadecimal s' ds' z' n' a' i') e b = absurd (decimal_hex ds ds' d.all b)
number_form f g sign other body more (numbers.decimal s ds z d i) (numbers.pointed s' front' ds' i' a' d') e b = absurd (decimal_pointed ds front' ds' d.all b)
number_form f g sign other body more (numbers.decimal s ds z d i) (numbers.raised s' m' x' i' p' q') e b = absurd (decimal_raised ds m' x' d.all q' b)
number_form f g sign other body more (numbers.hexadecimal s ds z n a i) (numbers.decimal s' ds' z' d' i') e b = absurd (decimal_hex ds' ds d'.all (sym b))
number_form f g sign other body more (numbers.hexadecimal s ds z n a i) (numbers.hexadecimal s' ds' z' n' a' i') e b = hexadecimal_is s s' ds ds' z z' e (same_hex ds ds' b) i i'
number_form f g sign other body more (numbers.hexadecimal s ds z n a i) (numbers.pointed s' front' ds' i' a' d') e b = absurd (hex_pointed ds front' ds' a n a' d' b)
number_form f g sign other body more (numbers.hexadecimal s ds z n a i) (numbers.raised s' m' x' i' p' q') e b = absurd (hex_raised ds m' x' a n p' q' b)
number_form f g sign other body more (numbers.pointed s front ds i a d) (numbers.decimal s' ds' z' d' i') e b = absurd (decimal_pointed ds' front ds d'.all (sym b))
number_form f g sign other body more (numbers.pointed s front ds i a d) (numbers.hexadecimal s' ds' z' n' a' i') e b = absurd (hex_pointed ds' front ds a' n' a d (sym b))
number_form f g sign other body more (numbers.pointed s front ds i a d) (numbers.pointed s' front' ds' i' a' d') e b = refl
number_form f g sign other body more (numbers.pointed s front ds i a d) (numbers.raised s' m' x' i' p' q') e b = refl
number_form f g sign other body more (numbers.raised s m x i p q) (numbers.decimal s' ds' z' d' i') e b = absurd (decimal_raised ds' m x d'.all q (sym b))
number_form f g sign other body more (numbers.raised s m x i p q) (numbers.hexadecimal s' ds' z' n' a' i') e b = absurd (hex_raised ds' m x a' n' p q (sym b))
number_form f g sign other body more (numbers.raised s m x i p q) (numbers.pointed s' front' ds' i' a' d') e b = refl
number_form f g sign other body more (numbers.raised s m x i p q) (numbers.raised s' m' x' i' p' q') e b = refl

-- ---- tokens

-- a number and bytes that begin with another kind are not the same
other_first : (form : TokenForm) (sign body : List ℕ) (x : ℕ) (xs : List ℕ) → IsNumber form sign body → is_number x ≡ false → x ∷ xs ≡ sign ++ body → ⊥
other_first form sign body x xs n never e =
    let b = number_begins form sign body n in
    true_false (is_number x) (ap is_number (same_head x b.first xs b.rest (e ∙ b.joined)) ∙ b.is) never

two_firsts : (p q : ℕ → Bool) (x y : ℕ) (xs ys : List ℕ) → p x ≡ true → q y ≡ true → ((z : ℕ) → p z ≡ true → q z ≡ false) → x ∷ xs ≡ y ∷ ys → ⊥
two_firsts p q x y xs ys i j never e = true_false (q x) (ap q (same_head x y xs ys e) ∙ j) (never x i)

both_numbers : (f g : TokenForm) (sign other body more : List ℕ) → IsNumber f sign body → IsNumber g other more → sign ++ body ≡ other ++ more → f ≡ g
both_numbers f g sign other body more n m e =
    let same = one_sign sign other body more (number_sign f sign body n) (number_sign g other more m) (start_apart body (body_begins f sign body n)) (start_apart more (body_begins g other more m)) e in
    number_form f g sign other body more n m same.0 same.1

view_form : (f g : TokenForm) (a b : List ℕ) → TokenView f a → TokenView g b → a ≡ b → f ≡ g
view_form f g a b (a_word x xs l i) (a_word y ys m j) e = refl
view_form f g a b (a_word x xs l i) (a_number h sign body n) e = absurd (other_first h sign body x xs n (letter_no_number x l) e)
view_form f g a b (a_word x xs l i) (a_literal q bs t j) e = absurd (two_firsts is_letter is_quote x q xs (bs ++ q ∷ []) l t letter_no_quote e)
view_form f g a b (a_word x xs l i) (a_mark m t) e = absurd (two_firsts is_letter is_mark x m xs [] l t letter_no_mark e)
view_form f g a b (a_number h sign body n) (a_word y ys m j) e = absurd (other_first h sign body y ys n (letter_no_number y m) (sym e))
view_form f g a b (a_number h sign body n) (a_number k other more m) e = both_numbers h k sign other body more n m e
view_form f g a b (a_number h sign body n) (a_literal q bs t j) e = absurd (other_first h sign body q (bs ++ q ∷ []) n (quote_no_number q t) (sym e))
view_form f g a b (a_number h sign body n) (a_mark m t) e = absurd (other_first h sign body m [] n (mark_no_number m t) (sym e))
view_form f g a b (a_literal q bs t j) (a_word y ys m i) e = absurd (two_firsts is_letter is_quote y q ys (bs ++ q ∷ []) m t letter_no_quote (sym e))
view_form f g a b (a_literal q bs t j) (a_number h sign body n) e = absurd (other_first h sign body q (bs ++ q ∷ []) n (quote_no_number q t) e)
view_form f g a b (a_literal q bs t j) (a_literal r cs u k) e = refl
view_form f g a b (a_literal q bs t j) (a_mark m u) e = absurd (two_firsts is_mark is_quote m q [] (bs ++ q ∷ []) u t mark_no_quote (sym e))
view_form f g a b (a_mark m t) (a_word y ys l i) e = absurd (two_firsts is_letter is_mark y m ys [] l t letter_no_mark (sym e))
view_form f g a b (a_mark m t) (a_number h sign body n) e = absurd (other_first h sign body m [] n (mark_no_number m t) e)
view_form f g a b (a_mark m t) (a_literal q bs u j) e = absurd (two_firsts is_mark is_quote m q [] (bs ++ q ∷ []) t u mark_no_quote e)
view_form f g a b (a_mark m t) (a_mark k u) e = ap forms.Mark (same_head m k [] [] e)

pub one_form : (f g : TokenForm) (a b : List ℕ) → IsToken f a → IsToken g b → a ≡ b → f ≡ g
one_form f g a b i j e = view_form f g a b (token_view f a i) (token_view g b j) e

-- the longest token at a place is one
pub one_token : (f g : TokenForm) (a r b t : List ℕ) → a ++ r ≡ b ++ t → Stands f a r → Stands g b t → (f ≡ g) × (a ≡ b) × (r ≡ t)
one_token f g a r b t e s u =
    let up = bound_of a r s.longest g b t e u.token in
    let down = bound_of b t u.longest f a r (sym e) s.token in
    let same = same_front a b r t (omega (arith, up, down)) e in
    (one_form f g a b s.token u.token same.0, same.0, same.1)

token_bytes : (form : TokenForm) (bytes : List ℕ) → TokenView form bytes → 0 < length bytes
token_bytes form bytes (a_word b bs l i) = omega arith
token_bytes form bytes (a_number f sign body n) = let b = number_begins f sign body n in let size = ap length b.joined in omega (arith, size)
token_bytes form bytes (a_literal q bs t i) = omega arith
token_bytes form bytes (a_mark m t) = omega arith

pub token_some : (form : TokenForm) (bytes : List ℕ) → IsToken form bytes → 0 < length bytes
token_some form bytes i = token_bytes form bytes (token_view form bytes i)
