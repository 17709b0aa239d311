-- The scan of a number tells the longest one at the front, or that none stands there.
use Rattle.std.proofs.Common.{◌≡◌, ℕ, suc, ◌+◌, ◌<◌, ◌≤◌, Bool, true, false, List, [], ◌∷◌, ◌++◌, length, take, drop, Err, refl, sym, ap, ◌∙◌, subst, arith, ◌⊎◌, inl, inr, length-append}
use Rattle.std.specs.Prelude.{nat_lt, ◌==◌}
use Rattle.std.specs.List.{prefix_len, list_all}
use Rattle.std.proofs.lemmas.Bool.{cond-true, cond-false, lt-ltb, eq-eqb, ne_eqb, eqb-true, or_cases}
use Rattle.idl_lexer.specs.Bytes.{is_digit, is_letter, is_hex, is_mark, is_blank}
use Rattle.idl_lexer.specs.Grammar.{IsToken, IsDigits, IsSign, IsMantissa, IsExponent}
use Rattle.idl_lexer.specs.Grammar as grammar
use Rattle.idl_lexer.specs.Pieces.{Scan, is_e, sign_len, hex_len, mantissa_len, exponent_len, int_or_big, int_at, unsigned_at, number_at}
use Rattle.idl_lexer.specs.declared.token.TokenForm.{TokenForm}
use Rattle.idl_lexer.specs.declared.token.TokenForm.TheVariants as forms
use Rattle.idl_lexer.specs.declared.token.LexReason.TheVariants as reasons
use Rattle.lexis_laws.specs.Cutting.{IsGap}
use Rattle.lexis_laws.specs.Cutting as cuttings
use Rattle.lexis_laws.specs.Faults.{NothingFits, IsOpenComment, IsOpenLiteral}
use Rattle.lexis_laws.specs.Faults as faults
use Rattle.lexis_laws.proofs.Fronts.{when_true, when_false, Apart, true_false, same_head, take_front, drop_front, regroup, run_cut, Parted, parted, same_front}
use Rattle.lexis_laws.proofs.Values.{Negates}
use Rattle.lexis_laws.proofs.Signs.{SignCut, sign_cut, behind_sign, sign_there}
use Rattle.lexis_laws.proofs.Bodies.{zero_or_some, hex_on, hex_begins, mantissa_least, MantissaView, whole_part, point_part, mantissa_view, ExponentView, no_exponent, an_exponent, exponent_view}
use Rattle.lexis_laws.proofs.BodyBounds.{body_len, body_hex, body_none, body_some, body_bound, mantissa_some}
use Rattle.lexis_laws.proofs.Firsts.{IsNumber, TokenView, a_word, a_number, a_literal, a_mark, token_view, is_quote, body_begins, number_sign, start_apart, begins_more, is_start}
use Rattle.lexis_laws.proofs.Longest.{Bound}
use Rattle.lexis_laws.proofs.Right.{Right, TokenAt, a_token, token_at, int_right}

-- ---- the scan by its cases

unsigned_hex : (negative : Bool) (sign : ℕ) (bytes : List ℕ) → 0 < hex_len bytes
    → unsigned_at negative sign bytes ≡ int_or_big (int_at negative 16 (take (hex_len bytes) (drop 2 bytes))) (sign + 2 + hex_len bytes)
unfolding unsigned_at
unsigned_hex negative sign bytes h = cond-true (nat_lt 0 (hex_len bytes)) _ _ (lt-ltb 0 (hex_len bytes) h)

some_not_none : (n : ℕ) → 0 < n → n ≡ 0 → ⊥
some_not_none n h z = omega (arith, h, z)

plain_of : (bytes : List ℕ) → hex_len bytes ≡ 0 → nat_lt 0 (hex_len bytes) ≡ false
plain_of bytes e = ap (λ n. nat_lt 0 n) e

unsigned_none : (negative : Bool) (sign : ℕ) (bytes : List ℕ) → hex_len bytes ≡ 0 → mantissa_len bytes ≡ 0 → unsigned_at negative sign bytes ≡ Err reasons.BadByte
unfolding unsigned_at
unsigned_none negative sign bytes e m =
    cond-false (nat_lt 0 (hex_len bytes)) _ _ (plain_of bytes e) ∙ cond-true (mantissa_len bytes == 0) (Err reasons.BadByte) _ (eq-eqb (mantissa_len bytes) 0 m)

module _ (P : Scan → Type 0) (negative : Bool) (sign : ℕ) (bytes : List ℕ) (e : hex_len bytes ≡ 0) (m : 0 < mantissa_len bytes) where
  some_mantissa : (mantissa_len bytes == 0) ≡ false
  some_mantissa = ne_eqb (mantissa_len bytes) 0 (some_not_none (mantissa_len bytes) m)

  unsigned_whole : mantissa_len bytes + exponent_len (drop (mantissa_len bytes) bytes) ≡ prefix_len is_digit bytes
      → P (int_or_big (int_at negative 10 (take (prefix_len is_digit bytes) bytes)) (sign + prefix_len is_digit bytes)) → P (unsigned_at negative sign bytes)
  unfolding unsigned_at
  unsigned_whole all h =
      when_false P (nat_lt 0 (hex_len bytes)) _ _ (plain_of bytes e) (when_false P (mantissa_len bytes == 0) _ _ some_mantissa
      (when_true P (mantissa_len bytes + exponent_len (drop (mantissa_len bytes) bytes) == prefix_len is_digit bytes) _ _ (eq-eqb _ (prefix_len is_digit bytes) all) h))

double_keeps : (text : List ℕ) (negative : Bool) (sign : ℕ) (bytes : List ℕ) → hex_len bytes ≡ 0 → 0 < mantissa_len bytes
    → (mantissa_len bytes + exponent_len (drop (mantissa_len bytes) bytes) ≡ prefix_len is_digit bytes → ⊥)
    → TokenAt text forms.Double (sign + (mantissa_len bytes + exponent_len (drop (mantissa_len bytes) bytes))) → Right text (unsigned_at negative sign bytes)
unfolding unsigned_at
double_keeps text negative sign bytes e m other token =
    when_false (Right text) (nat_lt 0 (hex_len bytes)) _ _ (plain_of bytes e) (when_false (Right text) (mantissa_len bytes == 0) _ _ (some_mantissa (Right text) negative sign bytes e m)
    (when_false (Right text) (mantissa_len bytes + exponent_len (drop (mantissa_len bytes) bytes) == prefix_len is_digit bytes) _ _ (ne_eqb _ (prefix_len is_digit bytes) other)
    (a_token text _ _ forms.Double (λ at len. refl) token)))

-- ---- each case is right

e_is : (e : ℕ) → is_e e ≡ true → (e ≡ 101) ⊎ (e ≡ 69)
e_is e t = by_test (or_cases (e == 101) (e == 69) t)
  where
    by_test : ((e == 101) ≡ true) ⊎ ((e == 69) ≡ true) → (e ≡ 101) ⊎ (e ≡ 69)
    by_test (inl h) = inl (eqb-true e 101 h)
    by_test (inr h) = inr (eqb-true e 69 h)

-- behind this sign, in this text
pub record Signed (sign : List ℕ) (negative : Bool) : Type 0 where
  pub is : IsSign sign
  pub negates : Negates negative sign

module _ (sign : List ℕ) (negative : Bool) (signed : Signed sign negative) where
  longer : (body : List ℕ) → length sign + length body ≡ length (sign ++ body)
  longer body = sym (length-append sign body)

  -- hexadecimal digits
  hex_right : (digits rest : List ℕ) → list_all is_hex digits ≡ true → Apart is_hex rest → 0 < length digits
      → Bound (sign ++ 48 ∷ 120 ∷ (digits ++ rest)) (length sign + body_len (48 ∷ 120 ∷ (digits ++ rest)))
      → Right (sign ++ 48 ∷ 120 ∷ (digits ++ rest)) (unsigned_at negative (length sign) (48 ∷ 120 ∷ (digits ++ rest)))
  hex_right digits rest all apart some bound =
      let bytes = 48 ∷ 120 ∷ (digits ++ rest) in
      let many : hex_len bytes ≡ length digits = hex_on (digits ++ rest) ∙ run_cut is_hex digits rest all apart in
      let more : 0 < hex_len bytes = subst (λ n. 0 < n) (sym many) some in
      let body : body_len bytes ≡ 2 + length digits = body_hex bytes more ∙ ap (λ n. 2 + n) many in
      let joined : sign ++ bytes ≡ (sign ++ 48 ∷ 120 ∷ digits) ++ rest = sym (regroup sign (48 ∷ 120 ∷ digits) rest) in
      let total = length-append sign (48 ∷ 120 ∷ digits) in
      let size : length sign + 2 + length digits ≡ length (sign ++ 48 ∷ 120 ∷ digits) = omega (arith, total) in
      let most : length sign + body_len bytes ≡ length sign + 2 + length digits = omega (arith, body) in
      let scan : unsigned_at negative (length sign) bytes ≡ int_or_big (int_at negative 16 digits) (length sign + 2 + length digits) =
      unsigned_hex negative (length sign) bytes more
      ∙ ap (λ n. int_or_big (int_at negative 16 (take n (digits ++ rest))) (length sign + 2 + n)) many
      ∙ ap (λ xs. int_or_big (int_at negative 16 xs) (length sign + 2 + length digits)) (take_front digits rest) in
      subst (Right (sign ++ bytes)) (sym scan)
      (int_right negative sign 16 digits (sign ++ bytes) (sign ++ 48 ∷ 120 ∷ digits) rest (length sign + 2 + length digits) (omega arith) signed.negates joined size
      (λ z s. grammar.hexadecimal sign digits z some all s) (subst (λ n. Bound (sign ++ bytes) n) most bound))

  -- digits alone
  int_case : (digits rest : List ℕ) → IsDigits digits → Apart is_digit rest → hex_len (digits ++ rest) ≡ 0 → mantissa_len (digits ++ rest) ≡ length digits → exponent_len rest ≡ 0
      → Bound (sign ++ (digits ++ rest)) (length sign + body_len (digits ++ rest)) → Right (sign ++ (digits ++ rest)) (unsigned_at negative (length sign) (digits ++ rest))
  int_case digits rest d apart hex many none bound =
      let bytes = digits ++ rest in
      let runs : prefix_len is_digit bytes ≡ length digits = run_cut is_digit digits rest d.all apart in
      let more : 0 < mantissa_len bytes = subst (λ n. 0 < n) (sym many) d.some in
      let total : mantissa_len bytes + exponent_len (drop (mantissa_len bytes) bytes) ≡ length digits =
      ap (λ n. n + exponent_len (drop n bytes)) many ∙ ap (λ xs. length digits + exponent_len xs) (drop_front digits rest) ∙ ap (λ n. length digits + n) none ∙ nothing_more (length digits) in
      let most : length sign + body_len bytes ≡ length sign + length digits = ap (λ n. length sign + n) (body_some bytes hex more ∙ total) in
      let joined : sign ++ bytes ≡ (sign ++ digits) ++ rest = sym (regroup sign digits rest) in
      let scan : int_or_big (int_at negative 10 (take (prefix_len is_digit bytes) bytes)) (length sign + prefix_len is_digit bytes) ≡ int_or_big (int_at negative 10 digits) (length sign + length digits) =
      ap (λ n. int_or_big (int_at negative 10 (take n bytes)) (length sign + n)) runs
      ∙ ap (λ xs. int_or_big (int_at negative 10 xs) (length sign + length digits)) (take_front digits rest) in
      unsigned_whole (Right (sign ++ bytes)) negative (length sign) bytes hex more (total ∙ sym runs)
      (subst (Right (sign ++ bytes)) (sym scan)
      (int_right negative sign 10 digits (sign ++ bytes) (sign ++ digits) rest (length sign + length digits) (omega arith) signed.negates joined (longer digits)
      (λ z s. grammar.decimal sign digits z d s) (subst (λ n. Bound (sign ++ bytes) n) most bound)))
    where
      nothing_more : (n : ℕ) → n + 0 ≡ n
      nothing_more n = omega arith

  -- a mantissa with a point or an exponent
  double_case : (bytes body rest : List ℕ) → bytes ≡ body ++ rest → IsToken forms.Double (sign ++ body) → hex_len bytes ≡ 0 → 0 < mantissa_len bytes
      → mantissa_len bytes + exponent_len (drop (mantissa_len bytes) bytes) ≡ length body → prefix_len is_digit bytes < length body
      → Bound (sign ++ bytes) (length sign + body_len bytes) → Right (sign ++ bytes) (unsigned_at negative (length sign) bytes)
  double_case bytes body rest e token hex more total less bound =
      let most : length sign + body_len bytes ≡ length sign + length body = ap (λ n. length sign + n) (body_some bytes hex more ∙ total) in
      let joined : sign ++ bytes ≡ (sign ++ body) ++ rest = ap (λ xs. sign ++ xs) e ∙ sym (regroup sign body rest) in
      double_keeps (sign ++ bytes) negative (length sign) bytes hex more (λ same. differ (length body) (prefix_len is_digit bytes) less (sym total ∙ same))
      (subst (λ n. TokenAt (sign ++ bytes) forms.Double (length sign + n)) (sym total)
      (token_at forms.Double (sign ++ bytes) (sign ++ body) rest (length sign + length body) joined (longer body) token (subst (λ n. Bound (sign ++ bytes) n) most bound) refl))
    where
      differ : (a b : ℕ) → b < a → a ≡ b → ⊥
      differ a b h z = omega (arith, h, z)

  raised_case : (mantissa : List ℕ) (e : ℕ) (s digits rest : List ℕ) → IsMantissa mantissa → is_e e ≡ true → IsSign s → IsDigits digits
      → hex_len (mantissa ++ e ∷ (s ++ (digits ++ rest))) ≡ 0 → mantissa_len (mantissa ++ e ∷ (s ++ (digits ++ rest))) ≡ length mantissa
      → exponent_len (e ∷ (s ++ (digits ++ rest))) ≡ 1 + length s + length digits
      → Bound (sign ++ (mantissa ++ e ∷ (s ++ (digits ++ rest)))) (length sign + body_len (mantissa ++ e ∷ (s ++ (digits ++ rest))))
      → Right (sign ++ (mantissa ++ e ∷ (s ++ (digits ++ rest)))) (unsigned_at negative (length sign) (mantissa ++ e ∷ (s ++ (digits ++ rest))))
  raised_case mantissa e s digits rest m is t d hex many raised bound =
      let tail = e ∷ (s ++ (digits ++ rest)) in
      let bytes = mantissa ++ tail in
      let exponent = e ∷ (s ++ digits) in
      let joined : bytes ≡ (mantissa ++ exponent) ++ rest = ap (λ xs. mantissa ++ e ∷ xs) (sym (regroup s digits rest)) ∙ sym (regroup mantissa exponent rest) in
      let token : IsToken forms.Double (sign ++ (mantissa ++ exponent)) = grammar.raised_double sign mantissa exponent signed.is m (grammar.exponent e s digits (e_is e is) t d) in
      let outer = length-append mantissa exponent in
      let inner = length-append s digits in
      let more : 0 < mantissa_len bytes = subst (λ n. 0 < n) (sym many) (mantissa_some mantissa m) in
      let size : length mantissa + (1 + length s + length digits) ≡ length (mantissa ++ exponent) = omega (arith, outer, inner) in
      let total : mantissa_len bytes + exponent_len (drop (mantissa_len bytes) bytes) ≡ length (mantissa ++ exponent) =
      ap (λ n. n + exponent_len (drop n bytes)) many ∙ ap (λ xs. length mantissa + exponent_len xs) (drop_front mantissa tail) ∙ ap (λ n. length mantissa + n) raised ∙ size in
      let least = mantissa_least bytes in
      let less : prefix_len is_digit bytes < length (mantissa ++ exponent) = omega (arith, least, many, size) in
      double_case bytes (mantissa ++ exponent) rest joined token hex more total less bound

  -- by whether an exponent stands behind digits
  whole_case : (front rest : List ℕ) → IsDigits front → Apart is_digit rest → hex_len (front ++ rest) ≡ 0 → mantissa_len (front ++ rest) ≡ length front → ExponentView rest
      → Bound (sign ++ (front ++ rest)) (length sign + body_len (front ++ rest)) → Right (sign ++ (front ++ rest)) (unsigned_at negative (length sign) (front ++ rest))
  whole_case front rest d apart hex many (no_exponent bytes none) bound = int_case front bytes d apart hex many none bound
  whole_case front rest d apart hex many (an_exponent e s digits behind is t ds raised) bound =
      raised_case front e s digits behind (grammar.whole front d) is t ds hex many raised bound

  pointed_size : (front digits : List ℕ) → length front + 1 + length digits ≡ length (front ++ 46 ∷ digits)
  pointed_size front digits = omega (arith, length-append front (46 ∷ digits))

  point_alone : (front digits rest : List ℕ) → list_all is_digit front ≡ true → IsDigits digits → hex_len (front ++ 46 ∷ (digits ++ rest)) ≡ 0
      → mantissa_len (front ++ 46 ∷ (digits ++ rest)) ≡ length front + 1 + length digits → exponent_len rest ≡ 0
      → Bound (sign ++ (front ++ 46 ∷ (digits ++ rest))) (length sign + body_len (front ++ 46 ∷ (digits ++ rest)))
      → Right (sign ++ (front ++ 46 ∷ (digits ++ rest))) (unsigned_at negative (length sign) (front ++ 46 ∷ (digits ++ rest)))
  point_alone front digits rest all d hex many none bound =
      let bytes = front ++ 46 ∷ (digits ++ rest) in
      let body = front ++ 46 ∷ digits in
      let joined : bytes ≡ body ++ rest = sym (regroup front (46 ∷ digits) rest) in
      let whole : mantissa_len bytes ≡ length body = many ∙ pointed_size front digits in
      let size = pointed_size front digits in
      let more : 0 < mantissa_len bytes = omega (arith, many) in
      let behind : drop (length body) bytes ≡ rest = ap (λ xs. drop (length body) xs) joined ∙ drop_front body rest in
      let total : mantissa_len bytes + exponent_len (drop (mantissa_len bytes) bytes) ≡ length body =
      ap (λ n. n + exponent_len (drop n bytes)) whole ∙ ap (λ xs. length body + exponent_len xs) behind ∙ ap (λ n. length body + n) none ∙ nothing_added (length body) in
      let runs : prefix_len is_digit bytes ≡ length front = run_cut is_digit front (46 ∷ (digits ++ rest)) all refl in
      let less : prefix_len is_digit bytes < length body = omega (arith, runs, size) in
      double_case bytes body rest joined (grammar.pointed_double sign front digits signed.is all d) hex more total less bound
    where
      nothing_added : (n : ℕ) → n + 0 ≡ n
      nothing_added n = omega arith

  point_case : (front digits rest : List ℕ) → list_all is_digit front ≡ true → IsDigits digits → hex_len (front ++ 46 ∷ (digits ++ rest)) ≡ 0
      → mantissa_len (front ++ 46 ∷ (digits ++ rest)) ≡ length front + 1 + length digits → ExponentView rest
      → Bound (sign ++ (front ++ 46 ∷ (digits ++ rest))) (length sign + body_len (front ++ 46 ∷ (digits ++ rest)))
      → Right (sign ++ (front ++ 46 ∷ (digits ++ rest))) (unsigned_at negative (length sign) (front ++ 46 ∷ (digits ++ rest)))
  point_case front digits rest all d hex many (no_exponent bytes none) bound = point_alone front digits bytes all d hex many none bound
  point_case front digits rest all d hex many (an_exponent e s ds behind is t dd raised) bound =
      let tail = e ∷ (s ++ (ds ++ behind)) in
      let mantissa = front ++ 46 ∷ digits in
      let same : mantissa ++ tail ≡ front ++ 46 ∷ (digits ++ tail) = regroup front (46 ∷ digits) tail in
      subst (λ xs. Right (sign ++ xs) (unsigned_at negative (length sign) xs)) same
      (raised_case mantissa e s ds behind (grammar.pointed front digits all d) is t dd (ap hex_len same ∙ hex) (ap mantissa_len same ∙ many ∙ pointed_size front digits) raised
      (subst (λ xs. Bound (sign ++ xs) (length sign + body_len xs)) (sym same) bound))

  plain_right : (bytes : List ℕ) → hex_len bytes ≡ 0 → Bound (sign ++ bytes) (length sign + body_len bytes) → (body_len bytes ≡ 0 → NothingFits (sign ++ bytes)) → MantissaView bytes
      → Right (sign ++ bytes) (unsigned_at negative (length sign) bytes)
  plain_right bytes hex bound nothing (whole_part front rest all apart many) = by_digits (zero_or_some (length front))
    where
      by_digits : (length front ≡ 0) ⊎ (0 < length front) → Right (sign ++ (front ++ rest)) (unsigned_at negative (length sign) (front ++ rest))
      by_digits (inl z) =
          subst (Right (sign ++ (front ++ rest))) (sym (unsigned_none negative (length sign) (front ++ rest) hex (many ∙ z)))
          (faults.bad_byte (sign ++ (front ++ rest)) (nothing (body_none (front ++ rest) hex (many ∙ z))))
      by_digits (inr h) = whole_case front rest (record { some = h; all = all }) apart hex many (exponent_view rest) bound
  plain_right bytes hex bound nothing (point_part front digits rest all d apart many) = point_case front digits rest all d hex many (exponent_view rest) bound

  hex_view : (tail : List ℕ) → 0 < hex_len (48 ∷ 120 ∷ tail) → Bound (sign ++ 48 ∷ 120 ∷ tail) (length sign + body_len (48 ∷ 120 ∷ tail)) → Parted is_hex tail
      → Right (sign ++ 48 ∷ 120 ∷ tail) (unsigned_at negative (length sign) (48 ∷ 120 ∷ tail))
  hex_view tail h bound part =
      subst (λ xs. Right (sign ++ 48 ∷ 120 ∷ xs) (unsigned_at negative (length sign) (48 ∷ 120 ∷ xs))) (sym part.joined)
      (hex_right part.front part.rest part.all part.apart (subst (λ n. 0 < n) (hex_on tail ∙ part.many) h)
      (subst (λ xs. Bound (sign ++ 48 ∷ 120 ∷ xs) (length sign + body_len (48 ∷ 120 ∷ xs))) part.joined bound))

  pub unsigned_right : (bytes : List ℕ) → Bound (sign ++ bytes) (length sign + body_len bytes) → (body_len bytes ≡ 0 → NothingFits (sign ++ bytes))
      → Right (sign ++ bytes) (unsigned_at negative (length sign) bytes)
  unsigned_right bytes bound nothing = by_hex (zero_or_some (hex_len bytes))
    where
      by_hex : (hex_len bytes ≡ 0) ⊎ (0 < hex_len bytes) → Right (sign ++ bytes) (unsigned_at negative (length sign) bytes)
      by_hex (inl e) = plain_right bytes e bound nothing (mantissa_view bytes)
      by_hex (inr h) =
          let laid = hex_begins bytes h in
          subst (λ xs. Right (sign ++ xs) (unsigned_at negative (length sign) xs)) (sym laid)
          (hex_view (drop 2 bytes) (subst (λ xs. 0 < hex_len xs) laid h) (subst (λ xs. Bound (sign ++ xs) (length sign + body_len xs)) laid bound) (parted is_hex (drop 2 bytes)))

-- ---- a text that begins with nothing else

-- the byte begins no word, literal, mark or gap
pub record NoOther (x : ℕ) : Type 0 where
  pub blank : is_blank x ≡ false
  pub letter : is_letter x ≡ false
  pub mark : is_mark x ≡ false
  pub hash : (x == 35) ≡ false
  pub slash : (x == 47) ≡ false
  pub quote : is_quote x ≡ false

not_that : (x y : ℕ) → (x == y) ≡ false → x ≡ y → ⊥
not_that x y e is = true_false (x == y) (eq-eqb x y is) e

pub no_gap_by : (x : ℕ) (xs front rest : List ℕ) → is_blank x ≡ false → (x ≡ 35 → ⊥) → (x ≡ 47 → ⊥) → x ∷ xs ≡ front ++ rest → IsGap front rest → ⊥
no_gap_by x xs front rest blank hash slash e (cuttings.whitespace b r is) = true_false (is_blank x) (ap is_blank (same_head x b xs r e) ∙ is) blank
no_gap_by x xs front rest blank hash slash e (cuttings.hash line r one ends) = hash (same_head x 35 xs (line ++ r) e)
no_gap_by x xs front rest blank hash slash e (cuttings.slashes line r one ends) = slash (same_head x 47 xs ((47 ∷ line) ++ r) e)
no_gap_by x xs front rest blank hash slash e (cuttings.comment inside r within) = slash (same_head x 47 xs ((42 ∷ inside) ++ r) e)

pub no_comment_by : (x : ℕ) (xs bytes : List ℕ) → (x ≡ 47 → ⊥) → x ∷ xs ≡ bytes → IsOpenComment bytes → ⊥
no_comment_by x xs bytes slash e (faults.open_comment rest never) = slash (same_head x 47 xs (42 ∷ rest) e)

pub quote_is : (x : ℕ) → (x ≡ 34) ⊎ (x ≡ 39) → is_quote x ≡ true
quote_is x (inl e) = ap is_quote e
quote_is x (inr e) = ap is_quote e

pub no_literal_by : (x : ℕ) (xs bytes : List ℕ) → is_quote x ≡ false → x ∷ xs ≡ bytes → IsOpenLiteral bytes → ⊥
no_literal_by x xs bytes quote e (faults.open_literal q rest is never) = true_false (is_quote x) (ap is_quote (same_head x q xs rest e) ∙ quote_is q is) quote

module _ (x : ℕ) (xs : List ℕ) (never : NoOther x) (s : SignCut (x ∷ xs)) where
  -- a token at the front is a number with the same sign
  record Front (size : ℕ) : Type 0 where
    least : size ≤ length s.sign + body_len s.rest
    some : 0 < body_len s.rest

  number_front : (form : TokenForm) (sign body behind : List ℕ) → IsNumber form sign body → x ∷ xs ≡ (sign ++ body) ++ behind → Front (length (sign ++ body))
  number_front form sign body behind n e =
      let begins_so = body_begins form sign body n in
      let laid : x ∷ xs ≡ sign ++ (body ++ behind) = e ∙ regroup sign body behind in
      let signs : length s.sign ≡ length sign =
      sym s.many ∙ ap sign_len laid ∙ sign_there sign (body ++ behind) (number_sign form sign body n) (start_apart (body ++ behind) (begins_more is_start body behind begins_so)) in
      let same = same_front s.sign sign s.rest (body ++ behind) signs (sym s.joined ∙ laid) in
      let least : length body ≤ body_len s.rest = subst (λ ys. length body ≤ body_len ys) (sym same.1) (body_bound form sign body behind n) in
      let some = ap length begins_so.joined in
      let total = length-append sign body in
      record { least = omega (arith, least, signs, total); some = omega (arith, least, some) }

  front_of : (form : TokenForm) (front behind : List ℕ) → x ∷ xs ≡ front ++ behind → TokenView form front → Front (length front)
  front_of form front behind e (a_word b bs l a) = absurd (true_false (is_letter x) (ap is_letter (same_head x b xs (bs ++ behind) e) ∙ l) never.letter)
  front_of form front behind e (a_number f sign body n) = number_front f sign body behind n e
  front_of form front behind e (a_literal q bs is i) = absurd (true_false (is_quote x) (ap is_quote (same_head x q xs ((bs ++ q ∷ []) ++ behind) e) ∙ is) never.quote)
  front_of form front behind e (a_mark m is) = absurd (true_false (is_mark x) (ap is_mark (same_head x m xs behind e) ∙ is) never.mark)

  text_bound : Bound (x ∷ xs) (length s.sign + body_len s.rest)
  text_bound form front behind e token = (front_of form front behind e (token_view form front token)).least

  no_byte : x ∷ xs ≡ [] → ⊥
  no_byte e = let wrong : suc (length xs) ≡ 0 = ap length e in omega (arith, wrong)

  text_nothing : body_len s.rest ≡ 0 → NothingFits (x ∷ xs)
  text_nothing none = record {
    some = no_byte;
    no_gap = (λ front rest e. no_gap_by x xs front rest never.blank (not_that x 35 never.hash) (not_that x 47 never.slash) e);
    no_token = (λ form front rest e token. some_not_none (body_len s.rest) (front_of form front rest e (token_view form front token)).some none);
    no_comment = no_comment_by x xs (x ∷ xs) (not_that x 47 never.slash) refl;
    no_literal = no_literal_by x xs (x ∷ xs) never.quote refl;
  }

  number_is : number_at (x ∷ xs) ≡ unsigned_at s.negative (length s.sign) s.rest
  unfolding number_at
  number_is =
      ap (λ n. unsigned_at n (sign_len (x ∷ xs)) (drop (sign_len (x ∷ xs)) (x ∷ xs))) s.flag
      ∙ ap (λ n. unsigned_at s.negative n (drop (sign_len (x ∷ xs)) (x ∷ xs))) s.many
      ∙ ap (λ ys. unsigned_at s.negative (length s.sign) ys) (behind_sign (x ∷ xs) s)

  number_by : Right (x ∷ xs) (number_at (x ∷ xs))
  number_by =
      subst (Right (x ∷ xs)) (sym number_is)
      (subst (λ ys. Right ys (unsigned_at s.negative (length s.sign) s.rest)) (sym s.joined)
      (unsigned_right s.sign s.negative (record { is = s.is; negates = s.negates }) s.rest
      (subst (λ ys. Bound ys (length s.sign + body_len s.rest)) s.joined text_bound) (λ none. subst NothingFits s.joined (text_nothing none))))

pub number_right : (x : ℕ) (xs : List ℕ) → NoOther x → Right (x ∷ xs) (number_at (x ∷ xs))
number_right x xs never = number_by x xs never (sign_cut (x ∷ xs))
