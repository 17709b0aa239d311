-- Each item of a body is read, whatever whitespace stands between its tokens.
use Rattle.std.proofs.Common.{◌≡◌, ℕ, ℤ, zero, suc, pos, negsuc, ◌+◌, ◌<◌, ◌≤◌, ◌^◌, Bool, true, false, cond, List, [], ◌∷◌, ◌++◌, length, drop, Ok, refl, ap, ◌∙◌, sym, subst, arith, ◌⊎◌, inl, inr}
use Rattle.std.specs.Prelude.{int_lt, nat_lt, nat_le, ◌==◌, ◌&&◌, FitsSigned}
use Rattle.std.specs.Int.{w8, w16, w32, w64}
use Rattle.std.specs.Fmt.{decimal}
use Rattle.std.proofs.lemmas.Bool.Decides.{nat_tests}
use Rattle.thrift_value.specs.declared.kind.Kind.{Kind}
use Rattle.thrift_value.specs.declared.kind.Kind.TheVariants as kinds
use Rattle.thrift_value.specs.Items.{Item, field, stop, bool_value, i8_value, i16_value, i32_value, i64_value, text, number_text, unknown_text, struct_begin, empty_map, map_begin, set_begin, list_begin, end}
use Rattle.protocol_traits.specs.declared.proto.Hint.{Hint}
use Rattle.protocol_traits.specs.declared.proto.Hint.TheVariants as hints
use Rattle.protocol_traits.specs.declared.fault.Reason.TheVariants as reasons
use Rattle.json_text.specs.Number.{is_number_byte}
use Rattle.json_text.specs.Grammar.{IsDigit, SpellsInt, IsWhole, IsNumber}
use Rattle.json_text_laws.proofs.Choices.{cond_false}
use Rattle.json_text_laws.proofs.Parts.{Apart, take_front}
use Rattle.json_protocol.specs.Scan.{fault, gap, further, mark_at, byte_fits, word_end}
use Rattle.json_protocol.specs.Words.{begins_three, kind_at, quoted_int_in, infinity_fits, spelled, number_in, quoted_number_in, double_in, string_in}
use Rattle.json_protocol.specs.Values.{i16_low, field_at, first_at, next_at, bool_at, i8_at, i16_at, i32_at, i64_at, double_at, struct_at, size_in, sequence_at, list_at, set_at, map_head_at, no_pairs_at, map_then, map_at, end_at, value_at}
use Rattle.json_protocol.specs.Writing.{quoted, number, flag}
use Rattle.json_protocol.specs.Grammar.{Tokens, mark, IsNamed, name_token, IsWord as IsSpecial, IsDoubleToken, IsStringToken, IsLooseToken}
use Rattle.json_laws.proofs.Marks.{Lies, IsSolid, IsClear, lies_apart, IsWord, Found, IsReady, front, ahead, on, found, mark_word, found_mark}
use Rattle.json_laws.proofs.Words.{IsIn, whole_word, quoted_word, text_word, text_solid, blob_word, blob_solid, kind_word, size_word, size_solid, number_solid, number_read, quoted_number_read, quoted_append, in_8, in_16, in_32, in_64}

-- ---- numbers that are no integers

-- the first bytes of a number: a digit, or a minus and a digit
abbrev pub Begins : List ℕ → Type 0
Begins digits = ((x : ℕ) × (xs : List ℕ) × (digits ≡ x ∷ xs) × IsDigit x) ⊎ ((y : ℕ) × (ys : List ℕ) × (digits ≡ 45 ∷ y ∷ ys) × IsDigit y)

whole_first : (whole : List ℕ) → IsWhole whole → (x : ℕ) × (xs : List ℕ) × (whole ≡ x ∷ xs) × IsDigit x
whole_first whole (inl e) = (48, [], e, (omega arith, omega arith))
whole_first [] (inr h) = absurd h
whole_first (x ∷ xs) (inr h) = (x, xs, refl, (omega (arith, h.0), h.1))

pub number_first : (digits : List ℕ) → IsNumber digits → Begins digits
number_first digits (minus, whole, fraction, exponent, is, inl none, w, f, e) =
    let x = whole_first whole w in
    inl (x.0, x.1 ++ (fraction ++ exponent), is ∙ ap (λ m. m ++ (whole ++ (fraction ++ exponent))) none ∙ ap (λ v. v ++ (fraction ++ exponent)) x.2, x.3)
number_first digits (minus, whole, fraction, exponent, is, inr one, w, f, e) =
    let x = whole_first whole w in
    inr (x.0, x.1 ++ (fraction ++ exponent), is ∙ ap (λ m. m ++ (whole ++ (fraction ++ exponent))) one ∙ ap (λ v. 45 ∷ (v ++ (fraction ++ exponent))) x.2, x.3)

-- none of the three words begins so
pub record IsPlain (bytes : List ℕ) : Type 0 where
  not_nan : begins_three bytes 78 97 78 ≡ false
  not_above : (byte_fits bytes 0 34 && infinity_fits bytes 1) ≡ false
  not_below : (byte_fits bytes 0 34 && byte_fits bytes 1 45 && infinity_fits bytes 2) ≡ false

pub by_plain : (key : Bool) (bytes : List ℕ) → IsPlain bytes → double_in key bytes ≡ cond key (spelled 1 bytes (quoted_number_in bytes)) (spelled 0 bytes (number_in bytes))
unfolding double_in
by_plain key bytes p = rw (p.not_nan, p.not_above, p.not_below) refl

unquoted_plain : (x : ℕ) (xs : List ℕ) → (x == 34) ≡ false → IsPlain (x ∷ xs)
unquoted_plain x xs e = record { not_nan = grind (arith, nat_tests); not_above = grind (arith, nat_tests); not_below = grind (arith, nat_tests) }

quoted_digit : (x : ℕ) (xs : List ℕ) → IsDigit x → IsPlain (34 ∷ x ∷ xs)
unfolding infinity_fits
quoted_digit x xs d =
    let low = d.0 in let high = d.1 in
    record { not_nan = grind (arith, nat_tests); not_above = grind (arith, nat_tests); not_below = grind (arith, nat_tests) }

quoted_minus : (y : ℕ) (ys : List ℕ) → IsDigit y → IsPlain (34 ∷ 45 ∷ y ∷ ys)
unfolding infinity_fits
quoted_minus y ys d =
    let low = d.0 in let high = d.1 in
    record { not_nan = grind (arith, nat_tests); not_above = grind (arith, nat_tests); not_below = grind (arith, nat_tests) }

pub number_plain : (digits rest : List ℕ) → Begins digits → IsPlain (digits ++ rest)
number_plain digits rest (inl (x, xs, is, d)) = subst (λ l. IsPlain (l ++ rest)) (sym is) (unquoted_plain x (xs ++ rest) (let low = d.0 in grind (arith, nat_tests)))
number_plain digits rest (inr (y, ys, is, d)) = subst (λ l. IsPlain (l ++ rest)) (sym is) (unquoted_plain 45 (y ∷ (ys ++ rest)) refl)

quoted_plain : (digits rest : List ℕ) → Begins digits → IsPlain (34 ∷ (digits ++ rest))
quoted_plain digits rest (inl (x, xs, is, d)) = subst (λ l. IsPlain (34 ∷ (l ++ rest))) (sym is) (quoted_digit x (xs ++ rest) d)
quoted_plain digits rest (inr (y, ys, is, d)) = subst (λ l. IsPlain (34 ∷ (l ++ rest))) (sym is) (quoted_minus y (ys ++ rest) d)

-- a number
pub number_double : (key : Bool) (digits rest : List ℕ) → IsNumber digits → (key ≡ false → Apart is_number_byte rest) → double_in key (number key digits ++ rest) ≡ Ok (digits, length (number key digits))
number_double false digits rest is apart =
    by_plain false (digits ++ rest) (number_plain digits rest (number_first digits is)) ∙ ap (spelled 0 (digits ++ rest)) (number_read digits rest is (apart refl)) ∙ ap (λ l. Ok (l, length digits)) (take_front digits rest)
number_double true digits rest is apart =
    let bytes = 34 ∷ (digits ++ 34 ∷ rest) in
    ap (double_in true) (quoted_append digits rest) ∙ by_plain true bytes (quoted_plain digits (34 ∷ rest) (number_first digits is)) ∙ ap (spelled 1 bytes) (quoted_number_read digits rest is)
    ∙ ap (λ l. Ok (l, length (quoted digits))) (take_front digits (34 ∷ rest))

-- or one of the three words
abbrev nan : List ℕ
nan = 78 ∷ 97 ∷ 78 ∷ []

abbrev infinity : List ℕ
infinity = 73 ∷ 110 ∷ 102 ∷ 105 ∷ 110 ∷ 105 ∷ 116 ∷ 121 ∷ []

word_there : (bytes : List ℕ) (size n : ℕ) → size ≤ length bytes → word_end bytes size n ≡ Ok (n, size)
word_there bytes size n h = let some : nat_lt (length bytes) size ≡ false = grind (arith, nat_tests) in cond_false (nat_lt (length bytes) size) (fault (length bytes) reasons.Truncated) (Ok (n, size)) some

there : (bytes : List ℕ) (at : ℕ) → at < length bytes → nat_le (length bytes) at ≡ false
there bytes at h = grind (arith, nat_tests)

nan_double : (key : Bool) (rest : List ℕ) → double_in key (quoted nan ++ rest) ≡ Ok (nan, 5)
unfolding double_in
nan_double key rest =
    let bytes = quoted nan ++ rest in
    let is : begins_three bytes 78 97 78 ≡ true = grind (arith, nat_tests) in
    rw (is, word_there bytes 5 3 (omega arith)) refl

above_double : (key : Bool) (rest : List ℕ) → double_in key (quoted infinity ++ rest) ≡ Ok (infinity, 10)
unfolding double_in infinity_fits
above_double key rest =
    let bytes = quoted infinity ++ rest in
    let not : begins_three bytes 78 97 78 ≡ false = grind (arith, nat_tests) in
    let is : (byte_fits bytes 0 34 && infinity_fits bytes 1) ≡ true = grind (arith, nat_tests) in
    rw (not, is, word_there bytes 10 8 (omega arith)) refl

below_double : (key : Bool) (rest : List ℕ) → double_in key (quoted (45 ∷ infinity) ++ rest) ≡ Ok (45 ∷ infinity, 11)
unfolding double_in infinity_fits
below_double key rest =
    let bytes = quoted (45 ∷ infinity) ++ rest in
    let not : begins_three bytes 78 97 78 ≡ false = grind (arith, nat_tests) in
    let nor : (byte_fits bytes 0 34 && infinity_fits bytes 1) ≡ false = grind (arith, nat_tests) in
    let is : (byte_fits bytes 0 34 && byte_fits bytes 1 45 && infinity_fits bytes 2) ≡ true = grind (arith, nat_tests) in
    rw (not, nor, is, word_there bytes 11 9 (omega arith)) refl

pub word_double : (key : Bool) (word rest : List ℕ) → IsSpecial word → double_in key (quoted word ++ rest) ≡ Ok (word, length (quoted word))
word_double key word rest (inl e) = subst (λ w. double_in key (quoted w ++ rest) ≡ Ok (w, length (quoted w))) (sym e) (nan_double key rest)
word_double key word rest (inr (inl e)) = subst (λ w. double_in key (quoted w ++ rest) ≡ Ok (w, length (quoted w))) (sym e) (above_double key rest)
word_double key word rest (inr (inr e)) = subst (λ w. double_in key (quoted w ++ rest) ≡ Ok (w, length (quoted w))) (sym e) (below_double key rest)

pub one_same : (a b : List ℕ) → a ∷ [] ≡ b ∷ [] → a ≡ b
one_same a b e = cc

double_read : (key : Bool) (digits token rest : List ℕ) → IsDoubleToken key digits (token ∷ []) → Apart is_number_byte rest → double_in key (token ++ rest) ≡ Ok (digits, length token)
double_read key digits token rest (inl (is, e)) apart = subst (λ t. double_in key (t ++ rest) ≡ Ok (digits, length t)) (sym (one_same token (number key digits) e)) (number_double key digits rest is (λ _. apart))
double_read key digits token rest (inr (is, e)) apart = subst (λ t. double_in key (t ++ rest) ≡ Ok (digits, length t)) (sym (one_same token (quoted digits) e)) (word_double key digits rest is)

pub double_solid : (key : Bool) (digits token : List ℕ) → IsDoubleToken key digits (token ∷ []) → IsSolid token
double_solid key digits token (inl (is, e)) = subst IsSolid (sym (one_same token (number key digits) e)) (number_solid key digits (first_solid (number_first digits is)))
  where
    first_solid : Begins digits → IsSolid digits
    first_solid (inl (x, xs, laid, d)) = subst IsSolid (sym laid) (let low = d.0 in grind (arith, nat_tests))
    first_solid (inr (y, ys, laid, d)) = subst IsSolid (sym laid) refl
double_solid key digits token (inr (is, e)) = subst IsSolid (sym (one_same token (quoted digits) e)) refl

module _ (tail : List ℕ) where
  -- ---- fields

  -- a field behind its marks
  pub field_found : (id : ℤ) (kind : Kind) (digits : List ℕ) (more : Tokens) (bytes : List ℕ) → SpellsInt id digits → FitsSigned w16 id → IsNamed kind
      → IsReady tail (quoted digits) (mark 58 ∷ mark 123 ∷ name_token kind ∷ more) bytes → Found tail field_at bytes (field id kind) more
  unfolding field_at
  field_found id kind digits more bytes spells fits named ready =
      let a = front tail (quoted_int_in reasons.BadId i16_low (pos 32767)) (quoted digits) (mark 58 ∷ mark 123 ∷ name_token kind ∷ more) bytes id (quoted_word tail reasons.BadId i16_low (pos 32767) id digits (mark 58 ∷ mark 123 ∷ name_token kind ∷ more) (in_16 id digits spells fits)) ready in
      let b = found_mark tail 58 a.past bytes (mark 123 ∷ name_token kind ∷ more) refl a.left in
      let c = found_mark tail 123 b.past bytes (name_token kind ∷ more) refl b.left in
      let e = found tail kind_at c.past bytes (name_token kind) more kind (kind_word tail kind more named) refl c.left in
      record { past = e.past; read = rw (a.read, b.read, c.read, e.read) refl; left = e.left; within = e.within }

  quote_first : (all : List ℕ) → first_at (34 ∷ all) ≡ field_at (34 ∷ all)
  unfolding first_at
  quote_first all =
      let some : nat_lt (length (34 ∷ all)) 1 ≡ false = grind (arith, nat_tests) in
      cond_false (nat_lt (length (34 ∷ all)) 1) (fault 0 reasons.Truncated) (field_at (34 ∷ all)) some

  pub first_found : (id : ℤ) (kind : Kind) (digits : List ℕ) (more : Tokens) (bytes : List ℕ) → SpellsInt id digits → FitsSigned w16 id → IsNamed kind
      → IsReady tail (quoted digits) (mark 58 ∷ mark 123 ∷ name_token kind ∷ more) bytes → Found tail first_at bytes (field id kind) more
  first_found id kind digits more bytes spells fits named (rest, is, lies) =
      let f = field_found id kind digits more bytes spells fits named (rest, is, lies) in
      let same : first_at bytes ≡ field_at bytes = ap first_at is ∙ quote_first ((digits ++ 34 ∷ []) ++ rest) ∙ ap field_at (sym is) in
      record { past = f.past; read = same ∙ f.read; left = f.left; within = f.within }

  comma_next : (all : List ℕ) → next_at (44 ∷ all) ≡ further 1 field_at (44 ∷ all)
  unfolding next_at
  comma_next all =
      let some : nat_lt (length (44 ∷ all)) 1 ≡ false = grind (arith, nat_tests) in
      cond_false (nat_lt (length (44 ∷ all)) 1) (fault 0 reasons.Truncated) (further 1 field_at (44 ∷ all)) some

  pub next_found : (id : ℤ) (kind : Kind) (digits : List ℕ) (more : Tokens) (bytes : List ℕ) → SpellsInt id digits → FitsSigned w16 id → IsNamed kind
      → IsReady tail (mark 44) (quoted digits ∷ mark 58 ∷ mark 123 ∷ name_token kind ∷ more) bytes → Found tail next_at bytes (field id kind) more
  next_found id kind digits more bytes spells fits named (rest, is, lies) =
      let here : Lies tail (quoted digits ∷ mark 58 ∷ mark 123 ∷ name_token kind ∷ more) (drop 1 bytes) = subst (λ b. Lies tail (quoted digits ∷ mark 58 ∷ mark 123 ∷ name_token kind ∷ more) (drop 1 b)) (sym is) lies in
      let a = ahead tail 1 bytes (quoted digits) (mark 58 ∷ mark 123 ∷ name_token kind ∷ more) refl here in
      let f = on tail field_at 1 bytes (field id kind) more (omega (arith, a.within)) (field_found id kind digits more (drop (1 + gap (drop 1 bytes)) bytes) spells fits named a.ready) in
      let same : next_at bytes ≡ further 1 field_at bytes = ap next_at is ∙ comma_next rest ∙ ap (further 1 field_at) (sym is) in
      record { past = f.past; read = same ∙ f.read; left = f.left; within = f.within }

  pub first_stop : (more : Tokens) → IsWord tail more first_at (mark 125) stop
  unfolding first_at
  first_stop more rest lies =
      let some : nat_lt (length (125 ∷ rest)) 1 ≡ false = grind (arith, nat_tests) in
      cond_false (nat_lt (length (125 ∷ rest)) 1) (fault 0 reasons.Truncated) (Ok (stop, 1)) some

  pub next_stop : (more : Tokens) → IsWord tail more next_at (mark 125) stop
  unfolding next_at
  next_stop more rest lies =
      let some : nat_lt (length (125 ∷ rest)) 1 ≡ false = grind (arith, nat_tests) in
      cond_false (nat_lt (length (125 ∷ rest)) 1) (fault 0 reasons.Truncated) (Ok (stop, 1)) some

  pub end_word : (more : Tokens) → IsWord tail more end_at (mark 93) end
  unfolding end_at
  end_word more rest lies = rw (mark_word tail 93 more rest lies) refl

  -- ---- numbers

  pub flag_in : (b : Bool) → (n : ℤ) × IsIn (pos 0) (pos 1) n (flag b) × (bool_value (int_lt (pos 0) n) ≡ bool_value b)
  flag_in true = (pos 1, record { spells = inr (inl ((omega arith, omega arith, tt), refl)); least = grind (arith, nat_tests); most = grind (arith, nat_tests); fits = (grind (arith, nat_tests), grind (arith, nat_tests)) }, refl)
  flag_in false = (pos 0, record { spells = inl (refl, refl); least = grind (arith, nat_tests); most = grind (arith, nat_tests); fits = (grind (arith, nat_tests), grind (arith, nat_tests)) }, refl)

  pub flag_solid : (key : Bool) (b : Bool) → IsSolid (number key (flag b))
  flag_solid true b = refl
  flag_solid false true = refl
  flag_solid false false = refl

  pub bool_word : (key : Bool) (hint : Hint) (b : Bool) (more : Tokens) → IsClear more → IsWord tail more (value_at key hint kinds.Bool) (number key (flag b)) (bool_value b)
  unfolding value_at bool_at
  bool_word key hint b more clear rest lies =
      let f = flag_in b in
      rw (whole_word tail key reasons.BadBool (pos 0) (pos 1) f.0 (flag b) more f.1 clear rest lies) (ap (λ i. Ok (i, length (number key (flag b)))) f.2)

  pub i8_word : (key : Bool) (hint : Hint) (z : ℤ) (digits : List ℕ) (more : Tokens) → SpellsInt z digits → FitsSigned w8 z → IsClear more → IsWord tail more (value_at key hint kinds.I8) (number key digits) (i8_value z)
  unfolding value_at i8_at
  i8_word key hint z digits more spells fits clear rest lies = rw (whole_word tail key reasons.BadNumber (negsuc 127) (pos 127) z digits more (in_8 z digits spells fits) clear rest lies) refl

  pub i16_word : (key : Bool) (hint : Hint) (z : ℤ) (digits : List ℕ) (more : Tokens) → SpellsInt z digits → FitsSigned w16 z → IsClear more → IsWord tail more (value_at key hint kinds.I16) (number key digits) (i16_value z)
  unfolding value_at i16_at
  i16_word key hint z digits more spells fits clear rest lies = rw (whole_word tail key reasons.BadNumber i16_low (pos 32767) z digits more (in_16 z digits spells fits) clear rest lies) refl

  pub i32_word : (key : Bool) (hint : Hint) (z : ℤ) (digits : List ℕ) (more : Tokens) → SpellsInt z digits → FitsSigned w32 z → IsClear more → IsWord tail more (value_at key hint kinds.I32) (number key digits) (i32_value z)
  unfolding value_at i32_at
  i32_word key hint z digits more spells fits clear rest lies = rw (whole_word tail key reasons.BadNumber (negsuc 2147483647) (pos 2147483647) z digits more (in_32 z digits spells fits) clear rest lies) refl

  pub i64_word : (key : Bool) (hint : Hint) (z : ℤ) (digits : List ℕ) (more : Tokens) → SpellsInt z digits → FitsSigned w64 z → IsClear more → IsWord tail more (value_at key hint kinds.I64) (number key digits) (i64_value z)
  unfolding value_at i64_at
  i64_word key hint z digits more spells fits clear rest lies = rw (whole_word tail key reasons.BadNumber (negsuc 9223372036854775807) (pos 9223372036854775807) z digits more (in_64 z digits spells fits) clear rest lies) refl

  -- ---- structs and containers

  pub struct_word : (key : Bool) (hint : Hint) (more : Tokens) → IsWord tail more (value_at key hint kinds.Struct) (mark 123) struct_begin
  unfolding value_at struct_at
  struct_word key hint more rest lies = rw (mark_word tail 123 more rest lies) refl

  sequence_found : (kind : Kind) (size : ℕ) (more : Tokens) (bytes : List ℕ) → IsNamed kind → size < 2 ^ 31 → IsClear more → IsReady tail (mark 91) (name_token kind ∷ mark 44 ∷ decimal size ∷ more) bytes
      → Found tail sequence_at bytes (kind, size) more
  unfolding sequence_at
  sequence_found kind size more bytes named small clear ready =
      let a = front tail (mark_at 91) (mark 91) (name_token kind ∷ mark 44 ∷ decimal size ∷ more) bytes tt (mark_word tail 91 (name_token kind ∷ mark 44 ∷ decimal size ∷ more)) ready in
      let b = found tail kind_at a.past bytes (name_token kind) (mark 44 ∷ decimal size ∷ more) kind (kind_word tail kind (mark 44 ∷ decimal size ∷ more) named) refl a.left in
      let c = found_mark tail 44 b.past bytes (decimal size ∷ more) refl b.left in
      let e = found tail size_in c.past bytes (decimal size) more size (size_word tail size more small clear) (size_solid size small) c.left in
      record { past = e.past; read = rw (a.read, b.read, c.read, e.read) refl; left = e.left; within = e.within }

  pub list_found : (key : Bool) (hint : Hint) (kind : Kind) (size : ℕ) (more : Tokens) (bytes : List ℕ) → IsNamed kind → size < 2 ^ 31 → IsClear more
      → IsReady tail (mark 91) (name_token kind ∷ mark 44 ∷ decimal size ∷ more) bytes → Found tail (value_at key hint kinds.List) bytes (list_begin kind size) more
  unfolding value_at list_at
  list_found key hint kind size more bytes named small clear ready =
      let f = sequence_found kind size more bytes named small clear ready in record { past = f.past; read = rw (f.read) refl; left = f.left; within = f.within }

  pub set_found : (key : Bool) (hint : Hint) (kind : Kind) (size : ℕ) (more : Tokens) (bytes : List ℕ) → IsNamed kind → size < 2 ^ 31 → IsClear more
      → IsReady tail (mark 91) (name_token kind ∷ mark 44 ∷ decimal size ∷ more) bytes → Found tail (value_at key hint kinds.Set) bytes (set_begin kind size) more
  unfolding value_at set_at
  set_found key hint kind size more bytes named small clear ready =
      let f = sequence_found kind size more bytes named small clear ready in record { past = f.past; read = rw (f.read) refl; left = f.left; within = f.within }

  map_head_found : (k v : Kind) (size : ℕ) (more : Tokens) (bytes : List ℕ) → IsNamed k → IsNamed v → size < 2 ^ 31 → IsClear more
      → IsReady tail (mark 91) (name_token k ∷ mark 44 ∷ name_token v ∷ mark 44 ∷ decimal size ∷ more) bytes → Found tail map_head_at bytes ((k, v), size) more
  unfolding map_head_at
  map_head_found k v size more bytes named other small clear ready =
      let a = front tail (mark_at 91) (mark 91) (name_token k ∷ mark 44 ∷ name_token v ∷ mark 44 ∷ decimal size ∷ more) bytes tt (mark_word tail 91 (name_token k ∷ mark 44 ∷ name_token v ∷ mark 44 ∷ decimal size ∷ more)) ready in
      let b = found tail kind_at a.past bytes (name_token k) (mark 44 ∷ name_token v ∷ mark 44 ∷ decimal size ∷ more) k (kind_word tail k (mark 44 ∷ name_token v ∷ mark 44 ∷ decimal size ∷ more) named) refl a.left in
      let c = found_mark tail 44 b.past bytes (name_token v ∷ mark 44 ∷ decimal size ∷ more) refl b.left in
      let e = found tail kind_at c.past bytes (name_token v) (mark 44 ∷ decimal size ∷ more) v (kind_word tail v (mark 44 ∷ decimal size ∷ more) other) refl c.left in
      let g = found_mark tail 44 e.past bytes (decimal size ∷ more) refl e.left in
      let h = found tail size_in g.past bytes (decimal size) more size (size_word tail size more small clear) (size_solid size small) g.left in
      record { past = h.past; read = rw (a.read, b.read, c.read, e.read, g.read, h.read) refl; left = h.left; within = h.within }

  some_pairs : (bytes : List ℕ) (k v : Kind) (size at : ℕ) → 1 ≤ size → map_then bytes k v size at ≡ Ok (map_begin k v size, at)
  some_pairs bytes k v zero at h = absurd (omega arith)
  some_pairs bytes k v (suc n) at h = refl

  pub map_found : (key : Bool) (hint : Hint) (k v : Kind) (size : ℕ) (more : Tokens) (bytes : List ℕ) → IsNamed k → IsNamed v → 1 ≤ size → size < 2 ^ 31 → IsClear more
      → IsReady tail (mark 91) (name_token k ∷ mark 44 ∷ name_token v ∷ mark 44 ∷ decimal size ∷ more) bytes → Found tail (value_at key hint kinds.Map) bytes (map_begin k v size) more
  unfolding value_at map_at
  map_found key hint k v size more bytes named other some small clear ready =
      let f = map_head_found k v size more bytes named other small clear ready in
      record { past = f.past; read = rw (f.read) (some_pairs bytes k v size f.past some); left = f.left; within = f.within }

  pub none_found : (key : Bool) (hint : Hint) (k v : Kind) (more : Tokens) (bytes : List ℕ) → IsNamed k → IsNamed v
      → IsReady tail (mark 91) (name_token k ∷ mark 44 ∷ name_token v ∷ mark 44 ∷ decimal 0 ∷ mark 44 ∷ mark 123 ∷ mark 125 ∷ mark 93 ∷ more) bytes → Found tail (value_at key hint kinds.Map) bytes empty_map more
  unfolding value_at map_at no_pairs_at
  none_found key hint k v more bytes named other ready =
      let f = map_head_found k v 0 (mark 44 ∷ mark 123 ∷ mark 125 ∷ mark 93 ∷ more) bytes named other (omega arith) refl ready in
      let a = found_mark tail 44 f.past bytes (mark 123 ∷ mark 125 ∷ mark 93 ∷ more) refl f.left in
      let b = found_mark tail 123 a.past bytes (mark 125 ∷ mark 93 ∷ more) refl a.left in
      let c = found_mark tail 125 b.past bytes (mark 93 ∷ more) refl b.left in
      let e = found_mark tail 93 c.past bytes more refl c.left in
      record { past = e.past; read = rw (f.read, a.read, b.read, c.read, e.read) refl; left = e.left; within = e.within }

  -- ---- numbers that are no integers

  pub double_word : (key : Bool) (hint : Hint) (digits token : List ℕ) (more : Tokens) → IsDoubleToken key digits (token ∷ []) → IsClear more → IsWord tail more (value_at key hint kinds.Double) token (number_text digits)
  unfolding value_at double_at
  double_word key hint digits token more is clear rest lies =
      rw (double_read key digits token rest is (lies_apart tail more rest clear lies)) refl

-- ---- strings

-- one token that spells a string
pub record StringToken (tail : List ℕ) (hint : Hint) (tokens : Tokens) (item : Item) : Type 0 where
  pub token : List ℕ
  pub is : tokens ≡ token ∷ []
  pub solid : IsSolid token
  pub word : (key : Bool) (more : Tokens) → IsWord tail more (value_at key hint kinds.Str) token item

pub string_token : (tail : List ℕ) (hint : Hint) (bytes : List ℕ) (tokens : Tokens) → IsStringToken hint bytes tokens → StringToken tail hint tokens (text bytes)
unfolding value_at string_in
string_token tail hints.Text bytes tokens (token, h, is) = record { token = token; is = is; solid = text_solid bytes token h; word = (λ key more rest lies. rw (text_word tail bytes token more h rest lies) refl) }
string_token tail hints.Blob bytes tokens (token, h, is) = record { token = token; is = is; solid = blob_solid bytes token h; word = (λ key more rest lies. rw (blob_word tail bytes token more h rest lies) refl) }
string_token tail hints.Unknown bytes tokens h = absurd h

pub loose_token : (tail : List ℕ) (hint : Hint) (bytes : List ℕ) (tokens : Tokens) → IsLooseToken hint bytes tokens → StringToken tail hint tokens (unknown_text bytes)
unfolding value_at string_in
loose_token tail hints.Text bytes tokens h = absurd h
loose_token tail hints.Blob bytes tokens h = absurd h
loose_token tail hints.Unknown bytes tokens (token, h, is) = record { token = token; is = is; solid = text_solid bytes token h; word = (λ key more rest lies. rw (text_word tail bytes token more h rest lies) refl) }
