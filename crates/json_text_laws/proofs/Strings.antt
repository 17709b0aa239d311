-- What is spelled as a string is read.
use Rattle.std.proofs.Common.{◌≡◌, ℕ, suc, ◌+◌, ◌-◌, ◌*◌, ◌/◌, ◌%◌, ◌<◌, ◌≤◌, Bool, true, false, cond, List, [], ◌∷◌, ◌++◌, length, take, drop, Some, refl, sym, ap, ◌∙◌, subst, arith, ◌⊎◌, inl, inr, length-append}
use Rattle.std.specs.Prelude.{not, nat_lt, nat_le, ◌==◌, ◌&&◌, ◌||◌}
use Rattle.std.specs.List.{prefix_len}
use Rattle.std.specs.Char.{IsScalar, encode_utf8, digit_value}
use Rattle.std.specs.Str.Lossy.{utf8_valid_len, utf8_error_len}
use Rattle.std.proofs.lemmas.List.{append-nil, drop-drop}
use Rattle.std.proofs.Math.Seq.{take-append-add}
use Rattle.std.proofs.lemmas.Bool.{cond_both}
use Rattle.std.proofs.lemmas.Bool.Decides.{nat_tests}
use Rattle.json_text.specs.declared.scanned.Scan.{Scan}
use Rattle.json_text.specs.declared.scanned.Scan.TheVariants.{Whole, Short, Bad}
use Rattle.json_text.specs.Scan.{moved}
use Rattle.json_text.specs.Escape.{unit_at, begins_unit, begins_low, begins_second, is_high, is_low, pair as joined, pair_at, unit_then, unicode_at, short_escape, short_then, escape_at}
use Rattle.json_text.specs.Text.{is_plain, behind, ends_early, escape_then, piece_then, broken, run_then, pieces_at, text_at}
use Rattle.json_text.specs.Grammar.{Piece, plain, short, unit, pair, IsShort, IsHex, IsUnit, IsPiece, piece_spelled, piece_meant, ArePieces, all_spelled, all_meant, SpellsText}
use Rattle.json_text.proofs.Turns.{pieces_turn, behind-behind, at_quote, at_escape}
use Rattle.json_text_laws.proofs.Choices.{cond_true, cond_false}
use Rattle.json_text_laws.proofs.Parts.{All, drop_front, append_more}
use Rattle.json_text_laws.proofs.Characters.{valid_behind}

-- ---- characters as they stand

plain_big : (x : ℕ) → 128 ≤ x → is_plain x ≡ true
plain_big x h = grind (arith, nat_tests)

encode_plain : (c : ℕ) → 32 ≤ c → (c ≡ 34 → ⊥) → (c ≡ 92 → ⊥) → All is_plain (encode_utf8 c)
unfolding encode_utf8
encode_plain c low p q =
    let next = λ (bits : ℕ). 128 + bits % 64 in
    let four = (240 + c / 262144) ∷ next (c / 4096) ∷ next (c / 64) ∷ next c ∷ [] in
    let three = (224 + c / 4096) ∷ next (c / 64) ∷ next c ∷ [] in
    let two = (192 + c / 64) ∷ next c ∷ [] in
    cond_both (nat_lt c 128) (c ∷ []) (cond (nat_lt c 2048) two (cond (nat_lt c 65536) three four)) (All is_plain) (λ e. (grind (arith, nat_tests), tt)) (λ _.
    cond_both (nat_lt c 2048) two (cond (nat_lt c 65536) three four) (All is_plain) (λ _. (plain_big (192 + c / 64) (omega arith), (plain_big (next c) (omega arith), tt))) (λ _.
    cond_both (nat_lt c 65536) three four (All is_plain) (λ _. (plain_big (224 + c / 4096) (omega arith), (plain_big (next (c / 64)) (omega arith), (plain_big (next c) (omega arith), tt))))
    (λ _. (plain_big (240 + c / 262144) (omega arith), (plain_big (next (c / 4096)) (omega arith), (plain_big (next (c / 64)) (omega arith), (plain_big (next c) (omega arith), tt)))))))

one_on : (b : Bool) (n : ℕ) → b ≡ true → cond b (1 + n) 0 ≡ suc n
one_on true n e = omega arith
one_on false n e = absurd (cc)

pub run_on : (p : ℕ → Bool) (front rest : List ℕ) → All p front → prefix_len p (front ++ rest) ≡ length front + prefix_len p rest
run_on p [] rest all = omega arith
run_on p (x ∷ xs) rest all = one_on (p x) (prefix_len p (xs ++ rest)) all.0 ∙ ap suc (run_on p xs rest all.1) ∙ omega arith

drop_on : (front rest : List ℕ) (n : ℕ) → drop (length front + n) (front ++ rest) ≡ drop n rest
drop_on front rest n = sym (drop-drop n (length front) (front ++ rest)) ∙ ap (drop n) (drop_front front rest)

-- a character in front of a run that ends there or breaks
module _ (go : List ℕ → Scan (List ℕ)) (e rest : List ℕ) (r v : ℕ) where
  shifted_test : (length e + v == length e + r) ≡ (v == r)
  shifted_test = grind (arith, nat_tests)

  ends_same : (length e + r == length (e ++ rest)) ≡ (r == length rest)
  ends_same = let l = length-append e rest in grind (arith, nat_tests)

  behind_cond : (b : Bool) → cond b Short (Bad (length e + v)) ≡ behind e (length e) (cond b Short (Bad v))
  behind_cond true = refl
  behind_cond false = refl

  broken_on : take (length e + r) (e ++ rest) ≡ e ++ take r rest → broken (e ++ rest) (length e + r) (length e + v) ≡ behind e (length e) (broken rest r v)
  broken_on run =
      let same : drop (length e + v) (take (length e + r) (e ++ rest)) ≡ drop v (take r rest) = ap (drop (length e + v)) run ∙ drop_on e (take r rest) v in
      ap (λ t. cond (t && ends_early (utf8_error_len (drop (length e + v) (take (length e + r) (e ++ rest))))) Short (Bad (length e + v))) ends_same
      ∙ ap (λ l. cond ((r == length rest) && ends_early (utf8_error_len l)) Short (Bad (length e + v))) same
      ∙ behind_cond ((r == length rest) && ends_early (utf8_error_len (drop v (take r rest))))

  passed_on : take (length e + r) (e ++ rest) ≡ e ++ take r rest
      → behind (take (length e + r) (e ++ rest)) (length e + r) (piece_then go (drop (length e + r) (e ++ rest))) ≡ behind e (length e) (behind (take r rest) r (piece_then go (drop r rest)))
  passed_on run =
      ap (λ f. behind f (length e + r) (piece_then go (drop (length e + r) (e ++ rest)))) run ∙ ap (λ l. behind (e ++ take r rest) (length e + r) (piece_then go l)) (drop_on e rest r)
      ∙ sym (behind-behind e (take r rest) (length e) r (piece_then go (drop r rest)))

  by_test : (b : Bool) (x y : Scan (List ℕ)) (z w : Scan (List ℕ)) → x ≡ behind e (length e) z → y ≡ behind e (length e) w → cond b x y ≡ behind e (length e) (cond b z w)
  by_test true x y z w p q = p
  by_test false x y z w p q = q

  run_shifted : take (length e + r) (e ++ rest) ≡ e ++ take r rest → run_then go (e ++ rest) (length e + r) (length e + v) ≡ behind e (length e) (run_then go rest r v)
  unfolding run_then
  run_shifted run =
      let on = behind (take (length e + r) (e ++ rest)) (length e + r) (piece_then go (drop (length e + r) (e ++ rest))) in
      let off = broken (e ++ rest) (length e + r) (length e + v) in
      ap (λ t. cond t on off) shifted_test ∙ by_test (v == r) on off (behind (take r rest) r (piece_then go (drop r rest))) (broken rest r v) (passed_on run) (broken_on run)

pub plain_on : (c : ℕ) (rest : List ℕ) → IsScalar c → 32 ≤ c → (c ≡ 34 → ⊥) → (c ≡ 92 → ⊥) → pieces_at (encode_utf8 c ++ rest) ≡ behind (encode_utf8 c) (length (encode_utf8 c)) (pieces_at rest)
plain_on c rest scalar low p q =
    let e = encode_utf8 c in
    let r = prefix_len is_plain rest in
    let v = utf8_valid_len (take r rest) in
    let run : prefix_len is_plain (e ++ rest) ≡ length e + r = run_on is_plain e rest (encode_plain c low p q) in
    let front : take (length e + r) (e ++ rest) ≡ e ++ take r rest = take-append-add e rest r in
    let valid : utf8_valid_len (take (length e + r) (e ++ rest)) ≡ length e + v = ap utf8_valid_len front ∙ valid_behind c scalar (take r rest) in
    pieces_turn (e ++ rest) ∙ ap (λ n. run_then pieces_at (e ++ rest) n (utf8_valid_len (take n (e ++ rest)))) run
    ∙ ap (run_then pieces_at (e ++ rest) (length e + r)) valid ∙ run_shifted pieces_at e rest r v front ∙ ap (behind e (length e)) (sym (pieces_turn rest))

-- ---- where no plain byte stands

none_valid : utf8_valid_len [] ≡ 0
unfolding utf8_valid_len
none_valid = refl

pub behind_none : (scan : Scan (List ℕ)) → behind [] 0 scan ≡ scan
behind_none (Whole t n) = ap (Whole t) (omega arith)
behind_none Short = refl
behind_none (Bad n) = ap Bad (omega arith)

at_once : (go : List ℕ → Scan (List ℕ)) (bytes : List ℕ) → run_then go bytes 0 0 ≡ behind [] 0 (piece_then go bytes)
unfolding run_then
at_once go bytes = refl

pub stop_here : (x : ℕ) (rest : List ℕ) → is_plain x ≡ false → pieces_at (x ∷ rest) ≡ piece_then pieces_at (x ∷ rest)
stop_here x rest e =
    let none : prefix_len is_plain (x ∷ rest) ≡ 0 = cond_false (is_plain x) (1 + prefix_len is_plain rest) 0 e in
    pieces_turn (x ∷ rest) ∙ ap (λ n. run_then pieces_at (x ∷ rest) n (utf8_valid_len (take n (x ∷ rest)))) none ∙ ap (run_then pieces_at (x ∷ rest) 0) none_valid
    ∙ at_once pieces_at (x ∷ rest) ∙ behind_none (piece_then pieces_at (x ∷ rest))

pub quote_on : (rest : List ℕ) → pieces_at (34 ∷ rest) ≡ Whole [] 1
quote_on rest = stop_here 34 rest refl ∙ at_quote (34 ∷ rest) (omega arith) refl

pub escape_on : (rest : List ℕ) → pieces_at (92 ∷ rest) ≡ escape_then pieces_at (92 ∷ rest) (escape_at (92 ∷ rest))
escape_on rest = stop_here 92 rest refl ∙ at_escape (92 ∷ rest) (omega arith) refl

-- ---- escapes of one letter

pub short_is : (letter c : ℕ) → IsShort letter c → (short_escape letter ≡ Some c) × ((letter == 117) ≡ false)
unfolding short_escape
short_is letter c (inl (e, inl q)) = (ap (λ x. short_escape x) q ∙ ap Some (sym q ∙ e), ap (λ x. x == 117) q)
short_is letter c (inl (e, inr (inl q))) = (ap (λ x. short_escape x) q ∙ ap Some (sym q ∙ e), ap (λ x. x == 117) q)
short_is letter c (inl (e, inr (inr q))) = (ap (λ x. short_escape x) q ∙ ap Some (sym q ∙ e), ap (λ x. x == 117) q)
short_is letter c (inr (inl (q, e))) = (ap (λ x. short_escape x) q ∙ ap Some (sym e), ap (λ x. x == 117) q)
short_is letter c (inr (inr (inl (q, e)))) = (ap (λ x. short_escape x) q ∙ ap Some (sym e), ap (λ x. x == 117) q)
short_is letter c (inr (inr (inr (inl (q, e))))) = (ap (λ x. short_escape x) q ∙ ap Some (sym e), ap (λ x. x == 117) q)
short_is letter c (inr (inr (inr (inr (inl (q, e)))))) = (ap (λ x. short_escape x) q ∙ ap Some (sym e), ap (λ x. x == 117) q)
short_is letter c (inr (inr (inr (inr (inr (q, e)))))) = (ap (λ x. short_escape x) q ∙ ap Some (sym e), ap (λ x. x == 117) q)

two_there : (x y : ℕ) (rest : List ℕ) → nat_lt (length (x ∷ y ∷ rest)) 2 ≡ false
two_there x y rest = grind (arith, nat_tests)

short_on : (letter c : ℕ) (rest : List ℕ) → IsShort letter c → escape_at (92 ∷ letter ∷ rest) ≡ Whole c 2
unfolding escape_at
short_on letter c rest is =
    let s = short_is letter c is in
    let bytes = 92 ∷ letter ∷ rest in
    cond_false (nat_lt (length bytes) 2) Short (cond (letter == 117) (unicode_at bytes) (short_then (short_escape letter))) (two_there 92 letter rest)
    ∙ cond_false (letter == 117) (unicode_at bytes) (short_then (short_escape letter)) s.1 ∙ ap short_then s.0

-- ---- code units

hex_value : (x n : ℕ) → IsHex x n → (digit_value x ≡ n) × (n ≤ 15)
hex_value x n (inl h) =
    let low = h.0 in let high = h.1 in let is = h.2 in
    (cond_false (nat_lt x 48) 36 _ (grind (arith, nat_tests)) ∙ cond_true (nat_lt x 58) (x - 48) _ (grind (arith, nat_tests)) ∙ omega arith, omega arith)
hex_value x n (inr (inl h)) =
    let low = h.0 in let high = h.1 in let is = h.2 in (
      cond_false (nat_lt x 48) 36 _ (grind (arith, nat_tests)) ∙ cond_false (nat_lt x 58) (x - 48) _ (grind (arith, nat_tests)) ∙ cond_false (nat_lt x 65) 36 _ (grind (arith, nat_tests))
          ∙ cond_true (nat_lt x 91) (x - 55) _ (grind (arith, nat_tests)) ∙ omega arith,
      omega arith,
    )
hex_value x n (inr (inr h)) =
    let low = h.0 in let high = h.1 in let is = h.2 in (
      cond_false (nat_lt x 48) 36 _ (grind (arith, nat_tests)) ∙ cond_false (nat_lt x 58) (x - 48) _ (grind (arith, nat_tests)) ∙ cond_false (nat_lt x 65) 36 _ (grind (arith, nat_tests))
          ∙ cond_false (nat_lt x 91) (x - 55) _ (grind (arith, nat_tests)) ∙ cond_false (nat_lt x 97) 36 _ (grind (arith, nat_tests)) ∙ cond_true (nat_lt x 123) (x - 87) 36 (grind (arith, nat_tests)) ∙ omega arith,
      omega arith,
    )

fits_between : (b : Bool) (d low high : ℕ) → low ≤ d → d ≤ high → (b || (nat_le low d && nat_le d high)) ≡ true
fits_between true d low high p q = refl
fits_between false d low high p q = grind (arith, nat_tests)

four_true : (a b c d : Bool) → a ≡ true → b ≡ true → c ≡ true → d ≡ true → (a && b && c && d) ≡ true
four_true a b c d p q r s = cc

-- four hexadecimal digits and their values
pub record Four (digits : List ℕ) (code : ℕ) : Type 0 where
  pub a : ℕ
  pub b : ℕ
  pub c : ℕ
  pub d : ℕ
  pub is : digits ≡ a ∷ b ∷ c ∷ d ∷ []
  pub first : digit_value a ≤ 15
  pub second : digit_value b ≤ 15
  pub third : digit_value c ≤ 15
  pub fourth : digit_value d ≤ 15
  pub value : digit_value a * 4096 + digit_value b * 256 + digit_value c * 16 + digit_value d ≡ code

pub four_of : (digits : List ℕ) (code : ℕ) → IsUnit digits code → Four digits code
four_of digits code (a, b, c, d, m, n, o, p, is, hm, hn, ho, hp, value) =
    let e = hex_value a m hm in
    let f = hex_value b n hn in
    let g = hex_value c o ho in
    let h = hex_value d p hp in
    record {
      a = a;
      b = b;
      c = c;
      d = d;
      is = is;
      first = omega (arith, e.0, e.1);
      second = omega (arith, f.0, f.1);
      third = omega (arith, g.0, g.1);
      fourth = omega (arith, h.0, h.1);
      value = omega (arith, e.0, f.0, g.0, h.0);
    }

begins_four : (a b c d : ℕ) (rest : List ℕ) → digit_value a ≤ 15 → digit_value b ≤ 15 → digit_value c ≤ 15 → digit_value d ≤ 15 → begins_unit (92 ∷ 117 ∷ a ∷ b ∷ c ∷ d ∷ rest) 2 ≡ true
unfolding begins_unit
begins_four a b c d rest p q r s =
    let n = length (92 ∷ 117 ∷ a ∷ b ∷ c ∷ d ∷ rest) in
    four_true _ _ _ _ (fits_between (nat_le n 2) (digit_value a) 0 15 (omega arith) p) (fits_between (nat_le n 3) (digit_value b) 0 15 (omega arith) q)
    (fits_between (nat_le n 4) (digit_value c) 0 15 (omega arith) r) (fits_between (nat_le n 5) (digit_value d) 0 15 (omega arith) s)

at_unicode : (bytes : List ℕ) → escape_at (92 ∷ 117 ∷ bytes) ≡ unicode_at (92 ∷ 117 ∷ bytes)
unfolding escape_at
at_unicode bytes = cond_false (nat_lt (length (92 ∷ 117 ∷ bytes)) 2) Short (unicode_at (92 ∷ 117 ∷ bytes)) (two_there 92 117 bytes)

at_unit : (a b c d code : ℕ) (rest : List ℕ) → digit_value a ≤ 15 → digit_value b ≤ 15 → digit_value c ≤ 15 → digit_value d ≤ 15
    → digit_value a * 4096 + digit_value b * 256 + digit_value c * 16 + digit_value d ≡ code → unicode_at (92 ∷ 117 ∷ a ∷ b ∷ c ∷ d ∷ rest) ≡ unit_then code (92 ∷ 117 ∷ a ∷ b ∷ c ∷ d ∷ rest)
unfolding unicode_at
at_unit a b c d code rest p q r s value =
    let bytes = 92 ∷ 117 ∷ a ∷ b ∷ c ∷ d ∷ rest in
    let long : nat_lt (length bytes) 6 ≡ false = grind (arith, nat_tests) in
    let begins : not (begins_unit bytes 2) ≡ false = ap not (begins_four a b c d rest p q r s) in
    let early = cond (begins_low bytes 2) (Bad 0) Short in
    cond_false (not (begins_unit bytes 2)) (Bad 0) (cond (nat_lt (length bytes) 6) early (unit_then (unit_at bytes 2) bytes)) begins
    ∙ cond_false (nat_lt (length bytes) 6) early (unit_then (unit_at bytes 2) bytes) long ∙ ap (λ u. unit_then u bytes) value

no_half : (code : ℕ) (bytes : List ℕ) → (code < 0xd800) ⊎ (0xe000 ≤ code) → unit_then code bytes ≡ Whole code 6
no_half code bytes (inl h) =
    cond_false (is_high code) (pair_at code bytes) (cond (is_low code) (Bad 0) (Whole code 6)) (grind (arith, nat_tests)) ∙ cond_false (is_low code) (Bad 0) (Whole code 6) (grind (arith, nat_tests))
no_half code bytes (inr h) =
    cond_false (is_high code) (pair_at code bytes) (cond (is_low code) (Bad 0) (Whole code 6)) (grind (arith, nat_tests)) ∙ cond_false (is_low code) (Bad 0) (Whole code 6) (grind (arith, nat_tests))

or_true : (b : Bool) → (b || true) ≡ true
or_true true = refl
or_true false = refl

six_true : (a b c d e f : Bool) → a ≡ true → b ≡ true → c ≡ true → d ≡ true → e ≡ true → f ≡ true → (a && b && c && d && e && f) ≡ true
six_true a b c d e f p q r s t u = cc

second_begins : (a b c d e f g h : ℕ) (rest : List ℕ) → digit_value e ≡ 13 → 12 ≤ digit_value f → digit_value f ≤ 15 → digit_value g ≤ 15 → digit_value h ≤ 15
    → begins_second (92 ∷ 117 ∷ a ∷ b ∷ c ∷ d ∷ 92 ∷ 117 ∷ e ∷ f ∷ g ∷ h ∷ rest) 6 ≡ true
unfolding begins_second
second_begins a b c d e f g h rest p q r s t =
    let n = length (92 ∷ 117 ∷ a ∷ b ∷ c ∷ d ∷ 92 ∷ 117 ∷ e ∷ f ∷ g ∷ h ∷ rest) in
    six_true _ _ _ _ _ _ (or_true (nat_le n 6)) (or_true (nat_le n 7)) (fits_between (nat_le n 8) (digit_value e) 13 13 (omega arith) (omega arith)) (fits_between (nat_le n 9) (digit_value f) 12 15 q r)
    (fits_between (nat_le n 10) (digit_value g) 0 15 (omega arith) s) (fits_between (nat_le n 11) (digit_value h) 0 15 (omega arith) t)

at_pair : (a b c d e f g h high low : ℕ) (rest : List ℕ) → 0xd800 ≤ high → high < 0xdc00 → digit_value e ≡ 13 → 12 ≤ digit_value f → digit_value f ≤ 15 → digit_value g ≤ 15 → digit_value h ≤ 15
    → digit_value e * 4096 + digit_value f * 256 + digit_value g * 16 + digit_value h ≡ low
    → unit_then high (92 ∷ 117 ∷ a ∷ b ∷ c ∷ d ∷ 92 ∷ 117 ∷ e ∷ f ∷ g ∷ h ∷ rest) ≡ Whole (joined high low) 12
unfolding pair_at
at_pair a b c d e f g h high low rest least most p q r s t value =
    let bytes = 92 ∷ 117 ∷ a ∷ b ∷ c ∷ d ∷ 92 ∷ 117 ∷ e ∷ f ∷ g ∷ h ∷ rest in
    let long : nat_lt (length bytes) 12 ≡ false = grind (arith, nat_tests) in
    let begins : not (begins_second bytes 6) ≡ false = ap not (second_begins a b c d e f g h rest p q r s t) in
    cond_true (is_high high) (pair_at high bytes) (cond (is_low high) (Bad 0) (Whole high 6)) (grind (arith, nat_tests))
    ∙ cond_false (not (begins_second bytes 6)) (Bad 0) (cond (nat_lt (length bytes) 12) Short (Whole (joined high (unit_at bytes 8)) 12)) begins
    ∙ cond_false (nat_lt (length bytes) 12) Short (Whole (joined high (unit_at bytes 8)) 12) long ∙ ap (λ u. Whole (joined high u) 12) value

-- ---- one piece, and all

unit_on : (digits rest : List ℕ) (code : ℕ) → Four digits code → (code < 0xd800) ⊎ (0xe000 ≤ code)
    → pieces_at ((92 ∷ 117 ∷ digits) ++ rest) ≡ behind (encode_utf8 code) (length (92 ∷ 117 ∷ digits)) (pieces_at rest)
unit_on digits rest code f outside =
    subst (λ ds. pieces_at ((92 ∷ 117 ∷ ds) ++ rest) ≡ behind (encode_utf8 code) (length (92 ∷ 117 ∷ ds)) (pieces_at rest)) (sym f.is)
    (let bytes = f.a ∷ f.b ∷ f.c ∷ f.d ∷ rest in
    escape_on (117 ∷ bytes)
    ∙ ap (escape_then pieces_at (92 ∷ 117 ∷ bytes)) (at_unicode bytes ∙ at_unit f.a f.b f.c f.d code rest f.first f.second f.third f.fourth f.value ∙ no_half code (92 ∷ 117 ∷ bytes) outside))

pair_by : (first second rest : List ℕ) (high low : ℕ) → Four first high → Four second low → 0xd800 ≤ high → high < 0xdc00 → 0xdc00 ≤ low → low < 0xe000
    → pieces_at ((92 ∷ 117 ∷ (first ++ (92 ∷ 117 ∷ second))) ++ rest) ≡ behind (encode_utf8 (joined high low)) (length (92 ∷ 117 ∷ (first ++ (92 ∷ 117 ∷ second)))) (pieces_at rest)
pair_by first second rest high low f g least most low_least low_most =
    subst (λ ds. pieces_at ((92 ∷ 117 ∷ (ds ++ (92 ∷ 117 ∷ second))) ++ rest) ≡ behind (encode_utf8 (joined high low)) (length (92 ∷ 117 ∷ (ds ++ (92 ∷ 117 ∷ second)))) (pieces_at rest)) (sym f.is)
    (subst (λ ds. pieces_at ((92 ∷ 117 ∷ ((f.a ∷ f.b ∷ f.c ∷ f.d ∷ []) ++ (92 ∷ 117 ∷ ds))) ++ rest) ≡ behind (encode_utf8 (joined high low)) (length (92 ∷ 117 ∷ ((f.a ∷ f.b ∷ f.c ∷ f.d ∷ []) ++ (92 ∷ 117 ∷ ds)))) (pieces_at rest)) (sym g.is)
    (let tail = 92 ∷ 117 ∷ g.a ∷ g.b ∷ g.c ∷ g.d ∷ rest in
    let bytes = f.a ∷ f.b ∷ f.c ∷ f.d ∷ tail in
    let gv = g.value in let g1 = g.first in let g2 = g.second in let g3 = g.third in let g4 = g.fourth in
    let thirteen : digit_value g.a ≡ 13 = omega arith in
    let twelve : 12 ≤ digit_value g.b = omega arith in
    escape_on (117 ∷ bytes)
    ∙ ap (escape_then pieces_at (92 ∷ 117 ∷ bytes)) (at_unicode bytes ∙ at_unit f.a f.b f.c f.d high tail f.first f.second f.third f.fourth f.value
    ∙ at_pair f.a f.b f.c f.d g.a g.b g.c g.d high low rest least most thirteen twelve g.second g.third g.fourth g.value)))

pub piece_on : (p : Piece) (rest : List ℕ) → IsPiece p → pieces_at (piece_spelled p ++ rest) ≡ behind (piece_meant p) (length (piece_spelled p)) (pieces_at rest)
piece_on (plain c) rest is = plain_on c rest is.0 is.1 is.2 is.3
piece_on (short letter c) rest is = escape_on (letter ∷ rest) ∙ ap (escape_then pieces_at (92 ∷ letter ∷ rest)) (short_on letter c rest is)
piece_on (unit digits code) rest is = unit_on digits rest code (four_of digits code is.0) is.1
piece_on (pair first high second low) rest is = pair_by first second rest high low (four_of first high is.0) (four_of second low is.3) is.1 is.2 is.4 is.5

pub all_on : (ps : List Piece) (rest : List ℕ) → ArePieces ps → pieces_at (all_spelled ps ++ rest) ≡ behind (all_meant ps) (length (all_spelled ps)) (pieces_at rest)
all_on [] rest are = sym (behind_none (pieces_at rest))
all_on (p ∷ ps) rest are =
    let more = all_spelled ps ++ rest in
    ap pieces_at (append_more (piece_spelled p) (all_spelled ps) rest) ∙ piece_on p more are.0 ∙ ap (behind (piece_meant p) (length (piece_spelled p))) (all_on ps rest are.1)
    ∙ behind-behind (piece_meant p) (all_meant ps) (length (piece_spelled p)) (length (all_spelled ps)) (pieces_at rest)
    ∙ ap (λ n. behind (piece_meant p ++ all_meant ps) n (pieces_at rest)) (sym (length-append (piece_spelled p) (all_spelled ps)))

quoted_text : (rest : List ℕ) → text_at (34 ∷ rest) ≡ moved 1 (pieces_at rest)
unfolding text_at
quoted_text rest = cond_false (nat_lt (length (34 ∷ rest)) 1) Short (moved 1 (pieces_at rest)) (grind (arith, nat_tests))

pub spelled_text : (meant front rest : List ℕ) → SpellsText meant front → text_at (front ++ rest) ≡ Whole meant (length front)
spelled_text meant front rest (ps, are, means, is) =
    let s = all_spelled ps in
    let laid : front ++ rest ≡ 34 ∷ (s ++ 34 ∷ rest) = ap (λ f. f ++ rest) is ∙ ap (λ r. 34 ∷ r) (append_more s (34 ∷ []) rest) in
    let size : length front ≡ 1 + (length s + 1) = ap length is ∙ omega (arith, length-append s (34 ∷ [])) in
    ap text_at laid ∙ quoted_text (s ++ 34 ∷ rest) ∙ ap (moved 1) (all_on ps (34 ∷ rest) are ∙ ap (behind (all_meant ps) (length s)) (quote_on rest))
    ∙ ap (λ t. Whole t (1 + (length s + 1))) (append-nil (all_meant ps) ∙ sym means) ∙ ap (Whole meant) (sym size)
