-- A piece of a string that the bytes end inside is completed to a whole one.
use Rattle.std.proofs.Common.{◌≡◌, ℕ, ◌+◌, ◌-◌, ◌*◌, ◌/◌, ◌%◌, ◌<◌, ◌≤◌, Bool, true, false, cond, List, [], ◌∷◌, ◌++◌, length, Option, Some, None, refl, sym, ap, ◌∙◌, subst, arith, ◌⊎◌, inl, inr}
use Rattle.std.specs.Prelude.{not, nat_lt, nat_le, ◌==◌, ◌&&◌, ◌||◌}
use Rattle.std.specs.Int.{is_in_range}
use Rattle.std.specs.Char.{IsScalar, encode_utf8, digit_value}
use Rattle.std.specs.Str.Lossy.{utf8_valid_len, utf8_error_len, second_byte_min, second_byte_max}
use Rattle.std.proofs.lemmas.List.{append-nil}
use Rattle.std.proofs.lemmas.Bool.Decides.{nat_tests}
use Rattle.json_text.specs.declared.scanned.Scan.{Scan}
use Rattle.json_text.specs.declared.scanned.Scan.TheVariants.{Whole, Short, Bad}
use Rattle.json_text.specs.Escape.{digit_fits, byte_fits, unit_at, begins_unit, begins_low, begins_second, is_high, is_low, pair_at, unit_then, unicode_at, short_escape, short_then, escape_at}
use Rattle.json_text.specs.Grammar.{Piece, plain, short, unit, pair, IsUnit, IsPiece, piece_spelled}
use Rattle.json_text_laws.proofs.Choices.{cond_true, cond_false, either_way}
use Rattle.json_text_laws.proofs.Characters.{valid_behind}
use Rattle.json_text_laws.proofs.Read.{hex_of, fits_in, byte_in, four_split, six_split, escape_one, escape_two, is_eq, true_of_not}
use Rattle.json_text_laws.proofs.Parts.{append_more}

-- nothing, or a front of a piece
abbrev pub Open : List ℕ → Type 0
Open bytes = (bytes ≡ []) ⊎ ((more : List ℕ) × (p : Piece) × IsPiece p × (bytes ++ more ≡ piece_spelled p))

-- ---- characters

-- a character above the first 128 that these bytes are
record Char (bytes : List ℕ) : Type 0 where
  code : ℕ
  is : IsScalar code
  high : 128 ≤ code
  spells : encode_utf8 code ≡ bytes

scalar_of : (c : ℕ) → c < 0x110000 → (c < 0xd800) ⊎ (0xe000 ≤ c) → IsScalar c
scalar_of c most (inl h) = grind (arith, nat_tests)
scalar_of c most (inr h) = grind (arith, nat_tests)

pub two_spelled : (c : ℕ) → 128 ≤ c → c < 2048 → encode_utf8 c ≡ (192 + c / 64) ∷ (128 + c % 64) ∷ []
unfolding encode_utf8
two_spelled c low high = cond_false (nat_lt c 128) _ _ (grind (arith, nat_tests)) ∙ cond_true (nat_lt c 2048) _ _ (grind (arith, nat_tests))

pub three_spelled : (c : ℕ) → 2048 ≤ c → c < 65536 → encode_utf8 c ≡ (224 + c / 4096) ∷ (128 + (c / 64) % 64) ∷ (128 + c % 64) ∷ []
unfolding encode_utf8
three_spelled c low high =
    cond_false (nat_lt c 128) _ _ (grind (arith, nat_tests)) ∙ cond_false (nat_lt c 2048) _ _ (grind (arith, nat_tests)) ∙ cond_true (nat_lt c 65536) _ _ (grind (arith, nat_tests))

pub four_spelled : (c : ℕ) → 65536 ≤ c → encode_utf8 c ≡ (240 + c / 262144) ∷ (128 + (c / 4096) % 64) ∷ (128 + (c / 64) % 64) ∷ (128 + c % 64) ∷ []
unfolding encode_utf8
four_spelled c low =
    cond_false (nat_lt c 128) _ _ (grind (arith, nat_tests)) ∙ cond_false (nat_lt c 2048) _ _ (grind (arith, nat_tests)) ∙ cond_false (nat_lt c 65536) _ _ (grind (arith, nat_tests))

same_two : (a b m n : ℕ) → a ≡ m → b ≡ n → a ∷ b ∷ [] ≡ m ∷ n ∷ []
same_two a b m n p q = cc

same_three : (a b c m n o : ℕ) → a ≡ m → b ≡ n → c ≡ o → a ∷ b ∷ c ∷ [] ≡ m ∷ n ∷ o ∷ []
same_three a b c m n o p q r = cc

same_four : (a b c d m n o k : ℕ) → a ≡ m → b ≡ n → c ≡ o → d ≡ k → a ∷ b ∷ c ∷ d ∷ [] ≡ m ∷ n ∷ o ∷ k ∷ []
same_four a b c d m n o k p q r s = cc

two_bytes : (a b : ℕ) → 0xC2 ≤ a → a ≤ 0xDF → 0x80 ≤ b → b ≤ 0xBF → Char (a ∷ b ∷ [])
two_bytes a b p q r s = record { code = c; is = scalar_of c (omega arith) (inl (omega arith)); high = omega arith; spells = two_spelled c (omega arith) (omega arith) ∙ same_two _ _ a b (omega arith) (omega arith) }
  where
    c : ℕ
    c = (a - 192) * 64 + (b - 128)

-- a second byte that may follow the first
record Second (a b : ℕ) : Type 0 where
  low : 0x80 ≤ b
  high : b ≤ 0xBF
  after_e0 : a ≡ 0xE0 → 0xA0 ≤ b
  after_ed : a ≡ 0xED → b ≤ 0x9F
  after_f0 : a ≡ 0xF0 → 0x90 ≤ b
  after_f4 : a ≡ 0xF4 → b ≤ 0x8F

outside : (a b d : ℕ) → 0xE0 ≤ a → a ≤ 0xEF → 0x80 ≤ b → b ≤ 0xBF → (a ≡ 0xED → b ≤ 0x9F) → d < 64 → (a < 0xED) ⊎ ((a ≡ 0xED) ⊎ (0xED < a)) → ((a - 224) * 4096 + (b - 128) * 64 + d < 0xd800) ⊎ (0xe000 ≤ (a - 224) * 4096 + (b - 128) * 64 + d)
outside a b d p q r s h small (inl e) = inl (omega arith)
outside a b d p q r s h small (inr (inl e)) = let most = h e in inl (omega arith)
outside a b d p q r s h small (inr (inr e)) = inr (omega arith)

pub by_order : (a n : ℕ) → (a < n) ⊎ ((a ≡ n) ⊎ (n < a))
by_order a n = by_test (either_way (nat_lt a n)) (either_way (nat_lt n a))
  where
    by_test : (nat_lt a n ≡ true) ⊎ (nat_lt a n ≡ false) → (nat_lt n a ≡ true) ⊎ (nat_lt n a ≡ false) → (a < n) ⊎ ((a ≡ n) ⊎ (n < a))
    by_test (inl e) f = inl (grind (arith, nat_tests))
    by_test (inr e) (inl f) = inr (inr (grind (arith, nat_tests)))
    by_test (inr e) (inr f) = inr (inl (grind (arith, nat_tests)))

three_bytes : (a b d : ℕ) → 0xE0 ≤ a → a ≤ 0xEF → Second a b → 0x80 ≤ d → d ≤ 0xBF → Char (a ∷ b ∷ d ∷ [])
three_bytes a b d p q second r s =
    record { code = c; is = scalar_of c (omega arith) (outside a b (d - 128) p q low high second.after_ed (omega arith) (by_order a 0xED)); high = omega (arith, big); spells = three_spelled c big (omega arith) ∙ same_three _ _ _ a b d (omega arith) (omega arith) (omega arith) }
  where
    c : ℕ
    c = (a - 224) * 4096 + (b - 128) * 64 + (d - 128)

    low : 0x80 ≤ b
    low = second.low

    high : b ≤ 0xBF
    high = second.high

    least : (a < 0xE0) ⊎ ((a ≡ 0xE0) ⊎ (0xE0 < a)) → 2048 ≤ c
    least (inl e) = absurd (omega arith)
    least (inr (inl e)) = let more = second.after_e0 e in omega arith
    least (inr (inr e)) = omega arith

    big : 2048 ≤ c
    big = least (by_order a 0xE0)

four_bytes : (a b d e : ℕ) → 0xF0 ≤ a → a ≤ 0xF4 → Second a b → 0x80 ≤ d → d ≤ 0xBF → 0x80 ≤ e → e ≤ 0xBF → Char (a ∷ b ∷ d ∷ e ∷ [])
four_bytes a b d e p q second r s t u =
    record { code = c; is = scalar_of c small (inr (omega (arith, big))); high = omega (arith, big); spells = four_spelled c big ∙ same_four _ _ _ _ a b d e (omega arith) (omega arith) (omega arith) (omega arith) }
  where
    c : ℕ
    c = (a - 240) * 262144 + (b - 128) * 4096 + (d - 128) * 64 + (e - 128)

    low : 0x80 ≤ b
    low = second.low

    high : b ≤ 0xBF
    high = second.high

    least : (a < 0xF0) ⊎ ((a ≡ 0xF0) ⊎ (0xF0 < a)) → 65536 ≤ c
    least (inl h) = absurd (omega arith)
    least (inr (inl h)) = let more = second.after_f0 h in omega arith
    least (inr (inr h)) = omega arith

    big : 65536 ≤ c
    big = least (by_order a 0xF0)

    most : (a < 0xF4) ⊎ ((a ≡ 0xF4) ⊎ (0xF4 < a)) → c < 0x110000
    most (inl h) = omega arith
    most (inr (inl h)) = let less = second.after_f4 h in omega arith
    most (inr (inr h)) = absurd (omega arith)

    small : c < 0x110000
    small = most (by_order a 0xF4)

-- ---- a front of a character, in which none is whole

ranges : (low high x : ℕ) → is_in_range low high x ≡ true → (low ≤ x) × (x ≤ high)
ranges low high x e = (grind (arith, nat_tests), grind (arith, nat_tests))

eq_true : (a n : ℕ) → a ≡ n → (a == n) ≡ true
eq_true a n e = grind (arith, nat_tests)

min_low : (a : ℕ) → 0x80 ≤ second_byte_min a
min_low a = by_test (either_way (a == 0xE0)) (either_way (a == 0xF0))
  where
    by_test : ((a == 0xE0) ≡ true) ⊎ ((a == 0xE0) ≡ false) → ((a == 0xF0) ≡ true) ⊎ ((a == 0xF0) ≡ false) → 0x80 ≤ second_byte_min a
    by_test (inl e) f = omega (arith, cond_true {A = ℕ} (a == 0xE0) 0xA0 (cond (a == 0xF0) 0x90 0x80) e)
    by_test (inr e) (inl f) = omega (arith, cond_false {A = ℕ} (a == 0xE0) 0xA0 (cond (a == 0xF0) 0x90 0x80) e, cond_true {A = ℕ} (a == 0xF0) 0x90 0x80 f)
    by_test (inr e) (inr f) = omega (arith, cond_false {A = ℕ} (a == 0xE0) 0xA0 (cond (a == 0xF0) 0x90 0x80) e, cond_false {A = ℕ} (a == 0xF0) 0x90 0x80 f)

max_high : (a : ℕ) → second_byte_max a ≤ 0xBF
max_high a = by_test (either_way (a == 0xED)) (either_way (a == 0xF4))
  where
    by_test : ((a == 0xED) ≡ true) ⊎ ((a == 0xED) ≡ false) → ((a == 0xF4) ≡ true) ⊎ ((a == 0xF4) ≡ false) → second_byte_max a ≤ 0xBF
    by_test (inl e) f = omega (arith, cond_true {A = ℕ} (a == 0xED) 0x9F (cond (a == 0xF4) 0x8F 0xBF) e)
    by_test (inr e) (inl f) = omega (arith, cond_false {A = ℕ} (a == 0xED) 0x9F (cond (a == 0xF4) 0x8F 0xBF) e, cond_true {A = ℕ} (a == 0xF4) 0x8F 0xBF f)
    by_test (inr e) (inr f) = omega (arith, cond_false {A = ℕ} (a == 0xED) 0x9F (cond (a == 0xF4) 0x8F 0xBF) e, cond_false {A = ℕ} (a == 0xF4) 0x8F 0xBF f)

second_of : (a b : ℕ) → is_in_range (second_byte_min a) (second_byte_max a) b ≡ true → Second a b
second_of a b e =
    let r = ranges (second_byte_min a) (second_byte_max a) b e in
    let low = r.0 in let high = r.1 in
    record {
      low = omega (arith, low, min_low a);
      high = omega (arith, high, max_high a);
      after_e0 = (λ is. let at : second_byte_min 0xE0 ≡ 0xA0 = refl in omega (arith, low, ap second_byte_min is, at));
      after_ed = (λ is. let at : second_byte_max 0xED ≡ 0x9F = refl in omega (arith, high, ap second_byte_max is, at));
      after_f0 = (λ is. let at : second_byte_min 0xF0 ≡ 0x90 = refl in omega (arith, low, ap second_byte_min is, at));
      after_f4 = (λ is. let at : second_byte_max 0xF4 ≡ 0x8F = refl in omega (arith, high, ap second_byte_max is, at));
    }

-- the least second byte
first_second : (a : ℕ) → (b : ℕ) × Second a b
first_second a = by_kind (by_order a 0xE0) (by_order a 0xF0)
  where
    by_kind : (a < 0xE0) ⊎ ((a ≡ 0xE0) ⊎ (0xE0 < a)) → (a < 0xF0) ⊎ ((a ≡ 0xF0) ⊎ (0xF0 < a)) → (b : ℕ) × Second a b
    by_kind (inr (inl e)) f = (0xA0, record { low = omega arith; high = omega arith; after_e0 = (λ is. omega arith); after_ed = (λ is. absurd (omega arith)); after_f0 = (λ is. omega arith); after_f4 = (λ is. absurd (omega arith)) })
    by_kind e (inr (inl f)) = (0x90, record { low = omega arith; high = omega arith; after_e0 = (λ is. absurd (omega arith)); after_ed = (λ is. omega arith); after_f0 = (λ is. omega arith); after_f4 = (λ is. absurd (omega arith)) })
    by_kind (inl e) f = (0x80, record { low = omega arith; high = omega arith; after_e0 = (λ is. absurd (omega arith)); after_ed = (λ is. omega arith); after_f0 = (λ is. absurd (omega arith)); after_f4 = (λ is. omega arith) })
    by_kind (inr (inr e)) (inl f) = (0x80, record { low = omega arith; high = omega arith; after_e0 = (λ is. absurd (omega arith)); after_ed = (λ is. omega arith); after_f0 = (λ is. absurd (omega arith)); after_f4 = (λ is. omega arith) })
    by_kind (inr (inr e)) (inr (inr f)) = (0x80, record { low = omega arith; high = omega arith; after_e0 = (λ is. absurd (omega arith)); after_ed = (λ is. omega arith); after_f0 = (λ is. absurd (omega arith)); after_f4 = (λ is. omega arith) })

of_char : (front more : List ℕ) → Char (front ++ more) → Open front
of_char front more c = let high = c.high in inr (more, plain c.code, (c.is, omega arith, (λ e. omega arith), (λ e. omega arith)), sym c.spells)

-- a whole character is valid
no_char : (bytes : List ℕ) → Char bytes → utf8_valid_len bytes ≡ 0 → 1 ≤ length bytes → ⊥
no_char bytes c none some =
    let same : bytes ≡ encode_utf8 c.code ++ [] = sym (append-nil (encode_utf8 c.code) ∙ c.spells) in
    let size = ap utf8_valid_len same ∙ valid_behind c.code c.is [] in
    omega (arith, size, ap length c.spells)

by_none : (b : Bool) (o : Option ℕ) (k : ℕ) → cond b o (Some k) ≡ None → (b ≡ true) × (o ≡ None)
by_none true o k e = (refl, e)
by_none false o k e = absurd (cc)

abbrev First : ℕ → Type 0
First a = is_in_range 0xC2 0xF4 a ≡ true

one_open : (a : ℕ) → First a → Open (a ∷ [])
one_open a f = by_kind (by_order a 0xE0) (by_order a 0xF0)
  where
    low : 0xC2 ≤ a
    low = (ranges 0xC2 0xF4 a f).0

    high : a ≤ 0xF4
    high = (ranges 0xC2 0xF4 a f).1

    three : 0xE0 ≤ a → a ≤ 0xEF → Open (a ∷ [])
    three p q = let s = first_second a in of_char (a ∷ []) (s.0 ∷ 0x80 ∷ []) (three_bytes a s.0 0x80 p q s.1 (omega arith) (omega arith))

    four : 0xF0 ≤ a → Open (a ∷ [])
    four p = let s = first_second a in of_char (a ∷ []) (s.0 ∷ 0x80 ∷ 0x80 ∷ []) (four_bytes a s.0 0x80 0x80 p high s.1 (omega arith) (omega arith) (omega arith) (omega arith))

    by_kind : (a < 0xE0) ⊎ ((a ≡ 0xE0) ⊎ (0xE0 < a)) → (a < 0xF0) ⊎ ((a ≡ 0xF0) ⊎ (0xF0 < a)) → Open (a ∷ [])
    by_kind (inl e) g = of_char (a ∷ []) (0x80 ∷ []) (two_bytes a 0x80 low (omega arith) (omega arith) (omega arith))
    by_kind (inr (inl e)) (inl g) = three (omega arith) (omega arith)
    by_kind (inr (inr e)) (inl g) = three (omega arith) (omega arith)
    by_kind (inr e) (inr (inl g)) = four (omega arith)
    by_kind (inr e) (inr (inr g)) = four (omega arith)

two_open : (a b : ℕ) → First a → Second a b → utf8_valid_len (a ∷ b ∷ []) ≡ 0 → Open (a ∷ b ∷ [])
two_open a b f s none = by_kind (by_order a 0xE0) (by_order a 0xF0)
  where
    low : 0xC2 ≤ a
    low = (ranges 0xC2 0xF4 a f).0

    high : a ≤ 0xF4
    high = (ranges 0xC2 0xF4 a f).1

    least : 0x80 ≤ b
    least = s.low

    most : b ≤ 0xBF
    most = s.high

    three : 0xE0 ≤ a → a ≤ 0xEF → Open (a ∷ b ∷ [])
    three p q = of_char (a ∷ b ∷ []) (0x80 ∷ []) (three_bytes a b 0x80 p q s (omega arith) (omega arith))

    four : 0xF0 ≤ a → Open (a ∷ b ∷ [])
    four p = of_char (a ∷ b ∷ []) (0x80 ∷ 0x80 ∷ []) (four_bytes a b 0x80 0x80 p high s (omega arith) (omega arith) (omega arith) (omega arith))

    by_kind : (a < 0xE0) ⊎ ((a ≡ 0xE0) ⊎ (0xE0 < a)) → (a < 0xF0) ⊎ ((a ≡ 0xF0) ⊎ (0xF0 < a)) → Open (a ∷ b ∷ [])
    by_kind (inl e) g = absurd (no_char (a ∷ b ∷ []) (two_bytes a b low (omega arith) least most) none (omega arith))
    by_kind (inr (inl e)) (inl g) = three (omega arith) (omega arith)
    by_kind (inr (inr e)) (inl g) = three (omega arith) (omega arith)
    by_kind (inr e) (inr (inl g)) = four (omega arith)
    by_kind (inr e) (inr (inr g)) = four (omega arith)

three_open : (a b d : ℕ) → First a → Second a b → 0x80 ≤ d → d ≤ 0xBF → utf8_valid_len (a ∷ b ∷ d ∷ []) ≡ 0 → Open (a ∷ b ∷ d ∷ [])
three_open a b d f s p q none = by_kind (by_order a 0xE0) (by_order a 0xF0)
  where
    low : 0xC2 ≤ a
    low = (ranges 0xC2 0xF4 a f).0

    high : a ≤ 0xF4
    high = (ranges 0xC2 0xF4 a f).1

    least : 0x80 ≤ b
    least = s.low

    most : b ≤ 0xBF
    most = s.high

    two : a < 0xE0 → ⊥
    two h =
        let c = two_bytes a b low (omega arith) least most in
        let size = ap utf8_valid_len (ap (λ l. l ++ (d ∷ [])) (sym c.spells)) ∙ valid_behind c.code c.is (d ∷ []) in
        omega (arith, size, ap length c.spells)

    three : 0xE0 ≤ a → a ≤ 0xEF → Open (a ∷ b ∷ d ∷ [])
    three r t = absurd (no_char (a ∷ b ∷ d ∷ []) (three_bytes a b d r t s p q) none (omega arith))

    four : 0xF0 ≤ a → Open (a ∷ b ∷ d ∷ [])
    four r = of_char (a ∷ b ∷ d ∷ []) (0x80 ∷ []) (four_bytes a b d 0x80 r high s p q (omega arith) (omega arith))

    by_kind : (a < 0xE0) ⊎ ((a ≡ 0xE0) ⊎ (0xE0 < a)) → (a < 0xF0) ⊎ ((a ≡ 0xF0) ⊎ (0xF0 < a)) → Open (a ∷ b ∷ d ∷ [])
    by_kind (inl e) g = absurd (two e)
    by_kind (inr (inl e)) (inl g) = three (omega arith) (omega arith)
    by_kind (inr (inr e)) (inl g) = three (omega arith) (omega arith)
    by_kind (inr e) (inr (inl g)) = four (omega arith)
    by_kind (inr e) (inr (inr g)) = four (omega arith)

no_level : (t i : Bool) (o : Option ℕ) (k : ℕ) → t ≡ false → (o ≡ None → ⊥) → cond t None (cond i o (Some k)) ≡ None → ⊥
no_level true i o k p f e = absurd (cc)
no_level false true o k p f e = f e
no_level false false o k p f e = absurd (cc)

no_end : (t : Bool) (k : ℕ) → t ≡ false → cond t None (Some k) ≡ None → ⊥
no_end true k p e = absurd (cc)
no_end false k p e = absurd (cc)

long_never : (a b d e : ℕ) (rest : List ℕ) → utf8_error_len (a ∷ b ∷ d ∷ e ∷ rest) ≡ None → ⊥
unfolding utf8_error_len
long_never a b d e rest none =
    let n = length (a ∷ b ∷ d ∷ e ∷ rest) in
    no_level (n == 0) (is_in_range 0xC2 0xF4 a) _ 1 (grind (arith, nat_tests))
    (λ e1. no_level (nat_lt n 2) (is_in_range (second_byte_min a) (second_byte_max a) b) _ 1 (grind (arith, nat_tests))
    (λ e2. no_level (nat_lt n 3) (is_in_range 0x80 0xBF d) _ 2 (grind (arith, nat_tests)) (λ e3. no_end (nat_lt n 4) 3 (grind (arith, nat_tests)) e3) e2) e1) none

pub character_open : (x : List ℕ) → utf8_error_len x ≡ None → utf8_valid_len x ≡ 0 → Open x
unfolding utf8_error_len
character_open [] e none = inl refl
character_open (a ∷ []) e none = one_open a (by_none (is_in_range 0xC2 0xF4 a) None 1 e).0
character_open (a ∷ b ∷ []) e none =
    let f = by_none (is_in_range 0xC2 0xF4 a) (cond (is_in_range (second_byte_min a) (second_byte_max a) b) None (Some 1)) 1 e in
    let g = by_none (is_in_range (second_byte_min a) (second_byte_max a) b) None 1 f.1 in
    two_open a b f.0 (second_of a b g.0) none
character_open (a ∷ b ∷ d ∷ []) e none =
    let f = by_none (is_in_range 0xC2 0xF4 a) (cond (is_in_range (second_byte_min a) (second_byte_max a) b) (cond (is_in_range 0x80 0xBF d) None (Some 2)) (Some 1)) 1 e in
    let g = by_none (is_in_range (second_byte_min a) (second_byte_max a) b) (cond (is_in_range 0x80 0xBF d) None (Some 2)) 1 f.1 in
    let h = by_none (is_in_range 0x80 0xBF d) None 2 g.1 in
    let r = ranges 0x80 0xBF d h.0 in
    three_open a b d f.0 (second_of a b g.0) r.0 r.1 none
character_open (a ∷ b ∷ d ∷ z ∷ rest) e none = absurd (long_never a b d z rest e)

-- ---- escapes

-- what an escape tells that is no whole one: the bytes end inside, or no escape goes on so
abbrev pub Told : List ℕ → Scan ℕ → Type 0
Told bytes (Whole c taken) = Unit {0}
Told bytes Short = Open bytes
Told bytes (Bad place) = place ≡ 0

-- a hexadecimal digit
abbrev Hex : ℕ → Type 0
Hex x = digit_value x ≤ 15

units : (a b d e : ℕ) → Hex a → Hex b → Hex d → Hex e → IsUnit (a ∷ b ∷ d ∷ e ∷ []) (digit_value a * 4096 + digit_value b * 256 + digit_value d * 16 + digit_value e)
units a b d e p q r s = (a, b, d, e, digit_value a, digit_value b, digit_value d, digit_value e, refl, hex_of a p, hex_of b q, hex_of d r, hex_of e s, refl)

-- a code unit that is no surrogate
open_unit : (a b d e : ℕ) (front more : List ℕ) → Hex a → Hex b → Hex d → Hex e → (digit_value a < 13) ⊎ ((digit_value b < 8) ⊎ (13 < digit_value a)) → front ++ more ≡ 92 ∷ 117 ∷ a ∷ b ∷ d ∷ e ∷ [] → Open front
open_unit a b d e front more p q r s outside laid = inr (more, unit (a ∷ b ∷ d ∷ e ∷ []) code, (units a b d e p q r s, by_side outside), laid)
  where
    code : ℕ
    code = digit_value a * 4096 + digit_value b * 256 + digit_value d * 16 + digit_value e

    by_side : (digit_value a < 13) ⊎ ((digit_value b < 8) ⊎ (13 < digit_value a)) → (code < 0xd800) ⊎ (0xe000 ≤ code)
    by_side (inl h) = inl (omega arith)
    by_side (inr (inl h)) = lower (by_order (digit_value a) 13)
      where
        lower : (digit_value a < 13) ⊎ ((digit_value a ≡ 13) ⊎ (13 < digit_value a)) → (code < 0xd800) ⊎ (0xe000 ≤ code)
        lower (inl g) = inl (omega arith)
        lower (inr (inl g)) = inl (omega arith)
        lower (inr (inr g)) = inr (omega arith)
    by_side (inr (inr h)) = inr (omega arith)

-- a pair of surrogates
open_pair : (a b d e i j k l : ℕ) (front more : List ℕ) → digit_value a ≡ 13 → 8 ≤ digit_value b → digit_value b ≤ 11 → Hex d → Hex e → digit_value i ≡ 13 → 12 ≤ digit_value j → Hex j → Hex k → Hex l
    → front ++ more ≡ 92 ∷ 117 ∷ a ∷ b ∷ d ∷ e ∷ 92 ∷ 117 ∷ i ∷ j ∷ k ∷ l ∷ [] → Open front
open_pair a b d e i j k l front more ha hb hb2 hd he hi hj hj2 hk hl laid = inr (
  more,
  pair (a ∷ b ∷ d ∷ e ∷ []) high (i ∷ j ∷ k ∷ l ∷ []) low,
  (units a b d e (omega arith) (omega arith) hd he, omega arith, omega arith, units i j k l (omega arith) hj2 hk hl, omega arith, omega arith),
  laid,
)
  where
    high : ℕ
    high = digit_value a * 4096 + digit_value b * 256 + digit_value d * 16 + digit_value e

    low : ℕ
    low = digit_value i * 4096 + digit_value j * 256 + digit_value k * 16 + digit_value l

two_first : (x y : ℕ) (rest : List ℕ) → x ≡ 92 → y ≡ 117 → x ∷ y ∷ rest ≡ 92 ∷ 117 ∷ rest
two_first x y rest p q = cc

told_by : (bytes : List ℕ) (b : Bool) (x y : Scan ℕ) → (b ≡ true → Told bytes x) → (b ≡ false → Told bytes y) → Told bytes (cond b x y)
told_by bytes true x y f g = f refl
told_by bytes false x y f g = g refl

shorter : (n m : ℕ) → nat_lt n m ≡ true → n < m
shorter n m e = grind (arith, nat_tests)

-- the digits of a high surrogate
pub high_digits : (m n o p : ℕ) → m ≤ 15 → n ≤ 15 → o ≤ 15 → p ≤ 15 → is_high (m * 4096 + n * 256 + o * 16 + p) ≡ true → (m ≡ 13) × (8 ≤ n) × (n ≤ 11)
high_digits m n o p a b c d h = of_bounds (m * 4096 + n * 256 + o * 16 + p) refl h
  where
    of_bounds : (u : ℕ) → u ≡ m * 4096 + n * 256 + o * 16 + p → is_high u ≡ true → (m ≡ 13) × (8 ≤ n) × (n ≤ 11)
    of_bounds u is e =
        let low : 0xd800 ≤ u = grind (arith, nat_tests) in
        let high : u < 0xdc00 = grind (arith, nat_tests) in
        (omega arith, omega arith, omega arith)

module _ (a b d e : ℕ) (ha : digit_value a ≡ 13) (hb : 8 ≤ digit_value b) (hb2 : digit_value b ≤ 11) (hd : Hex d) (he : Hex e) where
  -- of the second one, so much stands there
  of_pair : (i j k l : ℕ) (s more : List ℕ) → digit_value i ≡ 13 → 12 ≤ digit_value j → Hex j → Hex k → Hex l → s ++ more ≡ 92 ∷ 117 ∷ i ∷ j ∷ k ∷ l ∷ [] → Open (92 ∷ 117 ∷ a ∷ b ∷ d ∷ e ∷ s)
  of_pair i j k l s more hi hj hj2 hk hl laid = open_pair a b d e i j k l (92 ∷ 117 ∷ a ∷ b ∷ d ∷ e ∷ s) more ha hb hb2 hd he hi hj hj2 hk hl (ap (λ r. 92 ∷ 117 ∷ a ∷ b ∷ d ∷ e ∷ r) laid)

  small : Hex 48
  small = omega arith

  second_open : (s : List ℕ) → begins_second (92 ∷ 117 ∷ a ∷ b ∷ d ∷ e ∷ s) 6 ≡ true → length (92 ∷ 117 ∷ a ∷ b ∷ d ∷ e ∷ s) < 12 → Open (92 ∷ 117 ∷ a ∷ b ∷ d ∷ e ∷ s)
  unfolding begins_second
  second_open s h less = by_length s less (six_split (byte_fits bytes 6 92) (byte_fits bytes 7 117) (digit_fits bytes 8 13 13) (digit_fits bytes 9 12 15) (digit_fits bytes 10 0 15) (digit_fits bytes 11 0 15) h)
    where
      bytes : List ℕ
      bytes = 92 ∷ 117 ∷ a ∷ b ∷ d ∷ e ∷ s

      Fits : List ℕ → Type 0
      Fits t =
          let w = 92 ∷ 117 ∷ a ∷ b ∷ d ∷ e ∷ t in
          (byte_fits w 6 92 ≡ true) × (byte_fits w 7 117 ≡ true) × (digit_fits w 8 13 13 ≡ true) × (digit_fits w 9 12 15 ≡ true) × (digit_fits w 10 0 15 ≡ true) × (digit_fits w 11 0 15 ≡ true)

      by_length : (t : List ℕ) → length (92 ∷ 117 ∷ a ∷ b ∷ d ∷ e ∷ t) < 12 → Fits t → Open (92 ∷ 117 ∷ a ∷ b ∷ d ∷ e ∷ t)
      by_length [] l f = of_pair 68 67 48 48 [] (92 ∷ 117 ∷ 68 ∷ 67 ∷ 48 ∷ 48 ∷ []) refl (omega arith) (omega arith) (omega arith) (omega arith) refl
      by_length (x ∷ []) l f =
          let p = byte_in 7 6 x 92 f.0 (omega arith) in
          of_pair 68 67 48 48 (x ∷ []) (117 ∷ 68 ∷ 67 ∷ 48 ∷ 48 ∷ []) refl (omega arith) (omega arith) (omega arith) (omega arith) (ap (λ y. y ∷ 117 ∷ 68 ∷ 67 ∷ 48 ∷ 48 ∷ []) p)
      by_length (x ∷ y ∷ []) l f =
          let p = byte_in 8 6 x 92 f.0 (omega arith) in
          let q = byte_in 8 7 y 117 f.1 (omega arith) in
          of_pair 68 67 48 48 (x ∷ y ∷ []) (68 ∷ 67 ∷ 48 ∷ 48 ∷ []) refl (omega arith) (omega arith) (omega arith) (omega arith) (two_first x y _ p q)
      by_length (x ∷ y ∷ i ∷ []) l f =
          let p = byte_in 9 6 x 92 f.0 (omega arith) in
          let q = byte_in 9 7 y 117 f.1 (omega arith) in
          let r = fits_in 9 8 (digit_value i) 13 13 f.2 (omega arith) in
          of_pair i 67 48 48 (x ∷ y ∷ i ∷ []) (67 ∷ 48 ∷ 48 ∷ []) (omega (arith, r.0, r.1)) (omega arith) (omega arith) (omega arith) (omega arith) (two_first x y _ p q)
      by_length (x ∷ y ∷ i ∷ j ∷ []) l f =
          let p = byte_in 10 6 x 92 f.0 (omega arith) in
          let q = byte_in 10 7 y 117 f.1 (omega arith) in
          let r = fits_in 10 8 (digit_value i) 13 13 f.2 (omega arith) in
          let t = fits_in 10 9 (digit_value j) 12 15 f.3 (omega arith) in
          of_pair i j 48 48 (x ∷ y ∷ i ∷ j ∷ []) (48 ∷ 48 ∷ []) (omega (arith, r.0, r.1)) t.0 t.1 (omega arith) (omega arith) (two_first x y _ p q)
      by_length (x ∷ y ∷ i ∷ j ∷ k ∷ []) l f =
          let p = byte_in 11 6 x 92 f.0 (omega arith) in
          let q = byte_in 11 7 y 117 f.1 (omega arith) in
          let r = fits_in 11 8 (digit_value i) 13 13 f.2 (omega arith) in
          let t = fits_in 11 9 (digit_value j) 12 15 f.3 (omega arith) in
          let u = fits_in 11 10 (digit_value k) 0 15 f.4 (omega arith) in
          of_pair i j k 48 (x ∷ y ∷ i ∷ j ∷ k ∷ []) (48 ∷ []) (omega (arith, r.0, r.1)) t.0 t.1 u.1 (omega arith) (two_first x y _ p q)
      by_length (x ∷ y ∷ i ∷ j ∷ k ∷ m ∷ t) l f = absurd (omega arith)

  pair_told : (u : ℕ) (s : List ℕ) → Told (92 ∷ 117 ∷ a ∷ b ∷ d ∷ e ∷ s) (pair_at u (92 ∷ 117 ∷ a ∷ b ∷ d ∷ e ∷ s))
  unfolding pair_at
  pair_told u s =
      let bytes = 92 ∷ 117 ∷ a ∷ b ∷ d ∷ e ∷ s in
      told_by bytes (not (begins_second bytes 6)) (Bad 0) _ (λ _. refl) (λ h.
      told_by bytes (nat_lt (length bytes) 12) Short _ (λ g. second_open s (true_of_not (begins_second bytes 6) h) (shorter (length bytes) 12 g)) (λ _. tt))

low_false : (n x y : ℕ) → 4 ≤ n → ((nat_le 4 n && (nat_le n 2 || (nat_le 13 x && nat_le x 13))) && (nat_le n 3 || (nat_le 12 y && nat_le y 15))) ≡ false → x ≡ 13 → y ≤ 15 → y ≤ 11
low_false n x y long e is most = grind (arith, nat_tests)

-- a unit of which two or three digits stand there
module _ (a b : ℕ) (ha : Hex a) (hb : Hex b) (no_low : digit_value a ≡ 13 → digit_value b ≤ 11) where
  by_sides : (d e : ℕ) (front more : List ℕ) → Hex d → Hex e → front ++ more ≡ 92 ∷ 117 ∷ a ∷ b ∷ d ∷ e ∷ [] → Open front
  by_sides d e front more hd he laid = by_a (by_order (digit_value a) 13) (by_order (digit_value b) 8)
    where
      tail : List ℕ
      tail = 92 ∷ 117 ∷ 68 ∷ 67 ∷ 48 ∷ 48 ∷ []

      twice : digit_value a ≡ 13 → 8 ≤ digit_value b → Open front
      twice is least =
          open_pair a b d e 68 67 48 48 front (more ++ tail) is least (no_low is) hd he refl (omega arith) (omega arith) (omega arith) (omega arith)
          (sym (append_more front more tail) ∙ ap (λ l. l ++ tail) laid)

      by_a : (digit_value a < 13) ⊎ ((digit_value a ≡ 13) ⊎ (13 < digit_value a)) → (digit_value b < 8) ⊎ ((digit_value b ≡ 8) ⊎ (8 < digit_value b)) → Open front
      by_a (inl p) q = open_unit a b d e front more ha hb hd he (inl p) laid
      by_a (inr (inr p)) q = open_unit a b d e front more ha hb hd he (inr (inr p)) laid
      by_a (inr (inl p)) (inl q) = open_unit a b d e front more ha hb hd he (inr (inl q)) laid
      by_a (inr (inl p)) (inr (inl q)) = twice p (omega arith)
      by_a (inr (inl p)) (inr (inr q)) = twice p (omega arith)

unit_open : (r : List ℕ) → begins_unit (92 ∷ 117 ∷ r) 2 ≡ true → length (92 ∷ 117 ∷ r) < 6 → begins_low (92 ∷ 117 ∷ r) 2 ≡ false → Open (92 ∷ 117 ∷ r)
unfolding begins_unit begins_low
unit_open [] h less low = open_unit 48 48 48 48 (92 ∷ 117 ∷ []) (48 ∷ 48 ∷ 48 ∷ 48 ∷ []) (omega arith) (omega arith) (omega arith) (omega arith) (inl (omega arith)) refl
unit_open (a ∷ []) h less low =
    let w = 92 ∷ 117 ∷ a ∷ [] in
    let s = four_split (digit_fits w 2 0 15) (digit_fits w 3 0 15) (digit_fits w 4 0 15) (digit_fits w 5 0 15) h in
    let p = fits_in 3 2 (digit_value a) 0 15 s.0 (omega arith) in
    open_unit a 48 48 48 w (48 ∷ 48 ∷ 48 ∷ []) p.1 (omega arith) (omega arith) (omega arith) (inr (inl (omega arith))) refl
unit_open (a ∷ b ∷ []) h less low =
    let w = 92 ∷ 117 ∷ a ∷ b ∷ [] in
    let s = four_split (digit_fits w 2 0 15) (digit_fits w 3 0 15) (digit_fits w 4 0 15) (digit_fits w 5 0 15) h in
    let p = fits_in 4 2 (digit_value a) 0 15 s.0 (omega arith) in
    let q = fits_in 4 3 (digit_value b) 0 15 s.1 (omega arith) in
    by_sides a b p.1 q.1 (λ is. low_false 4 (digit_value a) (digit_value b) (omega arith) low is q.1) 48 48 w (48 ∷ 48 ∷ []) (omega arith) (omega arith) refl
unit_open (a ∷ b ∷ d ∷ []) h less low =
    let w = 92 ∷ 117 ∷ a ∷ b ∷ d ∷ [] in
    let s = four_split (digit_fits w 2 0 15) (digit_fits w 3 0 15) (digit_fits w 4 0 15) (digit_fits w 5 0 15) h in
    let p = fits_in 5 2 (digit_value a) 0 15 s.0 (omega arith) in
    let q = fits_in 5 3 (digit_value b) 0 15 s.1 (omega arith) in
    let r = fits_in 5 4 (digit_value d) 0 15 s.2 (omega arith) in
    by_sides a b p.1 q.1 (λ is. low_false 5 (digit_value a) (digit_value b) (omega arith) low is q.1) d 48 w (48 ∷ []) r.1 (omega arith) refl
unit_open (a ∷ b ∷ d ∷ e ∷ r) h less low = absurd (omega arith)

unit_told : (a b d e : ℕ) (s : List ℕ) → begins_unit (92 ∷ 117 ∷ a ∷ b ∷ d ∷ e ∷ s) 2 ≡ true → Told (92 ∷ 117 ∷ a ∷ b ∷ d ∷ e ∷ s) (unit_then (unit_at (92 ∷ 117 ∷ a ∷ b ∷ d ∷ e ∷ s) 2) (92 ∷ 117 ∷ a ∷ b ∷ d ∷ e ∷ s))
unfolding begins_unit
unit_told a b d e s h =
    let bytes = 92 ∷ 117 ∷ a ∷ b ∷ d ∷ e ∷ s in
    let n = length bytes in
    let u = unit_at bytes 2 in
    let f = four_split (digit_fits bytes 2 0 15) (digit_fits bytes 3 0 15) (digit_fits bytes 4 0 15) (digit_fits bytes 5 0 15) h in
    let ha = (fits_in n 2 (digit_value a) 0 15 f.0 (omega arith)).1 in
    let hb = (fits_in n 3 (digit_value b) 0 15 f.1 (omega arith)).1 in
    let hd = (fits_in n 4 (digit_value d) 0 15 f.2 (omega arith)).1 in
    let he = (fits_in n 5 (digit_value e) 0 15 f.3 (omega arith)).1 in
    told_by bytes (is_high u) (pair_at u bytes) _
    (λ g. let k = high_digits (digit_value a) (digit_value b) (digit_value d) (digit_value e) ha hb hd he g in pair_told a b d e k.0 k.1 k.2 hd he u s)
    (λ _. told_by bytes (is_low u) (Bad 0) _ (λ _. refl) (λ _. tt))

unicode_told : (r : List ℕ) → Told (92 ∷ 117 ∷ r) (unicode_at (92 ∷ 117 ∷ r))
unfolding unicode_at
unicode_told r =
    let bytes = 92 ∷ 117 ∷ r in
    told_by bytes (not (begins_unit bytes 2)) (Bad 0) _ (λ _. refl) (λ h.
    let begins = true_of_not (begins_unit bytes 2) h in
    told_by bytes (nat_lt (length bytes) 6) _ _
    (λ less. told_by bytes (begins_low bytes 2) (Bad 0) Short (λ _. refl) (λ low. unit_open r begins (shorter (length bytes) 6 less) low))
    (λ long. by_four r long begins))
  where
    by_four : (t : List ℕ) → nat_lt (length (92 ∷ 117 ∷ t)) 6 ≡ false → begins_unit (92 ∷ 117 ∷ t) 2 ≡ true → Told (92 ∷ 117 ∷ t) (unit_then (unit_at (92 ∷ 117 ∷ t) 2) (92 ∷ 117 ∷ t))
    by_four [] long begins = absurd (grind (arith, nat_tests))
    by_four (a ∷ []) long begins = absurd (grind (arith, nat_tests))
    by_four (a ∷ b ∷ []) long begins = absurd (grind (arith, nat_tests))
    by_four (a ∷ b ∷ d ∷ []) long begins = absurd (grind (arith, nat_tests))
    by_four (a ∷ b ∷ d ∷ e ∷ s) long begins = unit_told a b d e s begins

letter_told : (bytes : List ℕ) (o : Option ℕ) → Told bytes (short_then o)
letter_told bytes (Some c) = tt
letter_told bytes None = refl

pub escape_told : (rest : List ℕ) → Told (92 ∷ rest) (escape_at (92 ∷ rest))
escape_told [] = subst (Told (92 ∷ [])) (sym (escape_one 92)) (inr (92 ∷ [], short 92 92, inl (refl, inr (inl refl)), refl))
escape_told (y ∷ rest) =
    let bytes = 92 ∷ y ∷ rest in
    subst (Told bytes) (sym (escape_two 92 y rest)) (told_by bytes (y == 117) (unicode_at bytes) _
    (λ e. let is = is_eq y 117 e in subst (λ z. Told (92 ∷ z ∷ rest) (unicode_at (92 ∷ z ∷ rest))) (sym is) (unicode_told rest)) (λ _. letter_told bytes (short_escape y)))
