-- The plain spelling of each word spells it.
use Rattle.std.proofs.Common.{◌≡◌, ℕ, ℤ, suc, pos, negsuc, ◌+◌, ◌/◌, ◌%◌, ◌<◌, ◌≤◌, ◌^◌, true, false, List, [], ◌∷◌, ◌++◌, refl, ap, ◌∙◌, sym, subst, arith, ◌⊎◌, inl, inr}
use Rattle.std.specs.Prelude.{nat_lt, ◌==◌, FitsSigned}
use Rattle.std.specs.Int.{w8, w16, w32, w64}
use Rattle.std.specs.Char.{IsScalar, encode_utf8, digit_char}
use Rattle.std.specs.Fmt.{decimal, signed_decimal}
use Rattle.std.specs.Str.{IsUtf8, is_utf8}
use Rattle.std.proofs.lemmas.Bool.Decides.{nat_tests}
use Rattle.std.proofs.lemmas.Str.{IsUtf8-from_is_utf8}
use lib.Utf8.{scalar, scalars, encodes}
use Rattle.json_text.specs.Text.{is_plain}
use Rattle.json_text.specs.Plain.{byte_spelling, pieces_spelling, text_spelling}
use Rattle.json_text.specs.Blob.{symbols_of, blob_spelling}
use Rattle.json_text.specs.Grammar.{Piece, plain, short, unit, IsHex, IsPiece, piece_spelled, piece_meant, AreBytes, negated, SpellsInt, SpellsText, SpellsBlob}
use Rattle.json_text_laws.proofs.Base64.{encoded_is}
use Rattle.json_text_laws.proofs.Choices.{cond_true, cond_false, either_way}
use Rattle.json_text_laws.proofs.Open.{two_spelled, three_spelled, four_spelled}
use Rattle.json_text_laws.proofs.Parts.{All}
use Rattle.json_text_laws.proofs.Read.{both_true, small_first, Pieces}
use Rattle.json_laws.proofs.Words.{IsDecimal, decimal_is, spells_decimal}

-- ---- integers

abbrev Is64 : ℤ → Type 0
Is64 (pos n) = n < 2 ^ 64
Is64 (negsuc n) = n + 1 < 2 ^ 64

minus_spells : (n : ℕ) → IsDecimal (suc n) (decimal (suc n)) → SpellsInt (negsuc n) (45 ∷ decimal (suc n))
minus_spells n (inl e) = absurd (omega (arith, e.0))
minus_spells n (inr e) = inr (inr (decimal (suc n), refl, e.0, ap negated (sym e.1)))

signed_spells : (z : ℤ) → Is64 z → SpellsInt z (signed_decimal z)
signed_spells (pos n) h = spells_decimal n (decimal n) (decimal_is n h)
signed_spells (negsuc n) h = minus_spells n (decimal_is (suc n) (omega arith))

from_8 : (z : ℤ) → FitsSigned w8 z → Is64 z
from_8 (pos n) h = omega arith
from_8 (negsuc n) h = omega arith

from_16 : (z : ℤ) → FitsSigned w16 z → Is64 z
from_16 (pos n) h = omega arith
from_16 (negsuc n) h = omega arith

from_32 : (z : ℤ) → FitsSigned w32 z → Is64 z
from_32 (pos n) h = omega arith
from_32 (negsuc n) h = omega arith

from_64 : (z : ℤ) → FitsSigned w64 z → Is64 z
from_64 (pos n) h = omega arith
from_64 (negsuc n) h = omega arith

pub spells_8 : (z : ℤ) → FitsSigned w8 z → SpellsInt z (signed_decimal z)
spells_8 z h = signed_spells z (from_8 z h)

pub spells_16 : (z : ℤ) → FitsSigned w16 z → SpellsInt z (signed_decimal z)
spells_16 z h = signed_spells z (from_16 z h)

pub spells_32 : (z : ℤ) → FitsSigned w32 z → SpellsInt z (signed_decimal z)
spells_32 z h = signed_spells z (from_32 z h)

pub spells_64 : (z : ℤ) → FitsSigned w64 z → SpellsInt z (signed_decimal z)
spells_64 z h = signed_spells z (from_64 z h)

-- ---- texts

plain_byte : (x : ℕ) → is_plain x ≡ true → byte_spelling x ≡ x ∷ []
unfolding byte_spelling
plain_byte x h = grind (arith, nat_tests)

-- plain bytes are spelled as they stand
plain_on : (xs ys : List ℕ) → All is_plain xs → pieces_spelling (xs ++ ys) ≡ xs ++ pieces_spelling ys
unfolding pieces_spelling
plain_on [] ys h = refl
plain_on (x ∷ xs) ys h = ap (λ b. b ++ pieces_spelling (xs ++ ys)) (plain_byte x h.0) ∙ ap (λ b. x ∷ b) (plain_on xs ys h.1)

big : (x : ℕ) → 128 ≤ x → is_plain x ≡ true
big x h = grind (arith, nat_tests)

-- of a character from 128 up each byte is plain
big_plain : (c : ℕ) → 128 ≤ c → All is_plain (encode_utf8 c)
big_plain c low = by_test (either_way (nat_lt c 2048)) (either_way (nat_lt c 65536))
  where
    by_test : (nat_lt c 2048 ≡ true) ⊎ (nat_lt c 2048 ≡ false) → (nat_lt c 65536 ≡ true) ⊎ (nat_lt c 65536 ≡ false) → All is_plain (encode_utf8 c)
    by_test (inl e) f =
        let high : c < 2048 = grind (arith, nat_tests) in
        subst (All is_plain) (sym (two_spelled c low high)) (big (192 + c / 64) (omega arith), (big (128 + c % 64) (omega arith), tt))
    by_test (inr e) (inl f) =
        let least : 2048 ≤ c = grind (arith, nat_tests) in
        let high : c < 65536 = grind (arith, nat_tests) in
        subst (All is_plain) (sym (three_spelled c least high)) (big (224 + c / 4096) (omega arith), (big (128 + (c / 64) % 64) (omega arith), (big (128 + c % 64) (omega arith), tt)))
    by_test (inr e) (inr f) =
        let least : 65536 ≤ c = grind (arith, nat_tests) in
        subst (All is_plain) (sym (four_spelled c least)) (big (240 + c / 262144) (omega arith), (big (128 + (c / 4096) % 64) (omega arith), (big (128 + (c / 64) % 64) (omega arith), (big (128 + c % 64) (omega arith), tt))))

-- what is spelled of one character is one piece
record IsSpelled (c : ℕ) : Type 0 where
  piece : Piece
  is : IsPiece piece
  means : encode_utf8 c ≡ piece_meant piece
  spells : (more : List ℕ) → pieces_spelling (encode_utf8 c ++ more) ≡ piece_spelled piece ++ pieces_spelling more

-- of one byte
of_byte : (c : ℕ) (piece : Piece) → c < 128 → IsPiece piece → piece_meant piece ≡ encode_utf8 c → byte_spelling c ≡ piece_spelled piece → IsSpelled c
unfolding pieces_spelling
of_byte c piece small is means spelled = record {
  piece = piece;
  is = is;
  means = sym means;
  spells = (λ more. ap (λ b. pieces_spelling (b ++ more)) (small_first c small) ∙ ap (λ b. b ++ pieces_spelling more) spelled);
}

-- of plain bytes
of_plain : (c : ℕ) → IsScalar c → 32 ≤ c → (c ≡ 34 → ⊥) → (c ≡ 92 → ⊥) → All is_plain (encode_utf8 c) → IsSpelled c
of_plain c scalar low p q all = record { piece = plain c; is = (scalar, low, p, q); means = refl; spells = (λ more. plain_on (encode_utf8 c) more all) }

hex : (n : ℕ) → n < 16 → IsHex (digit_char n) n
hex n h = by_test (either_way (nat_lt n 10))
  where
    by_test : (nat_lt n 10 ≡ true) ⊎ (nat_lt n 10 ≡ false) → IsHex (digit_char n) n
    by_test (inl e) =
        let is : digit_char n ≡ 48 + n = cond_true (nat_lt n 10) (48 + n) (87 + n) e in
        let less : n < 10 = grind (arith, nat_tests) in
        inl (omega (arith, is), omega (arith, is), is)
    by_test (inr e) =
        let is : digit_char n ≡ 87 + n = cond_false (nat_lt n 10) (48 + n) (87 + n) e in
        let least : 10 ≤ n = grind (arith, nat_tests) in
        inr (inr (omega (arith, is), omega (arith, is), omega (arith, is)))

-- a control byte that no letter stands for
abbrev IsRare : ℕ → Type 0
IsRare c = (c < 32) × (c ≡ 8 → ⊥) × (c ≡ 12 → ⊥) × (c ≡ 10 → ⊥) × (c ≡ 13 → ⊥) × (c ≡ 9 → ⊥)

rare_spelled : (c : ℕ) → IsRare c → byte_spelling c ≡ 92 ∷ 117 ∷ 48 ∷ 48 ∷ digit_char (c / 16) ∷ digit_char (c % 16) ∷ []
unfolding byte_spelling
rare_spelled c (small, a, b, d, e, f) =
    let t8 : (c == 8) ≡ false = grind (arith, nat_tests) in
    let t12 : (c == 12) ≡ false = grind (arith, nat_tests) in
    let t10 : (c == 10) ≡ false = grind (arith, nat_tests) in
    let t13 : (c == 13) ≡ false = grind (arith, nat_tests) in
    let t9 : (c == 9) ≡ false = grind (arith, nat_tests) in
    let t34 : (c == 34) ≡ false = grind (arith, nat_tests) in
    let t92 : (c == 92) ≡ false = grind (arith, nat_tests) in
    let low : nat_lt c 32 ≡ true = grind (arith, nat_tests) in
    rw (t34, t92, t8, t12, t10, t13, t9, low) refl

of_rare : (c : ℕ) → IsRare c → IsSpelled c
of_rare c h =
    let small = h.0 in
    let digits = 48 ∷ 48 ∷ digit_char (c / 16) ∷ digit_char (c % 16) ∷ [] in
    of_byte c (unit digits c) (omega (arith, small))
    ((48, 48, digit_char (c / 16), digit_char (c % 16), 0, 0, c / 16, c % 16, refl, hex 0 (omega arith), hex 0 (omega arith), hex (c / 16) (omega (arith, small)), hex (c % 16) (omega arith), omega arith), inl (omega (arith, small)))
    refl (rare_spelled c h)

letter : (c at : ℕ) → c ≡ at → IsSpelled at → IsSpelled c
letter c at e s = subst IsSpelled (sym e) s

byte_34 : IsSpelled 34
unfolding byte_spelling
byte_34 = of_byte 34 (short 34 34) (omega arith) (inl (refl, inl refl)) refl refl

byte_92 : IsSpelled 92
unfolding byte_spelling
byte_92 = of_byte 92 (short 92 92) (omega arith) (inl (refl, inr (inl refl))) refl refl

byte_8 : IsSpelled 8
unfolding byte_spelling
byte_8 = of_byte 8 (short 98 8) (omega arith) (inr (inl (refl, refl))) refl refl

byte_12 : IsSpelled 12
unfolding byte_spelling
byte_12 = of_byte 12 (short 102 12) (omega arith) (inr (inr (inl (refl, refl)))) refl refl

byte_10 : IsSpelled 10
unfolding byte_spelling
byte_10 = of_byte 10 (short 110 10) (omega arith) (inr (inr (inr (inl (refl, refl))))) refl refl

byte_13 : IsSpelled 13
unfolding byte_spelling
byte_13 = of_byte 13 (short 114 13) (omega arith) (inr (inr (inr (inr (inl (refl, refl)))))) refl refl

byte_9 : IsSpelled 9
unfolding byte_spelling
byte_9 = of_byte 9 (short 116 9) (omega arith) (inr (inr (inr (inr (inr (refl, refl)))))) refl refl

abbrev Either : ℕ → ℕ → Type 0
Either c n = (c ≡ n) ⊎ (c ≡ n → ⊥)

either : (c n : ℕ) → Either c n
either c n = by_test (either_way (c == n))
  where
    by_test : ((c == n) ≡ true) ⊎ ((c == n) ≡ false) → Either c n
    by_test (inl e) = inl (grind (arith, nat_tests))
    by_test (inr e) = inr (λ is. grind (arith, nat_tests))

control : (c : ℕ) → c < 32 → Either c 8 → Either c 12 → Either c 10 → Either c 13 → Either c 9 → IsSpelled c
control c low (inl e) b d f g = letter c 8 e byte_8
control c low (inr a) (inl e) d f g = letter c 12 e byte_12
control c low (inr a) (inr b) (inl e) f g = letter c 10 e byte_10
control c low (inr a) (inr b) (inr d) (inl e) g = letter c 13 e byte_13
control c low (inr a) (inr b) (inr d) (inr f) (inl e) = letter c 9 e byte_9
control c low (inr a) (inr b) (inr d) (inr f) (inr g) = of_rare c (low, a, b, d, f, g)

above : (c : ℕ) → IsScalar c → 32 ≤ c → Either c 34 → Either c 92 → (nat_lt c 128 ≡ true) ⊎ (nat_lt c 128 ≡ false) → IsSpelled c
above c scalar low (inl e) q small = letter c 34 e byte_34
above c scalar low (inr p) (inl e) small = letter c 92 e byte_92
above c scalar low (inr p) (inr q) (inl e) =
    let small : c < 128 = grind (arith, nat_tests) in
    let stands : is_plain c ≡ true = plain_small c low p q in
    of_plain c scalar low p q (subst (All is_plain) (sym (small_first c small)) (stands, tt))
  where
    plain_small : (c : ℕ) → 32 ≤ c → (c ≡ 34 → ⊥) → (c ≡ 92 → ⊥) → is_plain c ≡ true
    plain_small c low p q =
        let t34 : (c == 34) ≡ false = grind (arith, nat_tests) in
        let t92 : (c == 92) ≡ false = grind (arith, nat_tests) in
        let t32 : nat_lt c 32 ≡ false = grind (arith, nat_tests) in
        rw (t34, t92, t32) refl
above c scalar low (inr p) (inr q) (inr e) = let least : 128 ≤ c = grind (arith, nat_tests) in of_plain c scalar low p q (big_plain c least)

character : (c : ℕ) → IsScalar c → IsSpelled c
character c scalar = by_test (either_way (nat_lt c 32))
  where
    by_test : (nat_lt c 32 ≡ true) ⊎ (nat_lt c 32 ≡ false) → IsSpelled c
    by_test (inl e) = control c (grind (arith, nat_tests)) (either c 8) (either c 12) (either c 10) (either c 13) (either c 9)
    by_test (inr e) = above c scalar (grind (arith, nat_tests)) (either c 34) (either c 92) (either_way (nat_lt c 128))

characters : (cs : List ℕ) → scalars cs ≡ true → Pieces (pieces_spelling (encodes cs)) (encodes cs)
unfolding pieces_spelling
characters [] h = record { ps = []; are = tt; spells = refl; means = refl }
characters (c ∷ cs) h =
    let t = both_true (scalar c) (scalars cs) h in
    let one = character c t.0 in
    let more = characters cs t.1 in
    record {
      ps = one.piece ∷ more.ps;
      are = (one.is, more.are);
      spells = one.spells (encodes cs) ∙ ap (λ b. piece_spelled one.piece ++ b) more.spells;
      means = ap (λ b. b ++ encodes cs) one.means ∙ ap (λ b. piece_meant one.piece ++ b) more.means;
    }

text_pieces : (text : List ℕ) → IsUtf8 text → Pieces (pieces_spelling text) text
text_pieces text (cs, (h, is)) = subst (λ t. Pieces (pieces_spelling t) t) is (characters cs h)

pub text_spells : (text : List ℕ) → is_utf8 text ≡ true → SpellsText text (text_spelling text)
unfolding text_spelling
text_spells text valid =
    let p = text_pieces text (IsUtf8-from_is_utf8 text valid) in
    (p.ps, p.are, p.means, ap (λ b. 34 ∷ (b ++ 34 ∷ [])) p.spells)

-- ---- base64

pub blob_spells : (bytes : List ℕ) → AreBytes bytes → SpellsBlob bytes (blob_spelling bytes)
unfolding blob_spelling symbols_of
blob_spells bytes are = (0, are, inl refl, ap (λ s. 34 ∷ (s ++ 34 ∷ [])) (encoded_is bytes))
