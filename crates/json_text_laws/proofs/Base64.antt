-- The symbols of base64 and the bytes that they stand for.
use Rattle.std.proofs.Common.{◌≡◌, ℕ, zero, suc, ◌+◌, ◌*◌, ◌/◌, ◌%◌, ◌<◌, ◌≤◌, Bool, true, false, cond, T, List, [], ◌∷◌, length, Option, Some, None, Result, Ok, Err, refl, sym, ap, ◌∙◌, subst, arith, ◌⊎◌, inl, inr}
use Rattle.std.specs.Prelude.{slice_index, not, nat_lt, ◌==◌, ◌&&◌, ◌||◌}
use Rattle.std.specs.Result.{result_ok}
use Rattle.std.proofs.lemmas.List.{append-nil}
use Rattle.std.proofs.lemmas.Bool.Decides.{nat_tests}
use Rattle.base64.specs.Rfc4648.{encode_symbols, unpadded_len}
use Rattle.base64.specs.Engines.{standard_no_pad}
use Rattle.base64.specs.GeneralPurpose.{encode_of, decode_of, decoded_of, IsBytes}
use Rattle.base64.proofs.EngineFacts.{decode_of-encode_of, decode_of_strict}
use Rattle.base64.proofs.RoundTrip.{length-encode_symbols}
use Rattle.json_text.specs.Blob.{is_symbol, decoded}
use Rattle.json_text.specs.Grammar.{alphabet, AreBytes}
use Rattle.json_text.proofs.Lanes.{upto_sound}
use Rattle.json_text_laws.proofs.Choices.{cond_false, either_way}
use Rattle.json_text_laws.proofs.Parts.{All}

pub alphabet_is : standard_no_pad.encode_table ≡ alphabet
alphabet_is = refl

-- ---- bytes

pub bytes_at : (xs : List ℕ) → AreBytes xs → IsBytes xs
bytes_at [] h i = omega arith
bytes_at (x ∷ xs) h zero = h.0
bytes_at (x ∷ xs) h (suc i) = bytes_at xs h.1 i

symbol_small : (x : ℕ) → is_symbol x ≡ true → x < 256
symbol_small x e = grind (arith, nat_tests)

symbols_small : (xs : List ℕ) → All is_symbol xs → AreBytes xs
symbols_small [] h = tt
symbols_small (x ∷ xs) h = (symbol_small x h.0, symbols_small xs h.1)

-- ---- what is encoded decodes

pub encoded_is : (b : List ℕ) → encode_of standard_no_pad b ≡ encode_symbols alphabet b
encoded_is b = append-nil (encode_symbols standard_no_pad.encode_table b) ∙ ap (λ t. encode_symbols t b) alphabet_is

never_lone : (n k : ℕ) → k ≡ unpadded_len n → (k % 4 == 1) ≡ false
never_lone n k e = let rest : (k % 4 ≡ 1) → ⊥ = (λ one. omega arith) in by_test (either_way (k % 4 == 1)) rest
  where
    by_test : (k % 4 == 1) ≡ true ⊎ (k % 4 == 1) ≡ false → ((k % 4 ≡ 1) → ⊥) → (k % 4 == 1) ≡ false
    by_test (inl t) no_one = absurd (no_one (grind (arith, nat_tests)))
    by_test (inr f) no_one = f

pub encoded_decodes : (b : List ℕ) → AreBytes b → decoded (encode_symbols alphabet b) ≡ Some b
unfolding decoded decoded_of
encoded_decodes b h =
    let s = encode_symbols alphabet b in
    let lone : (length s % 4 == 1) ≡ false = never_lone (length b) (length s) (length-encode_symbols alphabet b) in
    cond_false (length s % 4 == 1) None (result_ok (decode_of standard_no_pad s)) lone
    ∙ ap (λ t. result_ok (decode_of standard_no_pad t)) (sym (encoded_is b)) ∙ ap result_ok (decode_of-encode_of standard_no_pad b refl (bytes_at b h))

-- ---- what decodes is an encoding

result_some : {E : Type 0} → (r : Result (List ℕ) E) (b : List ℕ) → result_ok r ≡ Some b → r ≡ Ok b
result_some (Ok x) b e = let same : x ≡ b = cc in ap Ok same
result_some (Err f) b e = absurd (cc)

cut_some : (test : Bool) (found : Option (List ℕ)) (b : List ℕ) → cond test None found ≡ Some b → found ≡ Some b
cut_some true found b e = absurd (cc)
cut_some false found b e = e

pub decoded_encodes : (s b : List ℕ) → All is_symbol s → decoded s ≡ Some b → s ≡ encode_symbols alphabet b
unfolding decoded decoded_of
decoded_encodes s b all e =
    let ok = result_some (decode_of standard_no_pad s) b (cut_some (length s % 4 == 1) (result_ok (decode_of standard_no_pad s)) b e) in
    decode_of_strict standard_no_pad s b (refl, refl) (bytes_at s (symbols_small s all)) ok ∙ encoded_is b

-- ---- each symbol is that of a number below 64, and each such number has a symbol

abbrev value : ℕ → ℕ
value x = slice_index standard_no_pad.decode_table x

abbrev fits_symbol : ℕ → Bool
fits_symbol x = not (is_symbol x) || ((slice_index alphabet (value x) == x) && nat_lt (value x) 64)

abbrev IsValue : ℕ → ℕ → Type 0
IsValue x v = (slice_index alphabet v ≡ x) × (v < 64)

value_of_true : (x : ℕ) (b : Bool) → b ≡ true → T (not b || ((slice_index alphabet (value x) == x) && nat_lt (value x) 64)) → IsValue x (value x)
value_of_true x true e t = (grind (arith, nat_tests), grind (arith, nat_tests))
value_of_true x false e t = absurd (cc)

symbol_value : (x : ℕ) → is_symbol x ≡ true → IsValue x (value x)
symbol_value x e = value_of_true x (is_symbol x) e (upto_sound fits_symbol 256 tt x (symbol_small x e))

all_symbols : (v : ℕ) → v < 64 → is_symbol (slice_index alphabet v) ≡ true
all_symbols v h = by_t (is_symbol (slice_index alphabet v)) (upto_sound (λ w. is_symbol (slice_index alphabet w)) 64 tt v h)
  where
    by_t : (b : Bool) → T b → b ≡ true
    by_t true t = refl
    by_t false t = absurd t

-- ---- the symbols of an encoding

pub encoded_symbols : (b : List ℕ) → AreBytes b → All is_symbol (encode_symbols alphabet b)
unfolding encode_symbols
encoded_symbols [] h = tt
encoded_symbols (x ∷ []) h = let p = h.0 in (all_symbols (x / 4) (omega arith), (all_symbols (x % 4 * 16) (omega arith), tt))
encoded_symbols (x ∷ y ∷ []) h =
    let p = h.0 in let q = h.1.0 in
    (all_symbols (x / 4) (omega arith), (all_symbols (x % 4 * 16 + y / 16) (omega arith), (all_symbols (y % 16 * 4) (omega arith), tt)))
encoded_symbols (x ∷ y ∷ z ∷ more) h =
    let p = h.0 in let q = h.1.0 in let r = h.1.1.0 in
    (all_symbols (x / 4) (omega arith), (all_symbols (x % 4 * 16 + y / 16) (omega arith), (all_symbols (y % 16 * 4 + z / 64) (omega arith), (all_symbols (z % 64) (omega arith), encoded_symbols more h.1.1.1))))

-- ---- whole groups of symbols are an encoding

pub record Encodes (s : List ℕ) : Type 0 where
  pub bytes : List ℕ
  pub are : AreBytes bytes
  pub same : encode_symbols alphabet bytes ≡ s

group : (a b c d v w x y : ℕ) (rest : List ℕ) → IsValue a v → IsValue b w → IsValue c x → IsValue d y → Encodes rest → Encodes (a ∷ b ∷ c ∷ d ∷ rest)
unfolding encode_symbols
group a b c d v w x y rest p q r s more =
    let pv = p.1 in let qv = q.1 in let rv = r.1 in let sv = s.1 in
    let first : (v * 4 + w / 16) / 4 ≡ v = omega arith in
    let second : (v * 4 + w / 16) % 4 * 16 + (w % 16 * 16 + x / 4) / 16 ≡ w = omega arith in
    let third : (w % 16 * 16 + x / 4) % 16 * 4 + (x % 4 * 64 + y) / 64 ≡ x = omega arith in
    let fourth : (x % 4 * 64 + y) % 64 ≡ y = omega arith in
    record {
      bytes = (v * 4 + w / 16) ∷ (w % 16 * 16 + x / 4) ∷ (x % 4 * 64 + y) ∷ more.bytes;
      are = (omega arith, (omega arith, (omega arith, more.are)));
      same =
          let t = alphabet in
          ap (λ k. slice_index t k ∷ slice_index t ((v * 4 + w / 16) % 4 * 16 + (w % 16 * 16 + x / 4) / 16) ∷ slice_index t ((w % 16 * 16 + x / 4) % 16 * 4 + (x % 4 * 64 + y) / 64) ∷ slice_index t ((x % 4 * 64 + y) % 64) ∷ encode_symbols t more.bytes) first
          ∙ ap (λ k. slice_index t v ∷ slice_index t k ∷ slice_index t ((w % 16 * 16 + x / 4) % 16 * 4 + (x % 4 * 64 + y) / 64) ∷ slice_index t ((x % 4 * 64 + y) % 64) ∷ encode_symbols t more.bytes) second
          ∙ ap (λ k. slice_index t v ∷ slice_index t w ∷ slice_index t k ∷ slice_index t ((x % 4 * 64 + y) % 64) ∷ encode_symbols t more.bytes) third
          ∙ ap (λ k. slice_index t v ∷ slice_index t w ∷ slice_index t x ∷ slice_index t k ∷ encode_symbols t more.bytes) fourth
          ∙ ap (λ k. k ∷ slice_index t w ∷ slice_index t x ∷ slice_index t y ∷ encode_symbols t more.bytes) p.0
          ∙ ap (λ k. a ∷ k ∷ slice_index t x ∷ slice_index t y ∷ encode_symbols t more.bytes) q.0
          ∙ ap (λ k. a ∷ b ∷ k ∷ slice_index t y ∷ encode_symbols t more.bytes) r.0
          ∙ ap (λ k. a ∷ b ∷ c ∷ k ∷ encode_symbols t more.bytes) s.0
          ∙ ap (λ k. a ∷ b ∷ c ∷ d ∷ k) more.same;
    }

no_bytes : Encodes []
unfolding encode_symbols
no_bytes = record { bytes = []; are = tt; same = refl }

pub groups : (q : ℕ) (s : List ℕ) → length s ≡ 4 * q → All is_symbol s → Encodes s
groups q [] e all = no_bytes
groups zero (a ∷ rest) e all = absurd (omega arith)
groups (suc q) (a ∷ []) e all = absurd (omega arith)
groups (suc q) (a ∷ b ∷ []) e all = absurd (omega arith)
groups (suc q) (a ∷ b ∷ c ∷ []) e all = absurd (omega arith)
groups (suc q) (a ∷ b ∷ c ∷ d ∷ rest) e all =
    group a b c d (value a) (value b) (value c) (value d) rest (symbol_value a all.0) (symbol_value b all.1.0) (symbol_value c all.1.1.0) (symbol_value d all.1.1.1.0) (groups q rest (omega arith) all.1.1.1.1)

-- ---- bytes that are encoded by symbols

by_size : {P : Type 0} → (v n : ℕ) → (v < n → P) → (n ≤ v → P) → P
by_size {P} v n f g = by_test (either_way (nat_lt v n))
  where
    by_test : (nat_lt v n ≡ true) ⊎ (nat_lt v n ≡ false) → P
    by_test (inl e) = f (grind (arith, nat_tests))
    by_test (inr e) = g (grind (arith, nat_tests))

beyond : (xs : List ℕ) (v : ℕ) → length xs ≤ v → slice_index xs v ≡ 0
beyond [] v h = refl
beyond (x ∷ xs) zero h = absurd (omega arith)
beyond (x ∷ xs) (suc v) h = beyond xs v (omega arith)

in_table : (v : ℕ) → is_symbol (slice_index alphabet v) ≡ true → v < 64
in_table v e = by_size v 64 (λ h. h) (λ h. let wrong : is_symbol 0 ≡ true = ap is_symbol (sym (beyond alphabet v h)) ∙ e in absurd (cc))

two_bytes : (v w u : ℕ) → v < 64 → w < 64 → u < 16 → Encodes (slice_index alphabet v ∷ slice_index alphabet w ∷ slice_index alphabet (u * 4) ∷ [])
unfolding encode_symbols
two_bytes v w u p q r =
    let t = alphabet in
    let first : (v * 4 + w / 16) / 4 ≡ v = omega arith in
    let second : (v * 4 + w / 16) % 4 * 16 + (w % 16 * 16 + u) / 16 ≡ w = omega arith in
    let third : (w % 16 * 16 + u) % 16 * 4 ≡ u * 4 = omega arith in
    record {
      bytes = (v * 4 + w / 16) ∷ (w % 16 * 16 + u) ∷ [];
      are = (omega arith, (omega arith, tt));
      same = ap (λ k. slice_index t k ∷ slice_index t ((v * 4 + w / 16) % 4 * 16 + (w % 16 * 16 + u) / 16) ∷ slice_index t ((w % 16 * 16 + u) % 16 * 4) ∷ []) first
          ∙ ap (λ k. slice_index t v ∷ slice_index t k ∷ slice_index t ((w % 16 * 16 + u) % 16 * 4) ∷ []) second
          ∙ ap (λ k. slice_index t v ∷ slice_index t w ∷ slice_index t k ∷ []) third;
    }

-- what encodes to symbols is the encoding of bytes
clean : (b : List ℕ) → All is_symbol (encode_symbols alphabet b) → Encodes (encode_symbols alphabet b)
unfolding encode_symbols
clean [] all = no_bytes
clean (x ∷ []) all = let v = in_table (x / 4) all.0 in record { bytes = x ∷ []; are = (omega arith, tt); same = refl }
clean (x ∷ y ∷ []) all = two_bytes (x / 4) (x % 4 * 16 + y / 16) (y % 16) (in_table (x / 4) all.0) (in_table (x % 4 * 16 + y / 16) all.1.0) (omega arith)
clean (x ∷ y ∷ z ∷ more) all =
    group _ _ _ _ (x / 4) (x % 4 * 16 + y / 16) (y % 16 * 4 + z / 64) (z % 64) (encode_symbols alphabet more)
    (refl, in_table (x / 4) all.0) (refl, in_table (x % 4 * 16 + y / 16) all.1.0) (refl, in_table (y % 16 * 4 + z / 64) all.1.1.0) (refl, in_table (z % 64) all.1.1.1.0) (clean more all.1.1.1.1)

pub decoded_bytes : (s b : List ℕ) → All is_symbol s → decoded s ≡ Some b → AreBytes b
decoded_bytes s b all e =
    let is = decoded_encodes s b all e in
    let c = clean b (subst (All is_symbol) is all) in
    let again : decoded s ≡ Some c.bytes = ap decoded (is ∙ sym c.same) ∙ encoded_decodes c.bytes c.are in
    let same : c.bytes ≡ b = (let two : Some c.bytes ≡ Some b = sym again ∙ e in cc) in
    subst AreBytes same c.are
