-- Eight bytes of a frame and the number that they make: a double's, and an i64's.
use Rattle.std.proofs.Common.{◌≡◌, ℕ, ℤ, zero, suc, ◌≤◌, ◌<◌, List, [], ◌∷◌, length, take, get_or, Ok, Fits, arith, refl, sym, ap, ◌∙◌, length-take}
use Rattle.std.specs.Prelude.{nat_lt, false}
use Rattle.std.specs.Int.{w8, w64, from_be_bytes, to_be_bytes, cast_signed}
use Rattle.std.proofs.lemmas.Nat.{be_bytes_8}
use Rattle.std.proofs.lemmas.Bool.Decides.{nat_tests}
use Rattle.std.proofs.lemmas.List.{take_all}
use Rattle.thrift_value.specs.Items.{double_value, i64_value}
use Rattle.binary_protocol.specs.Scan.{double_at, i64_at}
use Rattle.binary_protocol.specs.Forms.{Finds}

abbrev cells : List ℕ → List ℕ
cells bytes = get_or bytes 0 0 ∷ get_or bytes 1 0 ∷ get_or bytes 2 0 ∷ get_or bytes 3 0 ∷ get_or bytes 4 0 ∷ get_or bytes 5 0 ∷ get_or bytes 6 0 ∷ get_or bytes 7 0 ∷ []

eight_of : (bytes : List ℕ) → 8 ≤ length bytes → cells bytes ≡ take 8 bytes
eight_of [] long = absurd (omega arith)
eight_of (a ∷ []) long = absurd (omega arith)
eight_of (a ∷ b ∷ []) long = absurd (omega arith)
eight_of (a ∷ b ∷ c ∷ []) long = absurd (omega arith)
eight_of (a ∷ b ∷ c ∷ d ∷ []) long = absurd (omega arith)
eight_of (a ∷ b ∷ c ∷ d ∷ e ∷ []) long = absurd (omega arith)
eight_of (a ∷ b ∷ c ∷ d ∷ e ∷ f ∷ []) long = absurd (omega arith)
eight_of (a ∷ b ∷ c ∷ d ∷ e ∷ f ∷ g ∷ []) long = absurd (omega arith)
eight_of (a ∷ b ∷ c ∷ d ∷ e ∷ f ∷ g ∷ h ∷ rest) long = refl

-- the part that was cut out of them
part_of : (bytes : List ℕ) (n : ℕ) → n ≡ 8 → 8 ≤ length bytes → cells (take n bytes) ≡ take 8 bytes
part_of bytes n eight long =
    eight_of (take n bytes) (omega (arith, length-take n bytes)) ∙ take_all 8 (take n bytes) (omega (arith, length-take n bytes)) ∙ ap (λ k. take k bytes) eight

bytes_small : (n : ℕ) (bytes : List ℕ) → ((k : ℕ) → Fits w8 (get_or bytes k 0)) → (i : ℕ) → get_or (take n bytes) i 0 < 256
bytes_small zero bytes small i = omega arith
bytes_small (suc n) [] small i = omega arith
bytes_small (suc n) (b ∷ bytes) small zero = omega (arith, small 0)
bytes_small (suc n) (b ∷ bytes) small (suc i) = bytes_small n bytes (λ k. small (suc k)) i

pub double_found : (bytes : List ℕ) (n part : ℕ) → part ≡ 8 → 8 ≤ length bytes → ((k : ℕ) → Fits w8 (get_or bytes k 0)) → n ≡ from_be_bytes w64 (cells (take part bytes))
    → Finds bytes (double_at bytes) (double_value (to_be_bytes w64 n)) 8
unfolding double_at
double_found bytes n part eight long small is =
    let short : nat_lt (length bytes) 8 ≡ false = grind (arith, nat_tests) in
    let front : n ≡ from_be_bytes w64 (take 8 bytes) = is ∙ ap (from_be_bytes w64) (part_of bytes part eight long) in
    let same : to_be_bytes w64 n ≡ take 8 bytes = be_bytes_8 (take 8 bytes) n (sym (ap length (eight_of bytes long))) (bytes_small 8 bytes small) front in
    rw short (ap (λ b. Ok (double_value b, 8)) (sym same), long)

pub i64_found : (bytes : List ℕ) (n : ℤ) (part : ℕ) → part ≡ 8 → 8 ≤ length bytes → n ≡ cast_signed w64 (from_be_bytes w64 (cells (take part bytes)))
    → Finds bytes (i64_at bytes) (i64_value n) 8
unfolding i64_at
i64_found bytes n part eight long is =
    let short : nat_lt (length bytes) 8 ≡ false = grind (arith, nat_tests) in
    let front : n ≡ cast_signed w64 (from_be_bytes w64 (cells bytes)) = is ∙ ap (λ b. cast_signed w64 (from_be_bytes w64 b)) (part_of bytes part eight long ∙ sym (eight_of bytes long)) in
    rw short (ap (λ i. Ok (i64_value i, 8)) (sym front), long)
