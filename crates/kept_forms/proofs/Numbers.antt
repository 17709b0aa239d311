-- Bytes are those of the number that they make.
use Rattle.std.proofs.Common.{◌≡◌, ℕ, zero, suc, ◌%◌, ◌<◌, ◌≤◌, ◌^◌, List, [], ◌∷◌, length, take, get_or, refl, ap, ◌∙◌, sym, arith}
use Rattle.std.proofs.lemmas.Nat.{be_bytes_2, be_bytes_4, be_bytes_8}
use Rattle.std.proofs.lemmas.Int.{of_z-to_z}
use Rattle.std.specs.Int.{Width, w8, w16, w32, w64, to_be_bytes, cast_signed}
use mir.Val.{bits}
use Rattle.binary_protocol.specs.Scan.{unsigned_at, signed_at}
use Rattle.binary_protocol.specs.Grammar.{number, size}
use Rattle.kept_forms.proofs.Fronts.{Small}

front_small : (n : ℕ) (bytes : List ℕ) → Small bytes → (i : ℕ) → get_or (take n bytes) i 0 < 256
front_small zero bytes small i = omega arith
front_small (suc n) [] small i = omega arith
front_small (suc n) (b ∷ bytes) small zero = omega (arith, small 0)
front_small (suc n) (b ∷ bytes) small (suc i) = front_small n bytes (λ k. small (suc k)) i

again : (w : Width) (n : ℕ) (cells : List ℕ) → n < 2 ^ bits w → to_be_bytes w n ≡ cells → cells ≡ number w (cast_signed w n)
again w n cells fits is = sym is ∙ ap (to_be_bytes w) (sym (of_z-to_z w n fits))

pub one_byte : (bytes : List ℕ) → Small bytes → 1 ≤ length bytes → take 1 bytes ≡ number w8 (signed_at w8 bytes)
one_byte [] small long = absurd (omega arith)
one_byte (a ∷ rest) small long =
    let own : a % 256 ≡ a = omega (arith, small 0) in
    again w8 (unsigned_at w8 (a ∷ rest)) (a ∷ []) (omega (arith, small 0)) (ap (λ x. x ∷ []) own)

pub two_bytes : (bytes : List ℕ) → Small bytes → 2 ≤ length bytes → take 2 bytes ≡ number w16 (signed_at w16 bytes)
two_bytes [] small long = absurd (omega arith)
two_bytes (a ∷ []) small long = absurd (omega arith)
two_bytes (a ∷ b ∷ rest) small long =
    again w16 (unsigned_at w16 (a ∷ b ∷ rest)) (a ∷ b ∷ []) (omega (arith, small 0, small 1)) (be_bytes_2 (a ∷ b ∷ []) _ refl (front_small 2 (a ∷ b ∷ rest) small) refl)

pub size_bytes : (bytes : List ℕ) → Small bytes → 4 ≤ length bytes → take 4 bytes ≡ size (unsigned_at w32 bytes)
size_bytes [] small long = absurd (omega arith)
size_bytes (a ∷ []) small long = absurd (omega arith)
size_bytes (a ∷ b ∷ []) small long = absurd (omega arith)
size_bytes (a ∷ b ∷ c ∷ []) small long = absurd (omega arith)
size_bytes (a ∷ b ∷ c ∷ d ∷ rest) small long = sym (be_bytes_4 (a ∷ b ∷ c ∷ d ∷ []) _ refl (front_small 4 (a ∷ b ∷ c ∷ d ∷ rest) small) refl)

fits_32 : (bytes : List ℕ) → Small bytes → unsigned_at w32 bytes < 2 ^ 32
fits_32 bytes small = omega (arith, small 0, small 1, small 2, small 3)

fits_64 : (bytes : List ℕ) → Small bytes → unsigned_at w64 bytes < 2 ^ 64
fits_64 bytes small = omega (arith, small 0, small 1, small 2, small 3, small 4, small 5, small 6, small 7)

pub four_bytes : (bytes : List ℕ) → Small bytes → 4 ≤ length bytes → take 4 bytes ≡ number w32 (signed_at w32 bytes)
four_bytes bytes small long = again w32 (unsigned_at w32 bytes) (take 4 bytes) (fits_32 bytes small) (sym (size_bytes bytes small long))

pub eight_bytes : (bytes : List ℕ) → Small bytes → 8 ≤ length bytes → take 8 bytes ≡ number w64 (signed_at w64 bytes)
eight_bytes bytes small long = again w64 (unsigned_at w64 bytes) (take 8 bytes) (fits_64 bytes small) (of_eight bytes small long)
  where
    of_eight : (bytes : List ℕ) → Small bytes → 8 ≤ length bytes → to_be_bytes w64 (unsigned_at w64 bytes) ≡ take 8 bytes
    of_eight [] small long = absurd (omega arith)
    of_eight (a ∷ []) small long = absurd (omega arith)
    of_eight (a ∷ b ∷ []) small long = absurd (omega arith)
    of_eight (a ∷ b ∷ c ∷ []) small long = absurd (omega arith)
    of_eight (a ∷ b ∷ c ∷ d ∷ []) small long = absurd (omega arith)
    of_eight (a ∷ b ∷ c ∷ d ∷ e ∷ []) small long = absurd (omega arith)
    of_eight (a ∷ b ∷ c ∷ d ∷ e ∷ f ∷ []) small long = absurd (omega arith)
    of_eight (a ∷ b ∷ c ∷ d ∷ e ∷ f ∷ g ∷ []) small long = absurd (omega arith)
    of_eight (a ∷ b ∷ c ∷ d ∷ e ∷ f ∷ g ∷ h ∷ rest) small long = be_bytes_8 (a ∷ b ∷ c ∷ d ∷ e ∷ f ∷ g ∷ h ∷ []) _ refl (front_small 8 (a ∷ b ∷ c ∷ d ∷ e ∷ f ∷ g ∷ h ∷ rest) small) refl
