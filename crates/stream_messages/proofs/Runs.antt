-- Runs over bytes of any value, and over sizes.
use Rattle.std.proofs.Common.{◌≡◌, ℕ, zero, suc, ◌+◌, ◌-◌, ◌*◌, ◌<◌, ◌^◌, Bool, true, false, cond, List, [], ◌∷◌, length, drop, Ok, Err, refl, arith, sym, ap, ◌∙◌}
use Rattle.std.specs.Prelude.{nat_lt, nat_le, ◌==◌, ◌&&◌, if◌then◌else◌}
use Rattle.std.specs.Int.{w32, from_be_bytes}
use Rattle.std.proofs.lemmas.Bool.Decides.{nat_tests}
use Rattle.gate_base.specs.Bytes.{AreBytes}
use Rattle.protocol_traits.specs.declared.nest.Slot.{Slot}
use Rattle.binary_protocol.specs.Scan.{Scan, size_at, unsigned_at}
use Rattle.stream_messages.specs.declared.scan.Wire.{Wire}
use Rattle.stream_messages.specs.declared.parts.Next.TheVariants as next
use Rattle.stream_messages.specs.declared.parts.Part.TheVariants as part
use Rattle.stream_messages.specs.declared.parts.BinaryPart.TheVariants as binary
use Rattle.stream_messages.specs.declared.parts.BinarySized.{BinarySized}
use Rattle.stream_messages.specs.Binary.{step_of, size_of, sized}
use Rattle.stream_messages.specs.Feeding.{Ran, goes, short, behind, led, run}
use Rattle.stream_messages.proofs.Seen.{faulty}

-- so many bytes, whatever they are
abbrev pub ran_any : ℕ → List ℕ → List Slot → Ran
ran_any size bytes nest = if nat_lt (length bytes) size then short else goes nest size

pub any_law : (wire : Wire) (k : ℕ) (bytes : List ℕ) (nest : List Slot) → run wire bytes (part.Any (suc k)) nest ≡ ran_any (suc k) bytes nest
any_law wire k [] nest = let t : nat_lt 0 (suc k) ≡ true = grind (arith, nat_tests) in rw t refl
any_law wire zero (b ∷ more) nest = let t : nat_lt (suc (length more)) 1 ≡ false = grind (arith, nat_tests) in rw t refl
any_law wire (suc k) (b ∷ more) nest =
    let back : suc (suc k) - 1 ≡ suc k = omega arith in
    let some : (suc k == 0) ≡ false = grind (arith, nat_tests) in
    rw (back, some) (ap behind (any_law wire k more nest) ∙ by_test (nat_lt (length more) (suc k)) refl)
  where
    by_test : (t : Bool) → nat_lt (length more) (suc k) ≡ t → behind (cond t short (goes nest (suc k))) ≡ ran_any (suc (suc k)) (b ∷ more) nest
    by_test true e = let s : nat_lt (suc (length more)) (suc (suc k)) ≡ true = grind (arith, nat_tests) in rw s refl
    by_test false e =
        let s : nat_lt (suc (length more)) (suc (suc k)) ≡ false = grind (arith, nat_tests) in
        let n : suc k + 1 ≡ suc (suc k) = omega arith in
        rw (s, n) refl

-- the number of four bytes
number_is : (a b c d : ℕ) (more : List ℕ) → from_be_bytes w32 (a ∷ b ∷ c ∷ d ∷ more) ≡ ((a * 256 + b) * 256 + c) * 256 + d
number_is a b c d more = omega arith

-- ---- sizes of the Binary protocol

-- a byte that isn't the last
more_size : (of : BinarySized) (left number byte : ℕ) (nest : List Slot) → (nat_le 4 left && nat_le 128 byte) ≡ false → number < 8388608 → 1 < left
    → size_of of left number byte nest ≡ (next.Part (part.Binary (binary.Size of (left - 1) (number * 256 + byte))), nest)
unfolding size_of
more_size of left number byte nest t n l =
    let m : nat_le 8388608 number ≡ false = grind (arith, nat_tests) in
    let k : nat_le left 1 ≡ false = grind (arith, nat_tests) in
    rw (t, m, k) refl

last_size : (of : BinarySized) (number byte : ℕ) (nest : List Slot) → number < 8388608 → size_of of 1 number byte nest ≡ sized of (number * 256 + byte) nest
unfolding size_of
last_size of number byte nest n = let m : nat_le 8388608 number ≡ false = grind (arith, nat_tests) in rw m refl

negative_size : (of : BinarySized) (byte : ℕ) (nest : List Slot) → nat_le 128 byte ≡ true → size_of of 4 0 byte nest ≡ (next.Bad, nest)
unfolding size_of
negative_size of byte nest t = rw t refl

-- behind a size that was read whole
abbrev pub sized_run : Wire → BinarySized → ℕ → List Slot → List ℕ → Ran
sized_run wire of number nest more = led (sized of number nest).0 (sized of number nest).1 (run wire more)

abbrev pub size_run : Wire → BinarySized → List Slot → List ℕ → Scan ℕ → Ran
size_run wire of nest bytes (Ok x) = behind (behind (behind (sized_run wire of x.0 nest (drop 4 bytes))))
size_run wire of nest bytes (Err f) = faulty f

-- the first byte of a size, and what follows it
abbrev pub first_size : Wire → BinarySized → List Slot → List ℕ → Ran
first_size wire of nest [] = short
first_size wire of nest (a ∷ more) = led (size_of of 4 0 a nest).0 (size_of of 4 0 a nest).1 (run wire more)

module _ (wire : Wire) (of : BinarySized) (nest : List Slot) where
  goes_on : (left number byte : ℕ) (more : List ℕ) → (nat_le 4 left && nat_le 128 byte) ≡ false → number < 8388608 → 1 < left
      → led (size_of of left number byte nest).0 (size_of of left number byte nest).1 (run wire more) ≡ behind (run wire more (part.Binary (binary.Size of (left - 1) (number * 256 + byte))) nest)
  goes_on left number byte more t n l = rw (more_size of left number byte nest t n l) refl

  -- a byte of a size that has begun
  one_more : (left number byte : ℕ) (more : List ℕ) → nat_le 4 left ≡ false → number < 8388608 → 1 < left
      → run wire (byte ∷ more) (part.Binary (binary.Size of left number)) nest ≡ behind (run wire more (part.Binary (binary.Size of (left - 1) (number * 256 + byte))) nest)
  unfolding step_of
  one_more left number byte more t n l = goes_on left number byte more (rw t refl) n l

  the_last : (number byte : ℕ) (more : List ℕ) → number < 8388608 → run wire (byte ∷ more) (part.Binary (binary.Size of 1 number)) nest ≡ sized_run wire of (number * 256 + byte) nest more
  unfolding step_of
  the_last number byte more n = rw (last_size of number byte nest n) refl

  pub size_law : (bytes : List ℕ) → AreBytes bytes → size_run wire of nest bytes (size_at bytes) ≡ first_size wire of nest bytes
  unfolding size_at
  size_law [] are = refl
  size_law (a ∷ more) are = by_sign are.0 (nat_le 128 a) refl more are.1
    where
      by_sign : a < 256 → (b : Bool) → nat_le 128 a ≡ b → (more : List ℕ) → AreBytes more → size_run wire of nest (a ∷ more) (size_at (a ∷ more)) ≡ first_size wire of nest (a ∷ more)
      by_sign small true t [] are = rw (negative_size of a nest t, t) refl
      by_sign small true t (b ∷ []) are = rw (negative_size of a nest t, t) refl
      by_sign small true t (b ∷ c ∷ []) are = rw (negative_size of a nest t, t) refl
      by_sign small true t (b ∷ c ∷ d ∷ more) are =
          let long : nat_lt (length (a ∷ b ∷ c ∷ d ∷ more)) 4 ≡ false = grind (arith, nat_tests) in
          let great : nat_lt (unsigned_at w32 (a ∷ b ∷ c ∷ d ∷ more)) (2 ^ 31) ≡ false = grind (arith, nat_tests) in
          rw (negative_size of a nest t, long, great) refl
      by_sign small false t [] are = rw t (sym (goes_on 4 0 a [] t (omega arith) (omega arith)))
      by_sign small false t (b ∷ []) are = rw t (sym (goes_on 4 0 a (b ∷ []) t (omega arith) (omega arith) ∙ ap behind (one_more 3 (0 * 256 + a) b [] refl (omega (arith, small)) (omega arith))))
      by_sign small false t (b ∷ c ∷ []) are = rw t (sym (goes_on 4 0 a (b ∷ c ∷ []) t (omega arith) (omega arith)
          ∙ ap behind (one_more 3 (0 * 256 + a) b (c ∷ []) refl (omega (arith, small)) (omega arith)
          ∙ ap behind (one_more 2 ((0 * 256 + a) * 256 + b) c [] refl (omega (arith, small, are.0)) (omega arith)))))
      by_sign small false t (b ∷ c ∷ d ∷ more) are =
          let long : nat_lt (length (a ∷ b ∷ c ∷ d ∷ more)) 4 ≡ false = grind (arith, nat_tests) in
          let low : a < 128 = grind (arith, nat_tests) in
          let fits : nat_lt (unsigned_at w32 (a ∷ b ∷ c ∷ d ∷ more)) (2 ^ 31) ≡ true = let x = are.0 in let y = are.1.0 in let z = are.1.1.0 in grind (arith, nat_tests) in
          let same : unsigned_at w32 (a ∷ b ∷ c ∷ d ∷ more) ≡ (((0 * 256 + a) * 256 + b) * 256 + c) * 256 + d = omega arith in
          rw (long, fits) (ap (λ n. behind (behind (behind (sized_run wire of n nest more)))) same ∙ sym (goes_on 4 0 a (b ∷ c ∷ d ∷ more) t (omega arith) (omega arith)
          ∙ ap behind (one_more 3 (0 * 256 + a) b (c ∷ d ∷ more) refl (omega (arith, small)) (omega arith)
          ∙ ap behind (one_more 2 ((0 * 256 + a) * 256 + b) c (d ∷ more) refl (omega (arith, small, are.0)) (omega arith)
          ∙ ap behind (the_last (((0 * 256 + a) * 256 + b) * 256 + c) d more (omega (arith, low, are.0, are.1.0)))))))
