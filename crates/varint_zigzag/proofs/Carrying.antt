-- A number that is read group by group: what the groups so far carry, and what the bytes behind them add.
use Rattle.std.proofs.Common.{◌≡◌, ℕ, zero, suc, ◌+◌, ◌-◌, ◌*◌, ◌%◌, ◌^◌, ◌<◌, ◌≤◌, ◌⊎◌, inl, inr, List, [], ◌∷◌, length, drop, get_or, Ok, Err, arith, refl, sym, ◌∙◌, ap, add-one, add-zero, drop-cons, length-drop}
use Rattle.std.specs.Prelude.{Result}
use Rattle.std.proofs.Math.Nat.{add-mul, mul_assoc, mul-le-mul_right}
use Rattle.std.proofs.Math.Pow.{pow_mono}
use Rattle.std.proofs.lemmas.Nat.{pow-add}
use Rattle.std.proofs.lemmas.List.{drop_all, get_or-drop}
use Rattle.std.proofs.lemmas.Bool.Decides.{nat_tests}
use Rattle.varint_zigzag.specs.declared.fault.VarFault.{VarFault}
use Rattle.varint_zigzag.specs.declared.fault.VarFault.TheVariants.{Short, Bad}
use Rattle.varint_zigzag.specs.Varint.{varint_at, below}

-- so many bytes with this number, and what is found behind them
abbrev pub onto : ℕ → ℕ → ℕ → Result (ℕ × ℕ) VarFault → Result (ℕ × ℕ) VarFault
onto number shift at (Ok x) = Ok (number + x.0 * 2 ^ shift, at + x.1)
onto number shift at (Err fault) = Err fault

pub record Carries (most width : ℕ) (bytes : List ℕ) (number at shift : ℕ) : Type 0 where
  pub same : varint_at most width bytes ≡ onto number shift at (varint_at (most - at) (width - shift) (drop at bytes))
  pub small : number < 2 ^ shift
  pub shifted : shift ≡ 7 * at
  pub within : at ≤ length bytes

onto_nothing : (found : Result (ℕ × ℕ) VarFault) → found ≡ onto 0 0 0 found
onto_nothing (Ok x) = grind arith
onto_nothing (Err fault) = refl

pub starts : (most width : ℕ) (bytes : List ℕ) → Carries most width bytes 0 0 0
starts most width bytes =
    let all : most ≡ most - 0 = omega arith in
    let whole : width ≡ width - 0 = omega arith in
    record { same = onto_nothing (varint_at most width bytes) ∙ ap (λ m. onto 0 0 0 (varint_at m width bytes)) all ∙ ap (λ w. onto 0 0 0 (varint_at (most - 0) w bytes)) whole; small = omega arith; shifted = refl; within = omega arith }

wider : (shift : ℕ) → 2 ^ (shift + 7) ≡ 2 ^ shift * 128
wider shift = pow-add 2 shift 7

-- one group more
onto_below : (number low shift at : ℕ) (found : Result (ℕ × ℕ) VarFault) → onto number shift at (below low found) ≡ onto (number + low * 2 ^ shift) (shift + 7) (at + 1) found
onto_below number low shift at (Err fault) = refl
onto_below number low shift at (Ok x) =
    let a : (low + 128 * x.0) * 2 ^ shift ≡ low * 2 ^ shift + 128 * x.0 * 2 ^ shift = add-mul low (128 * x.0) (2 ^ shift) in
    let b : 128 * x.0 * 2 ^ shift ≡ 128 * (x.0 * 2 ^ shift) = mul_assoc 128 x.0 (2 ^ shift) in
    let c : x.0 * (2 ^ shift * 128) ≡ x.0 * 2 ^ shift * 128 = sym (mul_assoc x.0 (2 ^ shift) 128) in
    let d : x.0 * 2 ^ (shift + 7) ≡ x.0 * 2 ^ shift * 128 = ap (λ s. x.0 * s) (wider shift) ∙ c in
    let e : number + (low + 128 * x.0) * 2 ^ shift ≡ number + low * 2 ^ shift + x.0 * 2 ^ (shift + 7) = omega (arith, a, b, d) in
    let f : at + (x.1 + 1) ≡ at + 1 + x.1 = omega arith in
    rw (e, f) refl

-- the number stays below the bits that were read
pub stays_small : (number low shift : ℕ) → number < 2 ^ shift → low < 128 → number + low * 2 ^ shift < 2 ^ (shift + 7)
stays_small number low shift small fits =
    let a : (low + 1) * 2 ^ shift ≡ low * 2 ^ shift + 1 * 2 ^ shift = add-mul low 1 (2 ^ shift) in
    let b : (low + 1) * 2 ^ shift ≤ 128 * 2 ^ shift = mul-le-mul_right (2 ^ shift) (omega arith) in
    rw (wider shift) (omega (arith, a, b))

small_or_not : (a b : ℕ) → (a < b) ⊎ (b ≤ a)
small_or_not a b = grind arith

-- the number fits in 64 bits
pub fits_word : (number low shift width : ℕ) → number < 2 ^ shift → shift < 64 → width ≤ 64 → low < 2 ^ (width - shift) → number + low * 2 ^ shift < 2 ^ 64
fits_word number low shift width small under wide fits =
    elim (small_or_not shift width) as (λ _. number + low * 2 ^ shift < 2 ^ 64) [
      | inl above ↦
          let a : (low + 1) * 2 ^ shift ≡ low * 2 ^ shift + 1 * 2 ^ shift = add-mul low 1 (2 ^ shift) in
          let b : (low + 1) * 2 ^ shift ≤ 2 ^ (width - shift) * 2 ^ shift = mul-le-mul_right (2 ^ shift) (omega arith) in
          let c : 2 ^ (width - shift + shift) ≡ 2 ^ (width - shift) * 2 ^ shift = pow-add 2 (width - shift) shift in
          let e : width - shift + shift ≡ width = omega arith in
          let d : 2 ^ width ≡ 2 ^ (width - shift) * 2 ^ shift = rw e at c in
          let f : 2 ^ width ≤ 2 ^ 64 = pow_mono wide in
          omega (arith, a, b, d, f)
      | inr behind ↦
          let none : width - shift ≡ 0 = omega arith in
          let one : low < 2 ^ 0 = rw none at fits in
          let zero_low : low ≡ 0 = omega arith in
          let narrow : shift ≤ 64 = omega arith in
          let f : 2 ^ shift ≤ 2 ^ 64 = pow_mono narrow in
          rw zero_low (omega (arith, f))
    ]

-- ---- the front of the bytes that are left

short_of_none : (m width : ℕ) → 0 < m → varint_at m width [] ≡ Err Short
short_of_none zero width some = absurd (omega arith)
short_of_none (suc m) width some = refl

at_end : (m width : ℕ) (bytes : List ℕ) (at : ℕ) → at ≡ length bytes → 0 < m → varint_at m width (drop at bytes) ≡ Err Short
at_end m width bytes at e some = ap (varint_at m width) (drop_all at bytes (omega (arith, e))) ∙ short_of_none m width some

front : (bytes : List ℕ) (at : ℕ) → at < length bytes → drop at bytes ≡ get_or bytes at 0 ∷ drop (at + 1) bytes
front bytes at h = rw add-one (drop-cons bytes at 0 h)

bad_front : (m width b : ℕ) (bs : List ℕ) → 2 ^ width ≤ b % 128 → varint_at m width (b ∷ bs) ≡ Err Bad
bad_front zero width b bs h = refl
bad_front (suc m) width b bs h = grind (arith, nat_tests)

pub last_front : (m width b : ℕ) (bs : List ℕ) → 0 < m → b % 128 < 2 ^ width → b < 128 → varint_at m width (b ∷ bs) ≡ Ok (b, 1)
last_front zero width b bs some fits last = absurd (omega arith)
last_front (suc m) width b bs some fits last = grind (arith, nat_tests)

more_front : (m width b : ℕ) (bs : List ℕ) → 0 < m → b % 128 < 2 ^ width → 128 ≤ b → varint_at m width (b ∷ bs) ≡ below (b % 128) (varint_at (m - 1) (width - 7) bs)
more_front zero width b bs some fits more = absurd (omega arith)
more_front (suc m) width b bs some fits more = grind (arith, nat_tests)

-- ---- each exit of the loop

pub ends : (most width : ℕ) (bytes : List ℕ) (number at shift : ℕ) → Carries most width bytes number at shift → at < most → length bytes ≤ at → Err Short ≡ varint_at most width bytes
ends most width bytes number at shift c more none =
    sym (c.same ∙ ap (onto number shift at) (at_end (most - at) (width - shift) bytes at (omega (arith, c.within)) (omega arith)))

pub breaks : (most width : ℕ) (bytes : List ℕ) (number at shift : ℕ) → Carries most width bytes number at shift → at < length bytes → 2 ^ (width - shift) ≤ get_or bytes at 0 % 128 → Err Bad ≡ varint_at most width bytes
breaks most width bytes number at shift c some large =
    sym (c.same ∙ ap (λ r. onto number shift at (varint_at (most - at) (width - shift) r)) (front bytes at some) ∙ ap (onto number shift at) (bad_front (most - at) (width - shift) (get_or bytes at 0) (drop (at + 1) bytes) large))

pub stops : (most width : ℕ) (bytes : List ℕ) (number at shift : ℕ) → Carries most width bytes number at shift → most ≤ at → Err Bad ≡ varint_at most width bytes
stops most width bytes number at shift c all =
    let none : most - at ≡ 0 = omega arith in
    sym (c.same ∙ ap (λ m. onto number shift at (varint_at m (width - shift) (drop at bytes))) none)

pub tells : (most width : ℕ) (bytes : List ℕ) (number at shift : ℕ) → Carries most width bytes number at shift → at < most → at < length bytes → get_or bytes at 0 % 128 < 2 ^ (width - shift) → get_or bytes at 0 < 128
    → Ok (number + get_or bytes at 0 % 128 * 2 ^ shift, at + 1) ≡ varint_at most width bytes
tells most width bytes number at shift c more some fits last =
    let same : get_or bytes at 0 % 128 ≡ get_or bytes at 0 = omega arith in
    rw same (sym (c.same ∙ ap (λ r. onto number shift at (varint_at (most - at) (width - shift) r)) (front bytes at some) ∙ ap (onto number shift at) (last_front (most - at) (width - shift) (get_or bytes at 0) (drop (at + 1) bytes) (omega arith) fits last)))

pub goes_on : (most width : ℕ) (bytes : List ℕ) (number at shift : ℕ) → Carries most width bytes number at shift → at < most → at < length bytes → get_or bytes at 0 % 128 < 2 ^ (width - shift) → 128 ≤ get_or bytes at 0
    → Carries most width bytes (number + get_or bytes at 0 % 128 * 2 ^ shift) (at + 1) (shift + 7)
goes_on most width bytes number at shift c more some fits not_last =
    let fewer : most - at - 1 ≡ most - (at + 1) = omega arith in
    let narrower : width - shift - 7 ≡ width - (shift + 7) = omega arith in
    record {
      same = c.same ∙ ap (λ r. onto number shift at (varint_at (most - at) (width - shift) r)) (front bytes at some)
          ∙ ap (onto number shift at) (more_front (most - at) (width - shift) (get_or bytes at 0) (drop (at + 1) bytes) (omega arith) fits not_last)
          ∙ onto_below number (get_or bytes at 0 % 128) shift at (varint_at (most - at - 1) (width - shift - 7) (drop (at + 1) bytes))
          ∙ ap (λ m. onto (number + get_or bytes at 0 % 128 * 2 ^ shift) (shift + 7) (at + 1) (varint_at m (width - shift - 7) (drop (at + 1) bytes))) fewer
          ∙ ap (λ w. onto (number + get_or bytes at 0 % 128 * 2 ^ shift) (shift + 7) (at + 1) (varint_at (most - (at + 1)) w (drop (at + 1) bytes))) narrower;
      small = stays_small number (get_or bytes at 0 % 128) shift c.small (omega arith);
      shifted = omega (arith, c.shifted);
      within = omega arith;
    }

-- a number of one byte
pub single_front : (bytes : List ℕ) → 0 < length bytes → get_or bytes 0 0 < 128 → (most width : ℕ) → 0 < most → 7 ≤ width → varint_at most width bytes ≡ Ok (get_or bytes 0 0, 1)
single_front [] some last most width m w = absurd (omega arith)
single_front (b ∷ bs) some last most width m w =
    let wide : 2 ^ 7 ≤ 2 ^ width = pow_mono w in
    last_front most width b bs m (omega (arith, wide)) last

-- the same behind a place
pub single_there : (at : ℕ) (bytes : List ℕ) → at < length bytes → get_or bytes at 0 < 128 → (most width : ℕ) → 0 < most → 7 ≤ width → varint_at most width (drop at bytes) ≡ Ok (get_or bytes at 0, 1)
single_there at bytes some last most width m w =
    let first : get_or (drop at bytes) 0 0 ≡ get_or bytes at 0 = get_or-drop at bytes 0 0 ∙ ap (λ k. get_or bytes k 0) (add-zero at) in
    single_front (drop at bytes) (omega (arith, length-drop at bytes)) (omega (arith, first)) most width m w ∙ ap (λ n. Ok (n, 1)) first

-- no bit of a group is shifted out
pub whole : (low number shift : ℕ) → number + low * 2 ^ shift < 2 ^ 64 → low * 2 ^ shift % 18446744073709551616 ≡ low * 2 ^ shift
whole low number shift h = let small : low * 2 ^ shift < 18446744073709551616 = omega arith in omega (arith, small)
