-- The parts of the threads add up to all sessions.
use Rattle.std.proofs.Common.{◌≡◌, ℕ, zero, suc, ◌+◌, ◌*◌, ◌/◌, ◌%◌, ◌<◌, ◌≤◌, Bool, true, false, refl, ap, arith, suc-mul, zero-mul, mul_comm, div-add-mod', mod-lt, le_of_lt}
use Rattle.std.specs.Prelude.{nat_lt, nat_le, if◌then◌else◌}
use Rattle.std.proofs.lemmas.Bool.Decides.{nat_tests}
use Rattle.gate_words.specs.Shares.{share, first_shares}

is_under : (a b : ℕ) → a < b → nat_lt a b ≡ true
is_under a b under = grind (arith, nat_tests, under)

is_over : (a b : ℕ) → b ≤ a → nat_lt a b ≡ false
is_over a b over = grind (arith, nat_tests, over)

is_within : (a b : ℕ) → nat_le a b ≡ true → a ≤ b
is_within a b is = grind (arith, nat_tests, is)

is_above : (a b : ℕ) → nat_le a b ≡ false → b < a
is_above a b is = grind (arith, nat_tests, is)

module _ (sessions threads : ℕ) where
  one_more : (at : ℕ) → at < sessions % threads → share sessions threads at ≡ sessions / threads + 1
  one_more at under = ap (λ (b : Bool). if b then sessions / threads + 1 else sessions / threads) (is_under at (sessions % threads) under)

  no_more : (at : ℕ) → sessions % threads ≤ at → share sessions threads at ≡ sessions / threads
  no_more at over = ap (λ (b : Bool). if b then sessions / threads + 1 else sessions / threads) (is_over at (sessions % threads) over)

  -- the threads that have one more
  front : (n : ℕ) → n ≤ sessions % threads → first_shares sessions threads n ≡ n * (sessions / threads) + n
  front zero under = omega (arith, zero-mul (sessions / threads))
  front (suc n) under =
      let before = front n (omega (arith, under)) in
      let here = one_more n (omega (arith, under)) in
      omega (arith, before, here, suc-mul n (sessions / threads))

  -- and those behind them
  behind : (n : ℕ) → sessions % threads ≤ n → first_shares sessions threads n ≡ n * (sessions / threads) + sessions % threads
  behind zero over = omega (arith, over, zero-mul (sessions / threads))
  behind (suc n) over = by_place (behind n) (nat_le (sessions % threads) n) refl
    where
      by_place : (sessions % threads ≤ n → first_shares sessions threads n ≡ n * (sessions / threads) + sessions % threads)
          → (b : Bool) → nat_le (sessions % threads) n ≡ b → first_shares sessions threads (suc n) ≡ suc n * (sessions / threads) + sessions % threads
      by_place before true is =
          let within = is_within (sessions % threads) n is in
          omega (arith, before within, no_more n within, suc-mul n (sessions / threads))
      by_place before false is =
          let above = is_above (sessions % threads) n is in
          omega (arith, front (suc n) (omega (arith, above)), above, over)

-- all of them together
pub all_shares : (sessions threads : ℕ) → 0 < threads → first_shares sessions threads threads ≡ sessions
all_shares sessions threads some =
    let last = behind sessions threads threads (le_of_lt (mod-lt sessions some)) in
    omega (arith, last, div-add-mod' sessions threads, mul_comm threads (sessions / threads))
