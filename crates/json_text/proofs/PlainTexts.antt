-- A string without escapes where it stands.
use Rattle.std.proofs.Common.{◌≡◌, ℕ, ◌+◌, ◌-◌, ◌<◌, ◌≤◌, Bool, true, false, List, [], length, take, drop, refl, sym, ap, subst, ◌∙◌, arith, length-drop, map}
use Rattle.std.specs.Prelude.{nat_le, slice_index, not, ◌&&◌, ◌==◌}
use Rattle.std.specs.Str.{IsAscii}
use Rattle.std.specs.Str.Lossy.{utf8_valid_len}
use Rattle.std.specs.List.{prefix_len}
use Rattle.std.proofs.lemmas.Bool.Decides.{nat_tests}
use Rattle.std.proofs.lemmas.List.{take_all, length-take-le, get_or-take, get_or-drop, get_or_past}
use Rattle.std.proofs.lemmas.Simd.{none_from_empty_mask, length-chunk, trailing_mask_l}
use Rattle.std.proofs.lemmas.List.Sums.{prefix_len-le-length}
use Rattle.std.proofs.lemmas.Str.{IsUtf8-from_ascii, utf8_valid_len-IsUtf8}
use lib.Lanes.{chunk, mask_l}
use lib.Count.{count_trailing_zeros}
use Rattle.json_text.specs.declared.scanned.Scan.{Scan}
use Rattle.json_text.specs.declared.scanned.Scan.TheVariants.{Whole, Short, Bad}
use Rattle.json_text.specs.Scan.{moved}
use Rattle.json_text.specs.Places.{IsAsciiRun, is_high}
use Rattle.json_text.specs.Text.{is_plain, is_stop, text_at}
use Rattle.json_text.proofs.Turns.{begins, passes, quoted}

-- what is so far behind a place is so far behind the front
unmoved : (at stop : ℕ) (text : List ℕ) (scan : Scan (List ℕ)) → moved at scan ≡ Whole text stop → scan ≡ Whole text (stop - at)
unmoved at stop text (Whole t after) e = ap (λ x. Whole x after) (ap text_of e) ∙ ap (Whole text) (omega (arith, ap place_of e))
  where
    text_of : Scan (List ℕ) → List ℕ
    text_of (Whole x n) = x
    text_of Short = []
    text_of (Bad n) = []

    place_of : Scan (List ℕ) → ℕ
    place_of (Whole x n) = n
    place_of Short = 0
    place_of (Bad n) = 0
unmoved at stop text Short e = absurd (cc)
unmoved at stop text (Bad place) e = absurd (cc)

-- a run of plain bytes that is UTF-8, between two quotes
pub text_there : (bytes : List ℕ) (at stop : ℕ) → at < length bytes → slice_index bytes at ≡ 34 → stop ≡ at + 1 + prefix_len is_plain (drop (at + 1) bytes) → stop < length bytes → slice_index bytes stop ≡ 34
    → utf8_valid_len (take (stop - (at + 1)) (drop (at + 1) bytes)) ≡ stop - (at + 1) → text_at (drop at bytes) ≡ Whole (take (stop - (at + 1)) (drop (at + 1) bytes)) (stop + 1 - at)
text_there bytes at stop there quote is most last valid =
    let run = take (stop - (at + 1)) (drop (at + 1) bytes) in
    let long : length run ≡ stop - (at + 1) = length-take-le (stop - (at + 1)) (drop (at + 1) bytes) (omega (arith, length-drop (at + 1) bytes)) in
    let same : take (0 + (stop - (at + 1))) run ≡ run = take_all (0 + (stop - (at + 1))) run (omega (arith, long)) in
    let pass = passes bytes [] at (at + 1) 0 0 stop (begins bytes [] at there quote) is run valid same in
    unmoved at (stop + 1) run (text_at (drop at bytes)) (quoted (moved at (text_at (drop at bytes))) (take (0 + (stop - (at + 1))) run) bytes stop pass most last ∙ ap (λ t. Whole t (stop + 1)) same)

-- plain bytes so far, which are ASCII if they were seen to be
pub record PlainRun (bytes : List ℕ) (at stop : ℕ) (Seen : Type 0) : Type 0 where
  pub run : at + prefix_len is_plain (drop at bytes) ≡ stop + prefix_len is_plain (drop stop bytes)
  pub order : at ≤ stop
  pub within : stop ≤ length bytes
  pub ascii : Seen → IsAsciiRun bytes at stop

pub no_run : (bytes : List ℕ) (at : ℕ) (Seen : Type 0) → at ≤ length bytes → PlainRun bytes at at Seen
no_run bytes at Seen most = record { run = refl; order = omega arith; within = most; ascii = λ _ i from short. absurd (omega arith) }

-- the first stop of a vector is in it
pub stop_near : (bytes : List ℕ) (at n : ℕ) → at + n ≤ length bytes → n ≤ 64 → 0 < mask_l (map is_stop (chunk at n bytes)) → count_trailing_zeros 64 (mask_l (map is_stop (chunk at n bytes))) ≤ n
stop_near bytes at n most few some =
    let long = length-chunk at n bytes most in
    omega (arith, trailing_mask_l is_stop 64 (chunk at n bytes) (omega (arith, long)) some, prefix_len-le-length (λ x. not (is_stop x)) (chunk at n bytes), long)

-- ---- ASCII

low_byte : (x : ℕ) → is_high x ≡ false → x < 128
low_byte x e = grind (arith, nat_tests)

-- a vector without high bytes
pub ascii_on : (bytes : List ℕ) (at stop n : ℕ) → IsAsciiRun bytes at stop → stop + n ≤ length bytes → mask_l (map is_high (chunk stop n bytes)) ≡ 0 → IsAsciiRun bytes at (stop + n)
ascii_on bytes at stop n before most none i from short = low_or_on (nat_le stop i) refl
  where
    low_or_on : (b : Bool) → nat_le stop i ≡ b → slice_index bytes i < 128
    low_or_on true e = low_byte (slice_index bytes i) (none_from_empty_mask is_high bytes stop n 0 most none i (grind (arith, nat_tests)) short)
    low_or_on false e = before i from (grind (arith, nat_tests))

pub ascii_join : (bytes : List ℕ) (at mid stop : ℕ) → IsAsciiRun bytes at mid → IsAsciiRun bytes mid stop → IsAsciiRun bytes at stop
ascii_join bytes at mid stop before after i from short = either (nat_le mid i) refl
  where
    either : (b : Bool) → nat_le mid i ≡ b → slice_index bytes i < 128
    either true e = after i (grind (arith, nat_tests)) short
    either false e = before i from (grind (arith, nat_tests))

pub both_true : (a b : Bool) → (a && b) ≡ true → (a ≡ true) × (b ≡ true)
both_true true true e = (refl, refl)
both_true true false e = absurd (cc)
both_true false b e = absurd (cc)

pub ascii_shorter : (bytes : List ℕ) (at stop less : ℕ) → less ≤ stop → IsAsciiRun bytes at stop → IsAsciiRun bytes at less
ascii_shorter bytes at stop less order run i from short = run i from (omega arith)

-- one more byte
pub ascii_next : (bytes : List ℕ) (at stop : ℕ) → IsAsciiRun bytes at stop → slice_index bytes stop < 128 → IsAsciiRun bytes at (stop + 1)
ascii_next bytes at stop before low i from short = last_or_before (i == stop) refl
  where
    last_or_before : (b : Bool) → (i == stop) ≡ b → slice_index bytes i < 128
    last_or_before true e = let same : i ≡ stop = grind (arith, nat_tests) in subst (λ k. slice_index bytes k < 128) (sym same) low
    last_or_before false e = before i from (grind (arith, nat_tests))

pub ascii_run : (bytes : List ℕ) (at stop : ℕ) → at ≤ stop → stop ≤ length bytes → IsAsciiRun bytes at stop → IsAscii (take (stop - at) (drop at bytes))
ascii_run bytes at stop order most run i = inside (nat_le (stop - at) i) refl
  where
    long : length (take (stop - at) (drop at bytes)) ≡ stop - at
    long = length-take-le (stop - at) (drop at bytes) (omega (arith, length-drop at bytes))

    inside : (b : Bool) → nat_le (stop - at) i ≡ b → slice_index (take (stop - at) (drop at bytes)) i < 128
    inside true e = omega (arith, get_or_past (take (stop - at) (drop at bytes)) i 0 (grind (arith, nat_tests, long)))
    inside false e =
        let short : i < stop - at = grind (arith, nat_tests) in
        let here : slice_index (take (stop - at) (drop at bytes)) i ≡ slice_index bytes (at + i) = get_or-take (stop - at) (drop at bytes) i 0 short ∙ get_or-drop at bytes i 0 in
        omega (arith, here, run (at + i) (omega arith) (omega arith))

pub ascii_valid : (bytes : List ℕ) (at stop : ℕ) → at ≤ stop → stop ≤ length bytes → IsAsciiRun bytes at stop → utf8_valid_len (take (stop - at) (drop at bytes)) ≡ stop - at
ascii_valid bytes at stop order most run =
    utf8_valid_len-IsUtf8 (take (stop - at) (drop at bytes)) (IsUtf8-from_ascii (take (stop - at) (drop at bytes)) (ascii_run bytes at stop order most run))
    ∙ length-take-le (stop - at) (drop at bytes) (omega (arith, length-drop at bytes))
