-- A run of plain bytes laid into cells, a vector at a time.
use Rattle.std.proofs.Common.{◌≡◌, ℕ, zero, suc, ◌+◌, ◌-◌, ◌<◌, ◌≤◌, Bool, true, false, List, [], ◌∷◌, ◌++◌, length, take, drop, get_or, map, refl, sym, ap, subst, ◌∙◌, inl, inr, arith, append-nil, append_assoc, length-append, length-drop}
use Rattle.std.specs.Prelude.{slice_index, cond, min, not}
use Rattle.std.specs.List.{prefix_len}
use Rattle.std.specs.Str.{IsAscii, is_utf8}
use Rattle.std.proofs.lemmas.Bool.{cases_lt}
use Rattle.std.proofs.lemmas.Bool.Decides.{nat_tests}
use Rattle.std.proofs.lemmas.List.{drop-drop, drop-take, drop_at, take-take, length-take, get_or-drop, get_or-take}
use Rattle.std.proofs.lemmas.Simd.{length-chunk}
use Rattle.std.proofs.lemmas.List.Sums.{prefix_len_passes, prefix_len_stops}
use lib.Lanes.{chunk, mask_l}
use lib.Count.{count_trailing_zeros}
use Rattle.std.specs.Int.Count.{trailing_of_zero}
use Rattle.std.proofs.lemmas.Str.{IsUtf8-from_ascii, is_utf8-from_IsUtf8}
use Rattle.json_text.specs.Places.{IsAsciiRun, StopsAt, is_high}
use Rattle.json_text.specs.Text.{is_plain, is_stop}
use Rattle.json_text.specs.Plain.{byte_spelling, pieces_spelling}
use Rattle.json_text.proofs.LaidDigits.{front_laid}
use Rattle.json_text.proofs.PlainTexts.{ascii_run, ascii_on, ascii_shorter}
use Rattle.json_text.proofs.Runs.{run_through, run_stops, stop_inside}

-- so much of a run is copied, and all of it is plain
pub record Copied (old cells bytes : List ℕ) (to from size at : ℕ) (Seen : Type 0) : Type 0 where
  pub plain : from + prefix_len is_plain (drop from bytes) ≡ at + prefix_len is_plain (drop at bytes)
  pub order : from ≤ at
  pub within : at ≤ size
  pub laid : take (to + (at - from)) cells ≡ take to old ++ take (at - from) (drop from bytes)
  pub ascii : Seen → IsAsciiRun bytes from at

pub none_copied : (old bytes : List ℕ) (to from size : ℕ) (Seen : Type 0) → from ≤ size → Copied old old bytes to from size from Seen
none_copied old bytes to from size Seen order = record {
  plain = refl;
  order = omega arith;
  within = order;
  laid = let z : from - from ≡ 0 = omega arith in let e : to + (from - from) ≡ to = omega arith in ap (λ k. take k old) e ∙ sym (append-nil (take to old)) ∙ ap (λ k. take to old ++ take k (drop from bytes)) (sym z);
  ascii = λ _ i above below. absurd (omega arith);
}

-- two parts that follow each other
take_both : (m n : ℕ) (xs : List ℕ) → take m xs ++ take n (drop m xs) ≡ take (m + n) xs
take_both zero n xs = let e : n ≡ 0 + n = omega arith in ap (λ k. take k xs) e
take_both (suc m) n [] = let e : suc m + n ≡ suc (m + n) = omega arith in nothing n ∙ ap (λ k. take {A = ℕ} k []) (sym e)
  where
    nothing : (n : ℕ) → take {A = ℕ} n [] ≡ []
    nothing zero = refl
    nothing (suc n) = refl
take_both (suc m) n (x ∷ xs) = let e : suc m + n ≡ suc (m + n) = omega arith in ap (λ r. x ∷ r) (take_both m n xs) ∙ ap (λ k. take k (x ∷ xs)) (sym e)

pub both_parts : (bytes : List ℕ) (from at n : ℕ) → from ≤ at → take (at - from) (drop from bytes) ++ take n (drop at bytes) ≡ take (at + n - from) (drop from bytes)
both_parts bytes from at n order =
    let there : from + (at - from) ≡ at = omega arith in
    let sum : at - from + n ≡ at + n - from = omega arith in
    ap (λ xs. take (at - from) (drop from bytes) ++ take n xs) (ap (λ k. drop k bytes) (sym there) ∙ sym (drop-drop (at - from) from bytes))
    ∙ take_both (at - from) n (drop from bytes) ∙ ap (λ k. take k (drop from bytes)) sum

-- one more part behind those that are copied
pub joined_part : (old cells new bytes : List ℕ) (to from at n : ℕ) → from ≤ at → take (to + (at - from)) cells ≡ take to old ++ take (at - from) (drop from bytes)
    → take (to + (at - from) + n) new ≡ take (to + (at - from)) cells ++ take n (drop at bytes) → take (to + (at + n - from)) new ≡ take to old ++ take (at + n - from) (drop from bytes)
joined_part old cells new bytes to from at n order before laid =
    let sum : to + (at + n - from) ≡ to + (at - from) + n = omega arith in
    ap (λ k. take k new) sum ∙ laid ∙ ap (λ xs. xs ++ take n (drop at bytes)) before ∙ append_assoc (take to old) (take (at - from) (drop from bytes)) (take n (drop at bytes))
    ∙ ap (λ xs. take to old ++ xs) (both_parts bytes from at n order)

-- up to a place behind them
pub rest_joined : (old cells new bytes : List ℕ) (to from at stop : ℕ) → from ≤ at → at ≤ stop → take (to + (at - from)) cells ≡ take to old ++ take (at - from) (drop from bytes)
    → take (to + (at - from) + (stop - at)) new ≡ take (to + (at - from)) cells ++ take (stop - at) (drop at bytes) → take (to + (stop - from)) new ≡ take to old ++ take (stop - from) (drop from bytes)
rest_joined old cells new bytes to from at stop order past before laid =
    let there : at + (stop - at) ≡ stop = omega arith in
    subst (λ k. take (to + (k - from)) new ≡ take to old ++ take (k - from) (drop from bytes)) there (joined_part old cells new bytes to from at (stop - at) order before laid)

-- the first lanes of a vector, which ends at a place of its own
pub lanes_joined : (old cells new bytes : List ℕ) (to from at run behind : ℕ) → from ≤ at → at + 32 ≤ length bytes → run ≤ 32 → to + (at - from) ≤ length cells → take (to + (at - from)) cells ≡ take to old ++ take (at - from) (drop from bytes)
    → take behind new ≡ take (to + (at - from)) cells ++ chunk at 32 bytes → behind ≡ to + (at - from) + length (chunk at 32 bytes) → take (to + (at + run - from)) new ≡ take to old ++ take (at + run - from) (drop from bytes)
lanes_joined old cells new bytes to from at run behind order there few within before laid place =
    let front = take (to + (at - from)) cells in
    let ends : behind ≡ to + (at - from) + 32 = omega (arith, place, length-chunk at 32 bytes there) in
    let vector : take (to + (at - from) + 32) new ≡ front ++ take 32 (drop at bytes) = ap (λ k. take k new) (sym ends) ∙ laid in
    joined_part old cells new bytes to from at run order before
    (front_laid cells new (take 32 (drop at bytes)) (to + (at - from)) 32 run vector within few ∙ ap (λ xs. front ++ xs) (take-take run 32 (drop at bytes) few))

-- the rest of a text, laid as a whole
pub rest_laid : (old new bytes : List ℕ) (to from size behind : ℕ) → to ≤ length old → take behind new ≡ take to old ++ take (size - from) (drop from bytes) → behind ≡ to + (size - from) → take (size - from) (drop to new) ≡ take (size - from) (drop from bytes)
rest_laid old new bytes to from size behind within laid place =
    sym (drop-take to (size - from) new) ∙ ap (λ k. drop to (take k new)) (sym place) ∙ ap (drop to) laid ∙ drop_at (take to old) (take (size - from) (drop from bytes)) to (omega (arith, length-take to old))

-- the first bytes of it
pub run_of_rest : (old new bytes : List ℕ) (to from run n behind : ℕ) → to ≤ length old → run ≤ n → take behind new ≡ take to old ++ take n (drop from bytes) → behind ≡ to + n → take (to + (from + run - from)) new ≡ take to old ++ take (from + run - from) (drop from bytes)
run_of_rest old new bytes to from run n behind within few laid place =
    let far : from + run - from ≡ run = omega arith in
    ap (λ k. take (to + k) new) far ∙ front_laid old new (take n (drop from bytes)) to n run (ap (λ k. take k new) (sym place) ∙ laid) within few
    ∙ ap (λ xs. take to old ++ xs) (take-take run n (drop from bytes) few) ∙ ap (λ k. take to old ++ take k (drop from bytes)) (sym far)

-- ---- what the masks of a vector tell

-- how far a run goes, where so many bytes are left of the text
pub lanes : (bytes : List ℕ) (at found run left : ℕ) → at + 32 ≤ length bytes → found ≡ mask_l (map is_stop (chunk at 32 bytes)) → run ≡ min (count_trailing_zeros 64 found) left
    → (run < 32 → (run ≤ prefix_len is_plain (drop at bytes)) × (run < left → run ≡ prefix_len is_plain (drop at bytes))) × (32 ≤ run → prefix_len is_plain (drop at bytes) ≡ 32 + prefix_len is_plain (drop (at + 32) bytes))
lanes bytes at found run left room is least = elim (cases_lt 0 found) [
  | inl some ↦
      let here = run_stops is_stop is_plain (λ x. refl) bytes at 32 room (omega arith) (omega (arith, is, some)) ∙ ap (count_trailing_zeros 64) (sym is) in
      let near = stop_inside is_stop is_plain (λ x. refl) bytes at 32 room (omega arith) (omega (arith, is, some)) in
      let inside : count_trailing_zeros 64 found < 32 = omega (arith, near, ap (count_trailing_zeros 64) is) in
      (λ short. (omega (arith, here, least), λ before. omega (arith, here, least, before)), λ long. absurd (omega (arith, inside, least, long)))
  | inr none ↦
      let zero : found ≡ 0 = omega (arith, none) in
      let through = run_through is_stop is_plain (λ x. refl) bytes at 32 room (sym is ∙ zero) in
      let all : count_trailing_zeros 64 found ≡ 64 = ap (count_trailing_zeros 64) zero ∙ trailing_of_zero 64 in
      (λ short. (omega (arith, through, short), λ before. absurd (omega (arith, all, least, short, before))), λ long. through)
]

-- the lanes before the first high one are ASCII
pub low_lanes : (bytes : List ℕ) (at highs run : ℕ) → at + 32 ≤ length bytes → highs ≡ mask_l (map is_high (chunk at 32 bytes)) → run ≤ 32 → run ≤ count_trailing_zeros 64 highs → IsAsciiRun bytes at (at + run)
low_lanes bytes at highs run room is few low = elim (cases_lt 0 highs) [
  | inl some ↦
      let here = run_stops is_high (λ x. not (is_high x)) (λ x. refl) bytes at 32 room (omega arith) (omega (arith, is, some)) ∙ ap (count_trailing_zeros 64) (sym is) in
      (λ i above below.
      let pass = prefix_len_passes (λ x. not (is_high x)) (drop at bytes) (i - at) 0 (omega (arith, here, low, above, below)) in
      let there : at + (i - at) ≡ i = omega (arith, above) in
      subst (λ x. x < 128) (get_or-drop at bytes (i - at) 0 ∙ ap (λ k. get_or bytes k 0) there) (no_high (get_or (drop at bytes) (i - at) 0) pass))
  | inr none ↦
      let zero : highs ≡ 0 = omega (arith, none) in
      ascii_shorter bytes at (at + 32) (at + run) (omega (arith, few)) (ascii_on bytes at at 32 (λ i above below. absurd (omega arith)) room (sym is ∙ zero))
]
  where
    no_high : (x : ℕ) → not (is_high x) ≡ true → x < 128
    no_high x e = grind (arith, nat_tests)

-- ---- a run of a text

prefix_of_take : (q : ℕ → Bool) (n : ℕ) (xs : List ℕ) → (prefix_len q xs ≤ n → prefix_len q (take n xs) ≡ prefix_len q xs) × (n ≤ prefix_len q xs → prefix_len q (take n xs) ≡ n)
prefix_of_take q zero xs = (λ none. omega (arith), λ _. refl)
prefix_of_take q (suc n) [] = (λ _. refl, λ most. absurd (omega arith))
prefix_of_take q (suc n) (x ∷ xs) = by (q x) (prefix_of_take q n xs)
  where
    by : (b : Bool) → (prefix_len q xs ≤ n → prefix_len q (take n xs) ≡ prefix_len q xs) × (n ≤ prefix_len q xs → prefix_len q (take n xs) ≡ n)
        → (cond b (1 + prefix_len q xs) 0 ≤ suc n → cond b (1 + prefix_len q (take n xs)) 0 ≡ cond b (1 + prefix_len q xs) 0) × (suc n ≤ cond b (1 + prefix_len q xs) 0 → cond b (1 + prefix_len q (take n xs)) 0 ≡ suc n)
    by true h = (λ few. ap (λ k. 1 + k) (h.0 (omega arith)), λ most. omega (arith, h.1 (omega arith)))
    by false h = (λ few. refl, λ most. absurd (omega arith))

-- how far a run goes in cells that hold so many bytes of the text
pub run_of_cells : (cells bytes : List ℕ) (to from run n : ℕ) → take n (drop to cells) ≡ take n (drop from bytes) → run ≤ n → (run ≤ prefix_len is_plain (drop to cells)) × (run < n → run ≡ prefix_len is_plain (drop to cells))
    → (run ≤ prefix_len is_plain (drop from bytes)) × (run < n → run ≡ prefix_len is_plain (drop from bytes))
run_of_cells cells bytes to from run n same few seen = elim (cases_lt run n) [
  | inl before ↦
      let cut : prefix_len is_plain (take n (drop from bytes)) ≡ run = omega (arith, laid.0 (omega (arith, seen.1 before, before)), e, seen.1 before) in
      elim (cases_lt n (prefix_len is_plain (drop from bytes))) [
        | inl more ↦ absurd (omega (arith, text.1 (omega (arith, more)), cut, before))
        | inr all ↦ (omega (arith, text.0 all, cut), λ _. omega (arith, text.0 all, cut))
      ]
  | inr last ↦
      let cut : prefix_len is_plain (take n (drop from bytes)) ≡ n = omega (arith, laid.1 (omega (arith, seen.0, last)), e) in (
        elim (cases_lt n (prefix_len is_plain (drop from bytes))) [ inl more ↦ omega (arith, more, few) | inr all ↦ omega (arith, text.0 all, cut, few) ],
        λ before. absurd (omega (arith, last, before)),
      )
]
  where
    e : prefix_len is_plain (take n (drop to cells)) ≡ prefix_len is_plain (take n (drop from bytes))
    e = ap (prefix_len is_plain) same

    laid : (prefix_len is_plain (drop to cells) ≤ n → prefix_len is_plain (take n (drop to cells)) ≡ prefix_len is_plain (drop to cells)) × (n ≤ prefix_len is_plain (drop to cells) → prefix_len is_plain (take n (drop to cells)) ≡ n)
    laid = prefix_of_take is_plain n (drop to cells)

    text : (prefix_len is_plain (drop from bytes) ≤ n → prefix_len is_plain (take n (drop from bytes)) ≡ prefix_len is_plain (drop from bytes)) × (n ≤ prefix_len is_plain (drop from bytes) → prefix_len is_plain (take n (drop from bytes)) ≡ n)
    text = prefix_of_take is_plain n (drop from bytes)

-- where the run of the text stops
pub stop_is : (bytes : List ℕ) (from size stop : ℕ) → size ≤ length bytes → StopsAt bytes from size stop → stop ≡ from + prefix_len is_plain (drop from (take size bytes))
stop_is bytes from size stop within h =
    let sum : from + (size - from) ≡ size = omega (arith, h.0, h.1) in
    let same : drop from (take size bytes) ≡ take (size - from) (drop from bytes) = ap (λ k. drop from (take k bytes)) (sym sum) ∙ drop-take from (size - from) bytes in
    let cut = prefix_of_take is_plain (size - from) (drop from bytes) in
    let e = ap (prefix_len is_plain) same in
    elim (cases_lt stop size) [ inl before ↦ omega (arith, e, cut.0 (omega (arith, h.3 before, before)), h.3 before) | inr last ↦ omega (arith, e, cut.1 (omega (arith, h.2, last, h.1)), last, h.0, h.1) ]

-- what was copied is the text's
pub part_of_text : (bytes : List ℕ) (from size stop : ℕ) → from ≤ stop → stop ≤ size → take (stop - from) (drop from bytes) ≡ take (stop - from) (drop from (take size bytes))
part_of_text bytes from size stop order within =
    let sum : from + (size - from) ≡ size = omega arith in
    sym (take-take (stop - from) (size - from) (drop from bytes) (omega arith)) ∙ ap (take (stop - from)) (sym (ap (λ k. drop from (take k bytes)) (sym sum) ∙ drop-take from (size - from) bytes))

-- no byte's spelling is shorter
some_byte : (x : ℕ) → 1 ≤ length (byte_spelling x)
unfolding byte_spelling
some_byte x = grind (arith, nat_tests)

pub spelled_longer : (xs : List ℕ) → length xs ≤ length (pieces_spelling xs)
unfolding pieces_spelling
spelled_longer [] = omega arith
spelled_longer (x ∷ xs) = omega (arith, length-append (byte_spelling x) (pieces_spelling xs), some_byte x, spelled_longer xs)

-- ---- ASCII

-- a byte that is not plain is ASCII
pub stop_low : (bytes : List ℕ) (from size stop : ℕ) → size ≤ length bytes → StopsAt bytes from size stop → stop < size → slice_index bytes stop < 128
stop_low bytes from size stop within h before =
    let run = h.3 before in
    let short : prefix_len is_plain (drop from bytes) < length (drop from bytes) = omega (arith, run, h.0, length-drop from bytes) in
    let there : from + prefix_len is_plain (drop from bytes) ≡ stop = sym run in
    subst (λ x. x < 128) (get_or-drop from bytes (prefix_len is_plain (drop from bytes)) 0 ∙ ap (λ k. get_or bytes k 0) there)
    (no_plain (get_or (drop from bytes) (prefix_len is_plain (drop from bytes)) 0) (prefix_len_stops is_plain (drop from bytes) 0 short))
  where
    no_plain : (x : ℕ) → is_plain x ≡ false → x < 128
    no_plain x e = grind (arith, nat_tests)

-- the run is ASCII where it is in cells that hold so many bytes of the text
pub ascii_of_cells : (cells bytes : List ℕ) (to from run n : ℕ) → take n (drop to cells) ≡ take n (drop from bytes) → run ≤ n → IsAsciiRun cells to (to + run) → IsAsciiRun bytes from (from + run)
ascii_of_cells cells bytes to from run n same few low i above below =
    let there : from + (i - from) ≡ i = omega (arith, above) in
    let inside : i - from < n = omega (arith, above, below, few) in
    let here : get_or cells (to + (i - from)) 0 ≡ get_or bytes i 0 =
    sym (get_or-drop to cells (i - from) 0) ∙ sym (get_or-take n (drop to cells) (i - from) 0 inside) ∙ ap (λ xs. get_or xs (i - from) 0) same
    ∙ get_or-take n (drop from bytes) (i - from) 0 inside ∙ get_or-drop from bytes (i - from) 0 ∙ ap (λ k. get_or bytes k 0) there in
    subst (λ x. x < 128) here (low (to + (i - from)) (omega arith) (omega (arith, above, below)))

pub ascii_utf8 : (bytes : List ℕ) (size : ℕ) → size ≤ length bytes → IsAsciiRun bytes 0 size → is_utf8 (take size bytes) ≡ true
ascii_utf8 bytes size within run =
    let e : size - 0 ≡ size = omega arith in
    is_utf8-from_IsUtf8 (take size bytes) (IsUtf8-from_ascii (take size bytes) (subst (λ k. IsAscii (take k bytes)) e (ascii_run bytes 0 size (omega arith) within run)))
