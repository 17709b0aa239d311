-- Spellings of texts.
use Rattle.std.proofs.Common.{◌≡◌, ℕ, suc, ◌+◌, ◌-◌, ◌<◌, ◌≤◌, Bool, true, false, List, [], ◌∷◌, ◌++◌, length, take, drop, refl, sym, ap, ◌∙◌, arith, length-append}
use Rattle.std.specs.Prelude.{slice_index, cond}
use Rattle.std.proofs.lemmas.List.{drop_more, drop_all, drop-drop, append_assoc}
use Rattle.std.proofs.lemmas.Bool.Decides.{nat_tests}
use Rattle.std.specs.List.{prefix_len}
use Rattle.json_text.specs.Text.{is_plain}
use Rattle.json_text.specs.Plain.{byte_spelling, pieces_spelling, text_spelling}

plain_byte : (x : ℕ) → is_plain x ≡ true → byte_spelling x ≡ x ∷ []
unfolding byte_spelling
plain_byte x plain = grind (arith, nat_tests)

run_byte : (b : Bool) (x n : ℕ) (xs : List ℕ) → (b ≡ true → byte_spelling x ≡ x ∷ []) → pieces_spelling xs ≡ take n xs ++ pieces_spelling (drop n xs)
    → pieces_spelling (x ∷ xs) ≡ take (cond b (1 + n) 0) (x ∷ xs) ++ pieces_spelling (drop (cond b (1 + n) 0) (x ∷ xs))
unfolding pieces_spelling
run_byte true x n xs plain ih = let e : suc n ≡ 1 + n = omega arith in ap (λ s. s ++ pieces_spelling xs) (plain refl) ∙ ap (λ s. x ∷ s) ih ∙ ap (λ k. take k (x ∷ xs) ++ pieces_spelling (drop k (x ∷ xs))) e
run_byte false x n xs plain ih = refl

-- plain bytes are spelled as they are
pub run_spelling : (xs : List ℕ) → pieces_spelling xs ≡ take (prefix_len is_plain xs) xs ++ pieces_spelling (drop (prefix_len is_plain xs) xs)
unfolding pieces_spelling
run_spelling [] = refl
run_spelling (x ∷ xs) = run_byte (is_plain x) x (prefix_len is_plain xs) xs (plain_byte x) (run_spelling xs)

pub run_to : (text : List ℕ) (from stop : ℕ) → stop ≡ from + prefix_len is_plain (drop from text) → pieces_spelling (drop from text) ≡ take (stop - from) (drop from text) ++ pieces_spelling (drop stop text)
run_to text from stop is =
    let e : prefix_len is_plain (drop from text) ≡ stop - from = omega arith in
    let far : from + (stop - from) ≡ stop = omega arith in
    run_spelling (drop from text) ∙ ap (λ n. take n (drop from text) ++ pieces_spelling (drop n (drop from text))) e
    ∙ ap (λ rest. take (stop - from) (drop from text) ++ pieces_spelling rest) (drop-drop (stop - from) from text ∙ ap (λ n. drop n text) far)

pub byte_at : (text : List ℕ) (stop : ℕ) → stop < length text → pieces_spelling (drop stop text) ≡ byte_spelling (slice_index text stop) ++ pieces_spelling (drop (stop + 1) text)
unfolding pieces_spelling
byte_at text stop there = ap pieces_spelling (drop_more text stop 0 there)

pub nothing_left : (text : List ℕ) (stop : ℕ) → length text ≤ stop → pieces_spelling (drop stop text) ≡ []
unfolding pieces_spelling
nothing_left text stop past = ap pieces_spelling (drop_all stop text past)

-- what was written, and what is still to be written, are the whole spelling
abbrev pub Spelling : List ℕ → List ℕ → List ℕ → ℕ → Type 0
Spelling out before text from = out ++ (pieces_spelling (drop from text) ++ 34 ∷ []) ≡ before ++ text_spelling text

pub starts : (before text : List ℕ) → Spelling (before ++ 34 ∷ []) before text 0
unfolding text_spelling
starts before text = append_assoc before (34 ∷ []) _

pub total : (out before text : List ℕ) (from : ℕ) → Spelling out before text from → length out + (length (pieces_spelling (drop from text)) + 1) ≡ length before + length (text_spelling text)
total out before text from same = let e = ap length same in let a = length-append out (pieces_spelling (drop from text) ++ 34 ∷ []) in let b = length-append (pieces_spelling (drop from text)) (34 ∷ []) in let d = length-append before (text_spelling text) in omega arith

pub after_run : (out before text : List ℕ) (from stop : ℕ) → stop ≡ from + prefix_len is_plain (drop from text) → Spelling out before text from → Spelling (out ++ take (stop - from) (drop from text)) before text stop
after_run out before text from stop is same =
    append_assoc out (take (stop - from) (drop from text)) _ ∙ ap (λ s. out ++ s) (sym (append_assoc (take (stop - from) (drop from text)) (pieces_spelling (drop stop text)) (34 ∷ [])))
    ∙ ap (λ s. out ++ (s ++ 34 ∷ [])) (sym (run_to text from stop is)) ∙ same

pub after_byte : (out before text : List ℕ) (stop : ℕ) → stop < length text → Spelling out before text stop → Spelling (out ++ byte_spelling (slice_index text stop)) before text (stop + 1)
after_byte out before text stop there same =
    append_assoc out (byte_spelling (slice_index text stop)) _ ∙ ap (λ s. out ++ s) (sym (append_assoc (byte_spelling (slice_index text stop)) (pieces_spelling (drop (stop + 1) text)) (34 ∷ [])))
    ∙ ap (λ s. out ++ (s ++ 34 ∷ [])) (sym (byte_at text stop there)) ∙ same

pub finishes : (out before text : List ℕ) (stop : ℕ) → length text ≤ stop → Spelling out before text stop → out ++ 34 ∷ [] ≡ before ++ text_spelling text
finishes out before text stop past same = ap (λ s. out ++ (s ++ 34 ∷ [])) (sym (nothing_left text stop past)) ∙ same
