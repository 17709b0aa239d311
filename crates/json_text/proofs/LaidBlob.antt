-- A base64 string laid into cells.
use Rattle.std.proofs.Common.{◌≡◌, ℕ, zero, suc, ◌+◌, ◌*◌, ◌/◌, ◌≤◌, List, [], ◌∷◌, ◌++◌, length, take, ap, ◌∙◌, arith, length-take, length-append}
use Rattle.std.proofs.lemmas.List.{take-append-le, append_assoc}
use borrow.Rule.Slice.PartMut.{put_mid, post_of}
use Rattle.json_text.specs.Blob.{symbols_of, blob_spelling}
use Rattle.json_text.specs.Lengths.{symbols_long}

front_of : (a b c : List ℕ) (n m : ℕ) → m ≡ length a + n → n ≤ length b → take m (a ++ (b ++ c)) ≡ a ++ take n b
front_of [] b c n m is h = ap (λ k. take k (b ++ c)) (omega arith) ∙ take-append-le n b c h
front_of (x ∷ a) b c n zero is h = absurd (omega arith)
front_of (x ∷ a) b c n (suc m) is h = ap (λ xs. x ∷ xs) (front_of a b c n m (omega arith) h)

pub blob_laid : (old first second rest new room bytes : List ℕ) (into to size behind : ℕ) → take to first ≡ take into old ++ 34 ∷ [] → to ≤ length first → second ≡ take to first ++ (room ++ rest) → size ≤ length room
    → take size room ≡ symbols_of bytes → take behind new ≡ take (to + size) second ++ 34 ∷ [] → take behind new ≡ take into old ++ blob_spelling bytes
unfolding blob_spelling
blob_laid old first second rest new room bytes into to size behind quote within is few symbols laid =
    let middle : take (to + size) second ≡ take into old ++ (34 ∷ symbols_of bytes) =
    ap (take (to + size)) is ∙ front_of (take to first) room rest size (to + size) (omega (arith, length-take to first)) few ∙ ap (λ xs. take to first ++ xs) symbols
    ∙ ap (λ xs. xs ++ symbols_of bytes) quote ∙ append_assoc (take into old) (34 ∷ []) (symbols_of bytes) in
    laid ∙ ap (λ xs. xs ++ 34 ∷ []) middle ∙ append_assoc (take into old) (34 ∷ symbols_of bytes) (34 ∷ [])

-- how many symbols were written
pub symbols_counted : (size : ℕ) (room bytes : List ℕ) → take size room ≡ symbols_of bytes → size ≤ length room → size ≡ (4 * length bytes + 2) / 3
symbols_counted size room bytes is few = omega (arith, ap length is, length-take size room, symbols_long bytes)

-- what was written stands in the cells
pub second_long : (first room : List ℕ) (to k : ℕ) → to ≤ length first → to + length room ≤ length (put_mid to k first room)
second_long first room to k within =
    let rest = post_of to k first in
    omega (arith, length-append (take to first) (room ++ rest), length-append room rest, length-take to first)
