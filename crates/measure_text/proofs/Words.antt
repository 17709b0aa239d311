-- How long a word is, and the bytes that it means one by one.
use Rattle.std.proofs.Common.{◌≡◌, ℕ, zero, suc, ◌+◌, ◌-◌, ◌*◌, ◌<◌, ◌≤◌, Bool, true, false, List, [], ◌∷◌, ◌++◌, length, take, ap, sym, ◌∙◌, refl, arith, append_assoc, length-set, slice_set}
use Rattle.std.proofs.lemmas.List.{take_more_set}
use Rattle.json_text.specs.Lengths.{text_long, blob_long}
use Rattle.measure_text.specs.Measured.{next_byte, letters, spelling}

-- at most six bytes for each that it means, and the quotes
pub spelling_long : (as_blob : Bool) (meant : List ℕ) → length (spelling as_blob meant) ≤ 6 * length meant + 2
spelling_long true meant = let long = blob_long meant in omega arith
spelling_long false meant = text_long meant

-- the next byte stands in front of the others
pub letters_more : (every left n : ℕ) → 0 < n → letters every left n ≡ (next_byte every left).0 ∷ letters every (next_byte every left).1 (n - 1)
letters_more every left zero h = absurd (omega arith)
letters_more every left (suc n) h = grind arith

-- one byte more was put in its place
pub fills : (every left i x after : ℕ) (bytes : List ℕ) → i < length bytes → (x, after) ≡ next_byte every left
    → take i bytes ++ letters every left (length bytes - i) ≡ letters every every (length bytes)
    → take (i + 1) (slice_set bytes i x) ++ letters every after (length (slice_set bytes i x) - (i + 1)) ≡ letters every every (length (slice_set bytes i x))
fills every left i x after bytes h e so_far =
    let more = letters_more every left (length bytes - i) (omega arith) in
    let first : x ≡ (next_byte every left).0 = ap (λ p. p.0) e in
    let behind : after ≡ (next_byte every left).1 = ap (λ p. p.1) e in
    let less : length bytes - i - 1 ≡ length bytes - (i + 1) = omega arith in
    let joined : letters every left (length bytes - i) ≡ x ∷ letters every after (length bytes - (i + 1)) = rw (first, behind, ← less) more in
    rw (length-set, take_more_set bytes i x, append_assoc) (ap (λ t. take i bytes ++ t) (sym joined) ∙ so_far)
