-- Base64 in pieces of threes.
use Rattle.std.proofs.Common.{◌≡◌, ℕ, zero, suc, ◌+◌, ◌-◌, ◌*◌, ◌<◌, ◌≤◌, List, [], ◌∷◌, ◌++◌, length, take, drop, refl, sym, ap, ◌∙◌, arith, length-drop, length-append}
use Rattle.std.proofs.lemmas.List.{append_assoc, append-nil, take-append-drop, take_all, drop-drop, drop_all, length-take-le}
use Rattle.std.specs.Prelude.{min}
use Rattle.base64.specs.Rfc4648.{encode_symbols, encode_group}
use Rattle.base64.specs.Engines.{standard_no_pad}
use Rattle.json_text.specs.Blob.{symbols_of, blob_spelling}

by_le : {P : Type 0} → (a b : ℕ) → (a ≤ b → P) → (b < a → P) → P
by_le zero b f g = f (omega arith)
by_le (suc a) zero f g = g (omega arith)
by_le (suc a) (suc b) f g = by_le a b (λ h. f (omega arith)) (λ h. g (omega arith))

threes : (t : List ℕ) (k : ℕ) (a b : List ℕ) → length a ≡ 3 * k → encode_symbols t (a ++ b) ≡ encode_symbols t a ++ encode_symbols t b
unfolding encode_symbols
threes t zero [] b e = refl
threes t zero (x ∷ a) b e = absurd (omega arith)
threes t (suc k) [] b e = absurd (omega arith)
threes t (suc k) (x ∷ []) b e = absurd (omega arith)
threes t (suc k) (x ∷ y ∷ []) b e = absurd (omega arith)
threes t (suc k) (x ∷ y ∷ z ∷ a) b e = ap (λ s. encode_group t x y z ++ s) (threes t k a b (omega arith)) ∙ sym (append_assoc (encode_group t x y z) (encode_symbols t a) (encode_symbols t b))

plain_symbols : (m : List ℕ) → symbols_of m ≡ encode_symbols standard_no_pad.encode_table m
unfolding symbols_of
plain_symbols m = append-nil (encode_symbols standard_no_pad.encode_table m)

pub pieces : (k : ℕ) (a b : List ℕ) → length a ≡ 3 * k → symbols_of (a ++ b) ≡ symbols_of a ++ symbols_of b
pieces k a b e = rw (plain_symbols (a ++ b), plain_symbols a, plain_symbols b) (threes standard_no_pad.encode_table k a b e)

abbrev pub Writing : List ℕ → List ℕ → List ℕ → ℕ → Type 0
Writing out before bytes from = out ++ (symbols_of (drop from bytes) ++ 34 ∷ []) ≡ before ++ blob_spelling bytes

pub starts : (before bytes : List ℕ) → Writing (before ++ 34 ∷ []) before bytes 0
unfolding blob_spelling
starts before bytes = append_assoc before (34 ∷ []) (symbols_of bytes ++ 34 ∷ [])

nothing : symbols_of [] ≡ []
unfolding encode_symbols
nothing = plain_symbols []

pub finishes : (out before bytes : List ℕ) (from : ℕ) → length bytes ≤ from → Writing out before bytes from → out ++ 34 ∷ [] ≡ before ++ blob_spelling bytes
finishes out before bytes from past same = ap (λ s. out ++ (s ++ 34 ∷ [])) (sym (ap symbols_of (drop_all from bytes past) ∙ nothing)) ∙ same

-- the symbols of what is left are those of one piece, and those of the rest
abbrev pub Cut : List ℕ → ℕ → ℕ → Type 0
Cut bytes from stop = symbols_of (drop from bytes) ≡ symbols_of (take (stop - from) (drop from bytes)) ++ symbols_of (drop stop bytes)

cut_full : (bytes : List ℕ) (from stop : ℕ) → stop ≡ from + 768 → stop ≤ length bytes → Cut bytes from stop
cut_full bytes from stop is most =
    let n : stop - from ≡ 768 = omega arith in
    let far : from + (stop - from) ≡ stop = omega arith in
    let long : length (take (stop - from) (drop from bytes)) ≡ 3 * 256 = length-take-le (stop - from) (drop from bytes) (omega (arith, length-drop from bytes)) ∙ n in
    ap symbols_of (sym (take-append-drop (stop - from) (drop from bytes))) ∙ pieces 256 (take (stop - from) (drop from bytes)) (drop (stop - from) (drop from bytes)) long
    ∙ ap (λ s. symbols_of (take (stop - from) (drop from bytes)) ++ symbols_of s) (drop-drop (stop - from) from bytes ∙ ap (λ k. drop k bytes) far)

cut_last : (bytes : List ℕ) (from stop : ℕ) → stop ≡ length bytes → from ≤ stop → Cut bytes from stop
cut_last bytes from stop is most =
    let all : length (drop from bytes) ≡ stop - from = omega (arith, length-drop from bytes) in
    let same : take (stop - from) (drop from bytes) ≡ drop from bytes = take_all (stop - from) (drop from bytes) (omega (arith, all)) in
    ap symbols_of (sym same) ∙ sym (append-nil _) ∙ ap (λ s. symbols_of (take (stop - from) (drop from bytes)) ++ s) (sym (ap symbols_of (drop_all stop bytes (omega arith)) ∙ nothing))

pub next_piece : (out before bytes : List ℕ) (from stop : ℕ) → Cut bytes from stop → Writing out before bytes from → Writing (out ++ symbols_of (take (stop - from) (drop from bytes))) before bytes stop
next_piece out before bytes from stop cut same =
    let a = symbols_of (take (stop - from) (drop from bytes)) in
    append_assoc out a (symbols_of (drop stop bytes) ++ 34 ∷ []) ∙ ap (λ s. out ++ s) (sym (append_assoc a (symbols_of (drop stop bytes)) (34 ∷ []))) ∙ ap (λ s. out ++ (s ++ 34 ∷ [])) (sym cut) ∙ same

pub total : (out before bytes : List ℕ) (from : ℕ) → Writing out before bytes from → length out + (length (symbols_of (drop from bytes)) + 1) ≡ length before + length (blob_spelling bytes)
total out before bytes from same = let e = ap length same in let a = length-append out (symbols_of (drop from bytes) ++ 34 ∷ []) in let b = length-append (symbols_of (drop from bytes)) (34 ∷ []) in let d = length-append before (blob_spelling bytes) in omega arith

pub cut_long : (bytes : List ℕ) (from stop : ℕ) → Cut bytes from stop → length (symbols_of (take (stop - from) (drop from bytes))) ≤ length (symbols_of (drop from bytes))
cut_long bytes from stop cut = let e = ap length cut in let a = length-append (symbols_of (take (stop - from) (drop from bytes))) (symbols_of (drop stop bytes)) in omega arith

-- a piece ends after 768 bytes, or with the bytes
pub either_cut : (bytes : List ℕ) (from stop : ℕ) → from ≤ length bytes → stop ≡ min (length bytes) (from + 768) → Cut bytes from stop
either_cut bytes from stop most is = by_le (from + 768) (length bytes) (λ full. cut_full bytes from stop (omega arith) (omega arith)) (λ last. cut_last bytes from stop (omega arith) (omega arith))
