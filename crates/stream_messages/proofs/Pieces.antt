-- A piece, byte by byte.
use Rattle.std.proofs.Common.{◌≡◌, ℕ, zero, suc, ◌+◌, ◌-◌, ◌<◌, ◌≤◌, List, [], ◌∷◌, ◌++◌, length, take, drop, get_or, refl, arith, sym, ap, ◌∙◌, subst, append_assoc, length-append}
use Rattle.std.proofs.lemmas.List.{take_more, take_all, length-take-le, length-drop}
use Rattle.stream_messages.specs.declared.scan.Wire.{Wire}
use Rattle.stream_messages.specs.Scanning.{Scanning}
use Rattle.stream_messages.specs.Fronts.{Found, cut, IsFront}
use Rattle.stream_messages.specs.Feeding.{HasRead, EndsAt}

pub same_front : (k n : ℕ) (front piece : List ℕ) → k ≤ length front + n → take k (front ++ take n piece) ≡ take k (front ++ piece)
same_front zero n front piece h = refl
same_front (suc k) n (x ∷ front) piece h = ap (λ l. x ∷ l) (same_front k n front piece (omega arith))
same_front (suc k) zero [] piece h = absurd (omega arith)
same_front (suc k) (suc n) [] [] h = refl
same_front (suc k) (suc n) [] (x ∷ piece) h = ap (λ l. x ∷ l) (same_front k n [] piece (omega arith))

the_same : (n : ℕ) → 0 + n ≡ n
the_same n = omega arith

pub whole_front : (n : ℕ) (front piece : List ℕ) → take (length front + n) (front ++ piece) ≡ front ++ take n piece
whole_front n [] piece = ap (λ k. take k piece) (the_same n)
whole_front n (x ∷ front) piece = ap (λ k. take k (x ∷ (front ++ piece))) (one_more n) ∙ ap (λ l. x ∷ l) (whole_front n front piece)
  where
    one_more : (n : ℕ) → suc (length front) + n ≡ suc (length front + n)
    one_more n = omega arith

-- with one byte more
pub next_front : (n : ℕ) (front piece : List ℕ) → n < length piece → (front ++ take n piece) ++ get_or piece n 0 ∷ [] ≡ front ++ take (n + 1) piece
next_front n front piece h = append_assoc front (take n piece) (get_or piece n 0 ∷ []) ∙ ap (λ l. front ++ l) (sym (take_more piece n 0 h))

pub ends_at : (s new : Scanning) (front piece : List ℕ) (found : Found) (n : ℕ) → n < length piece → new.wire ≡ s.wire → new.limit ≡ s.limit → HasRead new (front ++ take n piece)
    → IsFront new.wire found ((front ++ take n piece) ++ get_or piece n 0 ∷ []) → EndsAt s front piece found (n + 1)
ends_at s new front piece found n h w l read is =
    let size : length (front ++ take n piece) ≡ length front + n = length-append front (take n piece) ∙ ap (λ k. length front + k) (length-take-le n piece (omega arith)) in
    record {
      some = omega arith;
      within = omega arith;
      begins = λ k less.
          let le : k ≤ length front + n = omega arith in
          subst (λ x. IsFront x cut (take k (front ++ piece))) w (subst (λ y. IsFront new.wire cut y) (same_front k n front piece le) (read.begins k (omega (arith, size))));
      is = subst (λ x. IsFront x found (take (length front + (n + 1)) (front ++ piece))) w (subst (λ y. IsFront new.wire found y) (next_front n front piece h ∙ sym (whole_front (n + 1) front piece)) is);
      limit = omega (arith, size, read.room);
    }

-- with the next byte the limit is reached
pub full_at : (front piece : List ℕ) (n limit last : ℕ) → n < length piece → limit ≡ last → length (front ++ take n piece) + 1 ≡ limit → length front + (n + 1) ≡ last
full_at front piece n limit last h l full =
    let size : length (front ++ take n piece) ≡ length front + n = length-append front (take n piece) ∙ ap (λ k. length front + k) (length-take-le n piece (omega arith)) in
    omega arith

-- and if it isn't, the scan has read one byte more
pub goes_on : (new : Scanning) (front piece : List ℕ) (n : ℕ) (w v : Wire) (l k : ℕ) → n < length piece → v ≡ w → k ≡ l
    → HasRead new ((front ++ take n piece) ++ get_or piece n 0 ∷ []) → new.wire ≡ v → new.limit ≡ k → HasRead new (front ++ take (n + 1) piece) × (new.wire ≡ w) × (new.limit ≡ l)
goes_on new front piece n w v l k h e f read a b = (subst (λ x. HasRead new x) (next_front n front piece h) read, a ∙ e, b ∙ f)

-- ---- bytes that are passed over

suc_on : (n k : ℕ) → suc n + k ≡ suc (n + k)
suc_on n k = omega arith

take_on : (n k : ℕ) (l : List ℕ) → take n l ++ take k (drop n l) ≡ take (n + k) l
take_on zero k l = ap (λ i. take i l) (sym (the_same k))
take_on (suc n) zero [] = ap (λ i. take {A = ℕ} i []) (sym (suc_on n 0))
take_on (suc n) (suc k) [] = ap (λ i. take {A = ℕ} i []) (sym (suc_on n (suc k)))
take_on (suc n) k (x ∷ l) = ap (λ m. x ∷ m) (take_on n k l) ∙ ap (λ i. take i (x ∷ l)) (sym (suc_on n k))

-- behind them the scan has read so many more bytes of the piece
pub passes_on : (new : Scanning) (front piece from : List ℕ) (n k : ℕ) (w v : Wire) (l m : ℕ) → from ≡ drop n piece → v ≡ w → m ≡ l
    → HasRead new ((front ++ take n piece) ++ take k from) × (new.wire ≡ v) × (new.limit ≡ m) → HasRead new (front ++ take (n + k) piece) × (new.wire ≡ w) × (new.limit ≡ l)
passes_on new front piece from n k w v l m is e f read =
    (subst (λ x. HasRead new x) (append_assoc front (take n piece) (take k from) ∙ ap (λ x. front ++ x) (ap (λ x. take n piece ++ take k x) is ∙ take_on n k piece)) read.0, read.1 ∙ e, read.2 ∙ f)

-- a slice up to the end
pub from_here : (n : ℕ) (piece : List ℕ) → take (length piece - n) (drop n piece) ≡ drop n piece
from_here n piece = take_all (length piece - n) (drop n piece) (omega (arith, length-drop n piece))

pub before_end : (n k : ℕ) (piece : List ℕ) → n < length piece → k < length (take (length piece - n) (drop n piece)) → n + k < length piece
before_end n k piece h less = omega (arith, h, less, ap (λ (l : List ℕ). length l) (from_here n piece), length-drop n piece)
