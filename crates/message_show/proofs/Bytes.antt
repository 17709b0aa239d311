-- The tables of printed bytes are held against the definition at each of the 256 bytes, by computing.
use Rattle.std.proofs.Common.{◌≡◌, ℕ, ◌<◌, ◌≤◌, Bool, true, false, ◌&&◌, T, eqb, leb, List, [], ◌∷◌, take, slice_index_or, refl, ap₂}
use Rattle.std.proofs.Math.Facts.{eqb_yes}
use Rattle.std.proofs.lemmas.Bool.{leb-true}
use Rattle.json_text.proofs.Lanes.{upto, upto_sound}
use lib.Ieee.Fits.{and_l, and_r}
use Rattle.message_show.specs.declared.printed.TheConstants.{TEXTS, LENGTHS}
use Rattle.message_show.specs.Texts.{byte_text, upper_byte, upper_digit}

abbrev same : List ℕ → List ℕ → Bool
same [] [] = true
same (x ∷ xs) (y ∷ ys) = eqb x y && same xs ys
same [] (y ∷ ys) = false
same (x ∷ xs) [] = false

same_is : (xs ys : List ℕ) → T (same xs ys) → xs ≡ ys
same_is [] [] h = refl
same_is (x ∷ xs) (y ∷ ys) h = ap₂ (λ z zs. z ∷ zs) (eqb_yes (and_l (eqb x y) (same xs ys) h)) (same_is xs ys (and_r (eqb x y) (same xs ys) h))
same_is [] (y ∷ ys) h = absurd h
same_is (x ∷ xs) [] h = absurd h

abbrev right_at : ℕ → Bool
right_at b = same (take (slice_index_or LENGTHS b 0) (slice_index_or TEXTS b [])) (byte_text b) && leb (slice_index_or LENGTHS b 0) 4

all_right : T (upto right_at 256)
unfolding byte_text upper_byte upper_digit
all_right = tt

right : (b : ℕ) → b < 256 → T (right_at b)
right b h = upto_sound right_at 256 all_right b h

pub text_at : (b : ℕ) → b < 256 → take (slice_index_or LENGTHS b 0) (slice_index_or TEXTS b []) ≡ byte_text b
text_at b h = same_is _ _ (and_l _ _ (right b h))

is_true : (b : Bool) → T b → b ≡ true
is_true true h = refl
is_true false h = absurd h

pub length_at : (b : ℕ) → b < 256 → slice_index_or LENGTHS b 0 ≤ 4
length_at b h = leb-true _ 4 (is_true _ (and_r _ _ (right b h)))
