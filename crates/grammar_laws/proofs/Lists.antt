-- Lists of tokens that begin alike.
use Rattle.std.proofs.Common.{◌≡◌, ◌∙◌, ap, refl, ℕ, zero, suc, ◌+◌, ◌≤◌, List, [], ◌∷◌, ◌++◌, length, take, drop, arith}
use Rattle.std.proofs.lemmas.List.{drop-drop}
use Rattle.idl_parser.specs.Lexemes.{lexeme_of, offset_of}
use Rattle.idl_parser.specs.Seen.{Seen}

-- the first n tokens of both are the same, or both have fewer and are the same
abbrev pub Same : ℕ → List Seen → List Seen → Type 0
Same zero xs ys = Unit {0}
Same (suc n) [] [] = Unit {0}
Same (suc n) [] (y ∷ ys) = ⊥
Same (suc n) (x ∷ xs) [] = ⊥
Same (suc n) (x ∷ xs) (y ∷ ys) = (x ≡ y) × Same n xs ys

pub same_less : (m n : ℕ) (xs ys : List Seen) → m ≤ n → Same n xs ys → Same m xs ys
same_less zero n xs ys h s = tt
same_less (suc m) zero xs ys h s = absurd (omega arith)
same_less (suc m) (suc n) [] [] h s = tt
same_less (suc m) (suc n) [] (y ∷ ys) h s = absurd s
same_less (suc m) (suc n) (x ∷ xs) [] h s = absurd s
same_less (suc m) (suc n) (x ∷ xs) (y ∷ ys) h s = (s.0, same_less m n xs ys (omega arith) s.1)

same_none : (k : ℕ) → Same k [] []
same_none zero = tt
same_none (suc k) = tt

pub same_behind : (a k n : ℕ) (xs ys : List Seen) → a + k ≤ n → Same n xs ys → Same k (drop a xs) (drop a ys)
same_behind zero k n xs ys h s = same_less k n xs ys (omega arith) s
same_behind (suc a) k zero xs ys h s = absurd (omega arith)
same_behind (suc a) k (suc n) [] [] h s = same_none k
same_behind (suc a) k (suc n) [] (y ∷ ys) h s = absurd s
same_behind (suc a) k (suc n) (x ∷ xs) [] h s = absurd s
same_behind (suc a) k (suc n) (x ∷ xs) (y ∷ ys) h s = same_behind a k n xs ys (omega arith) s.1

pub same_lexeme : (n : ℕ) (xs ys : List Seen) → Same (suc n) xs ys → lexeme_of xs ≡ lexeme_of ys
same_lexeme n [] [] s = refl
same_lexeme n [] (y ∷ ys) s = absurd s
same_lexeme n (x ∷ xs) [] s = absurd s
same_lexeme n (x ∷ xs) (y ∷ ys) s = ap (λ (t : Seen). t.lexeme) s.0

pub same_offset : (edge n : ℕ) (xs ys : List Seen) → Same (suc n) xs ys → offset_of edge xs ≡ offset_of edge ys
same_offset edge n [] [] s = refl
same_offset edge n [] (y ∷ ys) s = absurd s
same_offset edge n (x ∷ xs) [] s = absurd s
same_offset edge n (x ∷ xs) (y ∷ ys) s = ap (λ (t : Seen). t.at) s.0

pub same_length : (n : ℕ) (xs ys : List Seen) → n ≤ length xs → Same n xs ys → n ≤ length ys
same_length zero xs ys h s = omega arith
same_length (suc n) [] ys h s = absurd (omega arith)
same_length (suc n) (x ∷ xs) [] h s = absurd s
same_length (suc n) (x ∷ xs) (y ∷ ys) h s = let rest = same_length n xs ys (omega arith) s.1 in omega arith

-- with others behind the first n
pub same_front : (n : ℕ) (xs rest : List Seen) → n ≤ length xs → Same n xs (take n xs ++ rest)
same_front zero xs rest h = tt
same_front (suc n) [] rest h = absurd (omega arith)
same_front (suc n) (x ∷ xs) rest h = (refl, same_front n xs rest (omega arith))

pub take_both : (a b : ℕ) (xs : List Seen) → take (a + b) xs ≡ take a xs ++ take b (drop a xs)
take_both zero b xs = let none : 0 + b ≡ b = omega arith in ap (λ (n : ℕ). take n xs) none
take_both (suc a) zero [] = let more : suc a + zero ≡ suc a = omega arith in ap (λ (n : ℕ). let r : List Seen = take n [] in r) more
take_both (suc a) (suc b) [] = let more : suc a + suc b ≡ suc (a + suc b) = omega arith in ap (λ (n : ℕ). let r : List Seen = take n [] in r) more
take_both (suc a) b (x ∷ xs) =
    let more : suc a + b ≡ suc (a + b) = omega arith in
    ap (λ (n : ℕ). take n (x ∷ xs)) more ∙ ap (λ (t : List Seen). x ∷ t) (take_both a b xs)

pub drop_both : (a b : ℕ) (xs : List Seen) → drop b (drop a xs) ≡ drop (a + b) xs
drop_both a b xs = drop-drop b a xs

pub drop_front : (front rest : List Seen) → drop (length front) (front ++ rest) ≡ rest
drop_front [] rest = refl
drop_front (x ∷ xs) rest = drop_front xs rest

pub append_more : (a b c : List Seen) → (a ++ b) ++ c ≡ a ++ (b ++ c)
append_more [] b c = refl
append_more (x ∷ a) b c = ap (λ (t : List Seen). x ∷ t) (append_more a b c)

pub append_none : (a : List Seen) → a ++ [] ≡ a
append_none [] = refl
append_none (x ∷ a) = ap (λ (t : List Seen). x ∷ t) (append_none a)

-- several lists, brought together from the left or from the right
pub right3 : (a b c : List Seen) → a ++ b ++ c ≡ a ++ (b ++ c)
right3 a b c = append_more a b c

pub right4 : (a b c d : List Seen) → a ++ b ++ c ++ d ≡ a ++ (b ++ (c ++ d))
right4 a b c d = simp append_more

pub right5 : (a b c d e : List Seen) → a ++ b ++ c ++ d ++ e ≡ a ++ (b ++ (c ++ (d ++ e)))
right5 a b c d e = simp append_more

pub right6 : (a b c d e f : List Seen) → a ++ b ++ c ++ d ++ e ++ f ≡ a ++ (b ++ (c ++ (d ++ (e ++ f))))
right6 a b c d e f = simp append_more

pub right7 : (a b c d e f g : List Seen) → a ++ b ++ c ++ d ++ e ++ f ++ g ≡ a ++ (b ++ (c ++ (d ++ (e ++ (f ++ g)))))
right7 a b c d e f g = simp append_more
