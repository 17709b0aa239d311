-- What stands in front of the place behind a write.
use Rattle.std.proofs.Common.{◌≡◌, ℕ, zero, suc, ◌+◌, ◌≤◌, List, [], ◌∷◌, ◌++◌, length, take, drop, arith, ap, sym, refl, ◌∙◌, ◌-◌, length-take, append-nil, append_assoc}
use Rattle.std.proofs.lemmas.List.{take_all, take-append-le, take-append-drop, drop-take}

front_of : (a b c : List ℕ) (n m : ℕ) → m ≡ length a + n → n ≤ length b → take m (a ++ b ++ c) ≡ a ++ take n b
front_of [] b c n m is h = ap (λ k. take k (b ++ c)) (omega arith) ∙ take-append-le n b c h
front_of (x ∷ a) b c n zero is h = absurd (omega arith)
front_of (x ∷ a) b c n (suc m) is h = ap (λ xs. x ∷ xs) (front_of a b c n m (omega arith) h)

-- so many of the bytes that were written, or all of them
pub laid_front : (old new bytes rest : List ℕ) (to n m : ℕ) → new ≡ take to old ++ bytes ++ rest → to ≤ length old → m ≡ to + n → n ≤ length bytes → take m new ≡ take to old ++ take n bytes
laid_front old new bytes rest to n m is within place few = ap (take m) is ∙ front_of (take to old) bytes rest n m (omega (arith, length-take to old)) few

pub laid_bytes : (old new bytes rest : List ℕ) (to m : ℕ) → new ≡ take to old ++ bytes ++ rest → to ≤ length old → m ≡ to + length bytes → take m new ≡ take to old ++ bytes
laid_bytes old new bytes rest to m is within place =
    laid_front old new bytes rest to (length bytes) m is within place (omega arith) ∙ ap (λ xs. take to old ++ xs) (take_all (length bytes) bytes (omega arith))

narrow : (n wide : ℕ) (xs : List ℕ) → n ≤ wide → take n (take wide xs) ≡ take n xs
narrow zero wide xs few = refl
narrow (suc n) zero xs few = absurd (omega arith)
narrow (suc n) (suc wide) [] few = refl
narrow (suc n) (suc wide) (x ∷ xs) few = ap (λ r. x ∷ r) (narrow n wide xs (omega arith))

-- a wide copy of which so many bytes are meant
pub laid_wide : (old new part : List ℕ) (to wide n : ℕ) → take (to + wide) new ≡ take to old ++ take wide part → to ≤ length old → wide ≤ length part → n ≤ wide → take (to + n) new ≡ take to old ++ take n part
laid_wide old new part to wide n is within room few =
    sym (narrow (to + n) (to + wide) new (omega arith)) ∙ ap (take (to + n)) is
    ∙ laid_front old (take to old ++ take wide part) (take wide part) [] to n (to + n) (sym (append-nil (take to old ++ take wide part))) within refl (omega (arith, length-take wide part))
    ∙ ap (λ xs. take to old ++ xs) (narrow n wide part few)

front_and_rest : (k m : ℕ) (xs : List ℕ) → take k xs ++ take m (drop k xs) ≡ take (k + m) xs
front_and_rest k m xs =
    ap (λ front. front ++ take m (drop k xs)) (sym (narrow k (k + m) xs (omega arith)))
    ∙ ap (λ rest. take k (take (k + m) xs) ++ rest) (sym (drop-take k m xs))
    ∙ take-append-drop k (take (k + m) xs)

-- two copies of one width, of the beginning and of the end of what is meant
pub laid_ends : (old mid new part : List ℕ) (to behind whole wide n : ℕ)
    → take behind mid ≡ take to old ++ take wide part → behind ≡ to + wide
    → take whole new ≡ take (to + (n - wide)) mid ++ take wide (drop (n - wide) part) → whole ≡ to + (n - wide) + wide
    → to ≤ length old → wide ≤ n → n ≤ wide + wide → n ≤ length part → take whole new ≡ take to old ++ take n part
laid_ends old mid new part to behind whole wide n begun place ended end_place within least most long =
    let there = ap (λ k. take k mid) (sym place) ∙ begun in
    let front = laid_wide old mid part to wide (n - wide) there within (omega (arith, least, long)) (omega (arith, most)) in
    ended ∙ ap (λ xs. xs ++ take wide (drop (n - wide) part)) front ∙ append_assoc (take to old) (take (n - wide) part) (take wide (drop (n - wide) part))
    ∙ ap (λ xs. take to old ++ xs) (front_and_rest (n - wide) wide part ∙ ap (λ k. take k part) (omega (arith, least)))
