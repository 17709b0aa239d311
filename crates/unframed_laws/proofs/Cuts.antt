-- A stream is cut into messages and a tail in one way.
use Rattle.std.proofs.Common.{◌≡◌, ◌⊎◌, inl, inr, ℕ, ◌+◌, ◌<◌, ◌≤◌, List, [], ◌∷◌, ◌++◌, length, take, refl, sym, ap, ◌∙◌, subst, arith, length-append}
use Rattle.std.proofs.lemmas.List.{take_at, take-append-le}
use Rattle.unframed_laws.specs.Cutting.{Pieces, ArePieces}
use Rattle.stream_messages.specs.declared.scan.Wire.{Wire}
use Rattle.stream_messages.specs.Fronts.{Found, whole, cut, bad, IsFront}
use Rattle.stream_messages.specs.Messages.{Tail, rest, refused, over, BeginsUpTo, IsFirst, IsTail, Messages}
use Rattle.unframed_laws.proofs.Ends.{one_found}

-- where something other than a beginning is found first, it is found in one place
not_before : (wire : Wire) (x : Found) (front bytes : List ℕ) (n : ℕ) → (x ≡ cut → ⊥) → IsFront wire x front → take (length front) bytes ≡ front → BeginsUpTo wire n bytes → length front < n → ⊥
not_before wire x front bytes n other is e begins h = other (one_found wire x cut front is (subst (λ l. IsFront wire cut l) e (begins (length front) h)))

begins_longer : (wire : Wire) (front more : List ℕ) → BeginsUpTo wire (length front) front → BeginsUpTo wire (length front) (front ++ more)
begins_longer wire front more h k less = let le : k ≤ length front = omega arith in subst (λ l. IsFront wire cut l) (sym (take-append-le k front more le)) (h k less)

same_front : (a b r t : List ℕ) → length a ≡ length b → a ++ r ≡ b ++ t → (a ≡ b) × (r ≡ t)
same_front [] [] r t n e = (refl, e)
same_front [] (y ∷ b) r t n e = absurd (omega arith)
same_front (x ∷ a) [] r t n e = absurd (omega arith)
same_front (x ∷ a) (y ∷ b) r t n e =
    let h : x ≡ y = cc in
    let k : a ++ r ≡ b ++ t = cc in
    let s = same_front a b r t (omega arith) k in
    (ap (λ l. x ∷ l) s.0 ∙ ap (λ z. z ∷ b) h, s.1)

-- two that come first
same_first : (wire : Wire) (limit : ℕ) (x y : Found) (a b r t : List ℕ) → (x ≡ cut → ⊥) → (y ≡ cut → ⊥) → IsFirst wire limit x a → IsFirst wire limit y b → a ++ r ≡ b ++ t → (x ≡ y) × (a ≡ b) × (r ≡ t)
same_first wire limit x y a b r t p q f g e = by_order (order (length a) (length b))
  where
    order : (m n : ℕ) → (m < n) ⊎ (n < m) ⊎ (m ≡ n)
    order m n = grind arith

    front_of : take (length a) (b ++ t) ≡ a
    front_of = ap (λ l. take (length a) l) (sym e) ∙ take_at a r (length a) refl

    other_front : take (length b) (a ++ r) ≡ b
    other_front = ap (λ l. take (length b) l) e ∙ take_at b t (length b) refl

    by_order : (length a < length b) ⊎ (length b < length a) ⊎ (length a ≡ length b) → (x ≡ y) × (a ≡ b) × (r ≡ t)
    by_order (inl h) = absurd (not_before wire x a (b ++ t) (length b) p f.is front_of (begins_longer wire b t g.begins) h)
    by_order (inr (inl h)) = absurd (not_before wire y b (a ++ r) (length a) q g.is other_front (begins_longer wire a r f.begins) h)
    by_order (inr (inr h)) = let s = same_front a b r t h e in (one_found wire x y b (subst (λ l. IsFront wire x l) s.0 f.is) g.is, s.0, s.1)

whole_is : whole ≡ cut → ⊥
whole_is e = absurd (cc)

bad_is : bad ≡ cut → ⊥
bad_is e = absurd (cc)

-- nothing comes first in a tail that is a beginning, or too long
no_first : (wire : Wire) (limit : ℕ) (x : Found) (a r bytes : List ℕ) → (x ≡ cut → ⊥) → IsFirst wire limit x a → bytes ≡ a ++ r → (tail : Tail) → IsTail wire limit bytes tail → (refused_at : List ℕ) × (tail ≡ refused refused_at)
no_first wire limit x a r bytes p f e (rest l) h =
    let long : length a ≤ length l = omega (arith, ap length (sym h.0 ∙ e), length-append a r) in
    absurd (not_before wire x a l (length l + 1) p f.is (ap (λ z. take (length a) z) (sym h.0 ∙ e) ∙ take_at a r (length a) refl) h.2 (omega arith))
no_first wire limit x a r bytes p f e (refused front) h = (front, refl)
no_first wire limit x a r bytes p f e over h =
    absurd (not_before wire x a bytes (limit + 1) p f.is (ap (λ z. take (length a) z) e ∙ take_at a r (length a) refl) h.1 (omega (arith, f.within)))

whole_bad : whole ≡ bad → ⊥
whole_bad e = absurd (cc)

-- a message comes first, so no tail does
no_tail : (wire : Wire) (limit : ℕ) (a r bytes : List ℕ) → IsFirst wire limit whole a → bytes ≡ a ++ r → (tail : Tail) → IsTail wire limit bytes tail → ⊥
no_tail wire limit a r bytes f e (rest l) h = absurd (cc ((no_first wire limit whole a r bytes whole_is f e (rest l) h).1))
no_tail wire limit a r bytes f e (refused front) h = whole_bad (same_first wire limit whole bad a front r h.0 whole_is bad_is f h.2 (sym e ∙ h.1)).0
no_tail wire limit a r bytes f e over h = absurd (cc ((no_first wire limit whole a r bytes whole_is f e over h).1))

one_tail : (wire : Wire) (limit : ℕ) (bytes : List ℕ) (t u : Tail) → IsTail wire limit bytes t → IsTail wire limit bytes u → t ≡ u
one_tail wire limit bytes (rest l) (rest k) h i = ap rest (sym h.0 ∙ i.0)
one_tail wire limit bytes (rest l) (refused b) h i = absurd (cc ((no_first wire limit bad b i.0 bytes bad_is i.2 i.1 (rest l) h).1))
one_tail wire limit bytes (rest l) over h i = let e : length bytes ≡ length l = ap length h.0 in absurd (omega (arith, h.1, i.0))
one_tail wire limit bytes (refused a) (rest k) h i = absurd (cc ((no_first wire limit bad a h.0 bytes bad_is h.2 h.1 (rest k) i).1))
one_tail wire limit bytes (refused a) (refused b) h i = ap refused (same_first wire limit bad bad a b h.0 i.0 bad_is bad_is h.2 i.2 (sym h.1 ∙ i.1)).1
one_tail wire limit bytes (refused a) over h i = absurd (cc ((no_first wire limit bad a h.0 bytes bad_is h.2 h.1 over i).1))
one_tail wire limit bytes over (rest k) h i = let e : length bytes ≡ length k = ap length i.0 in absurd (omega (arith, i.1, h.0))
one_tail wire limit bytes over (refused b) h i = absurd (cc ((no_first wire limit bad b i.0 bytes bad_is i.2 i.1 over h).1))
one_tail wire limit bytes over over h i = refl

pub one_cut : (wire : Wire) (limit : ℕ) (bytes : List ℕ) (xs ys : List (List ℕ)) (t u : Tail) → Messages wire limit bytes xs t → Messages wire limit bytes ys u → (xs ≡ ys) × (t ≡ u)
one_cut wire limit bytes [] [] t u h i = (refl, one_tail wire limit bytes t u h i)
one_cut wire limit bytes [] (y ∷ ys) t u h i = absurd (no_tail wire limit y i.0 bytes i.2 i.1 t h)
one_cut wire limit bytes (x ∷ xs) [] t u h i = absurd (no_tail wire limit x h.0 bytes h.2 h.1 u i)
one_cut wire limit bytes (x ∷ xs) (y ∷ ys) t u h i =
    let s = same_first wire limit whole whole x y h.0 i.0 whole_is whole_is h.2 i.2 (sym h.1 ∙ i.1) in
    let m = one_cut wire limit i.0 xs ys t u (subst (λ l. Messages wire limit l xs t) s.2 h.3) i.3 in
    (ap (λ z. z ∷ xs) s.1 ∙ ap (λ z. y ∷ z) m.0, m.1)

abbrev pieces : List (List ℕ) → Tail → Pieces
pieces messages tail = record { messages = messages; tail = tail }

pieces_are : (x y : Pieces) → x.messages ≡ y.messages → x.tail ≡ y.tail → x ≡ y
pieces_are x y e f = ap (λ (messages : List (List ℕ)). pieces messages x.tail) e ∙ ap (λ (tail : Tail). pieces y.messages tail) f

pub same_pieces : (wire : Wire) (limit : ℕ) (bytes : List ℕ) (x y : Pieces) → ArePieces wire limit bytes x → ArePieces wire limit bytes y → x ≡ y
same_pieces wire limit bytes x y h g = (let same = one_cut wire limit bytes x.messages y.messages x.tail y.tail h g in pieces_are x y same.0 same.1)
