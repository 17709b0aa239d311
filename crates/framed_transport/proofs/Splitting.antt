-- A stream has one splitting.
use Rattle.std.proofs.Common.{◌≡◌, ℕ, zero, suc, ◌+◌, ◌^◌, ◌<◌, ◌≤◌, List, [], ◌∷◌, ◌++◌, length, drop, get_or, true, false, arith, refl, sym, ◌∙◌, ap, subst, append_assoc}
use Rattle.std.specs.List.{flat_map}
use Rattle.std.proofs.lemmas.List.{get_or-drop}
use Rattle.std.proofs.lemmas.List.Elements.{All-nil, All-cons, All-head, All-tail}
use Rattle.framed_transport.specs.Frames.{framed, IsCut, Splits}
use Rattle.framed_transport.specs.Front.{Front, Part, Whole, Large, front, is_whole}
use Rattle.framed_transport.proofs.Cutting.{says_of, stands, parts, cut_of, rest_after, within_held}

-- what is split begins with its first frame
first : (limit : ℕ) (bytes : List ℕ) (x : List ℕ) (xs : List (List ℕ)) (r : List ℕ) → Splits limit bytes (x ∷ xs) r → bytes ≡ framed x ++ (flat_map framed xs ++ r)
first limit bytes x xs r s = s.whole ∙ append_assoc (framed x) (flat_map framed xs) r

begins : (limit : ℕ) (bytes : List ℕ) (x : List ℕ) (xs : List (List ℕ)) (r : List ℕ) → limit < 2 ^ 31 → Splits limit bytes (x ∷ xs) r → front limit bytes ≡ Whole x (flat_map framed xs ++ r)
begins limit bytes x xs r small s = stands limit bytes x (flat_map framed xs ++ r) small (All-head (λ frame. length frame ≤ limit) x xs s.each) (first limit bytes x xs r s)

behind : (limit : ℕ) (bytes : List ℕ) (x : List ℕ) (xs : List (List ℕ)) (r more : List ℕ) → flat_map framed xs ++ r ≡ more → Splits limit bytes (x ∷ xs) r → Splits limit more xs r
behind limit bytes x xs r more e s = record { whole = sym e; each = All-tail (λ frame. length frame ≤ limit) x xs s.each; no_more = s.no_more }

-- no frame stands where none may
none_stands : (limit : ℕ) (bytes rest x more : List ℕ) → bytes ≡ rest → front limit bytes ≡ Whole x more → is_whole (front limit rest) ≡ false → ⊥
none_stands limit bytes rest x more e f n =
    let wrong : true ≡ false = sym (ap is_whole (sym (ap (front limit) e) ∙ f)) ∙ n in absurd (cc)

pub one_splitting : (limit : ℕ) (bytes : List ℕ) (xs ys : List (List ℕ)) (r s : List ℕ) → limit < 2 ^ 31 → Splits limit bytes xs r → Splits limit bytes ys s → (xs ≡ ys) × (r ≡ s)
one_splitting limit bytes [] [] r s small p q = (refl, sym p.whole ∙ q.whole)
one_splitting limit bytes [] (y ∷ ys) r s small p q = absurd (none_stands limit bytes r y (flat_map framed ys ++ s) p.whole (begins limit bytes y ys s small q) p.no_more)
one_splitting limit bytes (x ∷ xs) [] r s small p q = absurd (none_stands limit bytes s x (flat_map framed xs ++ r) q.whole (begins limit bytes x xs r small p) q.no_more)
one_splitting limit bytes (x ∷ xs) (y ∷ ys) r s small p q =
    let same = parts (sym (begins limit bytes x xs r small p) ∙ begins limit bytes y ys s small q) in
    let rest = one_splitting limit (flat_map framed xs ++ r) xs ys r s small (behind limit bytes x xs r (flat_map framed xs ++ r) refl p) (behind limit bytes y ys s (flat_map framed xs ++ r) (sym same.1) q) in
    (cc (same.0, rest.0), rest.1)

-- with a frame more in front
one_more : (limit : ℕ) (bytes frame rest : List ℕ) (frames : List (List ℕ)) (left : List ℕ) → IsCut limit bytes frame rest → Splits limit rest frames left → Splits limit bytes (frame ∷ frames) left
one_more limit bytes frame rest frames left cut s = record {
  whole = cut.whole ∙ (ap (λ xs. framed frame ++ xs) s.whole ∙ sym (append_assoc (framed frame) (flat_map framed frames) left));
  each = All-cons (λ frame. length frame ≤ limit) frame frames cut.within s.each;
  no_more = s.no_more;
}

-- the bytes behind a frame are bytes, and fewer
small_behind : (limit : ℕ) (bytes frame rest : List ℕ) → limit < 2 ^ 31 → IsCut limit bytes frame rest → ((k : ℕ) → get_or bytes k 0 < 256) → (k : ℕ) → get_or rest k 0 < 256
small_behind limit bytes frame rest small cut each k =
    let at : drop (length frame + 4) bytes ≡ rest = rest_after limit bytes frame rest small cut in
    subst (λ (xs : List ℕ). get_or xs k 0 < 256) at (rw (get_or-drop (length frame + 4) bytes k 0) (each (length frame + 4 + k)))

-- by what stands at the front, with so many bytes at most
split_within : (most limit : ℕ) (bytes : List ℕ) → length bytes ≤ most → limit < 2 ^ 31 → ((k : ℕ) → get_or bytes k 0 < 256) → (f : Front) → front limit bytes ≡ f → (frames : List (List ℕ)) × (rest : List ℕ) × Splits limit bytes frames rest
split_within most limit bytes within small each Part is = ([], bytes, record { whole = refl; each = All-nil (λ frame. length frame ≤ limit); no_more = ap is_whole is })
split_within most limit bytes within small each (Large n) is = ([], bytes, record { whole = refl; each = All-nil (λ frame. length frame ≤ limit); no_more = ap is_whole is })
split_within zero limit bytes within small each (Whole frame rest) is =
    let long : length frame + 4 ≤ length bytes = within_held limit bytes frame rest small (cut_of limit bytes frame rest small each is) in
    absurd (omega (arith, long, within))
split_within (suc most) limit bytes within small each (Whole frame rest) is =
    let cut = cut_of limit bytes frame rest small each is in
    let fewer : length rest ≤ most = (let s = says_of frame rest bytes (omega (arith, cut.within)) cut.whole in omega (arith, s.enough, within)) in
    let more = split_within most limit rest fewer small (small_behind limit bytes frame rest small cut each) (front limit rest) refl in
    (frame ∷ more.0, more.1, one_more limit bytes frame rest more.0 more.1 cut more.2)

pub split : (limit : ℕ) (bytes : List ℕ) → limit < 2 ^ 31 → ((k : ℕ) → get_or bytes k 0 < 256) → (frames : List (List ℕ)) × (rest : List ℕ) × Splits limit bytes frames rest
split limit bytes small each = split_within (length bytes) limit bytes (omega arith) small each (front limit bytes) refl
