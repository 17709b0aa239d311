-- Frames without their lengths, as they are written piece by piece.
use Rattle.std.proofs.Common.{◌≡◌, ◌⊎◌, inl, inr, ℕ, zero, suc, ◌+◌, ◌-◌, ◌<◌, ◌≤◌, Bool, true, false, cond, List, [], ◌∷◌, ◌++◌, length, take, drop, refl, sym, ap, ◌∙◌, subst, arith, append_assoc, append-nil, length-append}
use Rattle.std.specs.Prelude.{nat_lt, ◌==◌}
use Rattle.std.specs.Int.{w32, from_be_bytes}
use Rattle.std.proofs.lemmas.Bool.{cases_lt}
use Rattle.std.proofs.lemmas.Bool.Decides.{nat_tests}
use Rattle.std.proofs.lemmas.List.{take-append-drop, take-append-le, take-take, take_all, length-take-le}
use Rattle.stream_messages.specs.declared.gathering.Gathered.{Gathered}
use Rattle.stream_messages.specs.Gathering.{IsGathered}
use Rattle.stream_messages.specs.Stripping.{StripperState, length_with, behind_byte, of_byte, behind_bytes, contents, IsBehindLength, IsBehindContent, StripsTo, in_length, in_content, behind_frame}

none_or_some : (n : ℕ) → (n ≡ 0) ⊎ (0 < n)
none_or_some zero = inl refl
none_or_some (suc n) = inr (omega arith)

no_bytes : (l : List ℕ) → length l ≡ 0 → l ≡ []
no_bytes [] e = refl
no_bytes (x ∷ l) e = absurd (omega (arith, e))

-- a length goes on
pub length_goes_on : (s t : StripperState) (written sent piece : List ℕ) → StripsTo s written sent → s.left ≡ 0 → length s.length_bytes + length piece < 4
    → t ≡ record { length_bytes = s.length_bytes ++ piece; left = 0 } → StripsTo t (written ++ piece) sent
length_goes_on _ t _ _ piece (in_length bytes h) l n e =
    subst (λ (t : StripperState). StripsTo t (bytes ++ piece) []) (sym e) (in_length (bytes ++ piece) (omega (arith, n, length-append bytes piece)))
length_goes_on _ t _ _ piece (in_content a b c d left content size some) l n e = absurd (omega (arith, l, some))
length_goes_on _ t _ _ piece (behind_frame s a b c d content written sent size h) l n e =
    subst (λ w. StripsTo t w (content ++ sent)) (ap (λ r. a ∷ b ∷ c ∷ d ∷ r) (sym (append_assoc content written piece)))
    (behind_frame t a b c d content (written ++ piece) sent size (length_goes_on s t written sent piece h l n e))

-- four bytes are a length
four : (l : List ℕ) → length l ≡ 4 → StripsTo (record { length_bytes = []; left = from_be_bytes w32 l }) l []
four [] e = absurd (omega (arith, e))
four (a ∷ []) e = absurd (omega (arith, e))
four (a ∷ b ∷ []) e = absurd (omega (arith, e))
four (a ∷ b ∷ c ∷ []) e = absurd (omega (arith, e))
four (a ∷ b ∷ c ∷ d ∷ x ∷ l) e = absurd (omega (arith, e))
four (a ∷ b ∷ c ∷ d ∷ []) e = by (none_or_some (from_be_bytes w32 (a ∷ b ∷ c ∷ d ∷ [])))
  where
    by : (from_be_bytes w32 (a ∷ b ∷ c ∷ d ∷ []) ≡ 0) ⊎ (0 < from_be_bytes w32 (a ∷ b ∷ c ∷ d ∷ [])) → StripsTo (record { length_bytes = []; left = from_be_bytes w32 (a ∷ b ∷ c ∷ d ∷ []) }) (a ∷ b ∷ c ∷ d ∷ []) []
    by (inl n) =
        subst (λ k. StripsTo (record { length_bytes = []; left = k }) (a ∷ b ∷ c ∷ d ∷ []) []) (sym n)
        (behind_frame (record { length_bytes = []; left = 0 }) a b c d [] [] [] (sym n) (in_length [] (omega arith)))
    by (inr n) = in_content a b c d (from_be_bytes w32 (a ∷ b ∷ c ∷ d ∷ [])) [] (omega arith) n

-- a length is whole
pub length_whole : (s t : StripperState) (written sent piece : List ℕ) → StripsTo s written sent → s.left ≡ 0 → length s.length_bytes + length piece ≡ 4
    → t ≡ record { length_bytes = []; left = from_be_bytes w32 (s.length_bytes ++ piece) } → StripsTo t (written ++ piece) sent
length_whole _ t _ _ piece (in_length bytes h) l n e =
    subst (λ (t : StripperState). StripsTo t (bytes ++ piece) []) (sym e) (four (bytes ++ piece) (omega (arith, n, length-append bytes piece)))
length_whole _ t _ _ piece (in_content a b c d left content size some) l n e = absurd (omega (arith, l, some))
length_whole _ t _ _ piece (behind_frame s a b c d content written sent size h) l n e =
    subst (λ w. StripsTo t w (content ++ sent)) (ap (λ r. a ∷ b ∷ c ∷ d ∷ r) (sym (append_assoc content written piece)))
    (behind_frame t a b c d content (written ++ piece) sent size (length_whole s t written sent piece h l n e))

-- bytes of a content are passed on
pub content_goes_on : (s t : StripperState) (written sent piece : List ℕ) → StripsTo s written sent → t.length_bytes ≡ s.length_bytes → t.left + length piece ≡ s.left → StripsTo t (written ++ piece) (sent ++ piece)
content_goes_on _ t _ _ piece (in_length bytes h) same left =
    let none : piece ≡ [] = no_bytes piece (omega (arith, left)) in
    let at : t.left ≡ 0 = omega (arith, left) in
    subst (λ l. StripsTo t (bytes ++ l) ([] ++ l)) (sym none)
    (subst (λ w. StripsTo t w []) (sym (append-nil bytes))
    (subst (λ k. StripsTo (record { length_bytes = t.length_bytes; left = k }) bytes []) (sym at)
    (subst (λ l. StripsTo (record { length_bytes = l; left = 0 }) bytes []) (sym same) (in_length bytes h))))
content_goes_on _ t _ _ piece (in_content a b c d left content size some) same less = by (none_or_some t.left)
  where
    by : (t.left ≡ 0) ⊎ (0 < t.left) → StripsTo t (a ∷ b ∷ c ∷ d ∷ (content ++ piece)) (content ++ piece)
    by (inl e) =
        subst (λ k. StripsTo (record { length_bytes = t.length_bytes; left = k }) (a ∷ b ∷ c ∷ d ∷ (content ++ piece)) (content ++ piece)) (sym e)
        (subst (λ l. StripsTo (record { length_bytes = l; left = 0 }) (a ∷ b ∷ c ∷ d ∷ (content ++ piece)) (content ++ piece)) (sym same)
        (subst (λ l. StripsTo (record { length_bytes = []; left = 0 }) (a ∷ b ∷ c ∷ d ∷ l) (content ++ piece)) (append-nil (content ++ piece))
        (subst (λ l. StripsTo (record { length_bytes = []; left = 0 }) (a ∷ b ∷ c ∷ d ∷ ((content ++ piece) ++ [])) l) (append-nil (content ++ piece))
        (behind_frame (record { length_bytes = []; left = 0 }) a b c d (content ++ piece) [] [] (omega (arith, size, less, e, length-append content piece)) (in_length [] (omega arith))))))
    by (inr some_left) =
        subst (λ l. StripsTo (record { length_bytes = l; left = t.left }) (a ∷ b ∷ c ∷ d ∷ (content ++ piece)) (content ++ piece)) (sym same)
        (in_content a b c d t.left (content ++ piece) (omega (arith, size, less, length-append content piece)) some_left)
content_goes_on _ t _ _ piece (behind_frame s a b c d content written sent size h) same left =
    subst (λ w. StripsTo t w ((content ++ sent) ++ piece)) (ap (λ r. a ∷ b ∷ c ∷ d ∷ r) (sym (append_assoc content written piece)))
    (subst (λ o. StripsTo t (a ∷ b ∷ c ∷ d ∷ (content ++ (written ++ piece))) o) (sym (append_assoc content sent piece))
    (behind_frame t a b c d content (written ++ piece) (sent ++ piece) size (content_goes_on s t written sent piece h same left)))

-- ---- byte by byte

-- less than a length stands open
short_length : (s : StripperState) (written sent : List ℕ) → StripsTo s written sent → length s.length_bytes < 4
short_length _ _ _ (in_length bytes h) = h
short_length _ _ _ (in_content a b c d left content size some) = omega arith
short_length _ _ _ (behind_frame s a b c d content written sent size h) = short_length s written sent h

strips_one : (s : StripperState) (byte : ℕ) (written sent : List ℕ) → StripsTo s written sent → StripsTo (behind_byte s byte) (written ++ byte ∷ []) (sent ++ of_byte s byte)
strips_one s byte written sent h = by_left (s.left == 0) refl
  where
    longer : length (s.length_bytes ++ byte ∷ []) ≡ length s.length_bytes + 1
    longer = length-append s.length_bytes (byte ∷ [])

    by_short : s.left ≡ 0 → (b : Bool) → nat_lt (length (s.length_bytes ++ byte ∷ [])) 4 ≡ b
        → StripsTo (cond b (record { length_bytes = s.length_bytes ++ byte ∷ []; left = 0 }) (record { length_bytes = []; left = from_be_bytes w32 (s.length_bytes ++ byte ∷ []) })) (written ++ byte ∷ []) sent
    by_short none true t =
        let less : length (s.length_bytes ++ byte ∷ []) < 4 = grind (arith, nat_tests) in
        length_goes_on s _ written sent (byte ∷ []) h none (omega (arith, less, longer)) refl
    by_short none false t =
        let whole : 4 ≤ length (s.length_bytes ++ byte ∷ []) = grind (arith, nat_tests) in
        length_whole s _ written sent (byte ∷ []) h none (omega (arith, whole, longer, short_length s written sent h)) refl

    by_left : (b : Bool) → (s.left == 0) ≡ b → StripsTo (cond b (length_with (s.length_bytes ++ byte ∷ [])) (record s { left = s.left - 1 })) (written ++ byte ∷ []) (sent ++ cond b [] (byte ∷ []))
    by_left true e =
        let none : s.left ≡ 0 = grind (arith, nat_tests) in
        subst (λ o. StripsTo (length_with (s.length_bytes ++ byte ∷ [])) (written ++ byte ∷ []) o) (sym (append-nil sent)) (by_short none (nat_lt (length (s.length_bytes ++ byte ∷ [])) 4) refl)
    by_left false e =
        let some : 0 < s.left = grind (arith, nat_tests) in
        content_goes_on s (record s { left = s.left - 1 }) written sent (byte ∷ []) h refl (omega (arith, some))

pub strips_on : (bytes : List ℕ) (s : StripperState) (written sent : List ℕ) → StripsTo s written sent → StripsTo (behind_bytes s bytes) (written ++ bytes) (sent ++ contents s bytes)
strips_on [] s written sent h = subst (λ w. StripsTo s w (sent ++ [])) (sym (append-nil written)) (subst (λ o. StripsTo s written o) (sym (append-nil sent)) h)
strips_on (byte ∷ bytes) s written sent h =
    subst (λ w. StripsTo (behind_bytes s (byte ∷ bytes)) w (sent ++ contents s (byte ∷ bytes))) (append_assoc written (byte ∷ []) bytes)
    (subst (λ o. StripsTo (behind_bytes s (byte ∷ bytes)) ((written ++ byte ∷ []) ++ bytes) o) (append_assoc sent (of_byte s byte) (contents (behind_byte s byte) bytes))
    (strips_on bytes (behind_byte s byte) (written ++ byte ∷ []) (sent ++ of_byte s byte) (strips_one s byte written sent h)))

-- a front of a length, or a content, as a piece
pub takes_length : (s t : StripperState) (front : List ℕ) → IsBehindLength s front t → (written sent : List ℕ) → StripsTo s written sent → StripsTo t (written ++ front) sent
takes_length s t front is written sent h =
    subst (λ (u : StripperState). StripsTo u (written ++ front) sent) (sym is.0)
    (subst (λ o. StripsTo (behind_bytes s front) (written ++ front) o) (ap (λ l. sent ++ l) is.1 ∙ append-nil sent) (strips_on front s written sent h))

pub passes_content : (s t : StripperState) (n : ℕ) → IsBehindContent s n t → (written sent piece : List ℕ) → length piece ≡ n → StripsTo s written sent → StripsTo t (written ++ piece) (sent ++ piece)
passes_content s t n is written sent piece size h =
    let b = is piece size in
    subst (λ (u : StripperState). StripsTo u (written ++ piece) (sent ++ piece)) (sym b.0)
    (subst (λ l. StripsTo (behind_bytes s piece) (written ++ piece) (sent ++ l)) b.1 (strips_on piece s written sent h))

-- ---- pieces

pub content_piece : (piece : List ℕ) (s : StripperState) → length piece ≤ s.left → (behind_bytes s piece ≡ record s { left = s.left - length piece }) × (contents s piece ≡ piece)
content_piece [] s few = (ap (λ k. record s { left = k }) (omega arith), refl)
content_piece (byte ∷ piece) s few =
    let some : (s.left == 0) ≡ false = grind (arith, nat_tests) in
    let less : length piece ≤ s.left - 1 = omega (arith, few) in
    let more = content_piece piece (record s { left = s.left - 1 }) less in
    let left : (s.left - 1) - length piece ≡ s.left - suc (length piece) = omega arith in
    (rw some (more.0 ∙ ap (λ k. record s { left = k }) left), rw some (ap (λ l. byte ∷ l) more.1))

pub length_piece : (piece : List ℕ) (s : StripperState) → s.left ≡ 0 → 0 < length piece → length s.length_bytes + length piece ≤ 4 → (behind_bytes s piece ≡ length_with (s.length_bytes ++ piece)) × (contents s piece ≡ [])
length_piece [] s none some few = absurd (omega (arith, some))
length_piece (byte ∷ []) s none some few =
    let at : (s.left == 0) ≡ true = grind (arith, nat_tests) in
    (rw at refl, rw at refl)
length_piece (byte ∷ next ∷ piece) s none some few =
    let at : (s.left == 0) ≡ true = grind (arith, nat_tests) in
    let size = length-append s.length_bytes (byte ∷ []) in
    let short : nat_lt (length (s.length_bytes ++ byte ∷ [])) 4 ≡ true = grind (arith, nat_tests) in
    let more = length_piece (next ∷ piece) (record { length_bytes = s.length_bytes ++ byte ∷ []; left = 0 }) refl (omega arith) (omega (arith, few, size)) in
    (rw (at, short) (more.0 ∙ ap (λ l. length_with l) (append_assoc s.length_bytes (byte ∷ []) (next ∷ piece))), rw (at, short) (more.1))

-- a length that isn't whole, and one that is
pub length_short : (s t : StripperState) (piece : List ℕ) → s.left ≡ 0 → length s.length_bytes + length piece < 4 → t ≡ record { length_bytes = s.length_bytes ++ piece; left = 0 } → IsBehindLength s piece t
length_short s t [] none less is = (is ∙ (ap (λ l. record { length_bytes = l; left = 0 }) (append-nil s.length_bytes) ∙ ap (λ k. record { length_bytes = s.length_bytes; left = k }) (sym none)), refl)
length_short s t (byte ∷ piece) none less is =
    let p = length_piece (byte ∷ piece) s none (omega arith) (omega (arith, less)) in
    let size = length-append s.length_bytes (byte ∷ piece) in
    let short : nat_lt (length (s.length_bytes ++ byte ∷ piece)) 4 ≡ true = grind (arith, nat_tests) in
    (is ∙ sym (p.0 ∙ rw short refl), p.1)

pub length_full : (s t : StripperState) (piece : List ℕ) → s.left ≡ 0 → length s.length_bytes < 4 → length s.length_bytes + length piece ≡ 4 → t ≡ record { length_bytes = []; left = from_be_bytes w32 (s.length_bytes ++ piece) } → IsBehindLength s piece t
length_full s t piece none open_still whole is =
    let p = length_piece piece s none (omega (arith, open_still, whole)) (omega (arith, whole)) in
    let size = length-append s.length_bytes piece in
    let long : nat_lt (length (s.length_bytes ++ piece)) 4 ≡ false = grind (arith, nat_tests) in
    (is ∙ sym (p.0 ∙ rw long refl), p.1)

pub nothing_written : (s t : StripperState) → t ≡ s → IsBehindLength s [] t
nothing_written s t is = (is, refl)

-- ---- what is gathered

pub behind_join : (a b : List ℕ) (s : StripperState) → behind_bytes s (a ++ b) ≡ behind_bytes (behind_bytes s a) b
behind_join [] b s = refl
behind_join (x ∷ a) b s = behind_join a b (behind_byte s x)

pub contents_join : (a b : List ℕ) (s : StripperState) → contents s (a ++ b) ≡ contents s a ++ contents (behind_bytes s a) b
contents_join [] b s = refl
contents_join (x ∷ a) b s = ap (λ l. of_byte s x ++ l) (contents_join a b (behind_byte s x)) ∙ sym (append_assoc (of_byte s x) (contents (behind_byte s x) a) (contents (behind_bytes s (x ∷ a)) b))

-- the contents of a front are a front of the contents
front_contents : (s : StripperState) (from : List ℕ) (n : ℕ) → (rest : List ℕ) × (contents s from ≡ contents s (take n from) ++ rest)
front_contents s from n = (contents (behind_bytes s (take n from)) (drop n from), ap (λ l. contents s l) (sym (take-append-drop n from)) ∙ contents_join (take n from) (drop n from) s)

gathered_size : (s : StripperState) (from room : List ℕ) (g : Gathered) → IsGathered s from room g → length (contents s (take g.taken from)) ≡ g.filled
gathered_size s from room g is = ap (λ l. length l) (sym is.are) ∙ length-take-le g.filled room is.fits

-- Of what was gathered the first bytes were sent, so many. Gathered once more into a room for so many, they are these.
pub sent_again : (s : StripperState) (from room again : List ℕ) (all part : Gathered) → IsGathered s from room all → IsGathered s from again part → (part.taken < length from → part.filled ≡ length again) → length again ≤ all.filled
    → (part.filled ≡ length again) × (take (length again) room ≡ contents s (take part.taken from))
sent_again s from room again all part a p full few = (size, same)
  where
    f : (rest : List ℕ) × (contents s from ≡ contents s (take all.taken from) ++ rest)
    f = front_contents s from all.taken

    g : (rest : List ℕ) × (contents s from ≡ contents s (take part.taken from) ++ rest)
    g = front_contents s from part.taken

    size : part.filled ≡ length again
    size = by (cases_lt part.taken (length from))
      where
        by : (part.taken < length from) ⊎ (length from ≤ part.taken) → part.filled ≡ length again
        by (inl less) = full less
        by (inr whole) =
            let whole_is : take part.taken from ≡ from = take_all part.taken from whole in
            let n : length (contents s from) ≡ part.filled = ap (λ l. length (contents s l)) (sym whole_is) ∙ gathered_size s from again part p in
            let m : length (contents s from) ≡ length (contents s (take all.taken from)) + length f.0 = ap (λ l. length l) f.1 ∙ length-append (contents s (take all.taken from)) f.0 in
            omega (arith, n, m, gathered_size s from room all a, few, p.fits)

    same : take (length again) room ≡ contents s (take part.taken from)
    same =
        sym (take-take (length again) all.filled room few)
        ∙ (ap (λ l. take (length again) l) a.are
        ∙ (sym (take-append-le (length again) (contents s (take all.taken from)) f.0 (omega (arith, few, gathered_size s from room all a)))
        ∙ (ap (λ l. take (length again) l) (sym f.1 ∙ g.1)
        ∙ (take-append-le (length again) (contents s (take part.taken from)) g.0 (omega (arith, size, gathered_size s from again part p))
        ∙ take_all (length again) (contents s (take part.taken from)) (omega (arith, size, gathered_size s from again part p))))))
