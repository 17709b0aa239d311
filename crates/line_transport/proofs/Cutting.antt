-- What stands at the front.
use Rattle.std.proofs.Common.{◌≡◌, ℕ, ◌+◌, ◌^◌, ◌<◌, ◌≤◌, nat_lt, if◌then◌else◌, true, false, Bool, List, [], ◌∷◌, ◌++◌, length, take, drop, arith, refl, sym, ◌∙◌, ap, subst, append_assoc, length-append, Some}
use Rattle.std.proofs.lemmas.Bool.Decides.{nat_tests}
use Rattle.std.proofs.lemmas.List.{take_at, drop_at, length-take-le, take-append-drop}
use Rattle.framed_transport.specs.Frames.{framed}
use Rattle.framed_transport.specs.Front as frames
use Rattle.framed_transport.proofs.Cutting as framing
use Rattle.line_transport.specs.Buffers.{lead}
use Rattle.line_transport.specs.Cuts.{sent, IsCut}
use Rattle.line_transport.specs.Front.{Part, Whole, Exceeds, of_frame, front, behind, whole_size, line_front}
use Rattle.line_transport.specs.Lines.{IsLine, ended, line_length}
use Rattle.line_transport.specs.declared.transport.Excess.{Excess}
use Rattle.line_transport.specs.declared.transport.Excess.TheVariants as excesses
use Rattle.line_transport.specs.declared.transport.Transport.{Transport}
use Rattle.line_transport.specs.declared.transport.Transport.TheVariants.{Frames, Lines}
use Rattle.line_transport.proofs.Searching.{length_within, behind_line, at_feed, front_unbroken, feed_behind}

pub length-ended : (line : List ℕ) → length (ended line) ≡ length line + 1
unfolding ended
length-ended line = length-append line (10 ∷ [])

-- ---- a line

-- what is measured where a line stands
pub line_measured : (bytes line rest : List ℕ) → line_length line ≡ length line → bytes ≡ ended line ++ rest → line_length bytes ≡ length line
unfolding ended
line_measured bytes line rest unbroken e =
    ap line_length (e ∙ append_assoc line (10 ∷ []) rest) ∙ (behind_line line (10 ∷ rest) unbroken ∙ omega (arith, at_feed rest))

pub line_stands : (limit : ℕ) (bytes line rest : List ℕ) → IsLine limit line → bytes ≡ ended line ++ rest → line_front limit bytes ≡ Whole line rest
unfolding line_front ended
line_stands limit bytes line rest is e =
    let measured : line_length bytes ≡ length line = line_measured bytes line rest is.unbroken e in
    let within : length line ≤ limit = is.within in
    let long : length bytes ≡ (length line + 1) + length rest = ap length e ∙ (length-append (ended line) rest ∙ ap (λ n. n + length rest) (length-ended line)) in
    let fits : nat_lt limit (line_length bytes) ≡ false = grind (arith, nat_tests, measured, within) in
    let enough : nat_lt (line_length bytes) (length bytes) ≡ true = grind (arith, nat_tests, measured, long) in
    let head : take (line_length bytes) bytes ≡ line = ap (λ n. take n bytes) measured ∙ (ap (take (length line)) (e ∙ append_assoc line (10 ∷ []) rest) ∙ take_at line (10 ∷ rest) (length line) refl) in
    let tail : drop (line_length bytes + 1) bytes ≡ rest = ap (λ n. drop (n + 1) bytes) measured ∙ (ap (drop (length line + 1)) e ∙ drop_at (ended line) rest (length line + 1) (length-ended line)) in
    rw (fits, enough, head, tail) refl

pub parts : {a b c d : List ℕ} → Whole a b ≡ Whole c d → (a ≡ c) × (b ≡ d)
parts e = (cc, cc)

line_by : (limit n : ℕ) (bytes line rest : List ℕ) → n ≡ line_length bytes → (a : Bool) → nat_lt limit n ≡ a → (b : Bool) → nat_lt n (length bytes) ≡ b
    → (if a then Exceeds excesses.Line else if b then Whole (take n bytes) (drop (n + 1) bytes) else Part) ≡ Whole line rest → IsCut Lines limit bytes line rest
unfolding ended
line_by limit n bytes line rest is true p b q e = absurd (cc)
line_by limit n bytes line rest is false p false q e = absurd (cc)
line_by limit n bytes line rest is false p true q e =
    let low : n < length bytes = grind (arith, nat_tests, q) in
    let fits : n ≤ limit = grind (arith, nat_tests, p) in
    let long : length (take n bytes) ≡ n = length-take-le n bytes (omega (arith, low)) in
    let same = parts e in
    let whole : bytes ≡ (take n bytes ++ 10 ∷ []) ++ drop (n + 1) bytes = feed_behind bytes n is low ∙ sym (append_assoc (take n bytes) (10 ∷ []) (drop (n + 1) bytes)) in
    record {
      is = record { within = omega (arith, fits, long, ap length same.0); unbroken = subst (λ (l : List ℕ). line_length l ≡ length l) same.0 (front_unbroken bytes n is) };
      whole = whole ∙ (ap (λ l. (l ++ 10 ∷ []) ++ drop (n + 1) bytes) same.0 ∙ ap (λ r. (line ++ 10 ∷ []) ++ r) same.1);
    }

-- what stands at the front as a line is one
pub line_cut : (limit : ℕ) (bytes line rest : List ℕ) → line_front limit bytes ≡ Whole line rest → IsCut Lines limit bytes line rest
unfolding line_front
line_cut limit bytes line rest e =
    line_by limit (line_length bytes) bytes line rest refl (nat_lt limit (line_length bytes)) refl (nat_lt (line_length bytes) (length bytes)) refl e

part_by : (limit n : ℕ) (bytes head tail : List ℕ) → n ≤ length bytes → (a : Bool) → nat_lt limit n ≡ a → (b : Bool) → nat_lt n (length bytes) ≡ b
    → (if a then Exceeds excesses.Line else if b then Whole head tail else Part) ≡ Part → (n ≡ length bytes) × (n ≤ limit)
part_by limit n bytes head tail within true p b q e = absurd (cc)
part_by limit n bytes head tail within false p true q e = absurd (cc)
part_by limit n bytes head tail within false p false q e =
    let high : length bytes ≤ n = grind (arith, nat_tests, q) in
    let fits : n ≤ limit = grind (arith, nat_tests, p) in
    (omega (arith, high, within), fits)

-- where less than a line stands, no LF does, and the bytes are within the limit
pub line_part : (limit : ℕ) (bytes : List ℕ) → line_front limit bytes ≡ Part → IsLine limit bytes
unfolding line_front
line_part limit bytes e =
    let h = part_by limit (line_length bytes) bytes _ _ (length_within bytes) (nat_lt limit (line_length bytes)) refl (nat_lt (line_length bytes) (length bytes)) refl e in
    record { within = omega (arith, h.0, h.1); unbroken = h.0 }

over_by : (limit n : ℕ) (bytes head tail : List ℕ) (x : Excess) → (a : Bool) → nat_lt limit n ≡ a → (b : Bool) → nat_lt n (length bytes) ≡ b
    → (if a then Exceeds excesses.Line else if b then Whole head tail else Part) ≡ Exceeds x → (limit < n) × (x ≡ excesses.Line)
over_by limit n bytes head tail x true p b q e = (grind (arith, nat_tests, p), cc)
over_by limit n bytes head tail x false p true q e = absurd (cc)
over_by limit n bytes head tail x false p false q e = absurd (cc)

pub line_over : (limit : ℕ) (bytes : List ℕ) (x : Excess) → line_front limit bytes ≡ Exceeds x → (limit < line_length bytes) × (x ≡ excesses.Line)
unfolding line_front
line_over limit bytes x e =
    over_by limit (line_length bytes) bytes _ _ x (nat_lt limit (line_length bytes)) refl (nat_lt (line_length bytes) (length bytes)) refl e

pub too_long : (limit : ℕ) (bytes : List ℕ) → limit < line_length bytes → line_front limit bytes ≡ Exceeds excesses.Line
unfolding line_front
too_long limit bytes over = (let e : nat_lt limit (line_length bytes) ≡ true = grind (arith, nat_tests) in rw e refl)

-- ---- letting a line go

-- so much less is held
pub record Gone (limit size : ℕ) (bytes left : List ℕ) : Type 0 where
  pub within : size ≤ limit
  pub inside : size + 1 ≤ length bytes
  pub left_is : drop (size + 1) bytes ≡ left

gone_by : (limit n size : ℕ) (bytes : List ℕ) → (a : Bool) → nat_lt limit n ≡ a → (b : Bool) → nat_lt n (length bytes) ≡ b
    → whole_size (if a then Exceeds excesses.Line else if b then Whole (take n bytes) (drop (n + 1) bytes) else Part) ≡ Some size
    → Gone limit size bytes (behind bytes (if a then Exceeds excesses.Line else if b then Whole (take n bytes) (drop (n + 1) bytes) else Part))
gone_by limit n size bytes true p b q e = absurd (cc)
gone_by limit n size bytes false p false q e = absurd (cc)
gone_by limit n size bytes false p true q e =
    let low : n < length bytes = grind (arith, nat_tests, q) in
    let fits : n ≤ limit = grind (arith, nat_tests, p) in
    let long : length (take n bytes) ≡ n = length-take-le n bytes (omega (arith, low)) in
    let is : n ≡ size = (let same : length (take n bytes) ≡ size = cc in sym long ∙ same) in
    record {
      within = omega (arith, fits, is);
      inside = omega (arith, low, is);
      left_is = ap (λ k. drop (k + 1) bytes) (sym is);
    }

-- what is left where a whole line of this size is let go
pub line_gone : (limit size : ℕ) (bytes : List ℕ) → whole_size (line_front limit bytes) ≡ Some size → Gone limit size bytes (behind bytes (line_front limit bytes))
unfolding line_front
line_gone limit size bytes e =
    gone_by limit (line_length bytes) size bytes (nat_lt limit (line_length bytes)) refl (nat_lt (line_length bytes) (length bytes)) refl e

-- ---- what the code finds

pub whole_line : (limit n : ℕ) (bytes : List ℕ) → n ≡ line_length bytes → n ≤ limit → n < length bytes → line_front limit bytes ≡ Whole (take n bytes) (drop (n + 1) bytes)
unfolding line_front
whole_line limit n bytes is fits low =
    let a : nat_lt limit (line_length bytes) ≡ false = grind (arith, nat_tests, is, fits) in
    let b : nat_lt (line_length bytes) (length bytes) ≡ true = grind (arith, nat_tests, is, low) in
    rw (a, b, is) refl

pub no_line : (limit : ℕ) (bytes : List ℕ) → length bytes ≡ line_length bytes → length bytes ≤ limit → line_front limit bytes ≡ Part
unfolding line_front
no_line limit bytes is fits =
    let a : nat_lt limit (line_length bytes) ≡ false = grind (arith, nat_tests, is, fits) in
    let b : nat_lt (line_length bytes) (length bytes) ≡ false = grind (arith, nat_tests, is) in
    rw (a, b) refl

-- ---- a message

whole_frame : (f : frames.Front) (piece rest : List ℕ) → of_frame f ≡ Whole piece rest → f ≡ frames.Whole piece rest
whole_frame frames.Part piece rest e = absurd (cc)
whole_frame (frames.Whole frame more) piece rest e = (let same = parts e in cc (same.0, same.1))
whole_frame (frames.Large n) piece rest e = absurd (cc)

pub frame_whole : (limit : ℕ) (bytes piece rest : List ℕ) → front Frames limit bytes ≡ Whole piece rest → frames.front limit bytes ≡ frames.Whole piece rest
frame_whole limit bytes piece rest e = whole_frame (frames.front limit bytes) piece rest e

part_frame : (f : frames.Front) → of_frame f ≡ Part → f ≡ frames.Part
part_frame frames.Part e = refl
part_frame (frames.Whole frame more) e = absurd (cc)
part_frame (frames.Large n) e = absurd (cc)

pub frame_part : (limit : ℕ) (bytes : List ℕ) → front Frames limit bytes ≡ Part → frames.front limit bytes ≡ frames.Part
frame_part limit bytes e = part_frame (frames.front limit bytes) e

-- a piece that stands whole stands at the front
pub stands : (t : Transport) (limit : ℕ) (bytes piece rest : List ℕ) → limit < 2 ^ 31 → IsCut t limit bytes piece rest → front t limit bytes ≡ Whole piece rest
stands Frames limit bytes piece rest small cut = ap of_frame (framing.stands limit bytes piece rest small cut.is cut.whole)
stands Lines limit bytes piece rest small cut = line_stands limit bytes piece rest cut.is cut.whole

-- a piece on the stream is longer than what it carries
pub sent_longer : (t : Transport) (piece : List ℕ) → length piece + 1 ≤ length (sent t piece)
unfolding framed
sent_longer Frames piece = omega arith
sent_longer Lines piece = omega (arith, length-ended piece)

-- what stands behind a line and its LF
pub line_behind : (bytes line rest : List ℕ) → bytes ≡ ended line ++ rest → drop (length line + 1) bytes ≡ rest
line_behind bytes line rest e = ap (drop (length line + 1)) e ∙ drop_at (ended line) rest (length line + 1) (length-ended line)

-- a message becomes a line by an LF behind it
pub closed_line : (t : Transport) (at : ℕ) (bytes : List ℕ) → t ≡ Lines → bytes ++ 10 ∷ [] ≡ take at bytes ++ sent t (drop (at + length (lead t)) bytes)
unfolding ended
closed_line Frames at bytes e = absurd (cc)
closed_line Lines at bytes e =
    let same : at + 0 ≡ at = omega arith in
    ap (λ l. l ++ 10 ∷ []) (sym (take-append-drop at bytes)) ∙ (append_assoc (take at bytes) (drop at bytes) (10 ∷ []) ∙ ap (λ n. take at bytes ++ (drop n bytes ++ 10 ∷ [])) (sym same))
