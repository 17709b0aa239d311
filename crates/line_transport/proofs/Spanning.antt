-- How a stream is cut.
use Rattle.std.proofs.Common.{◌≡◌, ℕ, zero, suc, ◌+◌, ◌^◌, ◌<◌, ◌≤◌, List, [], ◌∷◌, ◌++◌, length, Bool, true, false, cond, not, nat_lt, if◌then◌else◌, arith, refl, sym, ◌∙◌, ap, subst, append_assoc, length-append}
use Rattle.std.specs.List.{flat_map, filter, All}
use Rattle.std.proofs.lemmas.Bool.Decides.{nat_tests}
use Rattle.std.proofs.lemmas.List.{append-nil}
use Rattle.std.proofs.lemmas.List.Elements.{All-nil, All-cons, All-head, All-tail, All-append, filter-append}
use Rattle.std.proofs.lemmas.Grind.{flat_map-append}
use Rattle.framed_transport.specs.Frames.{framed, Splits}
use Rattle.framed_transport.specs.Front as frames
use Rattle.framed_transport.proofs.Cutting as framing
use Rattle.line_transport.specs.Cuts.{sent, IsPiece, IsMessage, is_counted, messages_of, IsCut, Spans, Cuts, at_end}
use Rattle.line_transport.specs.Front.{Front, Part, Whole, Exceeds, of_frame, front, is_whole, line_front, is_blank_front, behind}
use Rattle.line_transport.specs.Lines.{IsLine, ended, is_blank, is_inner, line_length}
use Rattle.line_transport.specs.declared.transport.Excess.{Excess}
use Rattle.line_transport.specs.declared.transport.Excess.TheVariants as excesses
use Rattle.line_transport.specs.declared.transport.Transport.{Transport}
use Rattle.line_transport.specs.declared.transport.Transport.TheVariants.{Frames, Lines}
use Rattle.line_transport.proofs.Cutting.{stands, sent_longer, parts, line_cut, line_part, line_over, too_long}
use Rattle.line_transport.proofs.Searching.{length_within, longer}

messages_on : (t : Transport) (xs ys : List (List ℕ)) → messages_of t (xs ++ ys) ≡ messages_of t xs ++ messages_of t ys
messages_on Frames xs ys = refl
messages_on Lines xs ys = filter-append is_counted xs ys

no_messages : (t : Transport) → [] ≡ messages_of t []
no_messages Frames = refl
no_messages Lines = refl

-- nothing is a span
pub spans_none : (t : Transport) (limit : ℕ) (bytes : List ℕ) → Spans t limit bytes [] bytes
spans_none t limit bytes = record { pieces = []; whole = refl; each = All-nil (IsPiece t limit); messages_are = no_messages t }

-- two spans, one after the other, where more bytes have come in between
pub spans_on : (t : Transport) (limit : ℕ) (a b c more rest : List ℕ) (xs ys : List (List ℕ)) → Spans t limit a xs b → b ++ more ≡ c → Spans t limit c ys rest → Spans t limit (a ++ more) (xs ++ ys) rest
spans_on t limit a b c more rest xs ys p e q = record {
  pieces = p.pieces ++ q.pieces;
  whole =
      ap (λ l. l ++ more) p.whole ∙ (append_assoc (flat_map (sent t) p.pieces) b more ∙ (ap (λ l. flat_map (sent t) p.pieces ++ l) (e ∙ q.whole)
      ∙ (sym (append_assoc (flat_map (sent t) p.pieces) (flat_map (sent t) q.pieces) rest) ∙ ap (λ l. l ++ rest) (sym (flat_map-append (sent t) p.pieces q.pieces)))));
  each = All-append (IsPiece t limit) p.pieces q.pieces p.each q.each;
  messages_are = ap (λ l. l ++ ys) p.messages_are ∙ (ap (λ l. messages_of t p.pieces ++ l) q.messages_are ∙ sym (messages_on t p.pieces q.pieces));
}

one_line : (piece : List ℕ) → is_blank piece ≡ false → piece ∷ [] ≡ messages_of Lines (piece ∷ [])
one_line piece counts = ap (λ b. cond (not b) (piece ∷ []) []) (sym counts)

one_message : (t : Transport) (piece : List ℕ) → (t ≡ Lines → is_blank piece ≡ false) → piece ∷ [] ≡ messages_of t (piece ∷ [])
one_message Frames piece counts = refl
one_message Lines piece counts = one_line piece (counts refl)

blank_line : (piece : List ℕ) → is_blank piece ≡ true → [] ≡ messages_of Lines (piece ∷ [])
blank_line piece blank = ap (λ b. cond (not b) (piece ∷ []) []) (sym blank)

one_piece : (t : Transport) (limit : ℕ) (bytes piece rest : List ℕ) (messages : List (List ℕ)) → IsCut t limit bytes piece rest → messages ≡ messages_of t (piece ∷ []) → Spans t limit bytes messages rest
one_piece t limit bytes piece rest messages cut e = record {
  pieces = piece ∷ [];
  whole = cut.whole ∙ ap (λ l. l ++ rest) (sym (append-nil (sent t piece)));
  each = All-cons (IsPiece t limit) piece [] cut.is (All-nil (IsPiece t limit));
  messages_are = e;
}

-- the message at the front is a span
pub spans_one : (t : Transport) (limit : ℕ) (bytes piece rest : List ℕ) → IsCut t limit bytes piece rest → (t ≡ Lines → is_blank piece ≡ false) → Spans t limit bytes (piece ∷ []) rest
spans_one t limit bytes piece rest cut counts = one_piece t limit bytes piece rest (piece ∷ []) cut (one_message t piece counts)

-- a blank line at the front is one without messages
pub spans_blank : (limit : ℕ) (bytes line rest : List ℕ) → IsCut Lines limit bytes line rest → is_blank line ≡ true → Spans Lines limit bytes [] rest
spans_blank limit bytes line rest cut blank = one_piece Lines limit bytes line rest [] cut (blank_line line blank)

-- a piece at the front is longer than what it carries
pub cut_longer : (t : Transport) (limit : ℕ) (bytes piece rest : List ℕ) → IsCut t limit bytes piece rest → length rest + length piece + 1 ≤ length bytes
cut_longer t limit bytes piece rest cut = omega (arith, ap length cut.whole, length-append (sent t piece) rest, sent_longer t piece)

count_by : (b : Bool) (m n k : ℕ) → m ≤ n → 1 ≤ k → (l : List (List ℕ)) (x : List ℕ) → length l ≡ m → length (cond b (x ∷ l) l) ≤ k + n
count_by true m n k h some l x e = omega (arith, h, some, e)
count_by false m n k h some l x e = omega (arith, h, some, e)

fewer : (t : Transport) (pieces : List (List ℕ)) → length (messages_of t pieces) ≤ length (flat_map (sent t) pieces)
fewer Frames [] = omega arith
fewer Frames (x ∷ xs) = (let rest = fewer Frames xs in omega (arith, rest, length-append (framed x) (flat_map framed xs), sent_longer Frames x))
fewer Lines [] = omega arith
fewer Lines (x ∷ xs) =
    let rest = fewer Lines xs in
    let long = count_by (is_counted x) (length (messages_of Lines xs)) (length (flat_map ended xs)) (length (ended x)) rest (omega (arith, sent_longer Lines x)) (messages_of Lines xs) x refl in
    omega (arith, long, length-append (ended x) (flat_map ended xs))

-- each message takes a byte at least
pub spans_fewer : (t : Transport) (limit : ℕ) (bytes : List ℕ) (messages : List (List ℕ)) (rest : List ℕ) → Spans t limit bytes messages rest → length messages + length rest ≤ length bytes
spans_fewer t limit bytes messages rest s = omega (arith, ap length s.messages_are, fewer t s.pieces, ap length s.whole, length-append (flat_map (sent t) s.pieces) rest)

-- ---- one way

-- what is cut begins with its first piece
begins : (t : Transport) (limit : ℕ) (bytes x : List ℕ) (xs : List (List ℕ)) (rest : List ℕ) → limit < 2 ^ 31 → bytes ≡ flat_map (sent t) (x ∷ xs) ++ rest → All (IsPiece t limit) (x ∷ xs) → front t limit bytes ≡ Whole x (flat_map (sent t) xs ++ rest)
begins t limit bytes x xs rest small e each =
    stands t limit bytes x (flat_map (sent t) xs ++ rest) small (record { is = All-head (IsPiece t limit) x xs each; whole = e ∙ append_assoc (sent t x) (flat_map (sent t) xs) rest })

none_stands : (t : Transport) (limit : ℕ) (bytes rest x more : List ℕ) → bytes ≡ rest → front t limit bytes ≡ Whole x more → is_whole (front t limit rest) ≡ false → ⊥
none_stands t limit bytes rest x more e f n =
    let wrong : true ≡ false = sym (ap is_whole (sym (ap (front t limit) e) ∙ f)) ∙ n in absurd (cc)

same_pieces : (t : Transport) (limit : ℕ) (bytes : List ℕ) (xs ys : List (List ℕ)) (r s : List ℕ) → limit < 2 ^ 31 → bytes ≡ flat_map (sent t) xs ++ r → All (IsPiece t limit) xs → is_whole (front t limit r) ≡ false
    → bytes ≡ flat_map (sent t) ys ++ s → All (IsPiece t limit) ys → is_whole (front t limit s) ≡ false → (xs ≡ ys) × (r ≡ s)
same_pieces t limit bytes [] [] r s small e each none e' each' none' = (refl, sym e ∙ e')
same_pieces t limit bytes [] (y ∷ ys) r s small e each none e' each' none' = absurd (none_stands t limit bytes r y (flat_map (sent t) ys ++ s) e (begins t limit bytes y ys s small e' each') none)
same_pieces t limit bytes (x ∷ xs) [] r s small e each none e' each' none' = absurd (none_stands t limit bytes s x (flat_map (sent t) xs ++ r) e' (begins t limit bytes x xs r small e each) none')
same_pieces t limit bytes (x ∷ xs) (y ∷ ys) r s small e each none e' each' none' =
    let same = parts (sym (begins t limit bytes x xs r small e each) ∙ begins t limit bytes y ys s small e' each') in
    let rest = same_pieces t limit (flat_map (sent t) xs ++ r) xs ys r s small refl (All-tail (IsPiece t limit) x xs each) none same.1 (All-tail (IsPiece t limit) y ys each') none' in
    (cc (same.0, rest.0), rest.1)

pub one_cutting : (t : Transport) (limit : ℕ) (bytes : List ℕ) (xs ys : List (List ℕ)) (r s : List ℕ) → limit < 2 ^ 31 → Cuts t limit bytes xs r → Cuts t limit bytes ys s → (xs ≡ ys) × (r ≡ s)
one_cutting t limit bytes xs ys r s small a b =
    let same = same_pieces t limit bytes a.spans.pieces b.spans.pieces r s small a.spans.whole a.spans.each a.no_more b.spans.whole b.spans.each b.no_more in
    (a.spans.messages_are ∙ (ap (messages_of t) same.0 ∙ sym b.spans.messages_are), same.1)

-- ---- frames

pub of_splits : (limit : ℕ) (bytes : List ℕ) (xs : List (List ℕ)) (rest : List ℕ) → Splits limit bytes xs rest → Cuts Frames limit bytes xs rest
of_splits limit bytes xs rest s = record { spans = record { pieces = xs; whole = s.whole; each = s.each; messages_are = refl }; no_more = frame_more (frames.front limit rest) s.no_more }
  where
    frame_more : (f : frames.Front) → frames.is_whole f ≡ false → is_whole (of_frame f) ≡ false
    frame_more frames.Part e = refl
    frame_more (frames.Whole frame more) e = absurd (cc)
    frame_more (frames.Large n) e = refl

pub to_splits : (limit : ℕ) (bytes : List ℕ) (xs : List (List ℕ)) (rest : List ℕ) → Cuts Frames limit bytes xs rest → Splits limit bytes xs rest
to_splits limit bytes xs rest c = record {
  whole = subst (λ (ys : List (List ℕ)). bytes ≡ flat_map framed ys ++ rest) (sym c.spans.messages_are) c.spans.whole;
  each = subst (λ (ys : List (List ℕ)). All (λ frame. length frame ≤ limit) ys) (sym c.spans.messages_are) c.spans.each;
  no_more = frame_more (frames.front limit rest) c.no_more;
}
  where
    frame_more : (f : frames.Front) → is_whole (of_frame f) ≡ false → frames.is_whole f ≡ false
    frame_more frames.Part e = refl
    frame_more (frames.Whole frame more) e = absurd (cc)
    frame_more (frames.Large n) e = refl

-- ---- lines

-- by what stands at the front, with so many bytes at most
lines_within : (most limit : ℕ) (bytes : List ℕ) → length bytes ≤ most → (f : Front) → line_front limit bytes ≡ f → (messages : List (List ℕ)) × (rest : List ℕ) × Cuts Lines limit bytes messages rest
lines_within most limit bytes within Part is = ([], bytes, record { spans = spans_none Lines limit bytes; no_more = ap is_whole is })
lines_within most limit bytes within (Exceeds e) is = ([], bytes, record { spans = spans_none Lines limit bytes; no_more = ap is_whole is })
lines_within zero limit bytes within (Whole line rest) is =
    let long = cut_longer Lines limit bytes line rest (line_cut limit bytes line rest is) in absurd (omega (arith, long, within))
lines_within (suc most) limit bytes within (Whole line rest) is =
    let cut = line_cut limit bytes line rest is in
    let more = lines_within most limit rest (omega (arith, cut_longer Lines limit bytes line rest cut, within)) (line_front limit rest) refl in
    let first = one_piece Lines limit bytes line rest (messages_of Lines (line ∷ [])) cut refl in (
      messages_of Lines (line ∷ []) ++ more.0,
      more.1,
      record { spans = subst (λ (l : List ℕ). Spans Lines limit l (messages_of Lines (line ∷ []) ++ more.0) more.1) (append-nil bytes) (spans_on Lines limit bytes rest rest [] more.1 (messages_of Lines (line ∷ [])) more.0 first (append-nil rest) more.2.spans); no_more = more.2.no_more },
    )

pub lines_cut : (limit : ℕ) (bytes : List ℕ) → (messages : List (List ℕ)) × (rest : List ℕ) × Cuts Lines limit bytes messages rest
lines_cut limit bytes = lines_within (length bytes) limit bytes (omega arith) (line_front limit bytes) refl

-- of nothing there is less than a message
part_by : (b : Bool) (limit : ℕ) → nat_lt limit 0 ≡ b → (if b then Exceeds excesses.Line else Part) ≡ Part
part_by true limit e = absurd (let low : limit < 0 = grind (arith, nat_tests, e) in omega (arith, low))
part_by false limit e = refl

pub nothing_part : (t : Transport) (limit : ℕ) → front t limit [] ≡ Part
unfolding frames.front line_front line_length
nothing_part Frames limit = refl
nothing_part Lines limit = part_by (nat_lt limit 0) limit refl

pub none_at_nothing : (t : Transport) (limit : ℕ) → is_whole (front t limit []) ≡ false
none_at_nothing t limit = ap is_whole (nothing_part t limit)

counted : (limit : ℕ) (messages : List (List ℕ)) → All (IsMessage limit) messages → messages ≡ filter is_counted messages
counted limit [] all = refl
counted limit (x ∷ xs) all =
    let one = All-head (IsMessage limit) x xs all in
    ap (λ l. x ∷ l) (counted limit xs (All-tail (IsMessage limit) x xs all)) ∙ ap (λ b. cond (not b) (x ∷ filter is_counted xs) (filter is_counted xs)) (sym one.1)

lines_of : (limit : ℕ) (messages : List (List ℕ)) → All (IsMessage limit) messages → All (IsLine limit) messages
lines_of limit [] all = All-nil (IsLine limit)
lines_of limit (x ∷ xs) all = All-cons (IsLine limit) x xs (All-head (IsMessage limit) x xs all).0 (lines_of limit xs (All-tail (IsMessage limit) x xs all))

no_bytes : (limit : ℕ) → IsLine limit []
unfolding line_length
no_bytes limit = record { within = omega arith; unbroken = refl }

-- what was written is cut back: behind the last LF an empty line stands
pub cut_back : (limit : ℕ) (messages : List (List ℕ)) → All (IsMessage limit) messages → Cuts Lines limit (ended (flat_map ended messages)) messages []
unfolding ended is_blank
cut_back limit messages all = record {
  spans = record {
    pieces = messages ++ [] ∷ [];
    whole = sym (append-nil (flat_map ended messages ++ 10 ∷ [])) ∙ ap (λ l. l ++ []) (sym (flat_map-append ended messages ([] ∷ [])));
    each = All-append (IsLine limit) messages ([] ∷ []) (lines_of limit messages all) (All-cons (IsLine limit) [] [] (no_bytes limit) (All-nil (IsLine limit)));
    messages_are = counted limit messages all ∙ (sym (append-nil (filter is_counted messages)) ∙ sym (filter-append is_counted messages ([] ∷ [])));
  };
  no_more = none_at_nothing Lines limit;
}

-- and where the last one has no LF
pub last_cut_back : (limit : ℕ) (messages : List (List ℕ)) (last : List ℕ) → All (IsMessage limit) messages → IsMessage limit last → Cuts Lines limit (ended (flat_map ended messages ++ last)) (messages ++ last ∷ []) []
unfolding ended
last_cut_back limit messages last all one =
    let both : All (IsMessage limit) (messages ++ last ∷ []) = All-append (IsMessage limit) messages (last ∷ []) all (All-cons (IsMessage limit) last [] one (All-nil (IsMessage limit))) in
    record {
      spans = record {
        pieces = messages ++ last ∷ [];
        whole = append_assoc (flat_map ended messages) last (10 ∷ []) ∙ (ap (λ l. flat_map ended messages ++ l) (sym (append-nil (last ++ 10 ∷ []))) ∙ (sym (flat_map-append ended messages (last ∷ [])) ∙ sym (append-nil (flat_map ended (messages ++ last ∷ [])))));
        each = lines_of limit (messages ++ last ∷ []) both;
        messages_are = counted limit (messages ++ last ∷ []) both;
      };
      no_more = none_at_nothing Lines limit;
    }

-- ---- at the end of the input

-- an LF stands there for the one that lacks
pub tail_is : (t : Transport) (bytes : List ℕ) → bytes ++ at_end t [] ≡ at_end t bytes
unfolding ended
tail_is Frames bytes = append-nil bytes
tail_is Lines bytes = refl

pub at_end_on : (t : Transport) (xs ys : List ℕ) → at_end t (xs ++ ys) ≡ xs ++ at_end t ys
at_end_on t xs ys = sym (tail_is t (xs ++ ys)) ∙ (append_assoc xs ys (at_end t []) ∙ ap (λ l. xs ++ l) (tail_is t ys))

-- some bytes were cut, and what was left of them is cut with all that came behind
pub cut_all_on : (t : Transport) (limit : ℕ) (bytes rest more : List ℕ) (xs ys : List (List ℕ)) → Spans t limit bytes xs rest → Cuts t limit (at_end t (rest ++ more)) ys [] → Cuts t limit (at_end t (bytes ++ more)) (xs ++ ys) []
cut_all_on t limit bytes rest more xs ys p q = record {
  spans = subst (λ (l : List ℕ). Spans t limit l (xs ++ ys) []) (sym (at_end_on t bytes more)) (spans_on t limit bytes rest (at_end t (rest ++ more)) (at_end t more) [] xs ys p (sym (at_end_on t rest more)) q.spans);
  no_more = q.no_more;
}

-- all of it was cut
pub cut_whole : (t : Transport) (limit : ℕ) (bytes rest : List ℕ) (xs : List (List ℕ)) → Spans t limit (at_end t bytes) xs rest → rest ≡ [] → Cuts t limit (at_end t bytes) xs []
cut_whole t limit bytes rest xs s none = record { spans = subst (λ (l : List ℕ). Spans t limit (at_end t bytes) xs l) none s; no_more = none_at_nothing t limit }

counted_within : (b : Bool) (m n : ℕ) → m ≤ n → cond b (1 + m) 0 ≤ suc n
counted_within true m n h = omega (arith, h)
counted_within false m n h = omega arith

feed_inside : (xs : List ℕ) → line_length (xs ++ 10 ∷ []) ≤ length xs
unfolding line_length
feed_inside [] = omega arith
feed_inside (x ∷ xs) = counted_within (is_inner x) (line_length (xs ++ 10 ∷ [])) (length xs) (feed_inside xs)

none_behind : (ys zs : List ℕ) → [] ≡ ys ++ zs → zs ≡ []
none_behind [] zs e = sym e
none_behind (y ∷ ys) zs e = absurd (cc)

-- of bytes that end with an LF nothing is left in which none stands
pub nothing_left : (xs ys zs : List ℕ) → xs ++ 10 ∷ [] ≡ ys ++ zs → line_length zs ≡ length zs → zs ≡ []
nothing_left xs [] zs e unbroken = absurd (omega (arith, unbroken, feed_inside xs, ap line_length e, ap length e, length-append xs (10 ∷ [])))
nothing_left [] (y ∷ ys) zs e unbroken = none_behind ys zs (cc)
nothing_left (x ∷ xs) (y ∷ ys) zs e unbroken = nothing_left xs ys zs (cc) unbroken

-- at the end of lines nothing is left
pub lines_end : (limit : ℕ) (held rest : List ℕ) (xs : List (List ℕ)) → Spans Lines limit (ended held) xs rest → line_front limit rest ≡ Part → rest ≡ []
unfolding ended
lines_end limit held rest xs s part = nothing_left held (flat_map ended s.pieces) rest s.whole (line_part limit rest part).unbroken

not_both : (limit : ℕ) (bytes rest : List ℕ) (e : Excess) → bytes ≡ rest → front Frames limit bytes ≡ Part → front Frames limit rest ≡ Exceeds e → ⊥
not_both limit bytes rest e same part over = let wrong : Part ≡ Exceeds e = sym part ∙ (ap (front Frames limit) same ∙ over) in absurd (cc)

none_over : (limit : ℕ) (bytes rest : List ℕ) (e : Excess) (pieces : List (List ℕ)) → limit < 2 ^ 31 → bytes ≡ flat_map framed pieces ++ rest → All (IsPiece Frames limit) pieces → front Frames limit bytes ≡ Part → front Frames limit rest ≡ Exceeds e → ⊥
none_over limit bytes rest e [] small whole each part over = not_both limit bytes rest e whole part over
none_over limit bytes rest e (x ∷ xs) small whole each part over =
    let wrong : Part ≡ Whole x (flat_map framed xs ++ rest) = sym part ∙ begins Frames limit bytes x xs rest small whole each in absurd (cc)

over_by : (limit : ℕ) (held rest : List ℕ) (e : Excess) (pieces : List (List ℕ)) → ended held ≡ flat_map ended pieces ++ rest → length held ≤ limit → limit < line_length rest → (b : Bool) → nat_lt (line_length rest) (length rest) ≡ b → ⊥
unfolding ended
over_by limit held rest e pieces whole fits over true q =
    let low : line_length rest < length rest = grind (arith, nat_tests, q) in
    omega (arith, low, over, fits, ap length whole, length-append held (10 ∷ []), length-append (flat_map ended pieces) rest)
over_by limit held rest e pieces whole fits over false q =
    let high : length rest ≤ line_length rest = grind (arith, nat_tests, q) in
    let none : rest ≡ [] = nothing_left held (flat_map ended pieces) rest whole (omega (arith, high, length_within rest)) in
    omega (arith, over, high, length_within rest, ap length none)

-- nor does anything stand there that no message may begin with
pub nothing_over : (t : Transport) (limit : ℕ) (held rest : List ℕ) (xs : List (List ℕ)) (e : Excess) → limit < 2 ^ 31 → front t limit held ≡ Part → Spans t limit (at_end t held) xs rest → front t limit rest ≡ Exceeds e → ⊥
nothing_over Frames limit held rest xs e small part s over = none_over limit held rest e s.pieces small s.whole s.each part over
nothing_over Lines limit held rest xs e small part s over =
    over_by limit held rest e s.pieces s.whole (line_part limit held part).within (line_over limit rest e over).0 (nat_lt (line_length rest) (length rest)) refl

-- ---- more comes behind

over_stays : (limit : ℕ) (bytes more : List ℕ) (e : Excess) → line_front limit bytes ≡ Exceeds e → line_front limit (bytes ++ more) ≡ Exceeds e
over_stays limit bytes more e over =
    let h = line_over limit bytes e over in
    too_long limit (bytes ++ more) (omega (arith, h.0, longer bytes more)) ∙ ap Exceeds (sym h.1)

large_of : (limit : ℕ) (bytes more : List ℕ) (e : Excess) (f : frames.Front) → frames.front limit bytes ≡ f → of_frame f ≡ Exceeds e → front Frames limit (bytes ++ more) ≡ Exceeds e
large_of limit bytes more e frames.Part is over = absurd (cc)
large_of limit bytes more e (frames.Whole frame rest) is over = absurd (cc)
large_of limit bytes more e (frames.Large n) is over = ap of_frame (framing.large_stays limit bytes more n is) ∙ over

pub excess_stays : (t : Transport) (limit : ℕ) (bytes more : List ℕ) (e : Excess) → front t limit bytes ≡ Exceeds e → front t limit (bytes ++ more) ≡ Exceeds e
excess_stays Frames limit bytes more e over = large_of limit bytes more e (frames.front limit bytes) refl over
excess_stays Lines limit bytes more e over = over_stays limit bytes more e over

pub cuts_longer : (t : Transport) (limit : ℕ) (bytes rest more : List ℕ) (xs : List (List ℕ)) (e : Excess) → Cuts t limit bytes xs rest → front t limit rest ≡ Exceeds e → Cuts t limit (bytes ++ more) xs (rest ++ more)
cuts_longer t limit bytes rest more xs e c over = record {
  spans = record {
    pieces = c.spans.pieces;
    whole = ap (λ l. l ++ more) c.spans.whole ∙ append_assoc (flat_map (sent t) c.spans.pieces) rest more;
    each = c.spans.each;
    messages_are = c.spans.messages_are;
  };
  no_more = ap is_whole (excess_stays t limit rest more e over);
}

-- nothing begins with what no message may begin with
pub nothing_exceeds : (t : Transport) (limit : ℕ) (rest : List ℕ) (e : Excess) → rest ≡ [] → front t limit rest ≡ Exceeds e → ⊥
nothing_exceeds t limit rest e none over = let wrong : Part ≡ Exceeds e = sym (nothing_part t limit) ∙ (ap (front t limit) (sym none) ∙ over) in absurd (cc)

pub piece_within : (t : Transport) (limit : ℕ) (piece : List ℕ) → IsPiece t limit piece → length piece ≤ limit
piece_within Frames limit piece is = is
piece_within Lines limit piece is = is.within

pub end_longer : (t : Transport) (bytes : List ℕ) → length (at_end t bytes) ≤ length bytes + 1
unfolding ended
end_longer Frames bytes = omega arith
end_longer Lines bytes = omega (arith, length-append bytes (10 ∷ []))

-- a blank line more
by_blank : (limit : ℕ) (held : List ℕ) (f : Front) → line_front limit held ≡ f → is_blank_front f ≡ true → Spans Lines limit held [] (behind held f) × (length (behind held f) + 1 ≤ length held)
by_blank limit held Part is blank = absurd (cc)
by_blank limit held (Exceeds e) is blank = absurd (cc)
by_blank limit held (Whole line rest) is blank =
    let cut = line_cut limit held line rest is in
    (spans_blank limit held line rest cut blank, omega (arith, cut_longer Lines limit held line rest cut))

pub blank_gone : (limit : ℕ) (held : List ℕ) → is_blank_front (line_front limit held) ≡ true → Spans Lines limit held [] (behind held (line_front limit held)) × (length (behind held (line_front limit held)) + 1 ≤ length held)
blank_gone limit held blank = by_blank limit held (line_front limit held) refl blank

pub spans_more : (limit : ℕ) (a b c : List ℕ) → Spans Lines limit a [] b → Spans Lines limit b [] c → Spans Lines limit a [] c
spans_more limit a b c p q = subst (λ (l : List ℕ). Spans Lines limit l [] c) (append-nil a) (spans_on Lines limit a b b [] c [] [] p (append-nil b) q)
