-- Frames of messages that came one behind another.
use Rattle.std.proofs.Common.{◌≡◌, ℕ, ◌<◌, ◌≤◌, Bool, true, List, [], ◌∷◌, ◌++◌, length, take, drop, refl, sym, ap, ◌∙◌, subst, arith, append_assoc, append-nil}
use Rattle.std.specs.Int.{w32, to_be_bytes}
use Rattle.std.proofs.lemmas.List.{take-append-drop, length-take-le}
use Rattle.stream_messages.specs.declared.scan.Wire.{Wire}
use Rattle.stream_messages.specs.declared.framer.Behind.{Behind}
use Rattle.stream_messages.specs.declared.framer.Behind.TheVariants as behind
use Rattle.stream_messages.specs.Fronts.{whole, bad}
use Rattle.stream_messages.specs.Messages.{Tail, rest, refused, over, IsFirst, IsTail, Messages, AreMessages, frame, frames, mark, framed_tail, framed, Framed}
use Rattle.stream_messages.specs.Framing.{FramerState, GivesAll, Stands, EndsOpen, IsIdle}

-- ---- whole messages

pub are_longer : (wire : Wire) (limit : ℕ) (bytes more : List ℕ) (messages : List (List ℕ)) (left : List ℕ) → AreMessages wire limit bytes messages left → AreMessages wire limit (bytes ++ more) messages (left ++ more)
are_longer wire limit bytes more [] left h = ap (λ l. l ++ more) h
are_longer wire limit bytes more (m ∷ messages) left h = (h.0 ++ more, ap (λ l. l ++ more) h.1 ∙ append_assoc m h.0 more, h.2, are_longer wire limit h.0 more messages left h.3)

pub one_more_message : (wire : Wire) (limit : ℕ) (bytes : List ℕ) (messages : List (List ℕ)) (left m after : List ℕ) → AreMessages wire limit bytes messages left → left ≡ m ++ after → IsFirst wire limit whole m
    → AreMessages wire limit bytes (messages ++ m ∷ []) after
one_more_message wire limit bytes [] left m after h e f = (after, h ∙ e, f, refl)
one_more_message wire limit bytes (x ∷ messages) left m after h e f = (h.0, h.1, h.2, one_more_message wire limit h.0 messages left m after h.3 e f)

pub one_more_frame : (messages : List (List ℕ)) (m : List ℕ) → frames (messages ++ m ∷ []) ≡ frames messages ++ frame m
one_more_frame [] m = append-nil (frame m)
one_more_frame (x ∷ messages) m = ap (λ l. frame x ++ l) (one_more_frame messages m) ∙ sym (append_assoc (frame x) (frames messages) (frame m))

pub with_tail : (wire : Wire) (limit : ℕ) (bytes : List ℕ) (messages : List (List ℕ)) (left : List ℕ) (tail : Tail) → AreMessages wire limit bytes messages left → IsTail wire limit left tail → Messages wire limit bytes messages tail
with_tail wire limit bytes [] left tail h t = subst (λ l. IsTail wire limit l tail) (sym h) t
with_tail wire limit bytes (x ∷ messages) left tail h t = (h.0, h.1, h.2, with_tail wire limit h.0 messages left tail h.3 t)

pub framed_is : (messages : List (List ℕ)) (tail : Tail) (ended : Bool) → framed messages tail ended ≡ frames messages ++ framed_tail tail ended
framed_is [] tail ended = refl
framed_is (x ∷ messages) tail ended = ap (λ l. frame x ++ l) (framed_is messages tail ended) ∙ sym (append_assoc (frame x) (frames messages) (framed_tail tail ended))

pub all_framed : (wire : Wire) (limit : ℕ) (bytes : List ℕ) (messages : List (List ℕ)) (left : List ℕ) (tail : Tail) (ended : Bool) (out : List ℕ) → AreMessages wire limit bytes messages left → IsTail wire limit left tail
    → out ≡ frames messages ++ framed_tail tail ended → Framed wire limit bytes ended out
all_framed wire limit bytes messages left tail ended out h t e = (messages, tail, with_tail wire limit bytes messages left tail h t, e ∙ sym (framed_is messages tail ended))

-- ---- what the framer does

-- what was handed out was due
pub gives_due : (behind : Behind) (wire : Wire) (limit : ℕ) (s t : FramerState) (received given piece : List ℕ) (ended : Bool) → t.wire ≡ s.wire → t.limit ≡ s.limit → t.fresh ≡ s.fresh → t.behind ≡ s.behind
    → s.due ≡ piece ++ t.due → Stands wire limit s received ended given → Stands wire limit t received ended (given ++ piece)
gives_due _ wire limit s t received given piece ended w l f b d stands = record {
  wire_is = w ∙ stands.wire_is;
  limit_is = l ∙ stands.limit_is;
  messages = stands.messages;
  left = stands.left;
  are = stands.are;
  out = subst (λ b. GivesAll wire limit b t.fresh stands.left ended stands.messages ((given ++ piece) ++ t.due)) (sym b)
      (subst (λ f. GivesAll wire limit s.behind f stands.left ended stands.messages ((given ++ piece) ++ t.due)) (sym f)
      (subst (λ o. GivesAll wire limit s.behind s.fresh stands.left ended stands.messages o) (ap (λ l. given ++ l) d ∙ sym (append_assoc given piece t.due)) stands.out));
}

-- nothing is due, and more messages may come
pub going_on : (wire : Wire) (limit : ℕ) (s : FramerState) (received given : List ℕ) (ended : Bool) → s.due ≡ [] → s.behind ≡ behind.Messages → Stands wire limit s received ended given
    → (messages : List (List ℕ)) × AreMessages wire limit received messages s.fresh × (given ≡ frames messages)
going_on wire limit s received given ended due b stands =
    let out : GivesAll wire limit behind.Messages s.fresh stands.left ended stands.messages (given ++ s.due) = subst (λ b. GivesAll wire limit b s.fresh stands.left ended stands.messages (given ++ s.due)) b stands.out in (
      stands.messages,
      subst (λ l. AreMessages wire limit received stands.messages l) (sym out.0) stands.are,
      sym (append-nil given) ∙ (ap (λ l. given ++ l) (sym due) ∙ out.1),
    )

-- a message is whole
pub message_found : (wire : Wire) (limit : ℕ) (s t : FramerState) (received given : List ℕ) (ended : Bool) (n : ℕ) → s.due ≡ [] → s.behind ≡ behind.Messages → n ≤ length s.fresh → IsFirst s.wire s.limit whole (take n s.fresh)
    → t ≡ record s { due = to_be_bytes w32 n ++ take n s.fresh; fresh = drop n s.fresh } → Stands wire limit s received ended given → Stands wire limit t received ended given
message_found wire limit s t received given ended n due b within first is stands =
    subst (λ (t : FramerState). Stands wire limit t received ended given) (sym is)
    (let g = going_on wire limit s received given ended due b stands in
    let count : length (take n s.fresh) ≡ n = length-take-le n s.fresh within in
    let first_here : IsFirst wire limit whole (take n s.fresh) = subst (λ w. IsFirst w limit whole (take n s.fresh)) stands.wire_is (subst (λ l. IsFirst s.wire l whole (take n s.fresh)) stands.limit_is first) in
    record {
      wire_is = stands.wire_is;
      limit_is = stands.limit_is;
      messages = g.0 ++ take n s.fresh ∷ [];
      left = drop n s.fresh;
      are = one_more_message wire limit received g.0 s.fresh (take n s.fresh) (drop n s.fresh) g.1 (sym (take-append-drop n s.fresh)) first_here;
      out = subst (λ b. GivesAll wire limit b (drop n s.fresh) (drop n s.fresh) ended (g.0 ++ take n s.fresh ∷ []) (given ++ (to_be_bytes w32 n ++ take n s.fresh))) (sym b)
          (refl, ap (λ l. l ++ (to_be_bytes w32 n ++ take n s.fresh)) g.2 ∙ (ap (λ k. frames g.0 ++ (to_be_bytes w32 k ++ take n s.fresh)) (sym count) ∙ sym (one_more_frame g.0 (take n s.fresh))));
    })

-- a front is refused
pub refused_found : (wire : Wire) (limit : ℕ) (s t : FramerState) (received given : List ℕ) (ended : Bool) (n : ℕ) → s.due ≡ [] → s.behind ≡ behind.Messages → n ≤ length s.fresh → IsFirst s.wire s.limit bad (take n s.fresh)
    → t ≡ record s { due = to_be_bytes w32 n ++ take n s.fresh; fresh = drop n s.fresh; behind = behind.Mark } → Stands wire limit s received ended given → Stands wire limit t received ended given
refused_found wire limit s t received given ended n due b within first is stands =
    subst (λ (t : FramerState). Stands wire limit t received ended given) (sym is)
    (let g = going_on wire limit s received given ended due b stands in
    let count : length (take n s.fresh) ≡ n = length-take-le n s.fresh within in
    record {
      wire_is = stands.wire_is;
      limit_is = stands.limit_is;
      messages = g.0;
      left = s.fresh;
      are = g.1;
      out = (
        take n s.fresh,
        drop n s.fresh,
        sym (take-append-drop n s.fresh),
        subst (λ w. IsFirst w limit bad (take n s.fresh)) stands.wire_is (subst (λ l. IsFirst s.wire l bad (take n s.fresh)) stands.limit_is first),
        ap (λ l. l ++ (to_be_bytes w32 n ++ take n s.fresh)) g.2 ∙ ap (λ k. frames g.0 ++ (to_be_bytes w32 k ++ take n s.fresh)) (sym count),
      );
    })

-- a message is too long
pub over_found : (wire : Wire) (limit : ℕ) (s t : FramerState) (received given : List ℕ) (ended : Bool) → s.due ≡ [] → s.behind ≡ behind.Messages → IsTail s.wire s.limit s.fresh over
    → t ≡ record s { due = mark; fresh = []; behind = behind.Nothing } → Stands wire limit s received ended given → Stands wire limit t received ended given
over_found wire limit s t received given ended due b tail is stands =
    subst (λ (t : FramerState). Stands wire limit t received ended given) (sym is)
    (let g = going_on wire limit s received given ended due b stands in
    record {
      wire_is = stands.wire_is;
      limit_is = stands.limit_is;
      messages = g.0;
      left = s.fresh;
      are = g.1;
      out = (
        over,
        tt,
        subst (λ w. IsTail w limit s.fresh over) stands.wire_is (subst (λ l. IsTail s.wire l s.fresh over) stands.limit_is tail),
        ap (λ l. l ++ mark) g.2,
      );
    })

-- the mark stands behind a refused front
pub mark_behind : (wire : Wire) (limit : ℕ) (s t : FramerState) (received given : List ℕ) (ended : Bool) → s.due ≡ [] → s.behind ≡ behind.Mark
    → t ≡ record s { due = mark; fresh = []; behind = behind.Nothing } → Stands wire limit s received ended given → Stands wire limit t received ended given
mark_behind wire limit s t received given ended due b is stands =
    subst (λ (t : FramerState). Stands wire limit t received ended given) (sym is)
    (let out : GivesAll wire limit behind.Mark s.fresh stands.left ended stands.messages (given ++ s.due) = subst (λ b. GivesAll wire limit b s.fresh stands.left ended stands.messages (given ++ s.due)) b stands.out in
    record {
      wire_is = stands.wire_is;
      limit_is = stands.limit_is;
      messages = stands.messages;
      left = stands.left;
      are = stands.are;
      out = (
        refused out.0,
        tt,
        (out.1, out.2, out.3),
        ap (λ l. l ++ mark) (sym (append-nil given) ∙ (ap (λ l. given ++ l) (sym due) ∙ out.4)) ∙ append_assoc (frames stands.messages) (frame out.0) mark,
      );
    })

-- the side ended inside a message
pub ended_inside : (wire : Wire) (limit : ℕ) (s t : FramerState) (received given : List ℕ) (ended : Bool) → IsIdle s → s.behind ≡ behind.Messages → (0 < length s.fresh)
    → t ≡ record s { due = 0 ∷ []; fresh = []; behind = behind.End } → Stands wire limit s received ended given → Stands wire limit t received true given
ended_inside wire limit s t received given ended idle b some is stands =
    subst (λ (t : FramerState). Stands wire limit t received true given) (sym is)
    (let g = going_on wire limit s received given ended idle.due b stands in
    let open_end : IsTail s.wire s.limit s.fresh (rest s.fresh) = subst (λ b. EndsOpen s b) b idle.open_end in
    record {
      wire_is = stands.wire_is;
      limit_is = stands.limit_is;
      messages = g.0;
      left = s.fresh;
      are = g.1;
      out = (
        refl,
        subst (λ w. IsTail w limit s.fresh (rest s.fresh)) stands.wire_is (subst (λ l. IsTail s.wire l s.fresh (rest s.fresh)) stands.limit_is open_end),
        ap (λ l. l ++ 0 ∷ []) g.2 ∙ ap (λ l. frames g.0 ++ l) (one_byte s.fresh some),
      );
    })
  where
    one_byte : (l : List ℕ) → 0 < length l → 0 ∷ [] ≡ framed_tail (rest l) true
    one_byte [] h = absurd (omega (arith, h))
    one_byte (x ∷ l) h = refl

-- the side has ended, behind whole messages
pub ended_between : (wire : Wire) (limit : ℕ) (s : FramerState) (received given : List ℕ) (ended : Bool) → s.behind ≡ behind.Messages → Stands wire limit s received ended given → Stands wire limit s received true given
ended_between wire limit s received given ended b stands = record {
  wire_is = stands.wire_is;
  limit_is = stands.limit_is;
  messages = stands.messages;
  left = stands.left;
  are = stands.are;
  out = subst (λ b. GivesAll wire limit b s.fresh stands.left true stands.messages (given ++ s.due)) (sym b)
      (subst (λ b. GivesAll wire limit b s.fresh stands.left ended stands.messages (given ++ s.due)) b stands.out);
}

-- more has come
pub came : (wire : Wire) (limit : ℕ) (s t : FramerState) (received given piece : List ℕ) (ended : Bool) → s.behind ≡ behind.Messages → t ≡ record s { fresh = s.fresh ++ piece } → Stands wire limit s received ended given → Stands wire limit t (received ++ piece) ended given
came wire limit s t received given piece ended b is stands =
    subst (λ (t : FramerState). Stands wire limit t (received ++ piece) ended given) (sym is)
    (let out : GivesAll wire limit behind.Messages s.fresh stands.left ended stands.messages (given ++ s.due) = subst (λ b. GivesAll wire limit b s.fresh stands.left ended stands.messages (given ++ s.due)) b stands.out in
    record {
      wire_is = stands.wire_is;
      limit_is = stands.limit_is;
      messages = stands.messages;
      left = stands.left ++ piece;
      are = are_longer wire limit received piece stands.messages stands.left stands.are;
      out = subst (λ b. GivesAll wire limit b (s.fresh ++ piece) (stands.left ++ piece) ended stands.messages (given ++ s.due)) (sym b) (ap (λ l. l ++ piece) out.0, out.1);
    })

-- where nothing is to be handed out, all was
pub nothing_left : (wire : Wire) (limit : ℕ) (s : FramerState) (received given : List ℕ) (ended : Bool) → IsIdle s → (s.behind ≡ behind.Messages → framed_tail (rest s.fresh) ended ≡ []) → Stands wire limit s received ended given → Framed wire limit received ended given
nothing_left wire limit s received given ended idle none stands = by s.behind refl idle.open_end stands.out
  where
    all : given ++ s.due ≡ given
    all = ap (λ l. given ++ l) idle.due ∙ append-nil given

    by : (b : Behind) → s.behind ≡ b → EndsOpen s b → GivesAll wire limit b s.fresh stands.left ended stands.messages (given ++ s.due) → Framed wire limit received ended given
    by behind.Messages e o out =
        let g = going_on wire limit s received given ended idle.due e stands in
        all_framed wire limit received g.0 s.fresh (rest s.fresh) ended given g.1
        (subst (λ w. IsTail w limit s.fresh (rest s.fresh)) stands.wire_is (subst (λ l. IsTail s.wire l s.fresh (rest s.fresh)) stands.limit_is o))
        (g.2 ∙ (sym (append-nil (frames g.0)) ∙ ap (λ l. frames g.0 ++ l) (sym (none e))))
    by behind.Mark e o out = absurd o
    by behind.Nothing e o out = all_framed wire limit received stands.messages stands.left out.0 ended given stands.are out.2 (sym all ∙ out.3)
    by behind.End e o out =
        subst (λ t. Framed wire limit received t given) (sym out.0)
        (all_framed wire limit received stands.messages stands.left (rest stands.left) true given stands.are out.1 (sym all ∙ out.2))
