-- What a hub over another one tells that was received are bytes, where what the hub below tells are. Nothing here has to be believed.
use Rattle.std.specs.Prelude.{◌≡◌, ℕ, Bool, true, false, List, [], ◌∷◌, ◌++◌, length, Option, None, Some}
use Rattle.std.proofs.Common.{sym, subst, arith, refl}
use Rattle.std.specs.Int.{w32, to_be_bytes}
use Rattle.gate_base.specs.Bytes.{AreBytes}
use Rattle.gate_hub.specs.Meaning.{Link, Told, Meaning, link_of}
use Rattle.gate_hub.specs.declared.hub.Side.{Side}
use Rattle.gate_hub.specs.declared.hub.Side.TheVariants as side
use Rattle.stream_messages.specs.declared.scan.Wire.{Wire}
use Rattle.stream_messages.specs.declared.lane.Lane.{Lane}
use Rattle.stream_messages.specs.declared.lanes.Wrapping.{Wrapping}
use Rattle.stream_messages.specs.declared.slots.Slots.{Slots}
use Rattle.stream_messages.specs.declared.framer.Behind.{Behind}
use Rattle.stream_messages.specs.declared.framer.Behind.TheVariants as behind
use Rattle.stream_messages.specs.Messages.{Tail, rest, refused, over, AreMessages, frame, frames, mark, framed_tail, IsTail}
use Rattle.stream_messages.specs.Framing.{GivesAll}
use Rattle.stream_messages.specs.Lanes.{WrapsSide}
use Rattle.stream_messages.specs.Telling.{open_slots, TellsSession, TellsOver}

bytes_join : (xs ys : List ℕ) → AreBytes xs → AreBytes ys → AreBytes (xs ++ ys)
bytes_join [] ys a b = b
bytes_join (x ∷ xs) ys a b = (a.0, bytes_join xs ys a.1 b)

bytes_parts : (xs ys : List ℕ) → AreBytes (xs ++ ys) → AreBytes xs × AreBytes ys
bytes_parts [] ys a = (tt, a)
bytes_parts (x ∷ xs) ys a = let p = bytes_parts xs ys a.1 in ((a.0, p.0), p.1)

length_bytes : (n : ℕ) → AreBytes (to_be_bytes w32 n)
length_bytes n = (omega arith, (omega arith, (omega arith, (omega arith, tt))))

frame_bytes : (content : List ℕ) → AreBytes content → AreBytes (frame content)
frame_bytes content are = bytes_join (to_be_bytes w32 (length content)) content (length_bytes (length content)) are

mark_bytes : AreBytes mark
mark_bytes = (omega arith, (omega arith, (omega arith, (omega arith, tt))))

-- the frames of messages, and what is left behind those
frames_bytes : (wire : Wire) (limit : ℕ) (bytes : List ℕ) (messages : List (List ℕ)) (left : List ℕ) → AreBytes bytes → AreMessages wire limit bytes messages left → AreBytes (frames messages) × AreBytes left
frames_bytes wire limit bytes [] left are h = (tt, subst AreBytes h are)
frames_bytes wire limit bytes (m ∷ messages) left are h =
    let parts = bytes_parts m h.0 (subst AreBytes h.1 are) in
    let others = frames_bytes wire limit h.0 messages left parts.1 h.3 in
    (bytes_join (frame m) (frames messages) (frame_bytes m parts.0) others.0, others.1)

tail_bytes : (wire : Wire) (limit : ℕ) (left : List ℕ) (tail : Tail) (ended : Bool) → AreBytes left → IsTail wire limit left tail → AreBytes (framed_tail tail ended)
tail_bytes wire limit left (rest []) ended are h = tt
tail_bytes wire limit left (rest (x ∷ r)) true are h = (omega arith, tt)
tail_bytes wire limit left (rest (x ∷ r)) false are h = tt
tail_bytes wire limit left (refused front) ended are h = bytes_join (frame front) mark (frame_bytes front (bytes_parts front h.0 (subst AreBytes h.1 are)).0) mark_bytes
tail_bytes wire limit left over ended are h = mark_bytes

out_bytes : (wire : Wire) (limit : ℕ) (b : Behind) (fresh left : List ℕ) (ended : Bool) (messages : List (List ℕ)) (out : List ℕ) → AreBytes (frames messages) → AreBytes left → GivesAll wire limit b fresh left ended messages out → AreBytes out
out_bytes wire limit behind.Messages fresh left ended messages out f l h = subst AreBytes (sym h.1) f
out_bytes wire limit behind.Mark fresh left ended messages out f l h =
    subst AreBytes (sym h.4) (bytes_join (frames messages) (frame h.0) f (frame_bytes h.0 (bytes_parts h.0 h.1 (subst AreBytes h.2 l)).0))
out_bytes wire limit behind.Nothing fresh left ended messages out f l h =
    subst AreBytes (sym h.3) (bytes_join (frames messages) (framed_tail h.0 ended) f (tail_bytes wire limit left h.0 ended l h.2))
out_bytes wire limit behind.End fresh left ended messages out f l h =
    subst AreBytes (sym h.2) (bytes_join (frames messages) (framed_tail (rest left) true) f (tail_bytes wire limit left (rest left) true l h.1))

given_bytes : (wire : Option Wire) (limit : ℕ) (lane : Option Lane) (inner outer : Link) → AreBytes inner.received → WrapsSide wire limit lane inner outer → AreBytes outer.received
given_bytes None limit None inner outer are h = subst AreBytes (sym h.received) are
given_bytes None limit (Some lane) inner outer are h = absurd h
given_bytes (Some wire) limit None inner outer are h = absurd h
given_bytes (Some wire) limit (Some lane) inner outer are h =
    let s = h.reads.stands in
    let f = frames_bytes wire limit inner.received s.messages s.left are s.are in
    (bytes_parts outer.received lane.framer.due (out_bytes wire limit lane.framer.behind lane.framer.fresh s.left inner.ended s.messages (outer.received ++ lane.framer.due) f.0 f.1 s.out)).0

pub bytes_over : (told : Meaning → Type 0) (w : Wrapping) (slots : Option Slots) → ((n : Meaning) → told n → (k : ℕ) (x : Side) → AreBytes (link_of (n.session k) x).received)
    → (m : Meaning) → TellsOver told w slots m → (k : ℕ) (x : Side) → AreBytes (link_of (m.session k) x).received
bytes_over told w slots below m tells k x = by (tells.0.session k).announced refl
  where
    by_side : (x : Side) → AreBytes (link_of (tells.0.session k) x).received → TellsSession w (open_slots slots) k (tells.0.session k) (m.session k) → AreBytes (link_of (m.session k) x).received
    by_side side.Client are t = given_bytes w.client w.limit t.lanes.client (tells.0.session k).client (m.session k).client are t.wraps.client
    by_side side.Upstream are t = given_bytes w.upstream w.limit t.lanes.upstream (tells.0.session k).upstream (m.session k).upstream are t.wraps.upstream

    by : (b : Bool) → (tells.0.session k).announced ≡ b → AreBytes (link_of (m.session k) x).received
    by true e = by_side x (below tells.0 tells.1 k x) (tells.2.announced k e)
    by false e = subst (λ (t : Told). AreBytes (link_of t x).received) (sym (tells.2.unknown k e)) (below tells.0 tells.1 k x)
