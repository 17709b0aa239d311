-- What is told of a side without lengths.
use Rattle.std.proofs.Common.{◌≡◌, ℕ, ◌+◌, ◌<◌, ◌^◌, Bool, true, List, [], ◌∷◌, ◌++◌, length, Option, None, Some, refl, sym, ap, ◌∙◌, subst, arith, append_assoc, append-nil}
use Rattle.gate_base.specs.Bytes.{AreBytes}
use Rattle.gate_hub.specs.Meaning.{Link}
use Rattle.gate_hub.specs.declared.hub.LinkGot.TheVariants as got
use Rattle.stream_messages.specs.declared.scan.Wire.{Wire}
use Rattle.stream_messages.specs.declared.lane.Lane.{Lane}
use Rattle.stream_messages.specs.declared.framer.Behind.{Behind}
use Rattle.stream_messages.specs.declared.framer.Behind.TheVariants as behind
use Rattle.stream_messages.specs.Messages.{Tail, rest, refused, over, IsTail, Messages, AreMessages, frame, frames, mark, framed_tail, framed, Framed, Strips, no_length, part, one_frame}
use Rattle.stream_messages.specs.Framing.{GivesAll, Stands}
use Rattle.stream_messages.specs.Stripping.{StripperState, StripsTo, in_length, in_content, behind_frame}
use Rattle.stream_messages.specs.Lanes.{WrapsSide}
use Rattle.unframed_laws.specs.Wrapped.{IsFramed, SideIs}

-- each stream of bytes is cut
abbrev pub IsCut : Type 0
IsCut = (wire : Wire) (limit : ℕ) (stream : List ℕ) → 0 < limit → limit < 2 ^ 64 → AreBytes stream → (messages : List (List ℕ)) × (tail : Tail) × Messages wire limit stream messages tail

bytes_behind : (front after : List ℕ) → AreBytes (front ++ after) → AreBytes after
bytes_behind [] after h = h
bytes_behind (x ∷ front) after h = bytes_behind front after h.1

left_bytes : (wire : Wire) (limit : ℕ) (bytes : List ℕ) (messages : List (List ℕ)) (left : List ℕ) → AreMessages wire limit bytes messages left → AreBytes bytes → AreBytes left
left_bytes wire limit bytes [] left h are = subst AreBytes h are
left_bytes wire limit bytes (m ∷ messages) left h are = left_bytes wire limit h.0 messages left h.3 (bytes_behind m h.0 (subst AreBytes h.1 are))

-- whole messages, and what is cut behind them
cut_behind : (wire : Wire) (limit : ℕ) (bytes : List ℕ) (messages : List (List ℕ)) (left : List ℕ) (others : List (List ℕ)) (tail : Tail) → AreMessages wire limit bytes messages left → Messages wire limit left others tail → Messages wire limit bytes (messages ++ others) tail
cut_behind wire limit bytes [] left others tail h k = subst (λ l. Messages wire limit l others tail) (sym h) k
cut_behind wire limit bytes (m ∷ messages) left others tail h k = (h.0, h.1, h.2, cut_behind wire limit h.0 messages left others tail h.3 k)

framed_behind : (messages others : List (List ℕ)) (tail : Tail) (ended : Bool) → framed (messages ++ others) tail ended ≡ frames messages ++ framed others tail ended
framed_behind [] others tail ended = refl
framed_behind (m ∷ messages) others tail ended =
    ap (λ l. frame m ++ l) (framed_behind messages others tail ended) ∙ sym (append_assoc (frame m) (frames messages) (framed others tail ended))

abbrev HasFront : Wire → ℕ → List ℕ → Bool → List ℕ → Type 0
HasFront wire limit received ended given = (frames : List ℕ) × (more : List ℕ) × Framed wire limit received ended frames × (frames ≡ given ++ more)

-- what is handed out, with what is due and comes behind it, are the frames
by_parts : (wire : Wire) (limit : ℕ) (received : List ℕ) (ended : Bool) (messages others : List (List ℕ)) (left : List ℕ) (tail : Tail) (given due later : List ℕ) → AreMessages wire limit received messages left → Messages wire limit left others tail
    → (given ++ due) ++ later ≡ frames messages ++ framed others tail ended → HasFront wire limit received ended given
by_parts wire limit received ended messages others left tail given due later are cut e = (
  framed (messages ++ others) tail ended,
  due ++ later,
  (messages ++ others, tail, cut_behind wire limit received messages left others tail are cut, refl),
  framed_behind messages others tail ended ∙ (sym e ∙ append_assoc given due later),
)

front_of : (wire : Wire) (limit : ℕ) (b : Behind) (fresh received : List ℕ) (ended : Bool) (messages : List (List ℕ)) (left given due : List ℕ) → IsCut → 0 < limit → limit < 2 ^ 31 → AreBytes received → AreMessages wire limit received messages left
    → GivesAll wire limit b fresh left ended messages (given ++ due) → HasFront wire limit received ended given
front_of wire limit behind.Messages fresh received ended messages left given due cuts some small bytes are out =
    let c = cuts wire limit left some (omega (arith, small)) (left_bytes wire limit received messages left are bytes) in
    by_parts wire limit received ended messages c.0 left c.1 given due (framed c.0 c.1 ended) are c.2 (ap (λ l. l ++ framed c.0 c.1 ended) out.1)
front_of wire limit behind.Mark fresh received ended messages left given due cuts some small bytes are out =
    by_parts wire limit received ended messages [] left (refused out.0) given due mark are (out.1, out.2, out.3)
    (ap (λ l. l ++ mark) out.4 ∙ append_assoc (frames messages) (frame out.0) mark)
front_of wire limit behind.Nothing fresh received ended messages left given due cuts some small bytes are out =
    by_parts wire limit received ended messages [] left out.0 given due [] are out.2 (append-nil (given ++ due) ∙ out.3)
front_of wire limit behind.End fresh received ended messages left given due cuts some small bytes are out =
    by_parts wire limit received ended messages [] left (rest left) given due [] are out.1
    (append-nil (given ++ due) ∙ (out.2 ∙ ap (λ e. frames messages ++ framed_tail (rest left) e) (sym out.0)))

-- what was written, without the lengths
stripped_of : (s : StripperState) (written sent : List ℕ) → StripsTo s written sent → Strips written sent
stripped_of _ _ _ (in_length bytes h) = no_length bytes h
stripped_of _ _ _ (in_content a b c d left content size some) = part a b c d content (omega (arith, size, some))
stripped_of _ _ _ (behind_frame s a b c d content written sent size h) = one_frame a b c d content written sent size (stripped_of s written sent h)

pub side_is : (wire : Option Wire) (limit : ℕ) (lane : Option Lane) (inner outer : Link) → IsCut → 0 < limit → limit < 2 ^ 31 → AreBytes inner.received → WrapsSide wire limit lane inner outer → SideIs wire limit inner outer
side_is None limit None inner outer cuts some small bytes h = h
side_is None limit (Some lane) inner outer cuts some small bytes h = absurd h
side_is (Some wire) limit None inner outer cuts some small bytes h = absurd h
side_is (Some wire) limit (Some lane) inner outer cuts some small bytes h =
    let s = h.reads.stands in
    record {
      front = front_of wire limit lane.framer.behind lane.framer.fresh inner.received inner.ended s.messages s.left outer.received lane.framer.due cuts some small bytes s.are s.out;
      not_ready = h.reads.not_ready;
      at_end = λ e. h.reads.all (h.reads.end_told e);
      stripped = stripped_of lane.stripper outer.sent inner.sent h.writes;
    }
