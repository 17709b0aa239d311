-- A stream of messages without lengths, cut into its messages and a tail; the frames that stand for it; and frames without their
-- lengths.
use Rattle.std.specs.Prelude.{◌≡◌, ℕ, ◌+◌, ◌<◌, ◌≤◌, Bool, true, false, List, [], ◌∷◌, ◌++◌, length, take}
use Rattle.std.specs.Int.{w32, to_be_bytes, from_be_bytes}
use Rattle.stream_messages.specs.declared.scan.Wire.{Wire}
use Rattle.stream_messages.specs.Fronts.{Found, whole, cut, bad, IsFront}

-- What stands behind the whole messages: the beginning of a message, or nothing; the shortest front that begins no message or
-- calls for a value that lies too deep; or as many bytes of one message as the limit allows.
pub data Tail : Type 0 where
  rest : List ℕ → Tail
  refused : List ℕ → Tail
  over : Tail

-- each front of fewer bytes is the beginning of a message
abbrev pub BeginsUpTo : Wire → ℕ → List ℕ → Type 0
BeginsUpTo wire size bytes = (k : ℕ) → k < size → IsFront wire cut (take k bytes)

-- This is found of the front, which the limit allows, and of no shorter one anything but the beginning of a message.
pub record IsFirst (wire : Wire) (limit : ℕ) (found : Found) (front : List ℕ) : Type 0 where
  pub within : length front ≤ limit
  pub is : IsFront wire found front
  pub begins : BeginsUpTo wire (length front) front

abbrev pub IsTail : Wire → ℕ → List ℕ → Tail → Type 0
IsTail wire limit bytes (rest r) = (bytes ≡ r) × (length r < limit) × BeginsUpTo wire (length r + 1) r
IsTail wire limit bytes (refused front) = (behind : List ℕ) × (bytes ≡ front ++ behind) × IsFirst wire limit bad front
IsTail wire limit bytes over = (limit ≤ length bytes) × BeginsUpTo wire (limit + 1) bytes

-- the messages, one behind another, and the tail
abbrev pub Messages : Wire → ℕ → List ℕ → List (List ℕ) → Tail → Type 0
Messages wire limit bytes [] tail = IsTail wire limit bytes tail
Messages wire limit bytes (message ∷ messages) tail =
    (behind : List ℕ) × (bytes ≡ message ++ behind) × IsFirst wire limit whole message × Messages wire limit behind messages tail

-- it is cut so into some messages and a tail
abbrev pub IsCut : Wire → ℕ → List ℕ → Type 0
IsCut wire limit bytes = (messages : List (List ℕ)) × (tail : Tail) × Messages wire limit bytes messages tail

-- whole messages, one behind another, and what stands behind them
abbrev pub AreMessages : Wire → ℕ → List ℕ → List (List ℕ) → List ℕ → Type 0
AreMessages wire limit bytes [] left = bytes ≡ left
AreMessages wire limit bytes (message ∷ messages) left =
    (behind : List ℕ) × (bytes ≡ message ++ behind) × IsFirst wire limit whole message × AreMessages wire limit behind messages left

-- a frame: the length in four bytes, big endian, and the content
abbrev pub frame : List ℕ → List ℕ
frame content = to_be_bytes w32 (length content) ++ content

abbrev pub frames : List (List ℕ) → List ℕ
frames [] = []
frames (message ∷ messages) = frame message ++ frames messages

-- the length -1, behind which nothing comes
abbrev pub mark : List ℕ
mark = 255 ∷ 255 ∷ 255 ∷ 255 ∷ []

-- of a side that ended inside a message one byte tells that its end came too early
abbrev pub framed_tail : Tail → Bool → List ℕ
framed_tail (rest []) ended = []
framed_tail (rest (byte ∷ bytes)) true = 0 ∷ []
framed_tail (rest (byte ∷ bytes)) false = []
framed_tail (refused front) ended = frame front ++ mark
framed_tail over ended = mark

abbrev pub framed : List (List ℕ) → Tail → Bool → List ℕ
framed [] tail ended = framed_tail tail ended
framed (message ∷ messages) tail ended = frame message ++ framed messages tail ended

-- the bytes of a stream, as frames, where its side has ended or may go on
abbrev pub Framed : Wire → ℕ → List ℕ → Bool → List ℕ → Type 0
Framed wire limit bytes ended frames = (messages : List (List ℕ)) × (tail : Tail) × Messages wire limit bytes messages tail × (frames ≡ framed messages tail ended)

-- Frames without their lengths, which are read without a sign: a length that isn't whole, one whose content isn't, or a whole frame
-- with others behind it.
pub data Strips : List ℕ → List ℕ → Type 0 where
  no_length : (bytes : List ℕ) → length bytes < 4 → Strips bytes []
  part : (a b c d : ℕ) (content : List ℕ) → length content < from_be_bytes w32 (a ∷ b ∷ c ∷ d ∷ []) → Strips (a ∷ b ∷ c ∷ d ∷ content) content
  one_frame : (a b c d : ℕ) (content frames rest : List ℕ) → length content ≡ from_be_bytes w32 (a ∷ b ∷ c ∷ d ∷ []) → Strips frames rest
      → Strips (a ∷ b ∷ c ∷ d ∷ (content ++ frames)) (content ++ rest)
