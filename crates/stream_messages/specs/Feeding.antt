-- What a scan has read, and what it answers to the next piece.
use Rattle.std.specs.Prelude.{◌≡◌, ℕ, ◌+◌, ◌^◌, ◌<◌, ◌≤◌, List, [], ◌∷◌, ◌++◌, length, take, drop, Bool}
use Rattle.gate_base.specs.Bytes.{AreBytes}
use Rattle.protocol_traits.specs.declared.nest.Slot.{Slot}
use Rattle.stream_messages.specs.declared.scan.Wire.{Wire}
use Rattle.stream_messages.specs.declared.scan.Cut.{Cut}
use Rattle.stream_messages.specs.declared.scan.Cut.TheVariants as cuts
use Rattle.stream_messages.specs.declared.scan.Taken.{Taken}
use Rattle.stream_messages.specs.declared.scan.Taken.TheVariants as took
use Rattle.stream_messages.specs.declared.parts.Next.{Next}
use Rattle.stream_messages.specs.declared.parts.Next.TheVariants as next
use Rattle.stream_messages.specs.declared.parts.Part.{Part}
use Rattle.stream_messages.specs.Fronts.{Found, whole, cut, bad, IsBody, IsFront}
use Rattle.stream_messages.specs.Scanning.{Scanning, step_of}

-- ---- what a scan has read so far

-- an item that ends behind so many bytes and leaves these levels, one that the bytes end inside, or none
pub data Ran : Type 0 where
  goes : List Slot → ℕ → Ran
  short : Ran
  wrong : Ran

abbrev pub behind : Ran → Ran
behind (goes nest size) = goes nest (size + 1)
behind short = short
behind wrong = wrong

abbrev pub led : Next → List Slot → (Part → List Slot → Ran) → Ran
led (next.Part part) nest go = behind (go part nest)
led next.Ended nest go = goes nest 1
led next.Bad nest go = wrong

-- byte by byte, up to the end of the item that has begun
abbrev pub run : Wire → List ℕ → Part → List Slot → Ran
run wire [] part nest = short
run wire (byte ∷ more) part nest = led (step_of wire part byte nest).0 (step_of wire part byte nest).1 (run wire more)

-- what the bytes are behind the item
abbrev pub RanTo : Wire → Found → List ℕ → Ran → Type 0
RanTo wire found more (goes nest size) = (flag : Bool) → IsBody wire found nest flag (drop size more)
RanTo wire found more short = found ≡ cut
RanTo wire found more wrong = found ≡ bad

-- what a scan would find in these bytes
abbrev pub Finds : Scanning → Found → List ℕ → Type 0
Finds s found more = RanTo s.wire found more (run s.wire more s.part s.nest)

-- Of the message the scan has read this front, and each front of it is the beginning of a message; the limit leaves one byte more.
pub record HasRead (s : Scanning) (front : List ℕ) : Type 0 where
  pub taken : s.taken ≡ length front
  pub room : length front < s.limit
  pub fits : s.limit < 2 ^ 64
  pub begins : (n : ℕ) → n ≤ length front → IsFront s.wire cut (take n front)
  pub goes_on : (found : Found) (more : List ℕ) → AreBytes more → Finds s found more → IsFront s.wire found (front ++ more)

-- ---- what it answers

-- Each shorter front is the beginning of a message, and with so many bytes of the piece it is what was found, within the limit.
pub record EndsAt (s : Scanning) (front piece : List ℕ) (found : Found) (n : ℕ) : Type 0 where
  pub some : 0 < n
  pub within : n ≤ length piece
  pub begins : (k : ℕ) → k < length front + n → IsFront s.wire cut (take k (front ++ piece))
  pub is : IsFront s.wire found (take (length front + n) (front ++ piece))
  pub limit : length front + n ≤ s.limit

-- More: the whole piece belongs to the beginning of a message. Whole: the message ends here. Bad: this is the shortest front that
-- begins no message or calls for a value too deep. Over: a beginning of a message that is as long as the limit.
abbrev pub Answers : Scanning → List ℕ → List ℕ → Cut → Scanning → Type 0
Answers s front piece cuts.More new = HasRead new (front ++ piece) × (new.wire ≡ s.wire) × (new.limit ≡ s.limit)
Answers s front piece (cuts.Whole n) new = EndsAt s front piece whole n
Answers s front piece (cuts.Bad n) new = EndsAt s front piece bad n
Answers s front piece (cuts.Over n) new = EndsAt s front piece cut n × (length front + n ≡ s.limit)

-- the same of one byte
abbrev pub TakesOne : Scanning → List ℕ → ℕ → Taken → Scanning → Type 0
TakesOne s front byte took.More new = HasRead new (front ++ byte ∷ []) × (new.wire ≡ s.wire) × (new.limit ≡ s.limit)
TakesOne s front byte took.Whole new = IsFront s.wire whole (front ++ byte ∷ [])
TakesOne s front byte took.Bad new = IsFront s.wire bad (front ++ byte ∷ [])
TakesOne s front byte took.Over new = IsFront s.wire cut (front ++ byte ∷ []) × (length front + 1 ≡ s.limit)

-- the scan has read so many bytes more, and the message goes on
abbrev pub Passes : Scanning → List ℕ → List ℕ → Scanning → Type 0
Passes s front passed new = HasRead new (front ++ passed) × (new.wire ≡ s.wire) × (new.limit ≡ s.limit)
