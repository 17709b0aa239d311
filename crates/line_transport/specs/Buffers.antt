-- A buffer of messages as its callers see it.
use Rattle.std.specs.Prelude.{◌≡◌, ℕ, ◌<◌, ◌≤◌, List, [], ◌∷◌, ◌++◌, length, Option, false, ⊤}
use Rattle.std.specs.Io.KnownBytes.{Keeps, Consumes, IsAtEnd}
use Rattle.gate_io.specs.declared.byte_streams.Got.{Got}
use Rattle.gate_io.specs.declared.byte_streams.Got.TheVariants as got
use Rattle.framed_transport.specs.Held.{Held}
use Rattle.framed_transport.specs.declared.holding.Next.{Next as NextFrame}
use Rattle.framed_transport.specs.declared.holding.Next.TheVariants as frames
use Rattle.line_transport.specs.Cuts.{Spans}
use Rattle.line_transport.specs.Front.{Front, Whole, Part, Exceeds, front, line_front, is_blank_front}
use Rattle.line_transport.specs.declared.messages.Kind.{Kind}
use Rattle.line_transport.specs.declared.messages.Kind.TheVariants as kinds
use Rattle.line_transport.specs.declared.transport.Excess.TheVariants as excesses
use Rattle.line_transport.specs.declared.transport.Next.{Next}
use Rattle.line_transport.specs.declared.transport.Next.TheVariants as nexts
use Rattle.line_transport.specs.declared.transport.Transport.{Transport}
use Rattle.line_transport.specs.declared.transport.Transport.TheVariants as transports

-- how messages stand on the stream, the bytes that came and are not taken, and the greatest length of a message
pub record Incoming : Type 0 where
  pub transport : Transport
  pub held : List ℕ
  pub limit : ℕ

abbrev pub incoming : Kind → Incoming
incoming (kinds.Frames b) = record { transport = transports.Frames; held = b.held; limit = b.limit }
incoming (kinds.Lines b) = record { transport = transports.Lines; held = b.held; limit = b.limit }

abbrev pub front_of : Incoming → Front
front_of b = front b.transport b.limit b.held

-- it says what stands at the front
abbrev pub Tells : Next → Front → Type 0
Tells (nexts.Message m) f = (rest : List ℕ) × (f ≡ Whole m.now rest)
Tells nexts.NeedMore f = f ≡ Part
Tells (nexts.Exceeds e) f = f ≡ Exceeds e

-- a frame is told as a message
abbrev pub TellsFrame : NextFrame → Next → Type 0
TellsFrame (frames.Frame frame) (nexts.Message m) = m.now ≡ frame.now
TellsFrame frames.NeedMore nexts.NeedMore = ⊤
TellsFrame (frames.TooLarge n) (nexts.Exceeds e) = e ≡ excesses.Length n
TellsFrame next message = ⊥

-- what a read of at most so many bytes says of what the source had left and has left, and of what is held
abbrev pub Receives : Option (List ℕ) → Option (List ℕ) → Incoming → Incoming → ℕ → Got → Type 0
Receives left left' a b most (got.Bytes n) =
    (0 < n) × (n ≤ most) × ((piece : List ℕ) × (length piece ≡ n) × (b ≡ record a { held = a.held ++ piece }) × Consumes left left' piece)
Receives left left' a b most got.End = IsAtEnd left' × Keeps left left' × (b ≡ a)
Receives left left' a b most got.Failed = Keeps left left' × (b ≡ a)

-- blank lines at the front were let go, and none stands there now
pub record PassesBlank (a b : Held) : Type 0 where
  pub limit : b.limit ≡ a.limit
  pub spans : Spans transports.Lines a.limit a.held [] b.held
  pub none : is_blank_front (line_front b.limit b.held) ≡ false

-- no line stands at the front that is passed over
abbrev pub CountsNext : Incoming → Type 0
CountsNext b = b.transport ≡ transports.Lines → is_blank_front (front_of b) ≡ false

-- what is passed over at the front was let go: of frames nothing, of lines the blank ones
pub record PassesOver (a b : Incoming) : Type 0 where
  pub limit : b.limit ≡ a.limit
  pub transport : b.transport ≡ a.transport
  pub spans : Spans a.transport a.limit a.held [] b.held
  pub counts : CountsNext b

-- the bytes with which a message begins before its length is known
abbrev pub lead : Transport → List ℕ
lead transports.Frames = 0 ∷ 0 ∷ 0 ∷ 0 ∷ []
lead transports.Lines = []

-- and those with which it ends
abbrev pub trail : Transport → List ℕ
trail transports.Frames = []
trail transports.Lines = 10 ∷ []
