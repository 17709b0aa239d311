-- What came of a side without lengths, as it is handed out in frames.
use Rattle.std.specs.Prelude.{◌≡◌, ℕ, ◌-◌, ⊤, Bool, true, List, [], ◌++◌, take, drop}
use Rattle.stream_messages.specs.declared.scan.Wire.{Wire}
use Rattle.stream_messages.specs.declared.framer.Due.{Due}
use Rattle.stream_messages.specs.declared.framer.Behind.{Behind}
use Rattle.stream_messages.specs.declared.framer.Behind.TheVariants as behind
use Rattle.stream_messages.specs.Fronts.{bad}
use Rattle.stream_messages.specs.Messages.{Tail, rest, refused, over, IsFirst, IsTail, AreMessages, frame, frames, framed_tail}

-- the bytes of frames that are to be handed out, and those that came behind them, of which no whole message is known
pub record FramerState : Type 0 where
  pub wire : Wire
  pub limit : ℕ
  pub due : List ℕ
  pub fresh : List ℕ
  pub behind : Behind

abbrev pub new_framer : Wire → ℕ → FramerState
new_framer wire limit = record { wire = wire; limit = limit; due = []; fresh = []; behind = behind.Messages }

-- the last bytes of the four, and the first that are held
abbrev pub due_bytes : Due → List ℕ → List ℕ
due_bytes due held = drop (4 - due.head_left) due.head ++ take due.left held

-- a tail behind which the mark comes
abbrev pub IsMarked : Tail → Type 0
IsMarked (rest r) = ⊥
IsMarked (refused front) = ⊤
IsMarked over = ⊤

-- Of what was received this is left behind the whole messages. Handed out, or due, are the frames of these messages: and none else
-- while more messages may come; the frame of a refused front, before the mark; all of it, up to the mark; or all of it of a side that
-- ended inside a message.
abbrev pub GivesAll : Wire → ℕ → Behind → List ℕ → List ℕ → Bool → List (List ℕ) → List ℕ → Type 0
GivesAll wire limit behind.Messages fresh left ended messages out = (fresh ≡ left) × (out ≡ frames messages)
GivesAll wire limit behind.Mark fresh left ended messages out =
    (front : List ℕ) × (after : List ℕ) × (left ≡ front ++ after) × IsFirst wire limit bad front × (out ≡ frames messages ++ frame front)
GivesAll wire limit behind.Nothing fresh left ended messages out =
    (tail : Tail) × IsMarked tail × IsTail wire limit left tail × (out ≡ frames messages ++ framed_tail tail ended)
GivesAll wire limit behind.End fresh left ended messages out =
    (ended ≡ true) × IsTail wire limit left (rest left) × (out ≡ frames messages ++ framed_tail (rest left) true)

-- so it stands with what was received of a side, whether the side ended, and what was handed out
pub record Stands (wire : Wire) (limit : ℕ) (s : FramerState) (received : List ℕ) (ended : Bool) (given : List ℕ) : Type 0 where
  pub wire_is : s.wire ≡ wire
  pub limit_is : s.limit ≡ limit
  pub messages : List (List ℕ)
  pub left : List ℕ
  pub are : AreMessages wire limit received messages left
  pub out : GivesAll wire limit s.behind s.fresh left ended messages (given ++ s.due)

-- this piece was handed out
abbrev pub Gives : FramerState → FramerState → List ℕ → Type 0
Gives s t piece =
    (wire : Wire) (limit : ℕ) (received given : List ℕ) (ended : Bool) → Stands wire limit s received ended given → Stands wire limit t received ended (given ++ piece)

-- nothing was handed out
abbrev pub Keeps : FramerState → FramerState → Type 0
Keeps s t = (wire : Wire) (limit : ℕ) (received given : List ℕ) (ended : Bool) → Stands wire limit s received ended given → Stands wire limit t received ended given

-- and the side has ended
abbrev pub KeepsEnded : FramerState → FramerState → Type 0
KeepsEnded s t = (wire : Wire) (limit : ℕ) (received given : List ℕ) (ended : Bool) → Stands wire limit s received ended given → Stands wire limit t received true given

-- what came last is the beginning of a message, or nothing, where messages may come
abbrev pub EndsOpen : FramerState → Behind → Type 0
EndsOpen s behind.Messages = IsTail s.wire s.limit s.fresh (rest s.fresh)
EndsOpen s behind.Mark = ⊥
EndsOpen s behind.Nothing = ⊤
EndsOpen s behind.End = ⊤

-- nothing is to be handed out before more has come
pub record IsIdle (s : FramerState) : Type 0 where
  pub due : s.due ≡ []
  pub open_end : EndsOpen s s.behind

-- of what came, nothing will be handed out
abbrev pub HasNoMore : FramerState → Behind → Type 0
HasNoMore s behind.Messages = s.fresh ≡ []
HasNoMore s behind.Mark = ⊥
HasNoMore s behind.Nothing = ⊤
HasNoMore s behind.End = ⊤

pub record IsOut (s : FramerState) : Type 0 where
  pub due : s.due ≡ []
  pub no_more : HasNoMore s s.behind
