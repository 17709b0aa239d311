-- What the calls of a front do, at the hub and at the front.
use Rattle.std.specs.Prelude.{◌≡◌, ◌≢◌, ℕ, ⊤, ◌<◌, ◌≤◌, List, [], ◌++◌, length, take, true, false}
use Rattle.gate_hub.specs.Meaning.{Link, Meaning, IsOpen}
use Rattle.gate_hub.specs.Hubs.{Leads, AtSide, TookWithin}
use Rattle.gate_hub.specs.declared.hub.Side.TheVariants as side
use Rattle.gate_hub.specs.declared.hub.LinkGot.{LinkGot}
use Rattle.gate_hub.specs.declared.hub.LinkGot.TheVariants as got
use Rattle.gate_hub.specs.declared.hub.LinkPut.{LinkPut}
use Rattle.gate_hub.specs.declared.hub.LinkPut.TheVariants as put
use Rattle.httparse.specs.Grammar.{HasNoRequest, NeverHasRequest, MayBecomeRequest}
use Rattle.http_front.specs.Heads.{head_limit}
use Rattle.http_front.specs.declared.answers.Written.{Written}
use Rattle.http_front.specs.declared.answers.Written.TheVariants as written
use Rattle.http_front.specs.declared.stage.Stage.{Stage}
use Rattle.http_front.specs.declared.stage.Stage.TheVariants as stage
use Rattle.http_front.specs.Fronts.{Front, Reading, Carried, Fits, is_answered}

-- ---- at the hub below

-- of all that is told, the client's side of session k alone has changed, and so
pub record ClientGoes (k : ℕ) (Step : Link → Link → Type 0) (a b : Meaning) : Type 0 where
  pub session : AtSide side.Client Step (a.session k) (b.session k)
  pub others : (j : ℕ) → j ≢ k → b.session j ≡ a.session j
  pub started : b.started ≡ a.started
  pub last_event : b.last_event ≡ a.last_event
  pub events : b.events ≡ a.events

-- each meaning that was told and at which session k is open leads to one that is told
abbrev pub Goes : (Meaning → Type 0) → (Meaning → Type 0) → ℕ → (Link → Link → Type 0) → Type 0
Goes told told' k Step = Leads told told' (IsOpen k) (ClientGoes k Step)

-- these bytes were sent, and none was received
pub record SendsBelow (bytes : List ℕ) (a b : Link) : Type 0 where
  pub received : b.received ≡ a.received
  pub ended : b.ended ≡ a.ended
  pub sent : b.sent ≡ a.sent ++ bytes

-- so many of the bytes were sent: more than the least, or the last write sent none
abbrev pub SendsUpTo : ℕ → List ℕ → ℕ → LinkPut → Type 0
SendsUpTo least bytes count (put.Took n) = (least < count) × (count ≤ length bytes)
SendsUpTo least bytes count put.NotReady = count ≤ least
SendsUpTo least bytes count put.Failed = count ≤ least

-- ---- at the front

-- what the hub below carried of the client, with what was handed out and written
abbrev pub carried : Link → List ℕ → List ℕ → Carried
carried link given written = record { received = link.received; ended = link.ended; given = given; sent = link.sent; written = written }

-- The front alone has changed.
abbrev pub Keeps : Front → Front → Type 0
Keeps f g = (r : Reading) (c : Carried) → Fits r f c → Fits r g c

-- and the client has ended
abbrev pub EndsFront : Front → Front → Type 0
EndsFront f g = (r : Reading) (c : Carried) → Fits r f c → c.ended ≡ true → Fits r g c

abbrev pub and_given : Carried → List ℕ → Carried
and_given c bytes = record c { given = c.given ++ bytes }

-- these bytes were handed out
abbrev pub HandsOut : Reading → List ℕ → Front → Front → Type 0
HandsOut r bytes f g = (c : Carried) → Fits r f c → Fits r g (and_given c bytes)

abbrev pub and_written : Carried → List ℕ → Carried
and_written c bytes = record c { written = c.written ++ bytes }

-- these bytes of an answer were written, and none of a response was sent
abbrev pub Writes : List ℕ → Front → Front → Type 0
Writes bytes f g = (r : Reading) (c : Carried) → Fits r f c → Fits r g (and_written c bytes)

-- The front fitted before, and fits now.
abbrev pub Turns : Front → Front → Link → Link → Type 0
Turns f g a b = (r : Reading) (gave wrote : List ℕ) → Fits r f (carried a gave wrote) → Fits r g (carried b gave wrote)

-- with these bytes handed out
abbrev pub TurnsGiven : Reading → List ℕ → Front → Front → Link → Link → Type 0
TurnsGiven r bytes f g a b = (gave wrote : List ℕ) → Fits r f (carried a gave wrote) → Fits r g (carried b (gave ++ bytes) wrote)

-- with these bytes written
abbrev pub TurnsWritten : List ℕ → Front → Front → Link → Link → Type 0
TurnsWritten bytes f g a b = (r : Reading) (gave wrote : List ℕ) → Fits r f (carried a gave wrote) → Fits r g (carried b gave (wrote ++ bytes))

-- ---- reads

-- it holds at least one byte more, and at most so many
abbrev pub GrowsBy : ℕ → Front → Front → LinkGot → Type 0
GrowsBy most f g (got.Bytes n) =
    (0 < n) × (n ≤ most) × ((more : List ℕ) × (length more ≡ n) × (g ≡ record f { input = f.input ++ more }))
GrowsBy most f g got.NotReady = g ≡ f
GrowsBy most f g got.End = g ≡ f
GrowsBy most f g got.Failed = g ≡ f

-- the front fits on, and if the answer was the end, the client has ended
pub record ReadsMore (answer : LinkGot) (f g : Front) (a b : Link) : Type 0 where
  pub turns : Turns f g a b
  pub ended : answer ≡ got.End → b.ended ≡ true

-- what comes behind the beginning of a head, where the client has ended
abbrev pub EndsHead : List ℕ → Stage → Type 0
EndsHead input stage.Over = input ≡ []
EndsHead input (stage.Mark given) = (given ≡ 0) × NeverHasRequest input
EndsHead input stage.Early = (input ≢ []) × (HasNoRequest input → MayBecomeRequest input)
EndsHead input stage.Head = ⊥
EndsHead input (stage.Body size given last) = ⊥
EndsHead input (stage.Answer bytes have last) = ⊥
EndsHead input (stage.Response size sent last) = ⊥
EndsHead input (stage.Content left last) = ⊥
EndsHead input (stage.Empty sent last) = ⊥
EndsHead input stage.Missing = ⊥

-- Nothing is to be handed out so far: a request isn't whole, or the client is held back, or waits for a response without content.
abbrev pub Waits : Stage → List ℕ → Type 0
Waits stage.Head input = (length input < head_limit) × HasNoRequest input
Waits (stage.Body size given last) input = length input < size
Waits (stage.Answer bytes have last) input = ⊤
Waits (stage.Response size sent last) input = ⊤
Waits (stage.Content left last) input = ⊤
Waits (stage.Empty sent last) input = ⊤
Waits stage.Missing input = ⊤
Waits (stage.Mark given) input = ⊥
Waits stage.Early input = ⊥
Waits stage.Over input = ⊥

-- ---- writes

-- a write of these bytes to the client, which awaits an answer, was answered so
abbrev pub PutsOn : (Meaning → Type 0) → (Meaning → Type 0) → ℕ → Front → Front → List ℕ → LinkPut → Type 0
PutsOn told told' k f g from (put.Took n) = Goes told told' k (TurnsWritten (take n from) f g)
PutsOn told told' k f g from put.NotReady = Goes told told' k (Turns f g) × (is_answered g.stage ≡ false)
PutsOn told told' k f g from put.Failed = Goes told told' k (Turns f g) × (is_answered g.stage ≡ false)

abbrev pub WritesOn : (Meaning → Type 0) → (Meaning → Type 0) → ℕ → Front → Front → List ℕ → Written → Type 0
WritesOn told told' k f g from (written.Put answer) = (is_answered f.stage ≡ false) × PutsOn told told' k f g from answer
WritesOn told told' k f g from written.Stray = (g ≡ f) × (is_answered f.stage ≡ true)

-- at least one byte and no more than there are
abbrev pub WroteWithin : List ℕ → Written → Type 0
WroteWithin from (written.Put answer) = TookWithin from answer
WroteWithin from written.Stray = ⊤
