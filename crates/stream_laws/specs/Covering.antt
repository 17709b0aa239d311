-- What a stream that is converted, shown or checked gives in the words of the grammars: what is written of each frame, and what is reported.
use Rattle.std.specs.Prelude.{⊤, ◌≡◌, ℕ, ◌+◌, ◌<◌, ◌^◌, List, [], ◌∷◌, ◌++◌, length, Some, IsSome}
use Rattle.std.specs.Io.KnownBytes.{Appends, Consumes, IsAtEnd}
use Rattle.gate_io.specs.declared.byte_streams.Source.{Ghosts as Source}
use Rattle.thrift_value.specs.Trees.{Message}
use Rattle.protocol_traits.specs.declared.fault.Fault.{Fault}
use Rattle.protocol_traits.specs.declared.proto.Proto.{Proto}
use Rattle.protocol_traits.specs.declared.proto.Proto.TheVariants as protocols
use Rattle.translate_verdicts.specs.declared.route.Route.TheVariants.{ByName}
use Rattle.translate_verdicts.specs.declared.verdict.Cause.{Cause}
use Rattle.translate_verdicts.specs.Texts.{cause_text, place_of, reason_text}
use Rattle.line_transport.specs.Cuts.{sent, Cuts, CutsAll}
use Rattle.line_transport.specs.declared.transport.Transport.{Transport}
use Rattle.session_laws.specs.Saying.{Passage, Spells, SpellsPlainly, IsShallow, StandsIn, FaultIn}
use Rattle.verdict_laws.specs.Bars.{HoldsAll}
use Rattle.show_laws.specs.Showings.{message_line}
use Rattle.conform_check.specs.Checking.{Broken}
use Rattle.conform_laws.specs.Checkings.{MessageMeets, first_breach}
use Rattle.gate_streams.specs.Lines.{refusal_text, meets_text, breach_line}
use Rattle.gate_start.specs.Streams.{Streams}
use Rattle.gate_streams.specs.Outcome.{IsTooLargeOrAtEnd}
use Rattle.gate_streams.specs.Progress.{IsStreamLine}
use Rattle.gate_streams.specs.Terms.{Terms}
use Rattle.gate_start.specs.declared.status.Ending.{Ending}
use Rattle.gate_start.specs.declared.status.Ending.TheVariants as endings
use Rattle.gate_streams.specs.declared.task.Doing.TheVariants.{Convert, Show, Conform}

-- a frame goes from one protocol to the other by the method that its message's name means
abbrev pub passage_of : Terms → Proto → Proto → Passage
passage_of k from to = record { declarations = k.declarations; route = ByName k.service; from = from; to = to; teller = from }

-- Of the frame of this number its message is written in a frame or on a line, in its plain spelling; or the cause for which it can't go on is
-- reported.
pub data IsConverted (t : Transport) (p : Passage) (number : ℕ) (frame out line : List ℕ) : Type 0 where
  IsWritten : (m : Message) (bytes : List ℕ) → Spells p p.from m frame → IsShallow m → HoldsAll p.to p.declarations p.route m → SpellsPlainly p p.to m bytes
      → out ≡ sent t bytes → line ≡ [] → IsConverted t p number frame out line
  IsReported : (cause : Cause) → StandsIn p frame cause → out ≡ []
      → line ≡ refusal_text number (place_of cause) (cause_text cause) → IsConverted t p number frame out line

-- The line of its message is written, or its fault is reported.
pub data IsListed (k : Terms) (p : Passage) (number : ℕ) (frame out line : List ℕ) : Type 0 where
  HasLine : (m : Message) → Spells p p.from m frame → IsShallow m → out ≡ message_line k.declarations k.service m → line ≡ [] → IsListed k p number frame out line
  HasFault : (f : Fault) → FaultIn p frame f → out ≡ [] → line ≡ refusal_text number f.place (reason_text f.reason) → IsListed k p number frame out line

-- That its message meets what is declared of it is written; or the first way in which it doesn't is reported, or the fault.
pub data IsConformed (k : Terms) (p : Passage) (number : ℕ) (frame out line : List ℕ) : Type 0 where
  IsMet : (m : Message) → Spells p p.from m frame → IsShallow m → MessageMeets k.declarations k.service m → out ≡ meets_text number → line ≡ [] → IsConformed k p number frame out line
  IsBroken : (m : Message) (b : Broken) → Spells p p.from m frame → IsShallow m → (MessageMeets k.declarations k.service m → ⊥) → first_breach k.declarations k.service m ≡ Some b
      → out ≡ [] → line ≡ breach_line number b → IsConformed k p number frame out line
  IsFaulty : (f : Fault) → FaultIn p frame f → out ≡ [] → line ≡ refusal_text number f.place (reason_text f.reason) → IsConformed k p number frame out line

-- these are written and reported of the frames, one after another, behind so many
abbrev pub GiveInOrder : (ℕ → List ℕ → List ℕ → List ℕ → Type 0) → ℕ → List (List ℕ) → List ℕ → List ℕ → Type 0
GiveInOrder Each before [] out told = (out ≡ []) × (told ≡ [])
GiveInOrder Each before (frame ∷ frames) out told =
    (first : List ℕ) × (rest : List ℕ) × (line : List ℕ) × (more : List ℕ) × Each (before + 1) frame first line × GiveInOrder Each (before + 1) frames rest more
    × (out ≡ first ++ rest) × (told ≡ line ++ more)

-- these bytes were read, and what is written and reported of these frames was, with this line at the end
pub record CoversBy (Each : ℕ → List ℕ → List ℕ → List ℕ → Type 0) (a b : Streams) (read : List ℕ) (frames : List (List ℕ)) (line : List ℕ) : Type 0 where
  pub consumed : Consumes a.left b.left read
  pub out : List ℕ
  pub told : List ℕ
  pub give : GiveInOrder Each 0 frames out told
  pub written : Appends a.written b.written out
  pub reported : Appends a.reported b.reported (told ++ line)

-- the same of some whole frames, or lines, and of a last line
abbrev pub GivesSome : (ℕ → List ℕ → List ℕ → List ℕ → Type 0) → Terms → Streams → Streams → Type 0
GivesSome Each k a b =
    (read : List ℕ) × (frames : List (List ℕ)) × (rest : List ℕ) × (line : List ℕ) × CoversBy Each a b read frames line × Cuts k.input k.limit read frames rest

-- By the ending: the input was read to its end and is whole frames, or lines, and where it is done nothing was reported; it ended within a
-- frame, or the next length is too large, or the next line too long; reading failed or the budget was spent behind some whole frames. Where a write failed the clause of `run`
-- says which front was written.
abbrev pub GivesBy : (ℕ → List ℕ → List ℕ → List ℕ → Type 0) → Terms → Streams → Streams → Ending → Type 0
GivesBy Each k a b endings.Done =
    (read : List ℕ) × (frames : List (List ℕ)) × (c : CoversBy Each a b read frames []) × CutsAll k.input k.limit read frames × (c.told ≡ []) × IsAtEnd b.left
GivesBy Each k a b endings.Refused =
    (read : List ℕ) × (frames : List (List ℕ)) × CoversBy Each a b read frames [] × CutsAll k.input k.limit read frames × IsAtEnd b.left
GivesBy Each k a b endings.StreamFault =
    (read : List ℕ) × (frames : List (List ℕ)) × (rest : List ℕ) × (line : List ℕ) × CoversBy Each a b read frames line × Cuts k.input k.limit read frames rest
    × IsStreamLine k.input k.limit (length frames) rest line × IsTooLargeOrAtEnd k.input k.limit rest b.left
GivesBy Each k a b endings.ReadFault = GivesSome Each k a b
GivesBy Each k a b endings.BudgetSpent = GivesSome Each k a b
GivesBy Each k a b endings.OutOfMemory = GivesSome Each k a b
GivesBy Each k a b endings.WriteFault = ⊤
GivesBy Each k a b endings.Usage = ⊥
GivesBy Each k a b endings.FileFault = ⊥
GivesBy Each k a b endings.HubFault = ⊥

-- ---- what the laws of streams speak of

-- the limit of messages of JSON is below 2^31, as each limit is that words can name
abbrev pub IsLow : Proto → ℕ → Type 0
IsLow protocols.Json limit = limit < 2 ^ 31
IsLow protocol limit = ⊤

-- frames are converted between these protocols, shown, or checked
abbrev pub Converts : Terms → Proto → Proto → Type 0
Converts k from to = (k.doing ≡ Convert from to) × IsLow from k.limit

abbrev pub Shows : Terms → Proto → Type 0
Shows k from = (k.doing ≡ Show from) × IsLow from k.limit

abbrev pub Conforms : Terms → Proto → Type 0
Conforms k from = (k.doing ≡ Conform from) × IsLow from k.limit

-- an input of this kind tells what is left of it
abbrev pub TellsInput : {I : Type 0} → Source I → Streams → Type 0
TellsInput {I} sources a = (input : I) × (a.left ≡ sources.left input) × IsSome a.left

abbrev pub GivesConverted : Terms → Proto → Proto → Streams → Streams → Ending → Type 0
GivesConverted k from to = GivesBy (IsConverted k.output (passage_of k from to)) k

abbrev pub GivesListed : Terms → Proto → Streams → Streams → Ending → Type 0
GivesListed k from = GivesBy (IsListed k (passage_of k from from)) k

abbrev pub GivesConformed : Terms → Proto → Streams → Streams → Ending → Type 0
GivesConformed k from = GivesBy (IsConformed k (passage_of k from from)) k
