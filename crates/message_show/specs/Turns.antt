-- What a turn through a body does: items are read, and their texts are told.
use Rattle.std.specs.Prelude.{◌≡◌, ⊤, ℕ, suc, List, [], ◌∷◌, ◌++◌, length, Bool, true, false, None, Result, Ok, Err}
use Rattle.gate_io.specs.declared.byte_streams.Sink.{Ghosts as Sink}
use Rattle.protocol_traits.specs.declared.traits.ReadRules.{Ghosts as ReadRules}
use Rattle.type_tables.specs.Declarations.{Declarations}
use Rattle.type_walk.specs.declared.levels.Level.{Level}
use Rattle.protocol_traits.specs.declared.fault.Fault.{Fault}
use Rattle.protocol_traits.specs.declared.nest.Slot.{Slot}
use Rattle.type_walk.specs.Positions.{Position, standing as open_at}
use Rattle.translate_verdicts.specs.Positions.{typed}
use Rattle.translate_verdicts.specs.Body.{Source, Ended, Going, going, whole, source_in}
use Rattle.message_show.specs.Pieces.{Waiting, Output, Told, Tells, output}
use Rattle.message_show.specs.Inside.{at, behind, begins}
use Rattle.message_show.specs.Shown.{Place, Showing, place, line_target, body_from, IsLine, IsWritten}
use Rattle.message_show.specs.declared.open_level.LevelStep.{LevelStep}
use Rattle.message_show.specs.declared.open_level.OpenLevel.{OpenLevel}
use Rattle.message_show.specs.declared.showing.Shown.{Shown}

-- where the reading of a body stands: the reader, the position, and whether the next item is the first of its level
pub record Standing (S : Type 0) : Type 0 where
  pub reader : S
  pub position : Position
  pub first : Bool

abbrev pub standing : {S : Type 0} → S → Position → Bool → Standing S
standing reader position first = record { reader = reader; position = position; first = first }

module _ {S : Type 0} (source : Source S) (nest : S → List Slot) where
  -- the rest of a body from here on, behind what was told
  abbrev pub rest_from : Place → Standing S → List ℕ → Ended S Position Place
  rest_from begun s told = whole source typed (line_target begun) (going s.reader s.position (place s.position (record { nest = nest s.reader; first = s.first })) (length s.position.levels) None told)

  -- the items between these have this text
  abbrev pub Leads : Standing S → Standing S → List ℕ → Type 0
  Leads before after text = (begun : Place) (told : List ℕ) → rest_from begun before told ≡ rest_from begun after (told ++ text)

  -- items were read and told, or a fault stands in the next
  abbrev pub Turned : {X : Type 0} → Result X Fault → Standing S → (X → Standing S) → Output → Waiting → Output → Waiting → Type 0
  Turned (Ok x) before after old line new behind = (text : List ℕ) × Leads before (after x) text × Tells old line new behind text
  Turned (Err f) before after old line new behind = (begun : Place) (told : List ℕ) → rest_from begun before told ≡ Err f

-- ---- what is told to a sink, by what the sink says of itself and by the rules of any reader

abbrev pub output_in : {O : Type 0} → Sink O → O → Output
output_in sinks out = output (sinks.written out) (sinks.faults out)

-- where this is shown as a line, the line was told
abbrev pub TellsLine : {O : Type 0} → Sink O → Showing → O → Waiting → O → Waiting → Type 0
TellsLine sinks showing old line new line' =
    (from : Output) (text : List ℕ) → IsLine showing text → Told from (output_in sinks old) line [] → Told from (output_in sinks new) line' text

-- where a body goes to its end, its text was told behind what was told before
abbrev pub TellsBody : {S O : Type 0} → ReadRules S → Sink O → S → Position → O → Waiting → O → Waiting → Type 0
TellsBody {S} rules sinks reader position old line new line' =
    (from : Output) (text : List ℕ) (last : Going S Position Place) → body_from (source_in rules) reader position text ≡ Ok last
    → Told from (output_in sinks old) line text → Told from (output_in sinks new) line' last.bytes

-- an open struct or container, of which this is declared, was told to its end
abbrev pub TellsLevel : {S O : Type 0} → ReadRules S → Sink O → Declarations → Level → S → O → Waiting → S → O → Waiting × Result ⊤ Fault → Type 0
TellsLevel rules sinks d known reader old line reader' new told =
    (up : List Level) → rules.depth reader ≡ suc (length up) →
    let before = standing reader (open_at d (known ∷ up)) true in
    let after = standing reader' (open_at d up) false in
    Turned (source_in rules) rules.nest told.1 before (λ u. after) (output_in sinks old) line (output_in sinks new) told.0

-- the next item of an open struct or container was told
abbrev pub TellsEvent : {S O : Type 0} → ReadRules S → Sink O → Declarations → S → OpenLevel → O → Waiting → S → OpenLevel → O → Waiting × Result LevelStep Fault → Type 0
TellsEvent rules sinks d reader here old line reader' here' new told =
    (up : List Level) → rules.depth reader ≡ suc (length up) →
    let before = standing reader (at d here up) here.first in
    let after = λ (step : LevelStep). standing reader' (behind d step here' up) (begins step here') in
    Turned (source_in rules) rules.nest told.1 before after (output_in sinks old) line (output_in sinks new) told.0

-- what waits of a line was written
abbrev pub EndsLine : {O : Type 0} → Sink O → O → Waiting → O → Shown → Type 0
EndsLine sinks old line new answer =
    (from : Output) (text : List ℕ) → Told from (output_in sinks old) line text → IsWritten answer from (output_in sinks new) text
