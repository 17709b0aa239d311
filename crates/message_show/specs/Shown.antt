-- What is shown of a frame: the line of its message, or the fault that stands in it. A frame is read as one that is translated,
-- its body typed by the method that the message's name means; and its line is what a writer gets that bars nothing and whose
-- spelling of an item is the item's text.
use Rattle.std.specs.Prelude.{◌≡◌, ⊤, ℕ, ◌<◌, ◌≤◌, List, ◌++◌, length, Option, None, IfSome, Ok, Err}
use Rattle.std.specs.Io.KnownBytes.{Keeps, Appends}
use Rattle.thrift_value.specs.Items.{Item}
use Rattle.type_tables.specs.declared.declared.ServiceId.{ServiceId}
use Rattle.type_tables.specs.Declarations.{Declarations}
use Rattle.type_walk.specs.Stack.{first_of}
use Rattle.type_walk.specs.Positions.{Position}
use Rattle.type_walk.specs.Positions as positions
use Rattle.protocol_traits.specs.declared.fault.Fault.{Fault}
use Rattle.protocol_traits.specs.declared.proto.Proto.{Proto}
use Rattle.protocol_traits.specs.declared.proto.Proto.TheVariants as protocols
use Rattle.protocol_traits.specs.Heads.{Header}
use Rattle.protocol_traits.specs.Steps.{Step}
use Rattle.translate_verdicts.specs.declared.route.Route.TheVariants.{ByName}
use Rattle.translate_verdicts.specs.Positions.{typed}
use Rattle.translate_verdicts.specs.Routes.{start_of}
use Rattle.translate_verdicts.specs.Body.{Source, TargetRules, Ended, going, whole, source_in}
use Rattle.protocol_pairs.specs.Pairs.{binary_source, compact_source, json_source}
use Rattle.message_show.specs.declared.showing.Shown.{Shown}
use Rattle.message_show.specs.declared.showing.Shown.TheVariants as shown_as
use Rattle.message_show.specs.declared.checking.Checked.{Checked}
use Rattle.message_show.specs.declared.checking.Checked.TheVariants as checked
use Rattle.message_show.specs.Line.{Levels, begun, after, item_text, head_text, line_end}
use Rattle.gate_base.specs.Causes.{Rose}
use Rattle.gate_io.specs.Fronts.{AppendsFront}
use Rattle.message_show.specs.Pieces.{Output}
use Rattle.protocol_traits.specs.declared.traits.ReadRules.{Ghosts as ReadRules}

-- where the next item stands
pub record Place : Type 0 where
  pub position : Position
  pub levels : Levels

abbrev pub place : Position → Levels → Place
place position levels = record { position = position; levels = levels }

-- the text of an item where it stands
abbrev pub text_at : Place → Item → List ℕ
text_at p item = item_text p.position.schema (first_of p.position.levels) p.levels item

-- a writer of the line
abbrev pub line_target : Place → TargetRules Place
line_target p = record {
  begun = p;
  name_bar = λ name. None;
  plain_head = head_text;
  bar = λ item mark. None;
  plain = λ p item mark. text_at p item;
  after = λ p item mark. place (positions.after p.position item) (after p.levels item);
}

-- the line of a message, or the fault of a frame whose header is whole, or of one whose header isn't
pub data Showing : Type 0 where
  Line : List ℕ → Showing
  Refused : Fault → Showing
  Unread : Fault → Showing

abbrev pub closed : {S : Type 0} → List ℕ → Step S (Unit {0}) → Showing
closed text (Ok x) = Line (text ++ line_end)
closed text (Err f) = Refused f

abbrev pub after_body : {S : Type 0} → Source S → Ended S Position Place → Showing
after_body source (Ok g) = closed g.bytes (source.reads_end g.reader)
after_body source (Err f) = Refused f

module _ {S : Type 0} (source : Source S) where
  -- a body from a position on, behind what was told already
  abbrev pub body_from : S → Position → List ℕ → Ended S Position Place
  body_from s position told = whole source typed (line_target (place position begun)) (going s position (place position begun) 1 None told)

  abbrev pub after_head : (Header → Position) → Step S Header → Showing
  after_head start (Ok x) = after_body source (body_from x.1 (start x.0) (head_text x.0))
  after_head start (Err f) = Unread f

  -- the frame's header, its items to the end of the body, and its end
  unfoldable pub shown_by : (Header → Position) → List ℕ → Showing
  shown_by start frame = after_head start (source.reads_head (source.begun frame))

-- what is shown of a frame of a protocol; names without a service before them are those of this service
unfoldable pub shown : Declarations → Option ServiceId → Proto → List ℕ → Showing
shown d service protocols.Binary frame = shown_by binary_source (start_of d (ByName service)) frame
shown d service protocols.Compact frame = shown_by compact_source (start_of d (ByName service)) frame
shown d service protocols.Json frame = shown_by json_source (start_of d (ByName service)) frame

-- the service is one of these declarations
abbrev pub IsService : Declarations → Option ServiceId → Type 0
IsService d service = IfSome service (λ s. s.0 < length d.services)

-- The code's answer, with the bytes that were written before and after: the whole line, a front of it, or none.
abbrev pub IsShown : Shown → Option (List ℕ) → Option (List ℕ) → Showing → Type 0
IsShown shown_as.Passed old new (Line text) = Appends old new text
IsShown shown_as.WriteFault old new (Line text) = AppendsFront old new text
IsShown (shown_as.Refused f) old new (Refused g) = (f ≡ g) × Keeps old new
IsShown (shown_as.Unread f) old new (Unread g) = (f ≡ g) × Keeps old new
IsShown answer old new showing = ⊥

-- nothing at all happened to the output
abbrev pub IsLeft : {O : Type 0} → Shown → O → O → Type 0
IsLeft (shown_as.Refused f) old new = new ≡ old
IsLeft (shown_as.Unread f) old new = new ≡ old
IsLeft shown_as.Passed old new = ⊤
IsLeft shown_as.WriteFault old new = ⊤

-- what the pass through a frame found: that it has a line, or its fault
abbrev pub IsChecked : Checked → Showing → Type 0
IsChecked checked.Message (Line text) = ⊤
IsChecked (checked.Refused f) (Refused g) = f ≡ g
IsChecked (checked.Unread f) (Unread g) = f ≡ g
IsChecked found showing = ⊥

-- the line is this text
abbrev pub IsLine : Showing → List ℕ → Type 0
IsLine showing text = showing ≡ Line text

-- The code's answer to writing what waits of a line: from a beginning on it or a front of it was written.
abbrev pub IsWritten : Shown → Output → Output → List ℕ → Type 0
IsWritten answer from now text =
    IsShown answer from.written now.written (Line text) × (from.faults ≤ now.faults) × (answer ≡ shown_as.WriteFault → Rose from.faults now.faults)

abbrev pub HasLine : Showing → Type 0
HasLine (Line text) = ⊤
HasLine (Refused f) = ⊥
HasLine (Unread f) = ⊥

-- ---- by the rules of any reader

-- what is shown of a frame; names without a service before them are those of this service
abbrev pub shown_in : {S : Type 0} → ReadRules S → Declarations → Option ServiceId → List ℕ → Showing
shown_in rules d service frame = shown_by (source_in rules) (start_of d (ByName service)) frame

-- a pass through the frame found this
abbrev pub Finds : {S : Type 0} → ReadRules S → Declarations → Option ServiceId → List ℕ → Checked → Type 0
Finds rules d service frame found = IsChecked found (shown_in rules d service frame)

-- a pass through a body from a position on found this, whatever was told before
abbrev pub FindsBody : {S : Type 0} → ReadRules S → S → Position → Checked → Type 0
FindsBody rules reader position found =
    (told : List ℕ) → IsChecked found (after_body (source_in rules) (body_from (source_in rules) reader position told))
