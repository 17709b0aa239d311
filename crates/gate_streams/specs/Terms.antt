-- What is done with the messages of a stream, in frames or on lines, and by which declarations.
use Rattle.std.specs.Prelude.{ℕ, List, Option}
use Rattle.protocol_traits.specs.declared.proto.Proto.{Proto}
use Rattle.line_transport.specs.declared.transport.Transport.{Transport}
use Rattle.line_transport.specs.declared.transport.Transport.TheVariants.{Frames}
use Rattle.type_tables.specs.declared.declared.ServiceId.{ServiceId}
use Rattle.type_tables.specs.Declarations.{Declarations}
use Rattle.protocol_pairs.specs.Pairs.{judged}
use Rattle.message_show.specs.Shown.{Showing, shown}
use Rattle.conform_check.specs.Checking.{Finding}
use Rattle.gate_words.specs.declared.command.Conforming.{Conforming}
use Rattle.gate_words.specs.declared.command.Conversion.{Conversion}
use Rattle.gate_words.specs.declared.command.Showing.{Showing as ShowWords}
use Rattle.translate_verdicts.specs.declared.route.Route.TheVariants.{ByName}
use Rattle.translate_verdicts.specs.Judged.{Judged}
use Rattle.gate_start.specs.declared.start.Start.{Start}
use Rattle.gate_streams.specs.declared.task.Doing.{Doing}
use Rattle.gate_streams.specs.declared.task.Doing.TheVariants.{Convert, Show, Conform}
use Rattle.gate_streams.specs.Findings.{finding}

-- what is declared, the service of names that have none before them, what is done with a frame, the most bytes of one, and how
-- messages stand on the input and on the output
pub record Terms : Type 0 where
  pub declarations : Declarations
  pub service : Option ServiceId
  pub doing : Doing
  pub limit : ℕ
  pub input : Transport
  pub output : Transport

abbrev pub terms : Declarations → Option ServiceId → Doing → ℕ → Transport → Transport → Terms
terms d service doing limit input output = record { declarations = d; service = service; doing = doing; limit = limit; input = input; output = output }

abbrev pub converting : Start → Conversion → Terms
converting start c = terms start.schema start.service (Convert c.from c.to) c.limit c.input c.output

-- a line that is shown, or that says that a message meets what is declared of it, is no message
abbrev pub showing : Start → ShowWords → Terms
showing start s = terms start.schema start.service (Show s.from) s.limit s.input Frames

abbrev pub conforming : Start → Conforming → Terms
conforming start c = terms start.schema start.service (Conform c.from) c.limit Frames Frames

-- the verdict on a frame that is translated, with what is written of it
abbrev pub judged_by : Terms → Proto → Proto → List ℕ → Judged
judged_by k from to frame = judged k.declarations (ByName k.service) from to frame

-- the line of a frame that is shown, or the fault in it
abbrev pub shown_by : Terms → Proto → List ℕ → Showing
shown_by k from frame = shown k.declarations k.service from frame

-- what is found of a frame by its declarations
abbrev pub found_by : Terms → Proto → List ℕ → Finding
found_by k from frame = finding k.declarations k.service from frame
