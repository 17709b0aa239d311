-- The verdict on a frame of one protocol for another, by what is declared and by the route.
use Rattle.std.specs.Prelude.{ℕ, List, None}
use Rattle.protocol_traits.specs.declared.proto.Proto.{Proto}
use Rattle.protocol_traits.specs.declared.proto.Proto.TheVariants as protocols
use Rattle.protocol_traits.specs.Follow.{depth_after}
use Rattle.type_tables.specs.Declarations.{Declarations}
use Rattle.translate_verdicts.specs.declared.route.Route.{Route}
use Rattle.translate_verdicts.specs.declared.verdict.Cause.{Cause}
use Rattle.translate_verdicts.specs.Positions.{typed}
use Rattle.translate_verdicts.specs.Routes.{start_of, info_of}
use Rattle.translate_verdicts.specs.Body.{Source, TargetRules, source_of, target_of}
use Rattle.translate_verdicts.specs.Judged.{Judged, judge}
use Rattle.translate_core.specs.Answers.{answer_of}
use Rattle.binary_protocol.specs.Reading as binary_reading
use Rattle.binary_protocol.specs.Plain as binary_plain
use Rattle.compact_protocol.specs.Reading as compact_reading
use Rattle.compact_protocol.specs.Plain as compact_plain
use Rattle.json_protocol.specs.Reading as json_reading
use Rattle.json_protocol.specs.Head as json_head
use Rattle.json_protocol.specs.Writing as json_plain
use Rattle.binary_protocol.specs.declared.writer.BinaryWrite.{BinaryWrite}

-- the readers
abbrev pub binary_source : Source binary_reading.State
binary_source = source_of binary_reading.begun binary_reading.reads_head (λ s hint. binary_reading.reads s) binary_reading.reads_end (λ s. s.value) binary_reading.ahead

abbrev pub compact_source : Source compact_reading.State
compact_source = source_of compact_reading.begun compact_reading.reads_head (λ s hint. compact_reading.reads s) compact_reading.reads_end (λ s. s.value) compact_reading.ahead

abbrev pub json_source : Source json_reading.State
json_source = source_of json_reading.begun json_head.reads_head json_reading.reads json_head.reads_end (λ s. s.value) json_reading.ahead

-- the writers
abbrev pub binary_target : TargetRules BinaryWrite
binary_target = target_of (record { depth = 1 }) (λ name. None) binary_plain.plain_head binary_plain.bar (λ s item mark. binary_plain.plain item mark) (λ s item mark. record { depth = depth_after item s.depth })

abbrev pub compact_target : TargetRules compact_plain.Writer
compact_target = target_of compact_plain.begun (λ name. None) compact_plain.head_spelling (λ item mark. compact_plain.bar item) (λ w item mark. compact_plain.spelling w item) (λ w item mark. compact_plain.follows w item)

abbrev pub json_target : TargetRules json_plain.Writer
json_target = target_of json_plain.begun json_plain.name_bar json_plain.plain_head json_plain.bar json_plain.plain json_plain.after

module _ {S : Type 0} (source : Source S) where
  -- the verdict on a frame of this source for a protocol
  abbrev pub judged_to : Declarations → Route → Proto → List ℕ → Judged
  judged_to d route protocols.Binary frame = judge source typed (start_of d route) (info_of d route) binary_target frame
  judged_to d route protocols.Compact frame = judge source typed (start_of d route) (info_of d route) compact_target frame
  judged_to d route protocols.Json frame = judge source typed (start_of d route) (info_of d route) json_target frame

  -- what answers a frame of this source in a protocol
  abbrev pub answered_to : Proto → List ℕ → Cause → List ℕ
  answered_to protocols.Binary frame cause = answer_of source binary_target frame cause
  answered_to protocols.Compact frame cause = answer_of source compact_target frame cause
  answered_to protocols.Json frame cause = answer_of source json_target frame cause

-- the verdict on a frame of one protocol for another, and the bytes that are written
unfoldable pub judged : Declarations → Route → Proto → Proto → List ℕ → Judged
judged d route protocols.Binary to frame = judged_to binary_source d route to frame
judged d route protocols.Compact to frame = judged_to compact_source d route to frame
judged d route protocols.Json to frame = judged_to json_source d route to frame

-- what answers a frame of one protocol in another, for a cause
unfoldable pub answered : Proto → Proto → List ℕ → Cause → List ℕ
answered protocols.Binary to frame cause = answered_to binary_source to frame cause
answered protocols.Compact to frame cause = answered_to compact_source to frame cause
answered protocols.Json to frame cause = answered_to json_source to frame cause
