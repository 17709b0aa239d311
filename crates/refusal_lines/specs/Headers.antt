-- What is told of a frame's header.
use Rattle.std.specs.Prelude.{ℕ, ℤ, List, take, length, Bool, nat_lt, Option, Some, None, Ok, Err}
use Rattle.protocol_traits.specs.declared.proto.Proto.{Proto}
use Rattle.protocol_traits.specs.declared.proto.Proto.TheVariants as protocols
use Rattle.protocol_traits.specs.Heads.{Header}
use Rattle.protocol_traits.specs.Steps.{Step}
use Rattle.translate_verdicts.specs.Body.{Source}
use Rattle.protocol_pairs.specs.Pairs.{binary_source, compact_source, json_source}
use Rattle.refusal_lines.specs.declared.header.TheConstants.{NAME_BYTES}

-- the name or its front, whether more of it follows, the sequence number, and the name's place in the frame
pub record HeaderTold : Type 0 where
  pub front : List ℕ
  pub is_longer : Bool
  pub seq : ℤ
  pub place : ℕ

abbrev pub headed_of : Header → ℕ → HeaderTold
headed_of h place = record { front = take NAME_BYTES h.name; is_longer = nat_lt NAME_BYTES (length h.name); seq = h.seq; place = place }

module _ {S : Type 0} (source : Source S) where
  abbrev pub headed_by : Step S Header → Option HeaderTold
  headed_by (Ok x) = Some (headed_of x.0 (source.place x.1))
  headed_by (Err f) = None

  abbrev pub header_by : List ℕ → Option HeaderTold
  header_by frame = headed_by (source.reads_head (source.begun frame))

-- what is told of a frame of a protocol, where its header is whole
unfoldable pub header_in : Proto → List ℕ → Option HeaderTold
header_in protocols.Binary frame = header_by binary_source frame
header_in protocols.Compact frame = header_by compact_source frame
header_in protocols.Json frame = header_by json_source frame
