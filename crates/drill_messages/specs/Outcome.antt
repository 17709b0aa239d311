-- What is written of the messages, and their lengths.
use Rattle.std.specs.Prelude.{◌≡◌, ℕ, List, Option, length}
use Rattle.std.specs.Io.KnownBytes.{Appends}
use Rattle.std.specs.List.{flat_map, sum_by}
use Rattle.framed_transport.specs.Frames.{framed}
use Rattle.drill_messages.specs.declared.totals.Totals.{Totals}
use Rattle.drill_messages.specs.Messages.{Put}
use Rattle.drill_messages.specs.Spellings.{binary_of, compact_of, json_of}

-- the frame of each message's Binary spelling, in order
abbrev pub stream_of : List Put → List ℕ
stream_of messages = flat_map (λ m. framed (binary_of m)) messages

-- how long the messages are in each protocol, all together, without the lengths of frames
abbrev pub totals_of : List Put → Totals
totals_of messages = record {
  binary = sum_by (λ m. length (binary_of m)) messages;
  compact = sum_by (λ m. length (compact_of m)) messages;
  json = sum_by (λ m. length (json_of m)) messages;
}

-- these messages were written, and are so long
abbrev pub AreWritten : List Put → Option (List ℕ) → Option (List ℕ) → Totals → Type 0
AreWritten messages old new totals = (totals ≡ totals_of messages) × Appends old new (stream_of messages)
