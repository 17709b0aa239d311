-- The rooms in which messages are spelled, and what is known of each.
use Rattle.std.specs.Prelude.{◌≡◌, ℕ, ◌≤◌, ◌+◌, length}
use Rattle.drill_messages.specs.declared.rooms.Rooms.{Rooms}
use Rattle.drill_messages.specs.declared.sizes.TheConstants.{MESSAGE_ROOM, STREAM_ROOM}
use Rattle.drill_messages.specs.declared.totals.Totals.{Totals}
use Rattle.drill_messages.specs.Messages.{Put}
use Rattle.drill_messages.specs.Spellings.{binary_of, compact_of, json_of}

-- how much room there is
pub record IsOpen (rooms : Rooms) : Type 0 where
  pub stream : rooms.stream.room ≡ STREAM_ROOM
  pub compact : rooms.compact.room ≡ MESSAGE_ROOM
  pub json : rooms.json.room ≡ MESSAGE_ROOM

-- how long one message is in each protocol
abbrev pub lengths_of : Put → Totals
lengths_of m = record { binary = length (binary_of m); compact = length (compact_of m); json = length (json_of m) }

-- at most so many bytes in each protocol
pub record IsWithin (totals : Totals) (most : ℕ) : Type 0 where
  pub binary : totals.binary ≤ most
  pub compact : totals.compact ≤ most
  pub json : totals.json ≤ most

abbrev pub sum_of : Totals → Totals → Totals
sum_of a b = record { binary = a.binary + b.binary; compact = a.compact + b.compact; json = a.json + b.json }
