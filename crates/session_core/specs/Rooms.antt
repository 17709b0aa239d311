-- How much room what is written takes at the most.
use Rattle.std.specs.Prelude.{ℕ, ◌+◌}
use Rattle.protocol_traits.specs.Room.{room_for}

-- what is written for a frame of so many bytes, in any protocol, as a frame with its length
abbrev pub due_room : ℕ → ℕ
due_room n = room_for n + 4
