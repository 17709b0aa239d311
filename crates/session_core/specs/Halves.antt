-- What a session holds of one side in the program.
use Rattle.std.specs.Prelude.{◌≡◌, ℕ, ◌+◌, ◌≤◌, List, [], ◌++◌, length, drop, true, false}
use Rattle.framed_transport.specs.Front.{front, behind}
use Rattle.session_core.specs.Fits.{told}
use Rattle.session_core.specs.Rooms.{due_room}
use Rattle.session_core.specs.declared.half.Half.{Half}

-- a side of which nothing came
abbrev pub opened : ℕ → Half
opened limit = record { held = record { held = []; limit = limit }; due = record { bytes = []; room = due_room limit }; ended = false; count = 0 }

-- more bytes came of it
abbrev pub fed : Half → List ℕ → Half
fed half piece = record half { held = record (half.held) { held = half.held.held ++ piece } }

-- so many bytes were sent to it
abbrev pub let_go : Half → ℕ → Half
let_go half n = record half { due = record (half.due) { bytes = drop n half.due.bytes } }

-- it sends nothing more
abbrev pub ended : Half → Half
ended half = record half { ended = true }

-- what is held of it behind its front frame
abbrev pub behind_front : Half → List ℕ
behind_front half = behind half.held.held (front half.held.limit half.held.held)

-- its front frame was taken
abbrev pub without_frame : Half → Half
without_frame half = record half {
  held = record (half.held) { held = behind_front half };
  count = told (half.count + 1);
}

-- its rooms serve for frames of the limit, and nothing in it passes its room
pub record HasRooms (limit : ℕ) (half : Half) : Type 0 where
  pub limit_is : half.held.limit ≡ limit
  pub due_room_is : half.due.room ≡ due_room limit
  pub held_within : length half.held.held ≤ limit + 4
  pub due_within : length half.due.bytes ≤ half.due.room
