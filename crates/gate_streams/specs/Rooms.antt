-- The rooms of a stream, in bytes.
use Rattle.std.specs.Prelude.{ℕ, ◌+◌, ◌*◌}

-- for what is written of a message of so many bytes
abbrev pub translated_room : ℕ → ℕ
translated_room n = 24 * n + 256

-- the same in a frame, with its four length bytes
abbrev pub framed_room : ℕ → ℕ
framed_room n = 24 * n + 260
