-- Lines on a stream.
use Rattle.std.specs.Prelude.{◌≡◌, ℕ, ◌≤◌, List, [], ◌∷◌, ◌++◌, length, Bool, not, ◌==◌}
use Rattle.std.specs.List.{prefix_len}
use Rattle.json_text.specs.Scan.{is_white}

-- a byte other than LF
abbrev pub is_inner : ℕ → Bool
is_inner byte = not (byte == 10)

-- how many bytes stand before the first LF, or how many there are where there is none
unfoldable pub line_length : List ℕ → ℕ
line_length bytes = prefix_len is_inner bytes

-- a line of at most so many bytes, in which no LF stands
pub record IsLine (limit : ℕ) (line : List ℕ) : Type 0 where
  pub within : length line ≤ limit
  pub unbroken : line_length line ≡ length line

-- a line on the stream: its bytes and an LF
unfoldable pub ended : List ℕ → List ℕ
ended line = line ++ 10 ∷ []

-- whether a line is nothing but whitespace (RFC 8259, section 2), or empty
unfoldable pub is_blank : List ℕ → Bool
is_blank line = prefix_len is_white line == length line
