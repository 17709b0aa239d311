-- A stream of frames.
use Rattle.std.specs.Prelude.{◌≡◌, ℕ, ◌≤◌, List, ◌++◌, length, false}
use Rattle.std.specs.List.{flat_map, All}
use Rattle.std.specs.Int.{to_be_bytes, w32}
use Rattle.framed_transport.specs.Front.{front, is_whole}

-- a frame on the stream: its length in four bytes, the high one first, and its bytes
unfoldable pub framed : List ℕ → List ℕ
framed frame = to_be_bytes w32 (length frame) ++ frame

-- the frame stands at the front, and the rest behind it
pub record IsCut (limit : ℕ) (bytes frame rest : List ℕ) : Type 0 where
  pub within : length frame ≤ limit
  pub whole : bytes ≡ framed frame ++ rest

-- the bytes are these frames, one after another, and a rest that begins with none
pub record Splits (limit : ℕ) (bytes : List ℕ) (frames : List (List ℕ)) (rest : List ℕ) : Type 0 where
  pub whole : bytes ≡ flat_map framed frames ++ rest
  pub each : All (λ frame. length frame ≤ limit) frames
  pub no_more : is_whole (front limit rest) ≡ false

-- how bytes are split
pub record Splitting (limit : ℕ) (bytes : List ℕ) : Type 0 where
  pub frames : List (List ℕ)
  pub rest : List ℕ
  pub splits : Splits limit bytes frames rest
