-- The contents of frames that were put together.
use Rattle.std.specs.Prelude.{◌≡◌, ℕ, ◌≤◌, List, length, take}
use Rattle.stream_messages.specs.declared.gathering.Gathered.{Gathered}
use Rattle.stream_messages.specs.Stripping.{StripperState, behind_bytes, contents}

-- The contents of the first bytes, so many, stand in front in the room.
pub record IsGathered (s : StripperState) (from room : List ℕ) (g : Gathered) : Type 0 where
  pub within : g.taken ≤ length from
  pub fits : g.filled ≤ length room
  pub behind : g.behind ≡ behind_bytes s (take g.taken from)
  pub are : take g.filled room ≡ contents s (take g.taken from)
