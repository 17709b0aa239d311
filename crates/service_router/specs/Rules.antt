-- How a router judges frames: as a session does, and to which target a message goes.
use Rattle.std.specs.Prelude.{ℕ, List}
use Rattle.session_core.specs.Rules.{Rules}

pub record RouteRules : Type 0 where
  -- the verdict on each frame and what is written for it; a call that no target serves is refused
  pub judging : Rules
  -- the target, from 0, to which a frame of the client goes where it is passed
  pub target : List ℕ → ℕ
