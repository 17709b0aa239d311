-- What a fan tells: its sessions with their ports, and the last of its answers.
use Rattle.std.specs.Prelude.{◌≡◌, ℕ, List, Bool, true, false, Option}
use Rattle.gate_hub.specs.Meaning.{Link, new_link, unasked}
use Rattle.gate_hub.specs.declared.hub.HubNext.{HubNext}
use Rattle.gate_hub.specs.declared.hub.LinkGot.{LinkGot}
use Rattle.gate_hub.specs.declared.hub.LinkPut.{LinkPut}
use Rattle.gate_fan.specs.declared.fan.Target.{Target}

-- a session, and what is told of each port of it: port 0 is the client's, port u that of the u-th target. What went over it stays
-- told once it is closed
pub record Told : Type 0 where
  pub announced : Bool
  pub closed : Bool
  pub link : ℕ → Link

-- what the `start` that answered Done was given
pub record Started : Type 0 where
  pub listen : List ℕ
  pub targets : List Target
  pub accept : ℕ
  pub sessions : ℕ

-- a call with its answer: for the next event; to read a port of a session into a slice of so many bytes, or to write a slice
-- of so many to it; to close a session
pub data FanCall : Type 0 where
  Asked : HubNext → FanCall
  Read : ℕ → ℕ → ℕ → LinkGot → FanCall
  Wrote : ℕ → ℕ → ℕ → LinkPut → FanCall
  Closed : ℕ → FanCall

-- the whole fan: each session by its number, what it was started with, the last answer of `next`, the number of its answers
-- Opened and Ready, which stands still at 2^64 - 1, and each of its calls but `start`, in order
pub record Meaning : Type 0 where
  pub session : ℕ → Told
  pub started : Option Started
  pub last_event : Option HubNext
  pub events : ℕ
  pub calls : List FanCall

abbrev pub unknown_session : Told
unknown_session = record { announced = false; closed = false; link = λ port. new_link }

abbrev pub new_session : Told
new_session = record { announced = true; closed = false; link = λ port. new_link }

-- it was announced and isn't closed
abbrev pub IsOpen : ℕ → Meaning → Type 0
IsOpen k m = ((m.session k).announced ≡ true) × ((m.session k).closed ≡ false)

-- the session after an event that names it: the last answers are none
abbrev pub reopened : Told → Told
reopened a = record a { link = λ port. unasked (a.link port) }
