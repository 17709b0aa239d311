-- What a hub tells: its sessions, and the last of its answers.
use Rattle.std.specs.Prelude.{◌≡◌, ℕ, List, [], Bool, true, false, Option, None}
use Rattle.gate_hub.specs.declared.hub.Side.{Side}
use Rattle.gate_hub.specs.declared.hub.Side.TheVariants as side
use Rattle.gate_hub.specs.declared.hub.HubNext.{HubNext}
use Rattle.gate_hub.specs.declared.hub.LinkGot.{LinkGot}
use Rattle.gate_hub.specs.declared.hub.LinkPut.{LinkPut}

-- one side of a session: the bytes that were received from it and sent to it, whether it ended, and what the last read and
-- the last write since the last event of the session answered
pub record Link : Type 0 where
  pub received : List ℕ
  pub sent : List ℕ
  pub ended : Bool
  pub last_read : Option LinkGot
  pub last_write : Option LinkPut

-- a session; what went over it stays told once it is closed
pub record Told : Type 0 where
  pub announced : Bool
  pub closed : Bool
  pub client : Link
  pub upstream : Link

-- what the `start` that answered Done was given
pub record Started : Type 0 where
  pub listen : List ℕ
  pub upstream : List ℕ
  pub accept : ℕ
  pub sessions : ℕ

-- a call with its answer: for the next event; to read a side of a session into a slice of so many bytes, or to write a slice
-- of so many to it; to close a session
pub data HubCall : Type 0 where
  Asked : HubNext → HubCall
  Read : ℕ → Side → ℕ → LinkGot → HubCall
  Wrote : ℕ → Side → ℕ → LinkPut → HubCall
  Closed : ℕ → HubCall

-- the whole hub: each session by its number, what it was started with, the last answer of `next`, the number of its answers
-- Opened and Ready, which stands still at 2^64 - 1, and each of its calls but `start`, in order
pub record Meaning : Type 0 where
  pub session : ℕ → Told
  pub started : Option Started
  pub last_event : Option HubNext
  pub events : ℕ
  pub calls : List HubCall

abbrev pub new_link : Link
new_link = record { received = []; sent = []; ended = false; last_read = None; last_write = None }

abbrev pub unknown_session : Told
unknown_session = record { announced = false; closed = false; client = new_link; upstream = new_link }

abbrev pub new_session : Told
new_session = record { announced = true; closed = false; client = new_link; upstream = new_link }

-- the last answers are none
abbrev pub unasked : Link → Link
unasked link = record link { last_read = None; last_write = None }

abbrev pub link_of : Told → Side → Link
link_of told side.Client = told.client
link_of told side.Upstream = told.upstream

-- it was announced and isn't closed
abbrev pub IsOpen : ℕ → Meaning → Type 0
IsOpen k m = ((m.session k).announced ≡ true) × ((m.session k).closed ≡ false)

-- the session after an event that names it
abbrev pub reopened : Told → Told
reopened a = record a { client = unasked a.client; upstream = unasked a.upstream }
