-- A router between two calls, and what came and went at each port: port 0 is the client's, port `suc u` that of target u.
use Rattle.std.specs.Prelude.{ℕ, zero, suc, ◌-◌, ◌+◌, ◌==◌, List, [], ◌++◌, length, replicate, get_or, slice_set, Bool, true, false, ◌||◌, if◌then◌else◌}
use Rattle.service_router.specs.declared.call.OpenCall.{OpenCall}

-- what came of a port and isn't taken, whether it has ended, and how many of its frames were taken
pub record Inbox : Type 0 where
  pub limit : ℕ
  pub held : List ℕ
  pub ended : Bool
  pub taken : ℕ

-- a port of which nothing came
abbrev pub silent : ℕ → Inbox
silent limit = record { limit = limit; held = []; ended = false; taken = 0 }

pub record Standing : Type 0 where
  -- what came of the client, and of each target in order
  pub client : Inbox
  pub upstreams : List Inbox
  -- the bytes due to the client
  pub to_client : List ℕ
  -- the bytes due to a target, and which target that is
  pub to_upstream : List ℕ
  pub toward : ℕ
  -- the open calls, the oldest first
  pub calls : List OpenCall

-- a router of so many targets that was opened, before anything came
abbrev pub begun : ℕ → ℕ → Standing
begun limit targets = record { client = silent limit; upstreams = replicate targets (silent limit); to_client = []; to_upstream = []; toward = 0; calls = [] }

-- the bytes that each port sent and was sent, and whether it has ended
pub record History : Type 0 where
  pub received : ℕ → List ℕ
  pub sent : ℕ → List ℕ
  pub ended : ℕ → Bool

abbrev pub nothing : History
nothing = record { received = λ port. []; sent = λ port. []; ended = λ port. false }

-- a function that differs at one port
abbrev pub but_at : {X : Type 0} → ℕ → X → (ℕ → X) → ℕ → X
but_at port x f other = if other == port then x else f other

-- these bytes more came of a port
abbrev pub and_received : ℕ → History → List ℕ → History
and_received port h bytes = record h { received = but_at port (h.received port ++ bytes) h.received }

-- these bytes more were sent to a port
abbrev pub and_sent : ℕ → History → List ℕ → History
and_sent port h bytes = record h { sent = but_at port (h.sent port ++ bytes) h.sent }

-- and a port has ended
abbrev pub and_ended : ℕ → History → History
and_ended port h = record h { ended = but_at port true h.ended }

-- what came of a port: of one that is none nothing came
abbrev pub inbox_of : ℕ → Standing → Inbox
inbox_of zero s = s.client
inbox_of (suc u) s = get_or s.upstreams u (silent 0)

-- what came of one port is this
abbrev pub with_inbox : ℕ → Inbox → Standing → Standing
with_inbox zero inbox s = record s { client = inbox }
with_inbox (suc u) inbox s = record s { upstreams = slice_set s.upstreams u inbox }

abbrev pub due_to : ℕ → Standing → List ℕ
due_to zero s = s.to_client
due_to (suc u) s = if s.toward == u then s.to_upstream else []

-- how much more can be taken of a port
abbrev pub room_of : ℕ → Standing → Bool → ℕ → ℕ
room_of limit s over port = if (inbox_of port s).ended || over then 0 else limit + 4 - length (inbox_of port s).held
