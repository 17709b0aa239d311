-- What the hub over sockets tells: the open sessions of its sockets, as the two sides of each.
use Rattle.std.specs.Prelude.{◌≡◌, ℕ, true, false, Option, None, Some, nat_lt}
use Rattle.gate_base.specs.Bytes.{AreBytes}
use Rattle.gate_hub.specs.Hubs.{Leads}
use Rattle.gate_hub.specs.Meaning.{Link, Told, Meaning, link_of}
use Rattle.gate_hub.specs.declared.hub.Side.{Side}
use Rattle.gate_hub.specs.declared.hub.Side.TheVariants as side
use Rattle.gate_hub.specs.declared.hub.HubNext.TheVariants as event
use Rattle.mio_edge.specs.Wire.{Wire}
use Rattle.mio_edge.specs.Sessions.{Links}
use Rattle.mio_edge.specs.Tables.{World}
use Rattle.mio_edge.specs.Worlds.{SocketsTell, HasStopped}
use Rattle.mio_edge.specs.declared.hub.MioHub.{MioHub}

-- the port of a side
abbrev pub port_number : Side → ℕ
port_number side.Client = 0
port_number side.Upstream = 1

-- the same bytes, end and last answers
pub record Alike (a b : Link) : Type 0 where
  pub received : b.received ≡ a.received
  pub sent : b.sent ≡ a.sent
  pub ended : b.ended ≡ a.ended
  pub last_read : b.last_read ≡ a.last_read
  pub last_write : b.last_write ≡ a.last_write

-- a session as it is told, and its links where it is open
abbrev pub Agrees : Told → Option Links → Type 0
Agrees told None = told.announced ≡ true → told.closed ≡ true
Agrees told (Some links) = (told.announced ≡ true) × (told.closed ≡ false) × Alike (links 0) told.client × Alike (links 1) told.upstream

-- the sessions of the meaning are those of the world; so many were announced, by rising numbers
pub record Matches (count : ℕ) (world : World) (m : Meaning) : Type 0 where
  pub sides : (k : ℕ) → Agrees (m.session k) (world k)
  pub announced : (k : ℕ) → (m.session k).announced ≡ nat_lt k count
  pub bytes : (k : ℕ) (s : Side) → AreBytes (link_of (m.session k) s).received

-- What the hub tells, over a network that tells, and so is alone at its address: its sessions are those of the sockets. Before a start
-- none was announced, and once it has stopped it answers so.
pub record HubTells {W S : Type 0} (IsTelling : Type 0) (tells : S → Wire → Type 0) (hub : MioHub W S) (m : Meaning) : Type 0 where
  pub world : World
  pub sockets : SocketsTell IsTelling tells hub.sockets world
  pub sessions : Matches hub.sockets.serving.announced world m
  pub fresh : m.started ≡ None → hub.sockets.serving.announced ≡ 0
  pub stopped : m.last_event ≡ Some event.Stopped → HasStopped ⊥ hub.sockets

-- what the hub told leads so to what it tells
abbrev pub HubLeads : {W S : Type 0} → Type 0 → (S → Wire → Type 0) → (Meaning → Type 0) → (Meaning → Meaning → Type 0) → MioHub W S → MioHub W S → Type 0
HubLeads IsTelling tells Can Step a b = Leads (HubTells IsTelling tells a) (HubTells IsTelling tells b) Can Step
