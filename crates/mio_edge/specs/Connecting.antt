-- Which ports of a session have a connection, and of which it is begun at the first write.
use Rattle.std.specs.Prelude.{◌≡◌, ℕ, ◌<◌, length, List, Option, None, Some}
use Rattle.std.specs.List.{slice_get}
use Rattle.slab.specs.Slab.{Slab, get}
use Rattle.mio_edge.specs.Sessions.{EachPort}
use Rattle.mio_edge.specs.declared.port.Port.{Port}
use Rattle.mio_edge.specs.declared.port.Sending.{Sending}
use Rattle.mio_edge.specs.declared.port.Sending.TheVariants as sending
use Rattle.mio_edge.specs.declared.session.Session.{Session}

-- the port has this connection, and holds it to be begun so
pub record IsConnected {S : Type 0} (stream : S) (begun : Sending) (port : Port S) : Type 0 where
  pub has : port.stream ≡ Some stream
  pub can : port.sending ≡ begun

-- the same of the port that was read at a number, which there is
abbrev pub IsConnectedAt : {S : Type 0} → S → Sending → Option (Port S) → Type 0
IsConnectedAt stream begun None = ⊥
IsConnectedAt stream begun (Some port) = IsConnected stream begun port

-- the port that was read there has this connection, and holds it to be begun so
abbrev pub ConnectsPort : {S : Type 0} → S → Sending → ℕ → List (Port S) → List (Port S) → Type 0
ConnectsPort {S} stream begun port a b = (x : Port S) → slice_get a port ≡ Some x → IsConnectedAt stream begun (slice_get b port)

-- the same of the session at a place, which is another one by now
abbrev pub Connects : {S : Type 0} → S → Sending → (place port : ℕ) → Slab (Session S) → Slab (Session S) → Type 0
Connects {S} stream begun place port a b =
    (x y : Session S) → get a place ≡ Some x → get b place ≡ Some y → ConnectsPort stream begun port x.ports.items y.ports.items

-- the session at this place has such a port
abbrev pub HasPortAt : {S : Type 0} → Slab (Session S) → ℕ → ℕ → Type 0
HasPortAt {S} sessions place port = (session : Session S) × (get sessions place ≡ Some session) × (port < length session.ports.items)

-- the connection of this port is begun at the first write
abbrev pub IsDeferredAt : {S : Type 0} → Option (Port S) → Type 0
IsDeferredAt None = ⊥
IsDeferredAt (Some port) = port.sending ≡ sending.Deferred

-- where the port has no connection it is begun at the first write
abbrev pub WaitsForWrite : {S : Type 0} → Port S → Type 0
WaitsForWrite port = port.stream ≡ None → port.sending ≡ sending.Deferred

-- this holds of each port of the session at this place, if there is one
abbrev pub EachPortAt : {S : Type 0} → (Port S → Type 0) → Slab (Session S) → ℕ → Type 0
EachPortAt {S} P sessions place = (session : Session S) → get sessions place ≡ Some session → EachPort P session.ports.items

-- the connection of this port of the session at a place is begun at the first write
abbrev pub IsDeferredIn : {S : Type 0} → Slab (Session S) → ℕ → ℕ → Type 0
IsDeferredIn {S} sessions place port = (session : Session S) × (get sessions place ≡ Some session) × IsDeferredAt (slice_get session.ports.items port)
