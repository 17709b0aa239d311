-- What the links of an open session have to do with its streams.
use Rattle.std.specs.Prelude.{◌≡◌, ℕ, ◌⊎◌, ⊤, List, [], ◌++◌, true, false, Option, None, Some}
use Rattle.std.specs.List.{slice_get}
use Rattle.slab.specs.Slab.{get}
use Rattle.gate_hub.specs.Meaning.{Link, Meaning, IsOpen, link_of}
use Rattle.gate_hub.specs.declared.hub.Side.{Side}
use Rattle.gate_hub.specs.declared.hub.LinkGot.TheVariants as got
use Rattle.gate_hub.specs.declared.hub.LinkPut.TheVariants as put
use Rattle.mio_edge.specs.Wire.{Wire}
use Rattle.mio_edge.specs.Telling.{port_number}
use Rattle.mio_edge.specs.Turns.{Has, turns_of}
use Rattle.mio_edge.specs.declared.hub.MioHub.{MioHub}
use Rattle.mio_edge.specs.declared.listening.Listening.{Listening}
use Rattle.mio_edge.specs.declared.port.Port.{Port}
use Rattle.mio_edge.specs.declared.port.Sending.TheVariants as sending
use Rattle.mio_edge.specs.declared.session.Session.{Session}

-- The stream gave what was received and then some, and took a front of what was sent. Where the link has ended its end was
-- read, and where the last call of the link failed, the stream did.
pub record Carries (wire : Wire) (link : Link) : Type 0 where
  pub held : List ℕ
  pub waits : List ℕ
  pub received : wire.received ≡ link.received ++ held
  pub sent : link.sent ≡ wire.sent ++ waits
  pub ended : link.ended ≡ true → wire.ended ≡ true
  pub failed_read : link.last_read ≡ Some got.Failed → wire.failed ≡ true
  pub failed_write : link.last_write ≡ Some put.Failed → wire.failed ≡ true

-- of the port's stream, if there is one
abbrev pub StreamCarries : {S : Type 0} → (S → Wire → Type 0) → Option S → Link → Type 0
StreamCarries tells None link = (link.received ≡ []) × (link.sent ≡ [])
StreamCarries tells (Some stream) link = (wire : Wire) × tells stream wire × Carries wire link

abbrev pub PortCarries : {S : Type 0} → (S → Wire → Type 0) → Option (Port S) → Link → Type 0
PortCarries tells None link = (link.received ≡ []) × (link.sent ≡ [])
PortCarries tells (Some port) link = StreamCarries tells port.stream link

-- session k stands among the sessions of the hub, once, and a side of it has what its port's stream has
abbrev pub HasOwnStream : {W S : Type 0} → (S → Wire → Type 0) → MioHub W S → Meaning → ℕ → Side → Type 0
HasOwnStream {W} {S} tells hub m k s =
    (listening : Listening S) × (place : ℕ) × (session : Session S) × (hub.sockets.serving.listening ≡ Some listening) × (get listening.table.sessions place ≡ Some session)
    × (session.number ≡ k) × (session.is_open ≡ true) × PortCarries tells (slice_get session.ports.items (port_number s)) (link_of (m.session k) s)

-- the same of both sides of each open session
abbrev pub HaveOwnStreams : {W S : Type 0} → (S → Wire → Type 0) → MioHub W S → Meaning → Type 0
HaveOwnStreams tells hub m = (k : ℕ) → IsOpen k m → (s : Side) → HasOwnStream tells hub m k s

-- Nothing is there to be read: there is no connection, or its stream isn't readable as far as was reported since a read found the
-- last of what came, or it has ended or failed.
abbrev pub NothingToRead : {S : Type 0} → (S → Wire → Type 0) → Option S → Port S → Type 0
NothingToRead tells None port = ⊤
NothingToRead tells (Some stream) port = (wire : Wire) × tells stream wire × ((wire.readable ≡ false) ⊎ ((wire.ended ≡ true) ⊎ (wire.failed ≡ true)))

-- nothing is taken: the same of a write, or the peer was told the end
abbrev pub NothingIsTaken : {S : Type 0} → (S → Wire → Type 0) → Option S → Port S → Type 0
NothingIsTaken tells None port = ⊤
NothingIsTaken tells (Some stream) port = (wire : Wire) × tells stream wire × ((wire.writable ≡ false) ⊎ ((port.sending ≡ sending.Shut) ⊎ (wire.failed ≡ true)))

abbrev pub AtPortOf : {S : Type 0} → (Option S → Port S → Type 0) → Option (Port S) → Type 0
AtPortOf P None = ⊤
AtPortOf P (Some port) = P port.stream port

-- session k stands among those that are to have a turn, or this holds at a side of it
abbrev pub IsNamedOr : {W S : Type 0} → (Option S → Port S → Type 0) → MioHub W S → ℕ → Side → Type 0
IsNamedOr {W} {S} P hub k s =
    (listening : Listening S) × (place : ℕ) × (session : Session S) × (hub.sockets.serving.listening ≡ Some listening) × (get listening.table.sessions place ≡ Some session) × (session.number ≡ k)
    × (Has (turns_of listening.table) place ⊎ AtPortOf P (slice_get session.ports.items (port_number s)))

-- a side that was answered that it isn't ready to be read is named once it is
abbrev pub ReadsAreNamed : {W S : Type 0} → (S → Wire → Type 0) → MioHub W S → Meaning → Type 0
ReadsAreNamed tells hub m = (k : ℕ) → IsOpen k m → (s : Side) → (link_of (m.session k) s).last_read ≡ Some got.NotReady → IsNamedOr (NothingToRead tells) hub k s

abbrev pub WritesAreNamed : {W S : Type 0} → (S → Wire → Type 0) → MioHub W S → Meaning → Type 0
WritesAreNamed tells hub m = (k : ℕ) → IsOpen k m → (s : Side) → (link_of (m.session k) s).last_write ≡ Some put.NotReady → IsNamedOr (NothingIsTaken tells) hub k s
