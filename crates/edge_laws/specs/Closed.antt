-- What becomes of what was written to a session that is closed.
use Rattle.std.specs.Prelude.{◌≡◌, ℕ, ◌⊎◌, List, [], ◌++◌, true, false, Option, None, Some}
use Rattle.std.specs.List.{slice_get}
use Rattle.slab.specs.Slab.{get}
use Rattle.gate_hub.specs.Meaning.{Meaning, IsOpen, link_of}
use Rattle.gate_hub.specs.declared.hub.Side.{Side}
use Rattle.mio_edge.specs.Wire.{Wire}
use Rattle.mio_edge.specs.Telling.{port_number}
use Rattle.mio_edge.specs.Winding.{SocketsClose, SocketsWind}
use Rattle.mio_edge.specs.declared.hub.MioHub.{MioHub}
use Rattle.mio_edge.specs.declared.listening.Listening.{Listening}
use Rattle.mio_edge.specs.declared.port.Port.{Port}
use Rattle.mio_edge.specs.declared.session.Session.{Session}

-- of these bytes the stream has taken a front, and the rest waits for it
abbrev pub StreamSends : {S : Type 0} → (S → Wire → Type 0) → Option S → List ℕ → Type 0
StreamSends tells None bytes = bytes ≡ []
StreamSends tells (Some stream) bytes = (wire : Wire) × tells stream wire × (waits : List ℕ) × (bytes ≡ wire.sent ++ waits)

abbrev pub PortSends : {S : Type 0} → (S → Wire → Type 0) → Option (Port S) → List ℕ → Type 0
PortSends tells None bytes = bytes ≡ []
PortSends tells (Some port) bytes = StreamSends tells port.stream bytes

-- the stream has taken all of these bytes and no others, or it failed
abbrev pub StreamHasSent : {S : Type 0} → (S → Wire → Type 0) → Option S → List ℕ → Type 0
StreamHasSent tells None bytes = bytes ≡ []
StreamHasSent tells (Some stream) bytes = (wire : Wire) × tells stream wire × ((wire.sent ≡ bytes) ⊎ (wire.failed ≡ true))

abbrev pub PortHasSent : {S : Type 0} → (S → Wire → Type 0) → Option (Port S) → List ℕ → Type 0
PortHasSent tells None bytes = bytes ≡ []
PortHasSent tells (Some port) bytes = StreamHasSent tells port.stream bytes

-- session k stands closed among the sessions of the hub, and sends these bytes still at each side
abbrev pub SendsStill : {W S : Type 0} → (S → Wire → Type 0) → MioHub W S → ℕ → (Side → List ℕ) → Type 0
SendsStill {W} {S} tells hub k bytes =
    (listening : Listening S) × (place : ℕ) × (session : Session S) × (hub.sockets.serving.listening ≡ Some listening) × (get listening.table.sessions place ≡ Some session)
    × (session.number ≡ k) × (session.is_open ≡ false) × ((s : Side) → PortSends tells (slice_get session.ports.items (port_number s)) (bytes s))

-- session k was let go once it had sent these bytes at each side
abbrev pub HasSentAll : {S : Type 0} → (S → Wire → Type 0) → ℕ → (Side → List ℕ) → Type 0
HasSentAll {S} tells k bytes = (session : Session S) × (session.number ≡ k) × (session.is_open ≡ false) × ((s : Side) → PortHasSent tells (slice_get session.ports.items (port_number s)) (bytes s))

-- what was written to session k, as this meaning tells it, is sent still or was sent
abbrev pub IsSent : {W S : Type 0} → (S → Wire → Type 0) → MioHub W S → Meaning → ℕ → Type 0
IsSent tells hub m k = SendsStill tells hub k (λ s. (link_of (m.session k) s).sent) ⊎ HasSentAll tells k (λ s. (link_of (m.session k) s).sent)

-- the closed sessions of the hub have gone on
abbrev pub HubsWind : {W S : Type 0} → (S → Wire → Type 0) → MioHub W S → MioHub W S → Type 0
HubsWind tells a b = SocketsWind tells a.sockets b.sockets

-- where session k, which is open in this meaning, is closed between a and b, and the closed sessions have gone on to c
abbrev pub IsSentLater : {W S : Type 0} → Type 0 → (S → Wire → Type 0) → MioHub W S → MioHub W S → MioHub W S → Meaning → Type 0
IsSentLater Is tells a b c m = (k : ℕ) → IsOpen k m → SocketsClose Is tells k a.sockets b.sockets → HubsWind tells b c → IsSent tells c m k
