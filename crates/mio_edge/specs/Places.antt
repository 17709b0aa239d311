-- Which places of a table are free, which a closed session may give up, and when all closed sessions have sent everything.
use Rattle.std.specs.Prelude.{◌≡◌, ◌≢◌, ◌⊎◌, ℕ, ◌<◌, nat_le, [], ◌∷◌, ◌++◌, true, if◌then◌else◌, Option, None, Some}
use Rattle.std.specs.List.{slice_get}
use Rattle.std.specs.Vec.{vec_len, vec_capacity}
use Rattle.slab.specs.Slab.{get}
use Rattle.mio_edge.specs.declared.listening.Listening.{Listening}
use Rattle.mio_edge.specs.declared.port.Port.{Port}
use Rattle.mio_edge.specs.declared.port.Sending.TheVariants as sending
use Rattle.mio_edge.specs.declared.session.Session.{Session}
use Rattle.mio_edge.specs.declared.sockets.Sockets.{Sockets}
use Rattle.mio_edge.specs.declared.table.Table.{Table}
use Rattle.mio_edge.specs.declared.table.TheConstants.{BUFFERS, LARGE_BUFFERS, FEW_PLACES}

-- bytes that were written to the port are held, and its connection hasn't failed
pub record HoldsUnsent {S : Type 0} (port : Port S) : Type 0 where
  pub working : port.sending ≢ sending.Lost
  pub some : port.outgoing.bytes ≢ []

abbrev pub HoldsUnsentAt : {S : Type 0} → Option (Port S) → Type 0
HoldsUnsentAt None = ⊥
HoldsUnsentAt (Some port) = HoldsUnsent port

-- a port of the session holds such
abbrev pub HasUnsent : {S : Type 0} → Session S → Type 0
HasUnsent session = (p : ℕ) × HoldsUnsentAt (slice_get session.ports.items p)

-- this holds of each session that is listed as closed
abbrev pub OfClosed : {S : Type 0} → Table S → (Session S → Type 0) → Type 0
OfClosed {S} table P = (n place : ℕ) (session : Session S) → slice_get table.closed.items n ≡ Some place → get table.sessions place ≡ Some session → P session

-- all closed sessions have sent everything, or can't
pub record AllSent {S : Type 0} (table : Table S) : Type 0 where
  pub each : OfClosed table (λ session. HasUnsent session → ⊥)

-- no closed session gives up its place: each is to have a turn, or holds bytes
pub record NoneGives {S : Type 0} (table : Table S) : Type 0 where
  pub each : OfClosed table (λ session. (session.is_queued ≡ true) ⊎ HasUnsent session)

-- no place is free, and none is given up
pub record HasNoPlace {S : Type 0} (table : Table S) : Type 0 where
  pub spare : table.spare.items ≡ []
  pub closed : NoneGives table

-- the same where what a closed session gives up has room among the free places
abbrev pub HasNoPlaceWhere : {S : Type 0} → Table S → Type 0
HasNoPlaceWhere table = 0 < vec_capacity table.spare → HasNoPlace table

-- the closed sessions of a server that listens have sent everything, or can't
pub record AllHaveSent {W S : Type 0} (sockets : Sockets W S) : Type 0 where
  pub each : (listening : Listening S) → sockets.serving.listening ≡ Some listening → AllSent listening.table

-- this place is listed last among those of the closed sessions, where the list has room
abbrev pub ListsClosed : {S : Type 0} → ℕ → Table S → Table S → Type 0
ListsClosed place a b = vec_len a.closed < vec_capacity a.closed → b.closed.items ≡ a.closed.items ++ place ∷ []

-- how many bytes a session may move in a turn where there are so many places
abbrev pub quantum_for : ℕ → ℕ
quantum_for places = if nat_le places FEW_PLACES then LARGE_BUFFERS else BUFFERS
