-- That each closed session has gone on with its end as far as it can for now, or is in line for a turn of its own.
use Rattle.std.specs.Prelude.{◌≡◌, ◌≢◌, ◌⊎◌, ⊤, ℕ, true, false, Option, None, Some}
use Rattle.slab.specs.Slab.{Slab, get}
use Rattle.mio_edge.specs.Wire.{Wire}
use Rattle.mio_edge.specs.Moving.{IsUnsent}
use Rattle.mio_edge.specs.Sessions.{EachPort}
use Rattle.mio_edge.specs.Closing.{TellsItsEnd}
use Rattle.mio_edge.specs.Tables.{World, TableTells}
use Rattle.mio_edge.specs.declared.listening.Listening.{Listening}
use Rattle.mio_edge.specs.declared.port.Port.{Port}
use Rattle.mio_edge.specs.declared.session.Session.{Session}
use Rattle.mio_edge.specs.declared.table.Table.{Table}

-- the port holds no bytes that its stream may take now, and its peer is told that no more will come where all is sent
pub record HasStepped {S : Type 0} (port : Port S) : Type 0 where
  pub flushed : IsUnsent port → ⊥
  pub told : TellsItsEnd port

-- the session is open, or in line for a turn, or each of its ports has
abbrev pub IsStepped : {S : Type 0} → Session S → Type 0
IsStepped session = session.is_open ≡ false → (session.is_queued ≡ true) ⊎ EachPort HasStepped session.ports.items

-- the same of the sessions at all places
abbrev pub AreStepped : {S : Type 0} → Slab (Session S) → Type 0
AreStepped {S} sessions = (place : ℕ) (session : Session S) → get sessions place ≡ Some session → IsStepped session

-- the same of those at all places but this one
abbrev pub OthersStepped : {S : Type 0} → ℕ → Slab (Session S) → Type 0
OthersStepped {S} place sessions = (q : ℕ) (session : Session S) → q ≢ place → get sessions q ≡ Some session → IsStepped session

-- the same where there may be no such place
abbrev pub OthersSteppedIfAny : {S : Type 0} → Option ℕ → Slab (Session S) → Type 0
OthersSteppedIfAny None sessions = AreStepped sessions
OthersSteppedIfAny (Some place) sessions = OthersStepped place sessions

-- the closed sessions have gone on still, or are in line, where the table tells its sessions
abbrev pub StayStepped : {S : Type 0} → (S → Wire → Type 0) → Table S → Table S → Type 0
StayStepped tells a b = (world : World) → TableTells tells a world → AreStepped a.sessions → AreStepped b.sessions

-- the session at this place, if there is one, is open
abbrev pub HoldsOpen : {S : Type 0} → Slab (Session S) → ℕ → Type 0
HoldsOpen {S} sessions place = (session : Session S) → get sessions place ≡ Some session → session.is_open ≡ true

-- the closed sessions of a server that listens have gone on or are in line; before it does there are none
abbrev pub ListeningStepped : {S : Type 0} → Option (Listening S) → Type 0
ListeningStepped None = ⊤
ListeningStepped (Some listening) = AreStepped listening.table.sessions
