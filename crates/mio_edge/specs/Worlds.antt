-- What the sockets tell: the sessions that are open, and what went over the ports of each.
use Rattle.std.specs.Prelude.{◌≡◌, ℕ, ◌<◌, ◌⊎◌, true, Option, None, Some, IsSome}
use Rattle.gate_hub.specs.declared.hub.HubNext.{HubNext}
use Rattle.gate_hub.specs.declared.hub.HubNext.TheVariants as event
use Rattle.mio_edge.specs.Wire.{Wire, Moves, Stays}
use Rattle.mio_edge.specs.Numbers.{AllAnnounced}
use Rattle.mio_edge.specs.Stepping.{ListeningStepped}
use Rattle.mio_edge.specs.Tables.{World, TableTells, Opens, Names, MovesAt}
use Rattle.mio_edge.specs.declared.listening.Connecting.TheVariants as connecting
use Rattle.mio_edge.specs.declared.listening.Listening.{Listening}
use Rattle.mio_edge.specs.declared.sockets.Sockets.{Sockets}

-- the sessions of a server that listens; none is open before it does
abbrev pub ListeningTells : {S : Type 0} → (S → Wire → Type 0) → Option (Listening S) → World → Type 0
ListeningTells tells None world = (k : ℕ) → world k ≡ None
ListeningTells tells (Some listening) world = (listening.connecting ≡ connecting.AtOnce) × TableTells tells listening.table world

-- What the sockets of a network that tells tell, where each session is connected to all its upstreams at once: the open
-- sessions, whose numbers are below the next number. Each closed one is in line for a turn, or has gone on as far as it can for now.
pub record SocketsTell {W S : Type 0} (IsTelling : Type 0) (tells : S → Wire → Type 0) (sockets : Sockets W S) (world : World) : Type 0 where
  pub is_telling : IsTelling
  pub at_once : sockets.connecting ≡ connecting.AtOnce
  pub sessions : ListeningTells tells sockets.serving.listening world
  pub below : (k : ℕ) → IsSome (world k) → k < sockets.serving.announced
  pub stepped : ListeningStepped sockets.serving.listening

-- what the sockets told is told still
abbrev pub SocketsStay : {W S : Type 0} → Type 0 → (S → Wire → Type 0) → Sockets W S → Sockets W S → Type 0
SocketsStay Is tells a b = Stays (SocketsTell Is tells a) (SocketsTell Is tells b)

-- what they told has moved so
abbrev pub SocketsMove : {W S : Type 0} → Type 0 → (S → Wire → Type 0) → (World → World → Type 0) → Sockets W S → Sockets W S → Type 0
SocketsMove Is tells Step a b = Moves (SocketsTell Is tells a) (SocketsTell Is tells b) Step

-- the same at session k, which is open
abbrev pub SocketsMoveAt : {W S : Type 0} → Type 0 → (S → Wire → Type 0) → ℕ → (World → World → Type 0) → Sockets W S → Sockets W S → Type 0
SocketsMoveAt Is tells k Step a b = MovesAt k (SocketsTell Is tells a) (SocketsTell Is tells b) Step

-- where the sockets tell their sessions, each closed one is in line for a turn, or has gone on as far as it can for now
abbrev pub SocketsStepped : {W S : Type 0} → Type 0 → (S → Wire → Type 0) → Sockets W S → Type 0
SocketsStepped Is tells sockets = (world : World) → SocketsTell Is tells sockets world → ListeningStepped sockets.serving.listening

-- they tell that no session is open
abbrev pub NoneOpen : {W S : Type 0} → Type 0 → (S → Wire → Type 0) → Sockets W S → Type 0
NoneOpen Is tells sockets = (world : World) → SocketsTell Is tells sockets world → (k : ℕ) → world k ≡ None

-- what an event does to the open sessions
abbrev pub EventMoves : HubNext → World → World → Type 0
EventMoves (event.Opened k) a b = Opens k a b
EventMoves (event.Ready k) a b = Names k a b
EventMoves event.Stopped a b = b ≡ a
EventMoves event.Failed a b = b ≡ a

-- the same where there may be no event yet
abbrev pub EventMovesIfAny : Option HubNext → World → World → Type 0
EventMovesIfAny (Some answer) a b = EventMoves answer a b
EventMovesIfAny None a b = b ≡ a

-- they answer that no event follows: all was announced, or another server at the address has ended, or hands on no more
pub record HasStopped {W S : Type 0} (IsShared : Type 0) (sockets : Sockets W S) : Type 0 where
  pub stopped : sockets.has_stopped ≡ true
  pub ended : AllAnnounced sockets.accept sockets.serving.announced ⊎ IsShared
