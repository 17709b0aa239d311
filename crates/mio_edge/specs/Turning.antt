-- In which order the sockets name their sessions.
use Rattle.std.specs.Prelude.{⊤, ℕ, Option, None, Some}
use Rattle.gate_hub.specs.declared.hub.HubNext.{HubNext}
use Rattle.gate_hub.specs.declared.hub.HubNext.TheVariants as event
use Rattle.mio_edge.specs.Wire.{Wire}
use Rattle.mio_edge.specs.Tables.{World}
use Rattle.mio_edge.specs.Worlds.{SocketsTell}
use Rattle.mio_edge.specs.Order.{InTurn, JoinsBehind}
use Rattle.mio_edge.specs.declared.listening.Listening.{Listening}
use Rattle.mio_edge.specs.declared.sockets.Sockets.{Sockets}

-- of a server that listens; before it does there are no sessions
abbrev pub ListeningTurn : {S : Type 0} → Option ℕ → Option (Listening S) → Option (Listening S) → Type 0
ListeningTurn named None b = ⊤
ListeningTurn named (Some x) None = ⊥
ListeningTurn named (Some x) (Some y) = InTurn named x.table y.table

-- the first of the sessions that are to have a turn and are open is the one that is named, if one is; no one has overtaken another
pub record SocketsTurn {W S : Type 0} (named : Option ℕ) (a b : Sockets W S) : Type 0 where
  pub on : ListeningTurn named a.serving.listening b.serving.listening

-- the same where the sockets tell their sessions
abbrev pub SocketsTurnIfTold : {W S : Type 0} → Type 0 → (S → Wire → Type 0) → Option ℕ → Sockets W S → Sockets W S → Type 0
SocketsTurnIfTold Is tells named a b = (world : World) → SocketsTell Is tells a world → SocketsTurn named a b

-- a session that is ready is the first one, and where there is no event yet none has had its turn that is open
abbrev pub EventTurn : {W S : Type 0} → Type 0 → (S → Wire → Type 0) → Option HubNext → Sockets W S → Sockets W S → Type 0
EventTurn Is tells None a b = SocketsTurnIfTold Is tells None a b
EventTurn Is tells (Some (event.Ready k)) a b = SocketsTurnIfTold Is tells (Some k) a b
EventTurn Is tells (Some (event.Opened k)) a b = ⊤
EventTurn Is tells (Some event.Stopped) a b = ⊤
EventTurn Is tells (Some event.Failed) a b = ⊤

abbrev pub ListeningJoins : {S : Type 0} → Option (Listening S) → Option (Listening S) → Type 0
ListeningJoins None b = ⊤
ListeningJoins (Some x) None = ⊥
ListeningJoins (Some x) (Some y) = JoinsBehind x.table y.table

-- those that are to have a turn are the same in the same order, and some may have come behind them all
pub record SocketsJoin {W S : Type 0} (a b : Sockets W S) : Type 0 where
  pub on : ListeningJoins a.serving.listening b.serving.listening
