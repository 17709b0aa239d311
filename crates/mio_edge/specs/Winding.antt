-- What becomes of the closed sessions of the sockets.
use Rattle.std.specs.Prelude.{◌≡◌, ⊤, ℕ, Option, None, Some}
use Rattle.mio_edge.specs.Wire.{Wire}
use Rattle.mio_edge.specs.Sessions.{Links}
use Rattle.mio_edge.specs.Tables.{World}
use Rattle.mio_edge.specs.Worlds.{SocketsTell}
use Rattle.mio_edge.specs.Closing.{Winds, HasClosed}
use Rattle.mio_edge.specs.declared.listening.Listening.{Listening}
use Rattle.mio_edge.specs.declared.sockets.Sockets.{Sockets}

-- the sessions of a server that listens; before it does there are none
abbrev pub ListeningWinds : {S : Type 0} → (S → Wire → Type 0) → Option (Listening S) → Option (Listening S) → Type 0
ListeningWinds tells None b = ⊤
ListeningWinds tells (Some x) None = ⊥
ListeningWinds tells (Some x) (Some y) = Winds tells x.table.sessions y.table.sessions

-- each session of the sockets that is closed has gone on
pub record SocketsWind {W S : Type 0} (tells : S → Wire → Type 0) (a b : Sockets W S) : Type 0 where
  pub on : ListeningWinds tells a.serving.listening b.serving.listening

-- the same where the sockets tell their sessions
abbrev pub SocketsWindIfTold : {W S : Type 0} → Type 0 → (S → Wire → Type 0) → Sockets W S → Sockets W S → Type 0
SocketsWindIfTold Is tells a b = (world : World) → SocketsTell Is tells a world → SocketsWind tells a b

-- Session k, which is open, is closed: it stands at a place still or was let go, and all that was written to it is told still.
abbrev pub SocketsClose : {W S : Type 0} → Type 0 → (S → Wire → Type 0) → ℕ → Sockets W S → Sockets W S → Type 0
SocketsClose {W} {S} Is tells k a b =
    (world : World) (links : Links) → SocketsTell Is tells a world → world k ≡ Some links → (listening : Listening S) × (b.serving.listening ≡ Some listening) × HasClosed tells listening.table.sessions k links
