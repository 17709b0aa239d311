-- What becomes of the closed sessions of the sockets.
use Rattle.std.proofs.Common.{◌≡◌, ℕ, Option, None, Some, sym, subst}
use Rattle.mio_edge.specs.Wire.{Wire}
use Rattle.mio_edge.specs.Sessions.{Links}
use Rattle.mio_edge.specs.Tables.{World, TableTells}
use Rattle.mio_edge.specs.Worlds.{ListeningTells, SocketsTell}
use Rattle.mio_edge.specs.Closing.{Winds, HasClosed, TableCloses, winds_nowhere, winds_on}
use Rattle.mio_edge.specs.Winding.{ListeningWinds, SocketsWind, SocketsWindIfTold}
use Rattle.mio_edge.specs.declared.listening.Listening.{Listening}
use Rattle.mio_edge.specs.declared.sockets.Sockets.{Sockets}

listening_same : {S : Type 0} (tells : S → Wire → Type 0) (o : Option (Listening S)) → ListeningWinds tells o o
listening_same tells None = tt
listening_same tells (Some l) = winds_nowhere tells l.table.sessions

listening_on : {S : Type 0} (tells : S → Wire → Type 0) (x y z : Option (Listening S)) → ListeningWinds tells x y → ListeningWinds tells y z → ListeningWinds tells x z
listening_on tells None y z first second = tt
listening_on tells (Some x) None z first second = absurd first
listening_on tells (Some x) (Some y) None first second = absurd second
listening_on tells (Some x) (Some y) (Some z) first second = winds_on tells x.table.sessions y.table.sessions z.table.sessions first second

-- nothing was done to the sessions
pub sockets_same : {W S : Type 0} (tells : S → Wire → Type 0) (a b : Sockets W S) → b.serving.listening ≡ a.serving.listening → SocketsWind tells a b
sockets_same {W} {S} tells a b same = record { on = subst (λ (o : Option (Listening S)). ListeningWinds tells a.serving.listening o) (sym same) (listening_same tells a.serving.listening) }

pub sockets_on : {W S : Type 0} (tells : S → Wire → Type 0) (a b c : Sockets W S) → SocketsWind tells a b → SocketsWind tells b c → SocketsWind tells a c
sockets_on tells a b c first second = record { on = listening_on tells a.serving.listening b.serving.listening c.serving.listening first.on second.on }

-- the sessions have gone on
pub sockets_moved : {W S : Type 0} (tells : S → Wire → Type 0) (a b : Sockets W S) (l l' : Listening S) → a.serving.listening ≡ Some l → b.serving.listening ≡ Some l' → Winds tells l.table.sessions l'.table.sessions → SocketsWind tells a b
sockets_moved {W} {S} tells a b l l' was now winds = record {
  on = subst (λ (o : Option (Listening S)). ListeningWinds tells o b.serving.listening) (sym was) (subst (λ (o : Option (Listening S)). ListeningWinds tells (Some l) o) (sym now) winds);
}

told_table : {W S : Type 0} (Is : Type 0) (tells : S → Wire → Type 0) (a : Sockets W S) (l : Listening S) (world : World) → a.serving.listening ≡ Some l → SocketsTell Is tells a world → ListeningTells tells (Some l) world
told_table {W} {S} Is tells a l world was told = subst (λ (o : Option (Listening S)). ListeningTells tells o world) was told.sessions

pub sockets_told : {W S : Type 0} (Is : Type 0) (tells : S → Wire → Type 0) (a b : Sockets W S) (l l' : Listening S) → a.serving.listening ≡ Some l → b.serving.listening ≡ Some l' → ((world : World) → TableTells tells l.table world → Winds tells l.table.sessions l'.table.sessions) → SocketsWindIfTold Is tells a b
sockets_told Is tells a b l l' was now winds world told = sockets_moved tells a b l l' was now (winds world (told_table Is tells a l world was told).1)

pub sockets_close : {W S : Type 0} (Is : Type 0) (tells : S → Wire → Type 0) (k : ℕ) (a : Sockets W S) (l l' : Listening S) (world : World) (links : Links) → a.serving.listening ≡ Some l → TableCloses tells k l.table l'.table
    → SocketsTell Is tells a world → world k ≡ Some links → HasClosed tells l'.table.sessions k links
sockets_close Is tells k a l l' world links was closes told is = closes world links (told_table Is tells a l world was told).1 is
