-- The order in which sockets name their sessions, over several steps.
use Rattle.std.proofs.Common.{◌≡◌, ℕ, [], Option, None, Some, refl, sym, subst}
use Rattle.gate_hub.specs.declared.hub.HubNext.{HubNext}
use Rattle.gate_hub.specs.declared.hub.HubNext.TheVariants as event
use Rattle.mio_edge.specs.Wire.{Wire, Stays}
use Rattle.mio_edge.specs.Tables.{TableTells}
use Rattle.mio_edge.specs.Worlds.{ListeningTells, SocketsTell}
use Rattle.mio_edge.specs.Admitting.{IfNotHere}
use Rattle.mio_edge.specs.Order.{JoinsBehind, SameTurns, TurnsIfTold}
use Rattle.mio_edge.specs.Lines.{grows_same, moves_nowhere, moves_on_same}
use Rattle.mio_edge.specs.Turning.{ListeningTurn, SocketsTurnIfTold, EventTurn, ListeningJoins, SocketsJoin}
use Rattle.mio_edge.specs.declared.listening.Admitted.{Admitted}
use Rattle.mio_edge.specs.declared.listening.Admitted.TheVariants as admitted
use Rattle.mio_edge.specs.declared.listening.Listening.{Listening}
use Rattle.mio_edge.specs.declared.sockets.Sockets.{Sockets}
use Rattle.mio_edge.proofs.Order.{turn_on}

turn_same : {S : Type 0} (o : Option (Listening S)) → ListeningTurn None o o
turn_same None = tt
turn_same (Some l) = ([], moves_nowhere l.table l.table refl refl refl)

-- nothing was done to the sessions
pub sockets_turn_same : {W S : Type 0} (Is : Type 0) (tells : S → Wire → Type 0) (a b : Sockets W S) → b.serving.listening ≡ a.serving.listening → SocketsTurnIfTold Is tells None a b
sockets_turn_same {W} {S} Is tells a b same world told = record { on = subst (λ (o : Option (Listening S)). ListeningTurn None a.serving.listening o) (sym same) (turn_same a.serving.listening) }

listening_turn_on : {S : Type 0} (named : Option ℕ) (x y z : Option (Listening S)) → ListeningTurn None x y → ListeningTurn named y z → ListeningTurn named x z
listening_turn_on named None y z first second = tt
listening_turn_on named (Some x) None z first second = absurd first
listening_turn_on named (Some x) (Some y) None first second = absurd second
listening_turn_on named (Some x) (Some y) (Some z) first second = turn_on named x.table y.table z.table first second

pub sockets_turn_on : {W S : Type 0} (Is : Type 0) (tells : S → Wire → Type 0) (named : Option ℕ) (a b c : Sockets W S) → Stays (SocketsTell Is tells a) (SocketsTell Is tells b) → SocketsTurnIfTold Is tells None a b → SocketsTurnIfTold Is tells named b c → SocketsTurnIfTold Is tells named a c
sockets_turn_on Is tells named a b c keeps first second world told =
    record { on = listening_turn_on named a.serving.listening b.serving.listening c.serving.listening (first world told).on (second world (keeps world told)).on }

pub event_turn_on : {W S : Type 0} (Is : Type 0) (tells : S → Wire → Type 0) (e : Option HubNext) (a b c : Sockets W S) → Stays (SocketsTell Is tells a) (SocketsTell Is tells b) → SocketsTurnIfTold Is tells None a b → EventTurn Is tells e b c → EventTurn Is tells e a c
event_turn_on Is tells None a b c keeps first second = sockets_turn_on Is tells None a b c keeps first second
event_turn_on Is tells (Some (event.Ready k)) a b c keeps first second = sockets_turn_on Is tells (Some k) a b c keeps first second
event_turn_on Is tells (Some (event.Opened k)) a b c keeps first second = tt
event_turn_on Is tells (Some event.Stopped) a b c keeps first second = tt
event_turn_on Is tells (Some event.Failed) a b c keeps first second = tt

-- the sessions of a listener have moved up
pub sockets_turned : {W S : Type 0} (Is : Type 0) (tells : S → Wire → Type 0) (named : Option ℕ) (a b : Sockets W S) (l l' : Listening S) → a.serving.listening ≡ Some l → b.serving.listening ≡ Some l' → TurnsIfTold tells named l.table l'.table → SocketsTurnIfTold Is tells named a b
sockets_turned {W} {S} Is tells named a b l l' was now turn world told = record {
  on = subst (λ (o : Option (Listening S)). ListeningTurn named o b.serving.listening) (sym was) (subst (λ (o : Option (Listening S)). ListeningTurn named (Some l) o) (sym now) (turn world (here (subst (λ (o : Option (Listening S)). ListeningTells tells o world) was told.sessions))));
}
  where
    here : ListeningTells tells (Some l) world → TableTells tells l.table world
    here t = t.1

-- the same where a connection that waited is no session here
pub admitted_turned : {W S : Type 0} (Is : Type 0) (tells : S → Wire → Type 0) (a b : Sockets W S) (l l' : Listening S) (r : Admitted) → a.serving.listening ≡ Some l → b.serving.listening ≡ Some l'
    → IfNotHere r (SameTurns l.table l'.table) → IfNotHere r (SocketsTurnIfTold Is tells None a b)
admitted_turned Is tells a b l l' (admitted.Here k) was now same = tt
admitted_turned Is tells a b l l' admitted.Handed was now same = sockets_turned Is tells None a b l l' was now (λ world told. ([], moves_on_same l.table l'.table same))
admitted_turned Is tells a b l l' admitted.Nothing was now same = sockets_turned Is tells None a b l l' was now (λ world told. ([], moves_on_same l.table l'.table same))

joins_same : {S : Type 0} (o : Option (Listening S)) → ListeningJoins o o
joins_same None = tt
joins_same (Some l) = record { ready = refl; behind = grows_same l.table.behind l.table.behind refl }

pub sockets_join_same : {W S : Type 0} (a b : Sockets W S) → b.serving.listening ≡ a.serving.listening → SocketsJoin a b
sockets_join_same {W} {S} a b same = record { on = subst (λ (o : Option (Listening S)). ListeningJoins a.serving.listening o) (sym same) (joins_same a.serving.listening) }

pub sockets_joined : {W S : Type 0} (a b : Sockets W S) (l l' : Listening S) → a.serving.listening ≡ Some l → b.serving.listening ≡ Some l' → JoinsBehind l.table l'.table → SocketsJoin a b
sockets_joined {W} {S} a b l l' was now joins = record {
  on = subst (λ (o : Option (Listening S)). ListeningJoins o b.serving.listening) (sym was) (subst (λ (o : Option (Listening S)). ListeningJoins (Some l) o) (sym now) joins);
}
