-- What a server that listens holds fixed.
use Rattle.std.specs.Prelude.{◌≡◌, Option, None, Some}
use Rattle.std.proofs.Common.{refl, sym, ap, ◌∙◌}
use Rattle.std.specs.Global.{Vec}
use Rattle.std.specs.declared.net.socket_addr.SocketAddr.{SocketAddr}
use Rattle.mio_edge.specs.declared.table.Settings.{Settings}
use Rattle.mio_edge.specs.declared.listening.Connecting.{Connecting}
use Rattle.mio_edge.specs.declared.listening.Listening.{Listening}
use Rattle.mio_edge.specs.declared.sockets.Sockets.{Sockets}

-- to whom its sessions are led and when, how many ports each has, and how much one may move in a turn
pub record Fixed : Type 0 where
  pub targets : Vec SocketAddr
  pub connecting : Connecting
  pub settings : Settings

abbrev pub fixed_of : {S : Type 0} → Listening S → Fixed
fixed_of listening = record { targets = listening.targets; connecting = listening.connecting; settings = listening.table.settings }

-- there is nothing before it listens
abbrev pub fixed_in : {S : Type 0} → Option (Listening S) → Option Fixed
fixed_in None = None
fixed_in (Some listening) = Some (fixed_of listening)

-- the sockets hold fixed what they held
pub record SocketsSame {W S : Type 0} (a b : Sockets W S) : Type 0 where
  pub on : fixed_in b.serving.listening ≡ fixed_in a.serving.listening

-- ---- nothing below has to be believed

pub settings_same : (a : Settings) → a ≡ a
settings_same a = refl

pub settings_on : (a b c : Settings) → b ≡ a → c ≡ b → c ≡ a
settings_on a b c first second = second ∙ first

abbrev with_settings : Vec SocketAddr → Connecting → Settings → Fixed
with_settings targets connecting settings = record { targets = targets; connecting = connecting; settings = settings }

-- only the table has changed, and it has the same settings
pub fixed_kept : {S : Type 0} (a b : Listening S) → b.targets ≡ a.targets → b.connecting ≡ a.connecting → b.table.settings ≡ a.table.settings → fixed_of b ≡ fixed_of a
fixed_kept a b targets connecting settings =
    ap (λ (v : Vec SocketAddr). with_settings v b.connecting b.table.settings) targets
    ∙ (ap (λ (c : Connecting). with_settings a.targets c b.table.settings) connecting ∙ ap (λ (s : Settings). with_settings a.targets a.connecting s) settings)

-- nothing was done to the listener
pub fixed_same : {W S : Type 0} (a b : Sockets W S) → b.serving.listening ≡ a.serving.listening → SocketsSame a b
fixed_same {W} {S} a b same = record { on = ap (λ (o : Option (Listening S)). fixed_in o) same }

pub fixed_on : {W S : Type 0} (a b c : Sockets W S) → SocketsSame a b → SocketsSame b c → SocketsSame a c
fixed_on a b c first second = record { on = second.on ∙ first.on }

-- the listener holds fixed what it held
pub fixed_there : {W S : Type 0} (a b : Sockets W S) (l l' : Listening S) → a.serving.listening ≡ Some l → b.serving.listening ≡ Some l' → fixed_of l' ≡ fixed_of l → SocketsSame a b
fixed_there {W} {S} a b l l' was now same = record {
  on = ap (λ (o : Option (Listening S)). fixed_in o) now ∙ (ap (λ (f : Fixed). Some f) same ∙ sym (ap (λ (o : Option (Listening S)). fixed_in o) was));
}
