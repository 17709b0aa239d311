-- What the fan in memory tells that was received are bytes, and the number of its targets is told. Nothing here has to be believed.
use Rattle.std.specs.Prelude.{◌≡◌, ℕ, zero, suc, List, [], ◌∷◌, length, Option, None, Some, IfSome}
use Rattle.std.specs.List.{slice_get}
use Rattle.std.proofs.Common.{sym, subst, refl}
use Rattle.gate_base.specs.Bytes.{AreBytes}
use Rattle.gate_fan.specs.Meaning.{Told, Started, Meaning}
use Rattle.gate_memory.specs.Link.{LinkState}
use Rattle.gate_memory.specs.FanPorts.{SessionState, link_or_new}
use Rattle.gate_memory.specs.Fan.{FanState, TellsFan, ArePortsBytes, AreSessionsBytes, session_at, targets_in, targets_of}

pub port_bytes : (ports : List LinkState) (port : ℕ) → ArePortsBytes ports → AreBytes (link_or_new (slice_get ports port)).told.received
port_bytes [] port all = tt
port_bytes (x ∷ xs) zero all = all.0.0
port_bytes (x ∷ xs) (suc port) all = port_bytes xs port all.1

pub received_bytes : (sessions : List SessionState) (k port : ℕ) → AreSessionsBytes sessions → AreBytes ((session_at sessions k).link port).received
received_bytes [] k port all = tt
received_bytes (x ∷ xs) zero port all = port_bytes x.ports port all.0
received_bytes (x ∷ xs) (suc k) port all = received_bytes xs k port all.1

pub fan_bytes : (fan : FanState) (m : Meaning) → TellsFan fan m → (k port : ℕ) → AreBytes ((m.session k).link port).received
fan_bytes fan m tells k port =
    subst (λ (t : Told). AreBytes (t.link port).received) (sym (tells.session k)) (received_bytes fan.sessions k port tells.bytes.sessions)

pub fan_targets : (fan : FanState) (m : Meaning) → TellsFan fan m → IfSome m.started (λ s. length s.targets ≡ targets_of fan)
fan_targets fan m tells = subst (λ (o : Option Started). IfSome o (λ s. length s.targets ≡ targets_of fan)) (sym tells.started) (by fan.started)
  where
    by : (o : Option Started) → IfSome o (λ s. length s.targets ≡ targets_in o)
    by None = tt
    by (Some s) = refl
