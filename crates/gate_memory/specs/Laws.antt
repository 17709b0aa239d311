-- What the hub in memory tells that was received are bytes. Nothing here has to be believed.
use Rattle.std.specs.Prelude.{ℕ, zero, suc, List, [], ◌∷◌}
use Rattle.std.proofs.Common.{sym, subst}
use Rattle.gate_base.specs.Bytes.{AreBytes}
use Rattle.gate_hub.specs.Meaning.{Told, Meaning, link_of}
use Rattle.gate_hub.specs.declared.hub.Side.{Side}
use Rattle.gate_hub.specs.declared.hub.Side.TheVariants as side
use Rattle.gate_memory.specs.declared.hub.MemSession.{MemSession}
use Rattle.gate_memory.specs.Hub.{HubState, TellsHub, AreSessionsBytes, session_at}

pub received_bytes : (sessions : List MemSession) (k : ℕ) (s : Side) → AreSessionsBytes sessions → AreBytes (link_of (session_at sessions k) s).received
received_bytes [] k side.Client all = tt
received_bytes [] k side.Upstream all = tt
received_bytes (x ∷ xs) zero side.Client all = all.0.0.0
received_bytes (x ∷ xs) zero side.Upstream all = all.0.1.0
received_bytes (x ∷ xs) (suc k) s all = received_bytes xs k s all.1

pub hub_bytes : (hub : HubState) (m : Meaning) → TellsHub hub m → (k : ℕ) (s : Side) → AreBytes (link_of (m.session k) s).received
hub_bytes hub m tells k s =
    subst (λ (t : Told). AreBytes (link_of t s).received) (sym (tells.session k)) (received_bytes hub.sessions k s tells.bytes.sessions)
