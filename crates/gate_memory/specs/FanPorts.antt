-- What a session of the fan in memory holds and does, port by port.
use Rattle.std.specs.Prelude.{◌≡◌, ℕ, ◌+◌, ◌≤◌, List, ◌∷◌, map, length, nat_lt, Bool, true, false, ◌&&◌, not, Option, None, Some, option_map}
use Rattle.std.specs.List.{slice_get}
use Rattle.std.proofs.Math.ListN.{set, replicate}
use Rattle.gate_fan.specs.Meaning.{Told, unknown_session}
use Rattle.gate_memory.specs.Link.{LinkState, new_link_state, unasked_link}
use Rattle.gate_memory.specs.declared.link.Passed.{Passed}
use Rattle.gate_memory.specs.declared.link.Passed.TheVariants as passed

-- a session: whether it was closed, and its ports in order
pub record SessionState : Type 0 where
  pub closed : Bool
  pub ports : List LinkState

-- the ports of a client and so many targets
abbrev pub new_ports : ℕ → List LinkState
new_ports targets = replicate (targets + 1) new_link_state

abbrev pub link_or_new : Option LinkState → LinkState
link_or_new None = new_link_state
link_or_new (Some link) = link

-- a port by its number; nothing came from or went to one that isn't there
abbrev pub port_of : SessionState → ℕ → LinkState
port_of session port = link_or_new (slice_get session.ports port)

-- the session is open and has this port
abbrev pub has_port : SessionState → ℕ → Bool
has_port session port = not session.closed && nat_lt port (length session.ports)

abbrev pub told_of : SessionState → Told
told_of session = record { announced = true; closed = session.closed; link = λ port. (port_of session port).told }

abbrev pub told_or_unknown : Option SessionState → Told
told_or_unknown None = unknown_session
told_or_unknown (Some session) = told_of session

-- the port of the session has changed so, and nothing else of it
pub record PortDoes (port : ℕ) (Step : LinkState → LinkState → Type 0) (a b : SessionState) : Type 0 where
  pub before : LinkState
  pub after : LinkState
  pub was : slice_get a.ports port ≡ Some before
  pub step : Step before after
  pub now : b ≡ record a { ports = set a.ports port after }

-- no count of a port has fallen
pub record NoPortFell (a b : SessionState) : Type 0 where
  pub faults : (port : ℕ) → (port_of a port).faults ≤ (port_of b port).faults
  pub waits : (port : ℕ) → (port_of a port).waits ≤ (port_of b port).waits

-- the session after a port was changed, where the change isn't passed over: the last answers of all its ports are none
abbrev pub with_port : SessionState → ℕ → LinkState → SessionState
with_port s port link = record s { ports = map unasked_link (set s.ports port link) }

abbrev pub changed_or_none : (LinkState → Option LinkState) → Option LinkState → Option LinkState
changed_or_none change None = None
changed_or_none change (Some link) = change link

abbrev pub changed_session : ℕ → (LinkState → Option LinkState) → SessionState → Option SessionState
changed_session port change s = option_map (with_port s port) (changed_or_none change (slice_get s.ports port))

-- what a change does to a session
abbrev pub MakesSession : Option SessionState → SessionState → SessionState → Passed → Type 0
MakesSession after a b passed.Performed = after ≡ Some b
MakesSession after a b passed.Over = (after ≡ None) × (b ≡ a)
