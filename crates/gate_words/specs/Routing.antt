-- The command that routes.
use Rattle.std.specs.Prelude.{ℕ, ◌+◌, ◌*◌, ◌&&◌, List, [], ◌∷◌, length, Option, Some, None, Bool, if◌then◌else◌, nat_le}
use Rattle.gate_fan.specs.declared.fan.Target.{Target}
use Rattle.protocol_traits.specs.declared.proto.Proto.{Proto}
use Rattle.gate_words.specs.Same.{or_else}
use Rattle.gate_words.specs.Protos.{proto_of}
use Rattle.peer_addresses.specs.Addresses.{can_listen_at}
use Rattle.gate_words.specs.Options.{no_options, options_of, is_for_one_upstream}
use Rattle.gate_words.specs.Shares.{share}
use Rattle.gate_words.specs.Targets.{targets_of}
use Rattle.gate_words.specs.declared.command.Command.{Command}
use Rattle.gate_words.specs.declared.command.Command.TheVariants as commands
use Rattle.gate_words.specs.declared.options.Options.{Options}
use Rattle.gate_words.specs.declared.routing.Routing.{Routing}
use Rattle.gate_words.specs.declared.routing.RouteEnds.{RouteEnds}
use Rattle.gate_words.specs.declared.limits.TheConstants.{DEFAULT_LIMIT, DEFAULT_SESSIONS, DEFAULT_CALLS, DEFAULT_THREADS, MOST_EVENTS, MOST_HELD}
use Rattle.gate_words.specs.declared.limits.TheConstants.{HELD_BY_PORT, BUFFER_BYTES, HELD_BY_ROUTER, ROUTED_CALL_BYTES, SESSION_BYTES}

-- the most bytes that a session with so many targets holds: its ports are the client's and one for each target
abbrev pub routed_bytes : ℕ → ℕ → ℕ → ℕ
routed_bytes targets limit calls =
    (targets + 1) * (HELD_BY_PORT * limit + BUFFER_BYTES) + HELD_BY_ROUTER * limit + ROUTED_CALL_BYTES * calls + SESSION_BYTES

-- all sessions together hold at most so many bytes
abbrev pub is_routed_within_memory : Routing → Bool
is_routed_within_memory r = nat_le (r.sessions * routed_bytes (length r.targets) r.limit r.calls) MOST_HELD

-- the same router with the sessions of one of so many threads
abbrev pub routed_part_of : Routing → ℕ → ℕ → Routing
routed_part_of r threads at = record r { sessions = share r.sessions threads at }

abbrev pub routing_of : RouteEnds → Options → Routing
routing_of ends o = record {
  client = ends.client;
  upstream = ends.upstream;
  listen = ends.listen;
  targets = ends.targets;
  limit = or_else DEFAULT_LIMIT o.limit;
  sessions = or_else DEFAULT_SESSIONS o.sessions;
  accept = or_else 0 o.accept;
  events = or_else MOST_EVENTS o.events;
  calls = or_else DEFAULT_CALLS o.calls;
  threads = or_else DEFAULT_THREADS o.threads;
  tells_refusals = o.tells_refusals;
}

-- each thread has a session at the least
abbrev pub has_enough_sessions : Routing → Bool
has_enough_sessions r = nat_le r.threads r.sessions

abbrev pub route_as : RouteEnds → Options → Option Command
route_as ends o =
    let r = routing_of ends o in
    if is_for_one_upstream o then None
    else if has_enough_sessions r && is_routed_within_memory r then Some (commands.Route r (record { idl = o.idl; service = None }))
    else None

abbrev pub routed : RouteEnds → Option Options → Option Command
routed ends None = None
routed ends (Some o) = route_as ends o

abbrev pub route_with : RouteEnds → List (List ℕ) → Option Command
route_with ends words = routed ends (options_of no_options words)

abbrev pub route_to : Proto → Proto → List ℕ → Option (List Target) → List (List ℕ) → Option Command
route_to client upstream listen None words = None
route_to client upstream listen (Some targets) words = route_with (record { client = client; upstream = upstream; listen = listen; targets = targets }) words

-- LISTEN TARGETS, and options
abbrev pub route_at : Proto → Proto → List (List ℕ) → Option Command
route_at client upstream [] = None
route_at client upstream (listen ∷ []) = None
route_at client upstream (listen ∷ targets ∷ rest) = if can_listen_at listen then route_to client upstream listen (targets_of targets) rest else None

abbrev pub route_between : Option Proto → Option Proto → List (List ℕ) → Option Command
route_between (Some client) (Some upstream) words = route_at client upstream words
route_between None upstream words = None
route_between (Some client) None words = None

-- route CLIENT UPSTREAM LISTEN TARGETS, and options
abbrev pub route_of : List (List ℕ) → Option Command
route_of [] = None
route_of (client ∷ []) = None
route_of (client ∷ upstream ∷ rest) = route_between (proto_of client) (proto_of upstream) rest
