-- The command that serves.
use Rattle.std.specs.Prelude.{ℕ, ◌+◌, ◌*◌, ◌&&◌, ◌||◌, List, [], ◌∷◌, Option, Some, None, is_some, Bool, false, not, if◌then◌else◌, nat_le}
use Rattle.protocol_traits.specs.declared.proto.Proto.{Proto}
use Rattle.gate_words.specs.Same.{or_else}
use Rattle.gate_words.specs.Lines.{is_json}
use Rattle.gate_words.specs.Protos.{proto_of}
use Rattle.gate_words.specs.Peers.{has_client, has_upstream, is_http, front_or_framed}
use Rattle.peer_addresses.specs.Addresses.{can_listen_at, can_connect_to}
use Rattle.gate_words.specs.Options.{no_options, options_of}
use Rattle.gate_words.specs.Shares.{share}
use Rattle.gate_words.specs.declared.command.Command.{Command}
use Rattle.gate_words.specs.declared.command.Command.TheVariants as commands
use Rattle.gate_words.specs.declared.options.Options.{Options}
use Rattle.gate_words.specs.declared.peers.Sides.{Sides}
use Rattle.gate_words.specs.declared.peers.Front.{Front}
use Rattle.gate_words.specs.declared.peers.Front.TheVariants as fronts
use Rattle.gate_words.specs.declared.serving.Ends.{Ends}
use Rattle.gate_words.specs.declared.serving.Serving.{Serving}
use Rattle.gate_words.specs.declared.limits.TheConstants.{DEFAULT_LIMIT, DEFAULT_SESSIONS, DEFAULT_CALLS, DEFAULT_THREADS, MOST_EVENTS, MOST_HELD}
use Rattle.gate_words.specs.declared.limits.TheConstants.{HELD_FRAMES, CALL_BYTES, SESSION_BYTES, UNFRAMED_FRAMES, HEAD_BYTES}

-- the most bytes that a session holds
abbrev pub session_bytes : ℕ → ℕ → ℕ
session_bytes limit calls = HELD_FRAMES * limit + CALL_BYTES * calls + SESSION_BYTES

-- the bytes that find the ends of messages without frames: one message a side, for each session and one more
abbrev pub bytes_for_sides : Option Sides → ℕ → ℕ → ℕ
bytes_for_sides None sessions limit = 0
bytes_for_sides (Some sides) sessions limit = UNFRAMED_FRAMES * (sessions + 1) * limit

abbrev pub unframed_bytes : Serving → ℕ
unframed_bytes s = bytes_for_sides s.unframed s.sessions s.limit

-- the bytes that take requests of HTTP: a head and a body, for each session and one more, and one room
abbrev pub bytes_for_front : Front → ℕ → ℕ → ℕ
bytes_for_front fronts.Framed sessions limit = 0
bytes_for_front fronts.Http sessions limit = (sessions + 1) * (limit + HEAD_BYTES) + limit

abbrev pub http_bytes : Serving → ℕ
http_bytes s = bytes_for_front s.front s.sessions s.limit

-- all sessions together hold at most so many bytes
abbrev pub is_within_memory : Serving → Bool
is_within_memory s = nat_le (s.sessions * session_bytes s.limit s.calls + unframed_bytes s + http_bytes s) MOST_HELD

-- one of these sides speaks JSON
abbrev pub has_json : Option Sides → Proto → Proto → Bool
has_json None client upstream = false
has_json (Some sides) client upstream = (has_client sides && is_json client) || (has_upstream sides && is_json upstream)

-- JSON has messages only in frames
abbrev pub speaks_unframed_json : Serving → Bool
speaks_unframed_json s = has_json s.unframed s.client s.upstream

abbrev pub has_client_and_http : Option Sides → Front → Bool
has_client_and_http None front = false
has_client_and_http (Some sides) front = has_client sides && is_http front

-- a message is the body of a request, or stands without a frame, and not both
abbrev pub wraps_twice : Serving → Bool
wraps_twice s = has_client_and_http s.unframed s.front

abbrev pub can_serve : Serving → Bool
can_serve s = not (speaks_unframed_json s) && (not (wraps_twice s) && is_within_memory s)

-- the same server with the sessions of one of so many threads
abbrev pub part_of : Serving → ℕ → ℕ → Serving
part_of s threads at = record s { sessions = share s.sessions threads at }

abbrev pub serving_of : Ends → Options → Serving
serving_of ends o = record {
  client = ends.client;
  upstream = ends.upstream;
  listen = ends.listen;
  target = ends.target;
  limit = or_else DEFAULT_LIMIT o.limit;
  sessions = or_else DEFAULT_SESSIONS o.sessions;
  accept = or_else 0 o.accept;
  events = or_else MOST_EVENTS o.events;
  calls = or_else DEFAULT_CALLS o.calls;
  threads = or_else DEFAULT_THREADS o.threads;
  tells_refusals = o.tells_refusals;
  unframed = o.unframed;
  front = front_or_framed o.front;
}

-- each thread has a session at the least
abbrev pub has_enough_sessions : Serving → Bool
has_enough_sessions s = nat_le s.threads s.sessions

abbrev pub serve_as : Ends → Options → Option Command
serve_as ends o =
    let s = serving_of ends o in
    if is_some o.lines then None
    else if has_enough_sessions s && can_serve s then Some (commands.Serve s (record { idl = o.idl; service = o.service }))
    else None

abbrev pub served : Ends → Option Options → Option Command
served ends None = None
served ends (Some o) = serve_as ends o

abbrev pub serve_with : Ends → List (List ℕ) → Option Command
serve_with ends words = served ends (options_of no_options words)

-- LISTEN TARGET, and options
abbrev pub serve_at : Proto → Proto → List (List ℕ) → Option Command
serve_at client upstream [] = None
serve_at client upstream (listen ∷ []) = None
serve_at client upstream (listen ∷ target ∷ rest) =
    if can_listen_at listen && can_connect_to target then
    serve_with (record { client = client; upstream = upstream; listen = listen; target = target }) rest
    else None

abbrev pub serve_between : Option Proto → Option Proto → List (List ℕ) → Option Command
serve_between (Some client) (Some upstream) words = serve_at client upstream words
serve_between None upstream words = None
serve_between (Some client) None words = None

-- serve CLIENT UPSTREAM LISTEN TARGET, and options
abbrev pub serve_of : List (List ℕ) → Option Command
serve_of [] = None
serve_of (client ∷ []) = None
serve_of (client ∷ upstream ∷ rest) = serve_between (proto_of client) (proto_of upstream) rest
