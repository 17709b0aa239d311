-- The options of a command: pairs of a name and a value, in any order, each at most once.
use Rattle.std.specs.Prelude.{ℕ, ◌||◌, ◌≤◌, List, [], ◌∷◌, Option, Some, None, is_some, IfSome, Bool, true, false, not, if◌then◌else◌, codes}
use Rattle.decimal_words.specs.Same.{is}
use Rattle.gate_words.specs.Same.{is_empty}
use Rattle.decimal_words.specs.Numbers.{number_of, within}
use Rattle.gate_words.specs.Lines.{line_sides_of}
use Rattle.gate_words.specs.Peers.{sides_of, front_of}
use Rattle.gate_words.specs.declared.lines.LineSides.{LineSides}
use Rattle.gate_words.specs.declared.peers.Sides.{Sides}
use Rattle.gate_words.specs.declared.peers.Front.{Front}
use Rattle.gate_words.specs.declared.options.Options.{Options}
use Rattle.gate_words.specs.declared.limits.TheConstants.{LEAST_LIMIT, GREATEST_LIMIT, MOST_SESSIONS, MOST_ACCEPTED, MOST_EVENTS, MOST_CALLS, MOST_THREADS}

abbrev pub no_options : Options
no_options = record { idl = None; service = None; limit = None; sessions = None; accept = None; events = None; calls = None; threads = None; tells_refusals = false; unframed = None; front = None; lines = None }

-- the name of a file or a service isn't empty
abbrev pub with_idl : Options → List ℕ → Option Options
with_idl o value = if is_some o.idl || is_empty value then None else Some (record o { idl = Some value })

abbrev pub with_service : Options → List ℕ → Option Options
with_service o value = if is_some o.service || is_empty value then None else Some (record o { service = Some value })

-- a frame limit, in bytes
unfoldable pub limit_of : List ℕ → Option ℕ
limit_of value = within LEAST_LIMIT GREATEST_LIMIT (number_of value)

abbrev pub set_limit : Options → Option ℕ → Option Options
set_limit o None = None
set_limit o (Some limit) = Some (record o { limit = Some limit })

abbrev pub with_limit : Options → List ℕ → Option Options
with_limit o value = if is_some o.limit then None else set_limit o (limit_of value)

-- the sides on which a message is a line
abbrev pub set_lines : Options → Option LineSides → Option Options
set_lines o None = None
set_lines o (Some lines) = Some (record o { lines = Some lines })

abbrev pub with_lines : Options → List ℕ → Option Options
with_lines o value = if is_some o.lines then None else set_lines o (line_sides_of value)

-- the sessions at a time
abbrev pub set_sessions : Options → Option ℕ → Option Options
set_sessions o None = None
set_sessions o (Some sessions) = Some (record o { sessions = Some sessions })

abbrev pub with_sessions : Options → List ℕ → Option Options
with_sessions o value = if is_some o.sessions then None else set_sessions o (within 1 MOST_SESSIONS (number_of value))

-- the connections in all
abbrev pub set_accept : Options → Option ℕ → Option Options
set_accept o None = None
set_accept o (Some accept) = Some (record o { accept = Some accept })

abbrev pub with_accept : Options → List ℕ → Option Options
with_accept o value = if is_some o.accept then None else set_accept o (within 0 MOST_ACCEPTED (number_of value))

-- the events
abbrev pub set_events : Options → Option ℕ → Option Options
set_events o None = None
set_events o (Some events) = Some (record o { events = Some events })

abbrev pub with_events : Options → List ℕ → Option Options
with_events o value = if is_some o.events then None else set_events o (within 1 MOST_EVENTS (number_of value))

-- the open calls of a session
abbrev pub set_calls : Options → Option ℕ → Option Options
set_calls o None = None
set_calls o (Some calls) = Some (record o { calls = Some calls })

abbrev pub with_calls : Options → List ℕ → Option Options
with_calls o value = if is_some o.calls then None else set_calls o (within 1 MOST_CALLS (number_of value))

-- the threads that serve
abbrev pub set_threads : Options → Option ℕ → Option Options
set_threads o None = None
set_threads o (Some threads) = Some (record o { threads = Some threads })

abbrev pub with_threads : Options → List ℕ → Option Options
with_threads o value = if is_some o.threads then None else set_threads o (within 1 MOST_THREADS (number_of value))

-- the word for frames that are refused
unfoldable pub names_refusals : List ℕ → Bool
names_refusals value = is value (codes "refused")

-- each refusal is told
abbrev pub with_tell : Options → List ℕ → Option Options
with_tell o value = if o.tells_refusals || not (names_refusals value) then None else Some (record o { tells_refusals = true })

-- the sides whose messages stand in no frames
abbrev pub set_unframed : Options → Option Sides → Option Options
set_unframed o None = None
set_unframed o (Some sides) = Some (record o { unframed = Some sides })

abbrev pub with_unframed : Options → List ℕ → Option Options
with_unframed o value = if is_some o.unframed then None else set_unframed o (sides_of value)

-- what the clients wrap each message in
abbrev pub set_front : Options → Option Front → Option Options
set_front o None = None
set_front o (Some front) = Some (record o { front = Some front })

abbrev pub with_front : Options → List ℕ → Option Options
with_front o value = if is_some o.front then None else set_front o (front_of value)

-- an option that tells how the peers of a server send their messages
unfoldable pub with_peers : Options → List ℕ → List ℕ → Option Options
with_peers o name value =
    if is name (codes "--unframed") then with_unframed o value
    else if is name (codes "--front") then with_front o value
    else None

-- an option that a server alone has
unfoldable pub with_server_option : Options → List ℕ → List ℕ → Option Options
with_server_option o name value =
    if is name (codes "--sessions") then with_sessions o value
    else if is name (codes "--accept") then with_accept o value
    else if is name (codes "--events") then with_events o value
    else if is name (codes "--calls") then with_calls o value
    else if is name (codes "--threads") then with_threads o value
    else if is name (codes "--tell") then with_tell o value
    else with_peers o name value

-- whether one of these stands
abbrev pub is_server_alone : Options → Bool
is_server_alone o = is_some o.sessions || is_some o.accept || is_some o.events || is_some o.calls || is_some o.threads || o.tells_refusals || is_some o.unframed || is_some o.front

-- whether an option stands that a router doesn't have
abbrev pub is_for_one_upstream : Options → Bool
is_for_one_upstream o = is_some o.service || is_some o.unframed || is_some o.front || is_some o.lines

-- with one option more
unfoldable pub with_option : Options → List ℕ → List ℕ → Option Options
with_option o name value =
    if is name (codes "--idl") then with_idl o value
    else if is name (codes "--service") then with_service o value
    else if is name (codes "--limit") then with_limit o value
    else if is name (codes "--lines") then with_lines o value
    else with_server_option o name value

abbrev pub and_then : Option Options → (Options → Option Options) → Option Options
and_then None f = None
and_then (Some o) f = f o

-- what these words say besides, where they are options
abbrev pub options_of : Options → List (List ℕ) → Option Options
options_of o [] = Some o
options_of o (name ∷ []) = None
options_of o (name ∷ value ∷ rest) = and_then (with_option o name value) (λ more. options_of more rest)

-- each number lies in its range
pub record IsInRange (o : Options) : Type 0 where
  pub limit : IfSome o.limit (λ n. (LEAST_LIMIT ≤ n) × (n ≤ GREATEST_LIMIT))
  pub sessions : IfSome o.sessions (λ n. (1 ≤ n) × (n ≤ MOST_SESSIONS))
  pub accept : IfSome o.accept (λ n. n ≤ MOST_ACCEPTED)
  pub events : IfSome o.events (λ n. (1 ≤ n) × (n ≤ MOST_EVENTS))
  pub calls : IfSome o.calls (λ n. (1 ≤ n) × (n ≤ MOST_CALLS))
  pub threads : IfSome o.threads (λ n. (1 ≤ n) × (n ≤ MOST_THREADS))
