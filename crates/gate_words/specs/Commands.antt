-- The commands, as their words name them.
use Rattle.std.specs.Prelude.{ℕ, ◌≡◌, ◌≤◌, ◌||◌, List, [], ◌∷◌, Option, Some, None, is_some, is_none, true, not, if◌then◌else◌, codes, ⊤}
use Rattle.protocol_traits.specs.declared.proto.Proto.{Proto}
use Rattle.decimal_words.specs.Same.{is}
use Rattle.gate_words.specs.Same.{is_empty, or_else}
use Rattle.decimal_words.specs.Numbers.{number_of, within}
use Rattle.gate_words.specs.Lines.{can_convert, can_show, input_of, output_of}
use Rattle.gate_words.specs.Protos.{proto_of}
use Rattle.gate_words.specs.Options.{no_options, options_of, is_server_alone}
use Rattle.gate_words.specs.Serving.{serve_of}
use Rattle.gate_words.specs.Routing.{route_of}
use Rattle.gate_words.specs.declared.command.Command.{Command}
use Rattle.gate_words.specs.declared.command.Command.TheVariants as commands
use Rattle.gate_words.specs.declared.options.Options.{Options}
use Rattle.gate_words.specs.declared.serving.Serving.{Serving}
use Rattle.gate_words.specs.declared.limits.TheConstants.{DEFAULT_LIMIT, LEAST_LIMIT, GREATEST_LIMIT, MOST_SESSIONS, MOST_EVENTS, MOST_CALLS, MOST_MESSAGES, MOST_THREADS}

-- check FILE
abbrev pub check_of : List (List ℕ) → Option Command
check_of [] = None
check_of (file ∷ []) = if is_empty file then None else Some (commands.Check file)
check_of (file ∷ more ∷ rest) = None

abbrev pub convert_as : Proto → Proto → Options → Option Command
convert_as from to o =
    if is_server_alone o || not (can_convert from to o.lines) then None
    else Some (commands.Convert (record { from = from; to = to; limit = or_else DEFAULT_LIMIT o.limit; input = input_of o.lines; output = output_of o.lines }) (record { idl = o.idl; service = o.service }))

abbrev pub converted : Proto → Proto → Option Options → Option Command
converted from to None = None
converted from to (Some o) = convert_as from to o

abbrev pub convert_with : Proto → Proto → List (List ℕ) → Option Command
convert_with from to words = converted from to (options_of no_options words)

abbrev pub convert_between : Option Proto → Option Proto → List (List ℕ) → Option Command
convert_between (Some from) (Some to) words = convert_with from to words
convert_between None to words = None
convert_between (Some from) None words = None

-- convert FROM TO [--idl FILE] [--service NAME] [--limit F] [--lines SIDE]
abbrev pub convert_of : List (List ℕ) → Option Command
convert_of [] = None
convert_of (from ∷ []) = None
convert_of (from ∷ to ∷ rest) = convert_between (proto_of from) (proto_of to) rest

abbrev pub show_as : Proto → Options → Option Command
show_as from o =
    if is_server_alone o || not (can_show from o.lines) then None
    else Some (commands.Show (record { from = from; limit = or_else DEFAULT_LIMIT o.limit; input = input_of o.lines }) (record { idl = o.idl; service = o.service }))

abbrev pub shown : Proto → Option Options → Option Command
shown from None = None
shown from (Some o) = show_as from o

abbrev pub show_with : Proto → List (List ℕ) → Option Command
show_with from words = shown from (options_of no_options words)

abbrev pub show_from : Option Proto → List (List ℕ) → Option Command
show_from None words = None
show_from (Some from) words = show_with from words

-- show FROM [--idl FILE] [--service NAME] [--limit F] [--lines SIDE]
abbrev pub show_of : List (List ℕ) → Option Command
show_of [] = None
show_of (from ∷ rest) = show_from (proto_of from) rest

abbrev pub conform_as : Proto → Options → Option Command
conform_as from o =
    if is_server_alone o || is_some o.lines || is_none o.idl then None
    else Some (commands.Conform (record { from = from; limit = or_else DEFAULT_LIMIT o.limit }) (record { idl = o.idl; service = o.service }))

abbrev pub conformed : Proto → Option Options → Option Command
conformed from None = None
conformed from (Some o) = conform_as from o

abbrev pub conform_with : Proto → List (List ℕ) → Option Command
conform_with from words = conformed from (options_of no_options words)

abbrev pub conform_from : Option Proto → List (List ℕ) → Option Command
conform_from None words = None
conform_from (Some from) words = conform_with from words

-- conform FROM --idl FILE [--service NAME] [--limit F]
abbrev pub conform_of : List (List ℕ) → Option Command
conform_of [] = None
conform_of (from ∷ rest) = conform_from (proto_of from) rest

abbrev pub drill_as : Option ℕ → Option ℕ → Option Command
drill_as (Some seed) (Some count) = Some (commands.Drill (record { seed = seed; count = count }))
drill_as None count = None
drill_as (Some seed) None = None

-- drill SEED COUNT
abbrev pub drill_of : List (List ℕ) → Option Command
drill_of [] = None
drill_of (seed ∷ []) = None
drill_of (seed ∷ count ∷ []) = drill_as (number_of seed) (within 0 MOST_MESSAGES (number_of count))
drill_of (seed ∷ count ∷ more ∷ rest) = None

abbrev pub help_of : List (List ℕ) → Option Command
help_of [] = Some commands.Help
help_of (more ∷ rest) = None

-- what these words name
unfoldable pub command : List (List ℕ) → Option Command
command [] = None
command (name ∷ rest) =
    if is name (codes "check") then check_of rest
    else if is name (codes "convert") then convert_of rest
    else if is name (codes "serve") then serve_of rest
    else if is name (codes "route") then route_of rest
    else if is name (codes "show") then show_of rest
    else if is name (codes "conform") then conform_of rest
    else if is name (codes "drill") then drill_of rest
    else if is name (codes "help") then help_of rest
    else None

-- the numbers of a server lie in their ranges, and each thread has a session at the least
abbrev pub CanCount : Serving → Type 0
CanCount s =
    (s.limit ≤ GREATEST_LIMIT) × (1 ≤ s.sessions) × (s.sessions ≤ MOST_SESSIONS) × (1 ≤ s.events) × (s.events ≤ MOST_EVENTS) × (1 ≤ s.calls) × (s.calls ≤ MOST_CALLS) × (LEAST_LIMIT ≤ s.limit)
    × (1 ≤ s.threads) × (s.threads ≤ MOST_THREADS) × (s.threads ≤ s.sessions)

-- each number lies in its range, and where declarations are meant a file of them is named
abbrev pub IsInRange : Command → Type 0
IsInRange (commands.Check file) = ⊤
IsInRange (commands.Convert k declared) = k.limit ≤ GREATEST_LIMIT
IsInRange (commands.Show k declared) = k.limit ≤ GREATEST_LIMIT
IsInRange (commands.Serve s declared) = CanCount s
IsInRange (commands.Route r declared) =
    (r.limit ≤ GREATEST_LIMIT) × (1 ≤ r.sessions) × (r.sessions ≤ MOST_SESSIONS) × (1 ≤ r.events) × (r.events ≤ MOST_EVENTS) × (1 ≤ r.calls) × (r.calls ≤ MOST_CALLS) × (LEAST_LIMIT ≤ r.limit)
    × (1 ≤ r.threads) × (r.threads ≤ MOST_THREADS) × (r.threads ≤ r.sessions)
IsInRange (commands.Conform k declared) = (k.limit ≤ GREATEST_LIMIT) × (is_some declared.idl ≡ true)
IsInRange (commands.Drill k) = k.count ≤ MOST_MESSAGES
IsInRange commands.Help = ⊤
