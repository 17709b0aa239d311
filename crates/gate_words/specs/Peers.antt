-- How the peers of a server send their messages, as words name it.
use Rattle.std.specs.Prelude.{ℕ, List, Option, Some, None, Bool, true, false, if◌then◌else◌, codes}
use Rattle.decimal_words.specs.Same.{is}
use Rattle.gate_words.specs.declared.peers.Sides.{Sides}
use Rattle.gate_words.specs.declared.peers.Sides.TheVariants as sides
use Rattle.gate_words.specs.declared.peers.Front.{Front}
use Rattle.gate_words.specs.declared.peers.Front.TheVariants as fronts

abbrev pub has_client : Sides → Bool
has_client sides.Client = true
has_client sides.Upstream = false
has_client sides.Both = true

abbrev pub has_upstream : Sides → Bool
has_upstream sides.Client = false
has_upstream sides.Upstream = true
has_upstream sides.Both = true

abbrev pub is_http : Front → Bool
is_http fronts.Framed = false
is_http fronts.Http = true

-- what stands where the words name no front
abbrev pub front_or_framed : Option Front → Front
front_or_framed None = fronts.Framed
front_or_framed (Some front) = front

-- the sides of this name
unfoldable pub sides_of : List ℕ → Option Sides
sides_of word =
    if is word (codes "client") then Some sides.Client
    else if is word (codes "upstream") then Some sides.Upstream
    else if is word (codes "both") then Some sides.Both
    else None

-- the front of this name
unfoldable pub front_of : List ℕ → Option Front
front_of word =
    if is word (codes "http") then Some fronts.Http
    else if is word (codes "framed") then Some fronts.Framed
    else None
