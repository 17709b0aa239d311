-- Addresses of peers, and which of them serve for what.
use Rattle.std.specs.Prelude.{ℕ, ◌+◌, ◌==◌, List, [], ◌∷◌, length, take, drop, is_some, Bool, true, false, Option, Some, None, option_map, option_and_then, if◌then◌else◌, nat_lt}
use Rattle.decimal_words.specs.Numbers.{number_of, within}
use Rattle.peer_addresses.specs.Places.{place}
use Rattle.peer_addresses.specs.Octets.{octets_of}
use Rattle.peer_addresses.specs.Segments.{segments_of}
use Rattle.peer_addresses.specs.Names.{is_name}
use Rattle.peer_addresses.specs.declared.address.Address.{Address}
use Rattle.peer_addresses.specs.declared.address.Address.TheVariants as addresses
use Rattle.peer_addresses.specs.declared.address.TheConstants.{MOST_PORT}

-- 1 to 65535
abbrev pub port_of : List ℕ → Option ℕ
port_of word = within 1 MOST_PORT (number_of word)

-- a colon (58), and a port
abbrev pub port_behind : List ℕ → Option ℕ
port_behind [] = None
port_behind (c ∷ cs) = if c == 58 then port_of cs else None

-- the rest of [IPV6]:PORT; the first `]` (93) ends the address
unfoldable pub bracketed_of : List ℕ → Option Address
bracketed_of rest =
    if nat_lt (place 93 rest) (length rest) then
    option_and_then (λ segments. option_map (λ port. addresses.V6 segments port) (port_behind (drop (place 93 rest + 1) rest)))
    (segments_of (take (place 93 rest) rest))
    else None

-- an address of version 4 before a name
abbrev pub octets_or_name : Option (List ℕ) → Bool → ℕ → Option Address
octets_or_name (Some octets) named port = Some (addresses.V4 octets port)
octets_or_name None true port = Some (addresses.Name port)
octets_or_name None false port = None

abbrev pub host_with : List ℕ → ℕ → Option Address
host_with host port = octets_or_name (octets_of host) (is_name host) port

-- A.B.C.D:PORT or NAME:PORT; the first colon ends the host
unfoldable pub plain_of : List ℕ → Option Address
plain_of word =
    if nat_lt (place 58 word) (length word) then
    option_and_then (λ port. host_with (take (place 58 word) word) port) (port_of (drop (place 58 word + 1) word))
    else None

-- the address that a word spells; an address of version 6 stands in brackets, of which `[` is 91
unfoldable pub address_of : List ℕ → Option Address
address_of [] = plain_of []
address_of (c ∷ cs) = if c == 91 then bracketed_of cs else plain_of (c ∷ cs)

-- it is one of the Internet Protocol
abbrev pub is_numeric : Option Address → Bool
is_numeric (Some (addresses.V4 octets port)) = true
is_numeric (Some (addresses.V6 segments port)) = true
is_numeric (Some (addresses.Name port)) = false
is_numeric None = false

-- a server listens at an address of the Internet Protocol, and connects to a name too
abbrev pub can_listen_at : List ℕ → Bool
can_listen_at word = is_numeric (address_of word)

abbrev pub can_connect_to : List ℕ → Bool
can_connect_to word = is_some (address_of word)
