-- Where a server listens, and to which addresses its upstreams' words lead.
use Rattle.std.specs.Prelude.{◌≡◌, ℕ, ◌+◌, ◌-◌, ◌<◌, ◌^◌, ⊤, List, [], ◌∷◌, ◌++◌, map, length, Option, None, Some}
use Rattle.std.specs.Net.Addr.{ipv4_octets, ipv6_segments}
use Rattle.std.specs.Net.Socket.{socket_ip, IsPlainSocket}
use Rattle.std.specs.declared.net.ipv4_addr.Ipv4Addr.{Ipv4Addr}
use Rattle.std.specs.declared.net.ipv6_addr.Ipv6Addr.{Ipv6Addr}
use Rattle.std.specs.declared.net.ip_addr.IpAddr.TheVariants as ip
use Rattle.std.specs.declared.net.socket_addr.SocketAddr.{SocketAddr}
use Rattle.peer_addresses.specs.Addresses.{address_of}
use Rattle.peer_addresses.specs.Names.{name_in}
use Rattle.peer_addresses.specs.declared.address.Address.{Address}
use Rattle.peer_addresses.specs.declared.address.Address.TheVariants as peer
use Rattle.gate_fan.specs.declared.fan.Target.{Target}
use Rattle.mio_edge.specs.declared.listening.Listening.{Listening}

-- for which names and ports a network may answer which addresses
abbrev pub Known : Type 1
Known = List ℕ → ℕ → SocketAddr → Type 0

-- no name has an address
abbrev pub no_names : Known
no_names name port target = ⊥

-- the address of version 4 of these octets, with this port
abbrev pub HasOctets : List ℕ → ℕ → SocketAddr → Type 0
HasOctets octets port target = (host : Ipv4Addr) × (socket_ip target ≡ ip.V4 host) × (ipv4_octets host ≡ octets) × IsPlainSocket target port

-- the address of version 6 of these segments, with this port
abbrev pub HasSegments : List ℕ → ℕ → SocketAddr → Type 0
HasSegments segments port target = (host : Ipv6Addr) × (socket_ip target ≡ ip.V6 host) × (ipv6_segments host ≡ segments) × IsPlainSocket target port

-- What an address that a word spells is for the system: itself where it is one of the Internet Protocol, and what the network
-- answers for the name in the word.
abbrev pub IsAt : Known → List ℕ → Address → SocketAddr → Type 0
IsAt names word (peer.V4 octets port) target = HasOctets octets port target
IsAt names word (peer.V6 segments port) target = HasSegments segments port target
IsAt names word (peer.Name port) target = names (name_in word) port target

-- the word spells an address, and this is what it is for the system
abbrev pub LeadsTo : Known → List ℕ → SocketAddr → Type 0
LeadsTo names word target = (address : Address) × (address_of word ≡ Some address) × IsAt names word address target

-- these are the targets of the words, one a word, in their order
abbrev pub LeadTo : Known → List (List ℕ) → List SocketAddr → Type 0
LeadTo names [] [] = ⊤
LeadTo names [] (target ∷ targets) = ⊥
LeadTo names (word ∷ words) [] = ⊥
LeadTo names (word ∷ words) (target ∷ targets) = LeadsTo names word target × LeadTo names words targets

-- the targets of the words stand behind those that were there
abbrev pub AddsTargets : Known → List (List ℕ) → (before after : List SocketAddr) → Type 0
AddsTargets names words before after = (more : List SocketAddr) × (after ≡ before ++ more) × LeadTo names words more

-- each session of the server has a port for its client, and one to the target of each word
pub record LeadsEach {S : Type 0} (names : Known) (words : List (List ℕ)) (listening : Listening S) : Type 0 where
  pub targets : LeadTo names words listening.targets.items
  pub width : length words < 2 ^ 64 - 1 → listening.table.settings.width ≡ length words + 1

-- the server listens, and each of its sessions has these
abbrev pub LeadsSessions : {S : Type 0} → Known → List (List ℕ) → Option (Listening S) → Type 0
LeadsSessions names words None = ⊥
LeadsSessions names words (Some listening) = LeadsEach names words listening

-- the network listens at the address that the word spells
abbrev pub ListensAt : {W : Type 0} → (W → SocketAddr → Type 0) → List ℕ → W → Type 0
ListensAt listens word network = (address : SocketAddr) × LeadsTo no_names word address × listens network address

-- it has no address of its own for the system
abbrev pub IsName : Address → Type 0
IsName (peer.V4 octets port) = ⊥
IsName (peer.V6 segments port) = ⊥
IsName (peer.Name port) = ⊤

-- the words of a fan's targets
abbrev pub words_of : List Target → List (List ℕ)
words_of targets = map (λ target. target.address) targets
