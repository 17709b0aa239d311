-- Addresses of the Internet Protocol, version 6, without a port.
use Rattle.std.specs.Prelude.{ℕ, List, Option}
use Rattle.std.specs.Net.Reader.{read_ipv6, whole_value}

-- the eight segments of the address that a word writes, from its first byte to its last
unfoldable pub segments_of : List ℕ → Option (List ℕ)
segments_of word = whole_value (read_ipv6 word)
