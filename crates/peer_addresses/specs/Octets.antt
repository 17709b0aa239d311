-- Addresses of the Internet Protocol, version 4, without a port.
use Rattle.std.specs.Prelude.{ℕ, ◌+◌, List, [], ◌∷◌, length, take, drop, Option, None, option_map, option_and_then, if◌then◌else◌, nat_lt}
use Rattle.decimal_words.specs.Numbers.{number_of, within}
use Rattle.peer_addresses.specs.Places.{place}
use Rattle.peer_addresses.specs.declared.octets.TheConstants.{MOST_OCTET}

-- 0 to 255
abbrev pub octet_of : List ℕ → Option ℕ
octet_of word = within 0 MOST_OCTET (number_of word)

-- the octet before the first dot, and how many bytes it takes with the dot
unfoldable pub octet_at : List ℕ → Option (ℕ × ℕ)
octet_at word =
    if nat_lt (place 46 word) (length word) then
    option_map (λ octet. (octet, place 46 word + 1)) (octet_of (take (place 46 word) word))
    else None

-- A.B.C.D
unfoldable pub octets_of : List ℕ → Option (List ℕ)
octets_of word =
    option_and_then (λ a.
    option_and_then (λ b.
    option_and_then (λ c.
    option_map (λ d. a.0 ∷ b.0 ∷ c.0 ∷ d ∷ [])
    (octet_of (drop c.1 (drop b.1 (drop a.1 word)))))
    (octet_at (drop b.1 (drop a.1 word))))
    (octet_at (drop a.1 word)))
    (octet_at word)
