-- The names of the protocols.
use Rattle.std.specs.Prelude.{ℕ, List, Option, Some, None, if◌then◌else◌, codes}
use Rattle.protocol_traits.specs.declared.proto.Proto.{Proto}
use Rattle.protocol_traits.specs.declared.proto.Proto.TheVariants as protocols
use Rattle.decimal_words.specs.Same.{is}

-- the protocol of this name
unfoldable pub proto_of : List ℕ → Option Proto
proto_of word =
    if is word (codes "binary") then Some protocols.Binary
    else if is word (codes "compact") then Some protocols.Compact
    else if is word (codes "json") then Some protocols.Json
    else None
