-- A whole frame that is read, call by call: a header, the items of a body, each with what is declared of its position, and the end.
use Rattle.std.specs.Prelude.{◌≡◌, ℕ, List, [], ◌∷◌, Ok}
use Rattle.thrift_value.specs.Items.{Item}
use Rattle.protocol_traits.specs.Heads.{Header}
use Rattle.type_walk.specs.Positions.{Position, hint_of, after}
use Rattle.json_protocol.specs.Reading.{State, begun, reads}
use Rattle.json_protocol.specs.Head.{reads_head, reads_end}

-- item after item, from one position and state to a last state
abbrev pub Reads : Position → State → List Item → State → Type 0
Reads p s [] last = s ≡ last
Reads p s (item ∷ items) last = (next : State) × (reads s (hint_of p) ≡ Ok (item, next)) × Reads (after p item) next items last

-- the header, the items from the beginning of the body up to its last level, and the end, and only whitespace behind
abbrev pub IsRead : Position → List ℕ → Header → List Item → Type 0
IsRead start frame header items =
    (first : State) × (last : State) × (reads_head (begun frame) ≡ Ok (header, first)) × Reads start first items last × (last.nest ≡ []) × (reads_end last ≡ Ok (tt, last))
