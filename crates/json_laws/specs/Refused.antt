-- A frame that is refused.
use Rattle.std.specs.Prelude.{◌≡◌, ◌⊎◌, ℕ, List, [], ◌∷◌, Ok, Err}
use Rattle.thrift_value.specs.Items.{Item}
use Rattle.protocol_traits.specs.declared.fault.Fault.{Fault}
use Rattle.protocol_traits.specs.Heads.{Header}
use Rattle.type_walk.specs.Positions.{Position, hint_of, after}
use Rattle.json_protocol.specs.Reading.{State, begun, reads}
use Rattle.json_protocol.specs.Head.{reads_head, reads_end}
use Rattle.json_laws.specs.Reads.{Reads}

-- the position behind these items
abbrev pub behind : Position → List Item → Position
behind p [] = p
behind p (item ∷ items) = behind (after p item) items

-- the next call answers a fault: for an item where a level is open, else for the end
abbrev pub Refuses : Position → State → Fault → Type 0
Refuses p s f = ((s.nest ≡ [] → ⊥) × (reads s (hint_of p) ≡ Err f)) ⊎ ((s.nest ≡ []) × (reads_end s ≡ Err f))

-- the header is a fault, or a call behind it is
abbrev pub IsRefused : Position → List ℕ → Fault → Type 0
IsRefused start frame f =
    (reads_head (begun frame) ≡ Err f)
    ⊎ ((header : Header) × (items : List Item) × (first : State) × (last : State) × (reads_head (begun frame) ≡ Ok (header, first)) × Reads start first items last × Refuses (behind start items) last f)
