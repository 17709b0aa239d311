-- A body that is read item by item, each where the ones before it have led.
use Rattle.std.specs.Prelude.{◌≡◌, List, [], ◌∷◌, Ok}
use Rattle.thrift_value.specs.Items.{Item}
use Rattle.translate_verdicts.specs.Body.{Source}
use Rattle.type_walk.specs.Positions.{Position, hint_of, after}

-- the position behind these items
abbrev pub behind : Position → List Item → Position
behind p [] = p
behind p (item ∷ items) = behind (after p item) items

-- these items are read, one after another, from one state of the reader to another
abbrev pub Follows : {S : Type 0} → Source S → S → Position → List Item → S → Type 0
Follows source s p [] last = s ≡ last
Follows {S} source s p (item ∷ items) last = (next : S) × (source.reads s (hint_of p) ≡ Ok (item, next)) × Follows source next (after p item) items last
