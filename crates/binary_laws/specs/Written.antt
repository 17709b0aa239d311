-- What is written of a message: its header and its items, one after another, each with what is known of its position.
use Rattle.std.specs.Prelude.{◌≡◌, ⊤, ℕ, ◌<◌, ◌^◌, List, [], ◌∷◌, ◌++◌, length, None, FitsSigned}
use Rattle.std.specs.Int.{w32}
use Rattle.thrift_value.specs.Items.{Item}
use Rattle.thrift_value.specs.Trees.{Message, AreMembers, items_of_members}
use Rattle.protocol_traits.specs.declared.proto.Mark.{Mark}
use Rattle.binary_protocol.specs.Plain.{bar, plain, plain_head}
use Rattle.binary_laws.specs.Reads.{header_of_message}

-- the items without their marks
abbrev pub items_in : List (Item × Mark) → List Item
items_in [] = []
items_in (x ∷ xs) = x.0 ∷ items_in xs

-- the plain spelling of each item, one behind another
abbrev pub put : List (Item × Mark) → List ℕ
put [] = []
put (x ∷ xs) = plain x.0 x.1 ++ put xs

-- none of the items is barred
abbrev pub AreTaken : List (Item × Mark) → Type 0
AreTaken [] = ⊤
AreTaken (x ∷ xs) = (bar x.0 x.1 ≡ None) × AreTaken xs

-- its name, its number and its values lie in their ranges
pub record IsMessage (m : Message) : Type 0 where
  pub name : length m.name < 2 ^ 31
  pub seq : FitsSigned w32 m.seq
  pub body : AreMembers m.body

-- what is written of the message, where this is known of its items
pub record IsWritten (m : Message) (bytes : List ℕ) : Type 0 where
  pub marked : List (Item × Mark)
  pub items : items_in marked ≡ items_of_members m.body
  pub taken : AreTaken marked
  pub bytes_are : bytes ≡ plain_head (header_of_message m) ++ put marked
