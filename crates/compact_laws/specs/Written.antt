-- What is written of a message: its header and its items, one after another, each by what the writer knows before it.
use Rattle.std.specs.Prelude.{◌≡◌, ⊤, ℕ, List, [], ◌∷◌, ◌++◌, None}
use Rattle.thrift_value.specs.Items.{Item}
use Rattle.thrift_value.specs.Trees.{Message, items_of_members}
use Rattle.compact_protocol.specs.Plain.{Writer, begun, bar, spelling, follows, head_spelling}
use Rattle.binary_laws.specs.Reads.{header_of_message}

-- the plain spelling of each item, one behind another
abbrev pub put : Writer → List Item → List ℕ
put w [] = []
put w (item ∷ items) = spelling w item ++ put (follows w item) items

-- none of the items is barred
abbrev pub AreTaken : List Item → Type 0
AreTaken [] = ⊤
AreTaken (item ∷ items) = (bar item ≡ None) × AreTaken items

-- what is written of the message, from the writer's beginning on
pub record IsWritten (m : Message) (bytes : List ℕ) : Type 0 where
  pub taken : AreTaken (items_of_members m.body)
  pub bytes_are : bytes ≡ head_spelling (header_of_message m) ++ put begun (items_of_members m.body)
