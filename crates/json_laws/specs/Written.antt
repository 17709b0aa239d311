-- What is written of a message: its header and its items, one after another, each by what is declared of its position and by what the
-- writer has written before it.
use Rattle.std.specs.Prelude.{◌≡◌, ⊤, ℕ, List, [], ◌∷◌, ◌++◌, None}
use Rattle.thrift_value.specs.Items.{Item, text}
use Rattle.thrift_value.specs.Trees.{Message, items_of_members}
use Rattle.type_walk.specs.Positions.{Position, mark_of, start}
use Rattle.type_walk.specs.Positions.{after as position_after}
use Rattle.json_text.specs.Grammar.{AreBytes}
use Rattle.json_protocol.specs.Writing.{Writer, begun, bar, name_bar, plain, plain_head, after}
use Rattle.binary_laws.specs.Reads.{header_of_message}
use Rattle.json_laws.specs.Stated.{Known}

-- the plain spelling of each item, one behind another
abbrev pub put : Position → Writer → List Item → List ℕ
put p w [] = []
put p w (item ∷ items) = plain w item (mark_of p item) ++ put (position_after p item) (after w item (mark_of p item)) items

-- none of the items is barred
abbrev pub AreTaken : Position → List Item → Type 0
AreTaken p [] = ⊤
AreTaken p (item ∷ items) = (bar item (mark_of p item) ≡ None) × AreTaken (position_after p item) items

-- a string consists of bytes
abbrev pub HasBytes : Item → Type 0
HasBytes (text bytes) = AreBytes bytes
HasBytes item = ⊤

abbrev pub HaveBytes : List Item → Type 0
HaveBytes [] = ⊤
HaveBytes (item ∷ items) = HasBytes item × HaveBytes items

-- what is written of the message from the writer's beginning on, and no bar refuses it
pub record IsWritten (k : Known) (m : Message) (bytes : List ℕ) : Type 0 where
  pub name : name_bar m.name ≡ None
  pub taken : AreTaken (start k.declared k.body) (items_of_members m.body)
  pub strings : HaveBytes (items_of_members m.body)
  pub bytes_are : bytes ≡ plain_head (header_of_message m) ++ put (start k.declared k.body) begun (items_of_members m.body)
