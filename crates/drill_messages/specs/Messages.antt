-- The messages, each a call `put` of a list of these structs, in the terms of an IDL:
--
--     struct Item { 1: i64 id, 2: string name, 3: binary raw, 4: list<i32> marks, 5: map<string,bool> flags }
--     service Drill { void put(1: list<Item> items) }
use Rattle.std.specs.Prelude.{ℕ, zero, suc, ℤ, pos, ◌-ℤ◌, ◌+◌, ◌*◌, ◌%◌, ◌^◌, Bool, ◌==◌, List, [], ◌∷◌, map}
use Rattle.drill_messages.specs.Draws.{stepped, draw, behind, some, behind_some}

-- what the five fields of an item hold; the keys of its flags are `a`, `b`, `c` in this order
pub record Fields : Type 0 where
  pub id : ℤ
  pub name : List ℕ
  pub raw : List ℕ
  pub marks : List ℤ
  pub flags : List Bool

-- where the draws of each field begin
abbrev pub name_from : ℕ → ℕ
name_from s = behind 2 s

abbrev pub raw_from : ℕ → ℕ
raw_from s = behind_some 12 (name_from s)

abbrev pub marks_from : ℕ → ℕ
marks_from s = behind_some 16 (raw_from s)

abbrev pub flags_from : ℕ → ℕ
flags_from s = behind_some 6 (marks_from s)

-- two draws, one for each half
unfoldable pub id_of : ℕ → ℤ
id_of s = pos (draw s * 2 ^ 31 + draw (stepped s)) -ℤ pos (2 ^ 61)

-- a small letter
abbrev pub letter_of : ℕ → ℕ
letter_of d = 97 + d % 26

abbrev pub byte_of : ℕ → ℕ
byte_of d = d % 256

abbrev pub mark_of : ℕ → ℤ
mark_of d = pos d -ℤ pos (2 ^ 30)

abbrev pub flag_of : ℕ → Bool
flag_of d = d % 2 == 1

-- the item that is drawn from a state, and the state behind it
unfoldable pub item : ℕ → Fields
item s = record {
  id = id_of s;
  name = map letter_of (some 12 (name_from s));
  raw = map byte_of (some 16 (raw_from s));
  marks = map mark_of (some 6 (marks_from s));
  flags = map flag_of (some 4 (flags_from s));
}

unfoldable pub behind_item : ℕ → ℕ
behind_item s = behind_some 4 (flags_from s)

-- so many items
abbrev pub items : ℕ → ℕ → List Fields
items zero s = []
items (suc n) s = item s ∷ items n (behind_item s)

abbrev pub behind_items : ℕ → ℕ → ℕ
behind_items zero s = s
behind_items (suc n) s = behind_items n (behind_item s)

-- a message: its sequence number and the items that it puts, of which there are fewer than eight
pub record Put : Type 0 where
  pub seq : ℕ
  pub items : List Fields

abbrev pub message : ℕ → ℕ → Put
message seq s = record { seq = seq; items = items (draw s % 8) (stepped s) }

abbrev pub behind_message : ℕ → ℕ
behind_message s = behind_items (draw s % 8) (stepped s)

-- so many messages, the first with this number
abbrev pub messages_from : ℕ → ℕ → ℕ → List Put
messages_from zero seq s = []
messages_from (suc n) seq s = message seq s ∷ messages_from n (seq + 1) (behind_message s)

-- the messages of a seed
unfoldable pub messages : ℕ → ℕ → List Put
messages seed count = messages_from count 0 seed
