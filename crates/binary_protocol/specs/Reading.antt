-- The reader's state, and what one call answers there.
use Rattle.std.specs.Prelude.{ℕ, pos, ◌+◌, ◌*◌, List, [], ◌∷◌, length, drop, Option, Some, None, Ok, Err, ◌==◌, if◌then◌else◌}
use Rattle.thrift_value.specs.Items.{Item}
use Rattle.protocol_traits.specs.declared.fault.Reason.TheVariants as reasons
use Rattle.protocol_traits.specs.declared.nest.Slot.{Slot}
use Rattle.protocol_traits.specs.declared.nest.Slot.TheVariants as slots
use Rattle.protocol_traits.specs.Heads.{Header}
use Rattle.protocol_traits.specs.Steps.{Step}
use Rattle.protocol_traits.specs.Stack.{first_of}
use Rattle.protocol_traits.specs.Follow.{after}
use Rattle.binary_protocol.specs.Scan.{Scan, item_in, fault}
use Rattle.binary_protocol.specs.Heads.{head_at, name_place}

-- the frame, the place of the next item, where the last one began, and the open levels
pub record State : Type 0 where
  pub frame : List ℕ
  pub place : ℕ
  pub value : ℕ
  pub nest : List Slot

abbrev pub rest : State → List ℕ
rest s = drop s.place s.frame

abbrev pub scan_at : Option Slot → ℕ → List ℕ → Scan Item
scan_at None depth bytes = fault 0 reasons.Trailing
scan_at (Some slot) depth bytes = item_in depth slot bytes

abbrev pub moved : State → Scan Item → Step State Item
moved s (Ok x) = Ok (x.0, record { frame = s.frame; place = s.place + x.1; value = s.place; nest = after x.0 s.nest })
moved s (Err f) = Err (record { place = s.place + f.place; reason = f.reason })

unfoldable pub reads : State → Step State Item
reads s = moved s (scan_at (first_of s.nest) (length s.nest) (rest s))

-- what is held back for the levels that are open: two for the end of each, and five where a value is called for
abbrev pub top_charge : List Slot → ℕ
top_charge [] = 0
top_charge (slots.Fields last ∷ up) = 0
top_charge (slots.Value kind id ∷ up) = 5
top_charge (slots.Elements kind left ∷ up) = 5
top_charge (slots.Keys key value left ∷ up) = 5
top_charge (slots.Values key value left ∷ up) = 5

abbrev pub held : List Slot → ℕ
held nest = 2 * length nest + top_charge nest

-- the most bytes that a writer may still need
abbrev pub ahead : State → ℕ
ahead s = 24 * length (rest s) + held s.nest

-- the body's struct alone
abbrev pub body_open : List Slot
body_open = slots.Fields (pos 0) ∷ []

abbrev pub begun : List ℕ → State
begun frame = record { frame = frame; place = 0; value = 0; nest = body_open }

abbrev pub headed : State → Scan Header → Step State Header
headed s (Ok x) = Ok (x.0, record { frame = s.frame; place = s.place + x.1; value = s.place + name_place (rest s); nest = body_open })
headed s (Err f) = Err (record { place = s.place + f.place; reason = f.reason })

unfoldable pub reads_head : State → Step State Header
reads_head s = headed s (head_at (rest s))

-- The message is whole where no level is open, and the frame where nothing follows it.
unfoldable pub reads_end : State → Step State (Unit {0})
reads_end s =
    if length s.nest == 0
    then (if s.place == length s.frame then Ok (tt, s) else Err (record { place = s.place; reason = reasons.Trailing }))
    else Err (record { place = length s.frame; reason = reasons.Truncated })
