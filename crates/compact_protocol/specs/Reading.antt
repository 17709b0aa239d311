-- The reader's state, and what one call answers there.
use Rattle.std.specs.Prelude.{ℕ, ℤ, pos, ◌+◌, ◌*◌, Bool, false, List, [], ◌∷◌, length, drop, Option, Some, None, Ok, Err, ◌==◌, if◌then◌else◌}
use Rattle.protocol_traits.specs.declared.fault.Reason.TheVariants as reasons
use Rattle.protocol_traits.specs.declared.nest.Slot.{Slot}
use Rattle.protocol_traits.specs.declared.nest.Slot.TheVariants as slots
use Rattle.thrift_value.specs.Items.{Item}
use Rattle.thrift_value.specs.declared.kind.MessageType.{MessageType}
use Rattle.protocol_traits.specs.Follow.{after}
use Rattle.protocol_traits.specs.Heads.{Header}
use Rattle.protocol_traits.specs.Steps.{Step}
use Rattle.protocol_traits.specs.Stack.{first_of}
use Rattle.compact_protocol.specs.Scan.{Scan, shifted, front_at, string_at, item_in, flag_of, fault}

-- A frame, the place of the next item, that of the last one, what the last item's byte tells if it began a bool
-- field, and the open levels.
pub record State : Type 0 where
  pub frame : List ℕ
  pub place : ℕ
  pub value : ℕ
  pub flag : Bool
  pub nest : List Slot

abbrev pub rest : State → List ℕ
rest s = drop s.place s.frame

abbrev pub begun : List ℕ → State
begun frame = record { frame = frame; place = 0; value = 0; flag = false; nest = slots.Fields (pos 0) ∷ [] }

-- behind the body nothing is called for
abbrev pub scan_at : Option Slot → ℕ → Bool → List ℕ → Scan Item
scan_at None depth flag bytes = fault 0 reasons.Trailing
scan_at (Some slot) depth flag bytes = item_in depth slot flag bytes

abbrev pub moved : State → Scan Item → Step State Item
moved s (Ok x) = Ok (x.0, record { frame = s.frame; place = s.place + x.1; value = s.place; flag = flag_of (rest s); nest = after x.0 s.nest })
moved s (Err f) = Err (record { place = s.place + f.place; reason = f.reason })

unfoldable pub reads : State → Step State Item
reads s = moved s (scan_at (first_of s.nest) (length s.nest) s.flag (rest s))

-- the state behind a name that began so far on
abbrev pub named : State → MessageType × ℤ → ℕ → Scan (List ℕ) → Step State Header
named s front at (Ok x) = Ok (record { name = x.0; mtype = front.0; seq = front.1 }, record { frame = s.frame; place = s.place + x.1; value = s.place + at; flag = false; nest = slots.Fields (pos 0) ∷ [] })
named s front at (Err f) = Err (record { place = s.place + f.place; reason = f.reason })

abbrev pub headed : State → Scan (MessageType × ℤ) → Step State Header
headed s (Ok x) = named s x.0 x.1 (shifted x.1 (string_at (drop x.1 (rest s))))
headed s (Err f) = Err (record { place = s.place + f.place; reason = f.reason })

unfoldable pub reads_head : State → Step State Header
reads_head s = headed s (front_at (rest s))

-- the body is whole and nothing follows
unfoldable pub reads_end : State → Step State (Unit {0})
reads_end s =
    if length s.nest == 0
    then (if s.place == length s.frame then Ok (tt, s) else Err (record { place = s.place; reason = reasons.Trailing }))
    else Err (record { place = length s.frame; reason = reasons.Truncated })

-- what is held back for the levels that are open: two for the end of each, and five where a value is called for
abbrev pub top_charge : List Slot → ℕ
top_charge [] = 0
top_charge (slots.Fields last ∷ up) = 0
top_charge (slots.Value kind id ∷ up) = 5
top_charge (slots.Elements kind left ∷ up) = 5
top_charge (slots.Keys key value left ∷ up) = 5
top_charge (slots.Values key value left ∷ up) = 5

abbrev pub held : List Slot → ℕ
held nest = 2 * length nest + top_charge nest

-- the most bytes that a writer may still need: 24 for each byte that is left, and what is held back
abbrev pub ahead : State → ℕ
ahead s = 24 * length (rest s) + held s.nest
