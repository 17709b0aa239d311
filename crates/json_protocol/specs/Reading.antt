-- The reader's state, and what one call answers there.
use Rattle.std.specs.Prelude.{ℕ, pos, ◌+◌, ◌*◌, List, [], ◌∷◌, length, drop, true, false, Option, Some, None, Ok, Err, ◌==◌, if◌then◌else◌}
use Rattle.thrift_value.specs.declared.event.Event.{Event}
use Rattle.thrift_value.specs.Items.{Item, item_of, struct_begin, map_begin, set_begin, list_begin}
use Rattle.protocol_traits.specs.declared.proto.Hint.{Hint}
use Rattle.protocol_traits.specs.declared.fault.Reason.TheVariants as reasons
use Rattle.protocol_traits.specs.declared.nest.Slot.{Slot}
use Rattle.protocol_traits.specs.declared.nest.Slot.TheVariants as slots
use Rattle.protocol_traits.specs.Stack.{first_of}
use Rattle.protocol_traits.specs.Follow.{after}
use Rattle.protocol_traits.specs.Steps.{Step}
use Rattle.json_protocol.specs.declared.opening.Opening.{Opening}
use Rattle.json_protocol.specs.declared.opening.Opening.TheVariants as openings
use Rattle.json_protocol.specs.Scan.{Scan, fault, shifted, gap, further, mark_at, ◌>>=◌}
use Rattle.json_protocol.specs.Values.{first_at, next_at, end_at, value_in}

-- the frame, the place in it, where the last value began, the open levels, and what was read of the innermost
pub record State : Type 0 where
  pub frame : List ℕ
  pub place : ℕ
  pub value : ℕ
  pub nest : List Slot
  pub opening : Opening

abbrev pub begun : List ℕ → State
begun frame = record { frame = frame; place = 0; value = 0; nest = slots.Fields (pos 0) ∷ []; opening = openings.Body }

abbrev pub rest : State → List ℕ
rest s = drop s.place s.frame

abbrev pub ahead : State → ℕ
ahead s = 24 * length (rest s)

-- ---- the marks before an item

-- a mark behind whitespace, and the whitespace behind it
abbrev pub lead_by : ℕ → List ℕ → Scan (Unit {0})
lead_by mark bytes = further 0 (mark_at mark) bytes >>= λ there. Ok (tt, there.1 + gap (drop there.1 bytes))

-- a comma and a brace, behind whitespace, and the whitespace behind them
unfoldable pub lead_pairs : List ℕ → Scan (Unit {0})
lead_pairs bytes =
    further 0 (mark_at 44) bytes >>= λ comma.
    further comma.1 (mark_at 123) bytes >>= λ brace.
    Ok (tt, brace.1 + gap (drop brace.1 bytes))

-- before a field or a stop: the brace of the body, nothing, or the brace that closes the field's value before it
unfoldable pub lead_fields : Opening → List ℕ → Scan (Unit {0})
lead_fields openings.Body bytes = lead_by 123 bytes
lead_fields openings.New bytes = Ok (tt, gap bytes)
lead_fields openings.Old bytes = lead_by 125 bytes

-- before a key: a comma, and before the first the brace of the pairs
unfoldable pub lead_key : Opening → List ℕ → Scan (Unit {0})
lead_key openings.Old bytes = lead_by 44 bytes
lead_key opening bytes = lead_pairs bytes

-- the marks and the whitespace before the item that a level calls for
unfoldable pub lead_at : Opening → Slot → List ℕ → Scan (Unit {0})
lead_at opening (slots.Fields last) bytes = lead_fields opening bytes
lead_at opening (slots.Value kind id) bytes = lead_by 58 bytes
lead_at opening (slots.Elements kind left) bytes = if left == 0 then Ok (tt, gap bytes) else lead_by 44 bytes
lead_at opening (slots.Keys key value left) bytes = if left == 0 then lead_by 125 bytes else lead_key opening bytes
lead_at opening (slots.Values key value left) bytes = lead_by 58 bytes

-- ---- the item itself

-- behind its first brace a struct has a field or a stop; later a comma stands before the field
abbrev pub fields_at : Opening → List ℕ → Scan Item
fields_at openings.Old bytes = next_at bytes
fields_at opening bytes = first_at bytes

unfoldable pub item_in : ℕ → Opening → Hint → Slot → List ℕ → Scan Item
item_in depth opening hint (slots.Fields last) bytes = fields_at opening bytes
item_in depth opening hint (slots.Value kind id) bytes = value_in depth false hint kind bytes
item_in depth opening hint (slots.Elements kind left) bytes = if left == 0 then end_at bytes else value_in depth false hint kind bytes
item_in depth opening hint (slots.Keys key value left) bytes = if left == 0 then end_at bytes else value_in depth true hint key bytes
item_in depth opening hint (slots.Values key value left) bytes = value_in depth false hint value bytes

-- ---- one call

abbrev pub begun_at : ℕ → Scan Item → Scan (Item × ℕ)
begun_at start (Ok x) = Ok ((x.0, start), x.1)
begun_at start (Err f) = Err f

-- the item with the place where it begins, behind the marks that were read
abbrev pub led : ℕ → Opening → Hint → Slot → List ℕ → Scan (Unit {0}) → Scan (Item × ℕ)
led depth opening hint slot bytes (Err f) = Err f
led depth opening hint slot bytes (Ok lead) = begun_at lead.1 (shifted lead.1 (item_in depth opening hint slot (drop lead.1 bytes)))

abbrev pub scan_at : ℕ → Opening → Hint → Option Slot → List ℕ → Scan (Item × ℕ)
scan_at depth opening hint None bytes = fault 0 reasons.Trailing
scan_at depth opening hint (Some slot) bytes = led depth opening hint slot bytes (lead_at opening slot bytes)

-- whether an item opens a level
abbrev pub opening_after : Item → Opening
opening_after struct_begin = openings.New
opening_after (map_begin key value size) = openings.New
opening_after (set_begin kind size) = openings.New
opening_after (list_begin kind size) = openings.New
opening_after item = openings.Old

abbrev pub moved : State → Scan (Item × ℕ) → Step State Item
moved s (Ok x) = Ok (x.0.0, record { frame = s.frame; place = s.place + x.1; value = s.place + x.0.1; nest = after x.0.0 s.nest; opening = opening_after x.0.0 })
moved s (Err f) = Err (record { place = s.place + f.place; reason = f.reason })

unfoldable pub reads : State → Hint → Step State Item
reads s hint = moved s (scan_at (length s.nest) s.opening hint (first_of s.nest) (rest s))

-- what the code gives, without where its text lies in memory
abbrev pub led_scan : (Event × ℕ) × ℕ → (Item × ℕ) × ℕ
led_scan x = ((item_of x.0.0, x.0.1), x.1)
