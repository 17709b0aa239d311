-- Scans of the front of some bytes, and how they are put together. The place of a fault counts from the front.
use Rattle.std.specs.Borrow.{Bor}
use Rattle.std.specs.Prelude.{◌≡◌, ℕ, ◌+◌, ◌≤◌, Result, List, length, drop, Bool, ◌||◌, ◌==◌, nat_lt, nat_le, Ok, Err, if◌then◌else◌, slice_index}
use Rattle.std.specs.List.{prefix_len}
use Rattle.thrift_value.specs.declared.event.Event.{Event}
use Rattle.thrift_value.specs.Items.{Item, item_of}
use Rattle.protocol_traits.specs.declared.fault.Fault.{Fault}
use Rattle.protocol_traits.specs.declared.fault.Reason.{Reason}
use Rattle.protocol_traits.specs.declared.fault.Reason.TheVariants as reasons
use Rattle.protocol_traits.specs.Steps.{Step}
use Rattle.json_text.specs.declared.scanned.Scan.{Scan as Text}
use Rattle.json_text.specs.declared.scanned.Scan.TheVariants.{Whole, Short, Bad}
use Rattle.json_text.specs.Scan.{is_white}

-- what was read and how many bytes it takes, or a fault
abbrev pub Scan : Type 0 → Type 0
Scan X = Step ℕ X

abbrev pub fault : {X : Type 0} → ℕ → Reason → Scan X
fault place reason = Err (record { place = place; reason = reason })

-- the same behind so many bytes
abbrev pub shifted : {X : Type 0} → ℕ → Scan X → Scan X
shifted n (Ok x) = Ok (x.0, n + x.1)
shifted n (Err f) = Err (record { place = n + f.place; reason = f.reason })

abbrev pub IsWithin : {A : Type 0} → ℕ → Result (A × ℕ) Fault → Type 0
IsWithin size (Ok x) = x.1 ≤ size
IsWithin size (Err f) = f.place ≤ size

-- what the code gives, without where its text lies in memory
abbrev pub scan_of : Event × ℕ → Item × ℕ
scan_of x = (item_of x.0, x.1)

abbrev pub string_scan : Bor (List ℕ) × ℕ → List ℕ × ℕ
string_scan x = (x.0.now, x.1)

-- the room is still as long as what is left of so many bytes
abbrev pub Keeps : {A : Type 0} → ℕ → ℕ → ℕ → Result (A × ℕ) Fault → Type 0
Keeps size old new (Ok x) = size ≤ new + x.1
Keeps size old new (Err f) = new ≡ old

infixl 10 ◌>>=◌
abbrev pub ◌>>=◌ : {X Y : Type 0} → Scan X → (X × ℕ → Scan Y) → Scan Y
(Ok x) >>= go = go x
(Err f) >>= go = Err f

-- a word of JSON: what is wrong with it has this reason, and bytes that end inside it are truncated
abbrev pub item : {X : Type 0} → Reason → List ℕ → Text X → Scan X
item reason bytes (Whole x after) = Ok (x, after)
item reason bytes Short = fault (length bytes) reasons.Truncated
item reason bytes (Bad place) = fault place reason

-- the whitespace at the front
abbrev pub gap : List ℕ → ℕ
gap bytes = prefix_len is_white bytes

-- a scan so many bytes further on, and behind the whitespace that stands there
abbrev pub further : {X : Type 0} → ℕ → (List ℕ → Scan X) → List ℕ → Scan X
further n scan bytes = let at = n + gap (drop n bytes) in shifted at (scan (drop at bytes))

-- one byte that has to be this mark
unfoldable pub mark_at : ℕ → List ℕ → Scan (Unit {0})
mark_at mark bytes =
    if nat_lt (length bytes) 1 then fault 0 reasons.Truncated
    else if slice_index bytes 0 == mark then Ok (tt, 1)
    else fault 0 reasons.BadToken

-- this byte, if there is one
abbrev pub byte_fits : List ℕ → ℕ → ℕ → Bool
byte_fits bytes at byte = nat_le (length bytes) at || (slice_index bytes at == byte)

-- a word of so many bytes that fits as far as there are bytes
abbrev pub word_end : {X : Type 0} → List ℕ → ℕ → X → Scan X
word_end bytes size x = if nat_lt (length bytes) size then fault (length bytes) reasons.Truncated else Ok (x, size)
