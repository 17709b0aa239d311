-- The header, up to the comma behind its sequence number, and the end of a message.
use Rattle.std.specs.Prelude.{ℕ, ℤ, pos, negsuc, ◌+◌, List, [], ◌∷◌, length, drop, Ok, Err, ◌==◌, if◌then◌else◌}
use Rattle.thrift_value.specs.declared.kind.MessageType.{MessageType}
use Rattle.thrift_value.specs.declared.kind.MessageType.TheVariants as types
use Rattle.protocol_traits.specs.declared.proto.Head.{Head}
use Rattle.protocol_traits.specs.declared.fault.Reason.TheVariants as reasons
use Rattle.protocol_traits.specs.Heads.{Header, header_of}
use Rattle.protocol_traits.specs.Steps.{Step}
use Rattle.protocol_traits.specs.declared.nest.Slot.TheVariants as slots
use Rattle.json_protocol.specs.declared.opening.Opening.TheVariants as openings
use Rattle.json_protocol.specs.Scan.{Scan, fault, shifted, ◌>>=◌, gap, further, mark_at}
use Rattle.json_protocol.specs.Words.{int_in, text_in}
use Rattle.json_protocol.specs.Reading.{State, rest}

-- 1 to 4
abbrev pub type_of : ℤ → MessageType
type_of (pos n) = if n == 1 then types.Call else if n == 2 then types.Reply else if n == 3 then types.Exception else types.Oneway
type_of (negsuc n) = types.Oneway

-- up to the name's quote
unfoldable pub front_at : List ℕ → Scan (Unit {0})
front_at bytes =
    further 0 (mark_at 91) bytes >>= λ bracket.
    further bracket.1 (int_in reasons.BadVersion (pos 1) (pos 1)) bytes >>= λ version.
    further version.1 (mark_at 44) bytes >>= λ comma.
    Ok (tt, comma.1 + gap (drop comma.1 bytes))

-- behind the name, which ends there
unfoldable pub back_at : ℕ → List ℕ → Scan (MessageType × ℤ)
back_at name bytes =
    further name (mark_at 44) bytes >>= λ first.
    further first.1 (int_in reasons.BadType (pos 1) (pos 4)) bytes >>= λ kind.
    further kind.1 (mark_at 44) bytes >>= λ second.
    further second.1 (int_in reasons.BadNumber (negsuc 2147483647) (pos 2147483647)) bytes >>= λ seq.
    further seq.1 (mark_at 44) bytes >>= λ third.
    Ok ((type_of kind.0, seq.0), third.1)

-- the header, with the place of its name
unfoldable pub head_at : List ℕ → Scan (Header × ℕ)
head_at bytes =
    front_at bytes >>= λ front.
    shifted front.1 (text_in (drop front.1 bytes)) >>= λ name.
    back_at name.1 bytes >>= λ back.
    Ok ((record { name = name.0; mtype = back.0.0; seq = back.0.1 }, front.1), back.1)

abbrev pub head_scan : (Head × ℕ) × ℕ → (Header × ℕ) × ℕ
head_scan x = ((header_of x.0.0, x.0.1), x.1)

abbrev pub headed : State → Scan (Header × ℕ) → Step State Header
headed s (Ok x) = Ok (x.0.0, record { frame = s.frame; place = s.place + x.1; value = s.place + x.0.1; nest = slots.Fields (pos 0) ∷ []; opening = openings.Body })
headed s (Err f) = Err (record { place = s.place + f.place; reason = f.reason })

unfoldable pub reads_head : State → Step State Header
reads_head s = headed s (head_at (rest s))

-- the closing bracket, and only whitespace behind it
unfoldable pub end_scan : List ℕ → Scan (Unit {0})
end_scan bytes =
    further 0 (mark_at 93) bytes >>= λ bracket.
    (if bracket.1 + gap (drop bracket.1 bytes) == length bytes then Ok (tt, length bytes) else fault (bracket.1 + gap (drop bracket.1 bytes)) reasons.Trailing)

abbrev pub ended : State → Scan (Unit {0}) → Step State (Unit {0})
ended s (Ok x) = Ok (tt, s)
ended s (Err f) = Err (record { place = s.place + f.place; reason = f.reason })

unfoldable pub reads_end : State → Step State (Unit {0})
reads_end s = ended s (end_scan (rest s))
