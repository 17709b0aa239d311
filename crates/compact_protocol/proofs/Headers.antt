-- A header that the quick forms found.
use Rattle.std.proofs.Common.{◌≡◌, ℕ, ◌+◌, ◌-◌, ◌≤◌, false, List, length, take, drop, Ok, ap, ◌∙◌, arith, length-drop}
use Rattle.std.specs.Prelude.{nat_lt}
use Rattle.std.specs.Int.{w32, cast_signed}
use Rattle.std.proofs.lemmas.Bool.Decides.{nat_tests}
use Rattle.std.proofs.lemmas.List.{drop-drop}
use Rattle.thrift_value.specs.declared.kind.MessageType.{MessageType}
use Rattle.compact_protocol.specs.Scan.{type_at, front_at, varint32_at, size_at, string_at, shifted}
use Rattle.compact_protocol.specs.Forms.{Finds, Number}

-- the type and the sequence number behind it
pub front_there : (frame : List ℕ) (mtype : MessageType) (number behind : ℕ) → type_at frame ≡ Ok (mtype, 2) → Number frame 2 5 32 number behind
    → front_at frame ≡ Ok ((mtype, cast_signed w32 number), behind)
unfolding front_at varint32_at
front_there frame mtype number behind e n =
    let there : 2 + (behind - 2) ≡ behind = omega (arith, n.past) in
    rw (e, n.found) (ap (λ k. Ok ((mtype, cast_signed w32 number), k)) there)

-- a length and so many bytes
pub name_there : (frame : List ℕ) (at size begin : ℕ) → Finds frame at size_at size begin → begin + size ≤ length frame
    → shifted at (string_at (drop at frame)) ≡ Ok (take size (drop begin frame), begin + size)
unfolding string_at
name_there frame at size begin found within =
    let fits : nat_lt (length (drop at frame)) (begin - at + size) ≡ false =
    let room : begin - at + size ≤ length (drop at frame) = omega (arith, length-drop at frame, found.1) in grind (arith, nat_tests) in
    let there : at + (begin - at) ≡ begin = omega (arith, found.1) in
    let bytes : drop (begin - at) (drop at frame) ≡ drop begin frame = drop-drop (begin - at) at frame ∙ ap (λ k. drop k frame) there in
    rw (found.0, fits, bytes) (ap (λ k. Ok (take size (drop begin frame), k)) (omega (arith, there)))
