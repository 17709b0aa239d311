-- The bytes of a string, piece by piece.
use Rattle.std.proofs.Common.{◌≡◌, ℕ, ◌+◌, ◌-◌, ◌≤◌, List, ◌++◌, take, drop, flat_map, arith, sym, ◌∙◌, ap}
use Rattle.std.proofs.lemmas.Grind.{flat_map-append}
use Rattle.std.proofs.Math.Seq.{take-add}
use Rattle.message_show.specs.Texts.{byte_text}

-- the bytes to this end
pub piece_more : (bytes : List ℕ) (at end : ℕ) → at ≤ end → flat_map byte_text (take at bytes) ++ flat_map byte_text (take (end - at) (drop at bytes)) ≡ flat_map byte_text (take end bytes)
piece_more bytes at end behind =
    let whole : at + (end - at) ≡ end = omega (arith, behind) in
    sym (ap (λ n. flat_map byte_text (take n bytes)) (sym whole) ∙ (ap (flat_map byte_text) (take-add at (end - at) bytes) ∙ flat_map-append byte_text (take at bytes) (take (end - at) (drop at bytes))))
