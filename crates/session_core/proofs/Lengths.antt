-- A length put in its place, and what is within its room.
use Rattle.std.proofs.Common.{◌≡◌, ℕ, ℤ, ◌+◌, ◌-◌, ◌≤◌, nat_lt, List, [], ◌∷◌, ◌++◌, length, take, drop, refl, ◌∙◌, ap, arith, Bool, true, false, if◌then◌else◌}
use Rattle.std.proofs.lemmas.List.{length-drop}
use Rattle.std.specs.Int.{from_be_bytes, cast_signed, w32}
use Rattle.gate_io.specs.Buffer.{Buffer}
use Rattle.framed_transport.specs.Frames.{framed}
use Rattle.framed_transport.specs.Front.{Part, Whole, Large, front, behind}

-- the four bytes before a message become its length
pub closed : (bytes message : List ℕ) (at : ℕ) → at ≡ 0 → bytes ≡ 0 ∷ 0 ∷ 0 ∷ 0 ∷ message → take at bytes ++ framed (drop (at + 4) bytes) ≡ framed message
closed bytes message at e h = rw (e, h) refl

pub closed_out : (before : List ℕ) (began written whole : Buffer) (message : List ℕ) (at room : ℕ) → before ≡ [] → at ≡ length before → began ≡ record { bytes = before ++ 0 ∷ 0 ∷ 0 ∷ 0 ∷ []; room = room } → written ≡ record { bytes = began.bytes ++ message; room = began.room } → whole ≡ record { bytes = take at written.bytes ++ framed (drop (at + 4) written.bytes); room = written.room } → whole ≡ record { bytes = framed message; room = room }
closed_out before began written whole message at room none e b w c =
    let first : began.bytes ≡ 0 ∷ 0 ∷ 0 ∷ 0 ∷ [] = ap (λ (o : Buffer). o.bytes) b ∙ ap (λ (xs : List ℕ). xs ++ 0 ∷ 0 ∷ 0 ∷ 0 ∷ []) none in
    let bytes : written.bytes ≡ 0 ∷ 0 ∷ 0 ∷ 0 ∷ message = ap (λ (o : Buffer). o.bytes) w ∙ ap (λ (xs : List ℕ). xs ++ message) first in
    let kept : written.room ≡ room = ap (λ (o : Buffer). o.room) w ∙ ap (λ (o : Buffer). o.room) b in
    cc (c, closed written.bytes message at (e ∙ ap length none) bytes, kept)

-- a frame has the length of its message and four bytes
framed_length : (message : List ℕ) → length (framed message) ≡ 4 + length message
unfolding framed
framed_length message = omega arith

-- the frame has the bytes that were written
pub closed_within : (before : List ℕ) (began written whole : Buffer) (message : List ℕ) (at room : ℕ) → before ≡ [] → at ≡ length before → began ≡ record { bytes = before ++ 0 ∷ 0 ∷ 0 ∷ 0 ∷ []; room = room } → written ≡ record { bytes = began.bytes ++ message; room = began.room } → whole ≡ record { bytes = take at written.bytes ++ framed (drop (at + 4) written.bytes); room = written.room } → length written.bytes ≤ written.room → length whole.bytes ≤ whole.room
closed_within before began written whole message at room none e b w c fits =
    let closed = closed_out before began written whole message at room none e b w c in
    let first : began.bytes ≡ 0 ∷ 0 ∷ 0 ∷ 0 ∷ [] = ap (λ (o : Buffer). o.bytes) b ∙ ap (λ (xs : List ℕ). xs ++ 0 ∷ 0 ∷ 0 ∷ 0 ∷ []) none in
    let bytes : written.bytes ≡ 0 ∷ 0 ∷ 0 ∷ 0 ∷ message = ap (λ (o : Buffer). o.bytes) w ∙ ap (λ (xs : List ℕ). xs ++ message) first in
    let kept : whole.room ≡ written.room = ap (λ (o : Buffer). o.room) c in
    let long : length whole.bytes ≡ length (framed message) = ap (λ (o : Buffer). length o.bytes) closed in
    let wide : length written.bytes ≡ length (0 ∷ 0 ∷ 0 ∷ 0 ∷ message) = ap length bytes in
    omega (arith, kept, long, wide, framed_length message, fits)

behind_by : (held frame rest : List ℕ) (z : ℤ) (a b d : Bool) → length rest ≤ length held → length (behind held (if a then Part else if b then Large z else if d then Part else Whole frame rest)) ≤ length held
behind_by held frame rest z true b d fits = omega arith
behind_by held frame rest z false true d fits = omega arith
behind_by held frame rest z false false true fits = omega arith
behind_by held frame rest z false false false fits = fits

-- no more is held once a frame is let go
pub behind_within : (limit : ℕ) (held : List ℕ) → length (behind held (front limit held)) ≤ length held
unfolding front
behind_within limit held =
    let n = from_be_bytes w32 (take 4 held) in
    let less : length (drop n (drop 4 held)) ≤ length held = omega (arith, length-drop n (drop 4 held), length-drop 4 held) in
    behind_by held (take n (drop 4 held)) (drop n (drop 4 held)) (cast_signed w32 n) (nat_lt (length held) 4) (nat_lt limit n) (nat_lt (length held - 4) n) less
