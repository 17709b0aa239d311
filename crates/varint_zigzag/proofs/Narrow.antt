-- The bytes at the front of some that are the shortest of their number.
use Rattle.std.proofs.Common.{◌≡◌, ℕ, zero, suc, ◌+◌, ◌-◌, ◌*◌, ◌/◌, ◌%◌, ◌^◌, ◌<◌, ◌≤◌, Bool, true, false, nat_lt, List, [], ◌∷◌, take, drop, get_or, arith, refl, sym, ap, subst, ◌∙◌, add-one, Fits}
use Rattle.std.specs.Int.{w8}
use Rattle.std.proofs.lemmas.List.{get_or-drop}
use Rattle.std.proofs.lemmas.Bool.Decides.{nat_tests}
use Rattle.std.proofs.lemmas.Nat.{pow-add, pow_pos, shr_below}
use Rattle.std.proofs.Math.Pow.{pow_mono}
use Rattle.varint_zigzag.specs.Varint.{shortest_in, shortest}
use Rattle.varint_zigzag.specs.Bounds.{shortest_last, shortest_more}
use Rattle.varint_zigzag.specs.Places.{IsEnded, groups_of}
use Rattle.varint_zigzag.specs.Standing.{IsShortestFront, StandsShortest}
use Rattle.varint_zigzag.proofs.Fronts.{varint_of_groups}

-- a number whose last byte isn't 0 isn't 0
some_number : (before : ℕ) (bytes : List ℕ) → IsEnded (suc before) bytes → 0 < get_or bytes before 0 → 0 < groups_of (suc before) bytes
some_number zero [] e some = absurd e
some_number zero (b ∷ bytes) e some = omega arith
some_number (suc before) [] e some = absurd e
some_number (suc before) (b ∷ bytes) e some = let more = some_number before bytes e.1 some in omega (arith, more)

low_of : (b high : ℕ) → 128 ≤ b → b < 256 → (b % 128 + 128 * high) % 128 + 128 ≡ b
low_of b high more byte = omega arith

high_of : (b high : ℕ) → (b % 128 + 128 * high) / 128 ≡ high
high_of b high = omega arith

shortest_bytes : (fuel before : ℕ) (bytes : List ℕ) → before < fuel → IsEnded (suc before) bytes → ((k : ℕ) → get_or bytes k 0 < 256) → (0 < before → 0 < get_or bytes before 0)
    → take (suc before) bytes ≡ shortest_in fuel (groups_of (suc before) bytes)
shortest_bytes zero before bytes room e small last = absurd (omega arith)
shortest_bytes (suc fuel) zero [] room e small last = absurd e
shortest_bytes (suc fuel) zero (b ∷ bytes) room e small last =
    let own : b % 128 + 128 * 0 ≡ b = omega arith in
    ap (λ n. n ∷ []) (sym own) ∙ sym (shortest_last fuel (b % 128 + 128 * 0) (omega arith))
shortest_bytes (suc fuel) (suc before) [] room e small last = absurd e
shortest_bytes (suc fuel) (suc before) (b ∷ bytes) room e small last =
    let high = groups_of (suc before) bytes in
    let some = some_number before bytes e.1 (last (omega arith)) in
    let behind = shortest_bytes fuel before bytes (omega arith) e.1 (λ k. small (suc k)) (λ _. last (omega arith)) in
    let first = low_of b high e.0 (small 0) in
    let rest = ap (shortest_in fuel) (high_of b high) in
    ap (λ bs. b ∷ bs) (behind ∙ sym rest)
    ∙ ap (λ n. n ∷ shortest_in fuel ((b % 128 + 128 * high) / 128)) (sym first)
    ∙ sym (shortest_more fuel (b % 128 + 128 * high) (omega (arith, some)))

pub shortest_front : (bytes : List ℕ) (before : ℕ) → before < 8 → IsEnded (before + 1) bytes → ((k : ℕ) → Fits w8 (get_or bytes k 0)) → (0 < before → 0 < get_or bytes before 0) → IsShortestFront bytes (before + 1)
unfolding shortest
shortest_front bytes before few e small last = record {
  ended = e;
  few = omega arith;
  shortest_is = rw (add-one) (shortest_bytes 10 before bytes (omega arith) (rw add-one at e) (λ k. omega (arith, small k)) last);
}

-- where so few groups stand before the last, and it is so small, the number has so many bits
record Narrow (width before last : ℕ) : Type 0 where
  few : 7 * before ≤ width
  small : last < 2 ^ (width - 7 * before)

narrow_groups : (before width : ℕ) (bytes : List ℕ) → Narrow width before (get_or bytes before 0) → groups_of (suc before) bytes < 2 ^ width
narrow_groups zero width [] narrow = pow_pos width
narrow_groups zero width (b ∷ bytes) narrow =
    let all : width - 7 * 0 ≡ width = omega arith in
    let small : b < 2 ^ width = subst (λ k. b < 2 ^ k) all narrow.small in
    omega (arith, small)
narrow_groups (suc before) width [] narrow = pow_pos width
narrow_groups (suc before) width (b ∷ bytes) narrow =
    let less : width - 7 * suc before ≡ width - 7 - 7 * before = omega arith in
    let rest = narrow_groups before (width - 7) bytes (record { few = omega (arith, narrow.few); small = subst (λ k. get_or bytes before 0 < 2 ^ k) less narrow.small }) in
    let whole : 7 + (width - 7) ≡ width = omega (arith, narrow.few) in
    let wide : 2 ^ (7 + (width - 7)) ≡ 128 * 2 ^ (width - 7) = pow-add 2 7 (width - 7) in
    subst (λ k. b % 128 + 128 * groups_of (suc before) bytes < 2 ^ k) whole (omega (arith, rest, wide))

last_fits : (width most before last : ℕ) → most < 2 ^ width → last ≤ most / 2 ^ (7 * before) → (0 < before → 0 < last) → Narrow width before last
last_fits width most before last below within some = split (nat_lt width (7 * before)) refl
  where
    split : (t : Bool) → nat_lt width (7 * before) ≡ t → Narrow width before last
    split true e =
        let over : width < 7 * before = grind (arith, nat_tests, e) in
        let wide : 2 ^ width ≤ 2 ^ (0 + 7 * before) = pow_mono (omega (arith, over)) in
        let none : most / 2 ^ (7 * before) < 2 ^ 0 = shr_below most 0 (7 * before) (omega (arith, below, wide)) in
        let more = some (omega (arith, over)) in
        absurd (omega (arith, within, none, more))
    split false e =
        let few : 7 * before ≤ width = grind (arith, nat_tests, e) in
        let parts : width ≡ width - 7 * before + 7 * before = omega (arith, few) in
        let high = shr_below most (width - 7 * before) (7 * before) (subst (λ k. most < 2 ^ k) parts below) in
        record { few = few; small = omega (arith, within, high) }

-- so many bytes at the front make a number of so many bits
pub record IsNarrow (width : ℕ) (bytes : List ℕ) (count : ℕ) : Type 0 where
  pub few : 7 * count ≤ width + 7
  pub small : groups_of count bytes < 2 ^ width

pub narrow_at : (width most before at : ℕ) (bytes : List ℕ) → most < 2 ^ width → get_or bytes (at + before) 0 ≤ most / 2 ^ (7 * before) → (0 < before → 0 < get_or bytes (at + before) 0)
    → IsNarrow width (drop at bytes) (before + 1)
narrow_at width most before at bytes below within some =
    let narrow = last_fits width most before (get_or bytes (at + before) 0) below within some in
    let there = subst (λ last. Narrow width before last) (sym (get_or-drop at bytes before 0)) narrow in
    record { few = omega (arith, narrow.few); small = rw (add-one) (narrow_groups before width (drop at bytes) there) }

-- the shortest bytes of a number that is narrow enough
pub stands_shortest : (most width : ℕ) (bytes : List ℕ) (count : ℕ) → IsShortestFront bytes count → count ≤ most → groups_of count bytes < 2 ^ width → StandsShortest most width bytes count
stands_shortest most width bytes count front few narrow = record {
  number = groups_of count bytes;
  stands = varint_of_groups most width count bytes front.ended few narrow;
  shortest_is = front.shortest_is;
}
