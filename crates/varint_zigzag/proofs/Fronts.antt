-- The number at the front of some bytes, by the groups of seven bits up to its last byte.
use Rattle.std.proofs.Common.{◌≡◌, ℕ, zero, suc, ◌+◌, ◌-◌, ◌*◌, ◌/◌, ◌%◌, ◌^◌, ◌<◌, ◌≤◌, Bool, true, false, not, cond, nat_lt, List, [], ◌∷◌, ◌++◌, map, length, take, drop, get_or, replicate, bit_and, Ok, arith, refl, sym, ap, subst, ◌∙◌, Fits, length-take, length-drop, add-one, Some}
use Rattle.std.specs.Prelude.{Result}
use Rattle.varint_zigzag.specs.declared.fault.VarFault.{VarFault}
use Rattle.std.specs.Int.{w8, w64, from_le_bytes}
use Rattle.std.specs.List.{prefix_len}
use Rattle.std.proofs.lemmas.List.{get_or-drop, length-take-le}
use Rattle.std.proofs.lemmas.Bool.Decides.{nat_tests}
use Rattle.std.proofs.lemmas.Nat.{and_mask, and_block, mod-pow-add, pow-add, pow_pos}
use Rattle.std.proofs.lemmas.Nat.Bits.{and_high}
use Rattle.std.proofs.Math.Pow.{pow_mono}
use Rattle.std.proofs.Math.Nat.{pow-succ'}
use Rattle.std.specs.Simd.Lanes.{number_l}
use lib.Count.{count_trailing_zeros}
use Rattle.varint_zigzag.specs.Varint.{varint_at, below}
use Rattle.varint_zigzag.specs.Bounds.{at_last, at_more}
use Rattle.varint_zigzag.specs.Places.{found_at, is_last, end_mark, IsEnded, groups_of, groups_in, IsFront, AllBelow, AreGroups}
use Rattle.varint_zigzag.proofs.Groups.{high_fits}
use Rattle.varint_zigzag.proofs.Words.{lanes_and}
use Rattle.varint_zigzag.proofs.Ends.{lowest_mark}

-- ---- where the number ends

pub ended_length : (n : ℕ) (bytes : List ℕ) → IsEnded n bytes → n ≤ length bytes
ended_length zero bytes e = absurd e
ended_length (suc zero) [] e = absurd e
ended_length (suc zero) (b ∷ bytes) e = omega arith
ended_length (suc (suc n)) [] e = absurd e
ended_length (suc (suc n)) (b ∷ bytes) e = omega (arith, ended_length (suc n) bytes e.1)

ended_by_prefix : (bytes : List ℕ) → prefix_len (λ b. not (is_last b)) bytes < length bytes → IsEnded (suc (prefix_len (λ b. not (is_last b)) bytes)) bytes
ended_by_prefix [] h = absurd (omega arith)
ended_by_prefix (b ∷ bytes) h = split (ended_by_prefix bytes) (nat_lt b 128) refl h
  where
    split : (prefix_len (λ b. not (is_last b)) bytes < length bytes → IsEnded (suc (prefix_len (λ b. not (is_last b)) bytes)) bytes)
        → (t : Bool) → nat_lt b 128 ≡ t → cond (not t) (1 + prefix_len (λ b. not (is_last b)) bytes) 0 < suc (length bytes)
        → IsEnded (suc (cond (not t) (1 + prefix_len (λ b. not (is_last b)) bytes) 0)) (b ∷ bytes)
    split behind true e h = grind (arith, nat_tests, e)
    split behind false e h =
        let one : 1 + prefix_len (λ b. not (is_last b)) bytes ≡ suc (prefix_len (λ b. not (is_last b)) bytes) = omega arith in
        subst (λ n. IsEnded (suc n) (b ∷ bytes)) (sym one) (grind (arith, nat_tests, e), behind (omega arith))

-- where there is a mark, a last byte stands before the end
ends_before : (bytes : List ℕ) → 0 < number_l 256 (map end_mark bytes) → prefix_len (λ b. not (is_last b)) bytes < length bytes
ends_before [] some = absurd (omega arith)
ends_before (b ∷ bytes) some = split (ends_before bytes) (nat_lt b 128) some
  where
    split : (0 < number_l 256 (map end_mark bytes) → prefix_len (λ b. not (is_last b)) bytes < length bytes)
        → (t : Bool) → 0 < cond t 128 0 + 256 * number_l 256 (map end_mark bytes) → cond (not t) (1 + prefix_len (λ b. not (is_last b)) bytes) 0 < suc (length bytes)
    split behind true h = omega arith
    split behind false h = let more = behind (omega arith) in omega arith

ended_take : (n m : ℕ) (bytes : List ℕ) → IsEnded n (take m bytes) → IsEnded n bytes
ended_take zero m bytes e = absurd e
ended_take (suc zero) zero bytes e = absurd e
ended_take (suc zero) (suc m) [] e = absurd e
ended_take (suc zero) (suc m) (b ∷ bytes) e = e
ended_take (suc (suc n)) zero bytes e = absurd e
ended_take (suc (suc n)) (suc m) [] e = absurd e
ended_take (suc (suc n)) (suc m) (b ∷ bytes) e = (e.0, ended_take (suc n) m bytes e.1)

-- the lowest mark tells the last byte
pub record Ending (bytes : List ℕ) (before : ℕ) : Type 0 where
  pub few : before < 8
  pub ended : IsEnded (before + 1) bytes

pub ended_by_marks : (bytes : List ℕ) (ends : ℕ) → 8 ≤ length bytes → ends ≡ number_l 256 (map end_mark (take 8 bytes)) → 0 < ends → Ending bytes (count_trailing_zeros 64 ends / 8)
ended_by_marks bytes ends room is some =
    let eight = take 8 bytes in
    let long : length eight ≡ 8 = length-take-le 8 bytes room in
    let before = ends_before eight (omega (arith, is)) in
    let lowest : count_trailing_zeros 64 ends / 8 ≡ prefix_len (λ b. not (is_last b)) eight = ap (λ n. count_trailing_zeros 64 n / 8) is ∙ lowest_mark eight (omega (arith, long)) (omega (arith, is)) in
    subst (Ending bytes) (sym lowest) (record { few = omega (arith, before, long); ended = rw (add-one) (ended_take (suc (prefix_len (λ b. not (is_last b)) eight)) 8 bytes (ended_by_prefix eight before)) })

groups_take : (n m : ℕ) (bytes : List ℕ) → n ≤ m → groups_of n (take m bytes) ≡ groups_of n bytes
groups_take zero m bytes h = refl
groups_take (suc n) zero bytes h = absurd (omega arith)
groups_take (suc n) (suc m) [] h = refl
groups_take (suc n) (suc m) (b ∷ bytes) h = ap (λ k. b % 128 + 128 * k) (groups_take n m bytes (omega arith))

-- ---- the number of so many groups

pub groups_small : (n : ℕ) (bytes : List ℕ) → groups_of n bytes < 2 ^ (7 * n)
groups_small zero bytes = pow_pos 0
groups_small (suc n) [] = pow_pos (7 * suc n)
groups_small (suc n) (b ∷ bytes) =
    let more : 7 * suc n ≡ 7 + 7 * n = omega arith in
    subst (λ k. b % 128 + 128 * groups_of n bytes < 2 ^ k) (sym more)
    (let wide : 2 ^ (7 + 7 * n) ≡ 128 * 2 ^ (7 * n) = pow-add 2 7 (7 * n) in omega (arith, groups_small n bytes, wide))

high_below : (width low high : ℕ) → low < 128 → low + 128 * high < 2 ^ width → high < 2 ^ (width - 7)
high_below width low high small h = high_fits width (low + 128 * high) (low + 128) high (omega arith) (omega arith) h

pub varint_of_groups : (most width n : ℕ) (bytes : List ℕ) → IsEnded n bytes → n ≤ most → groups_of n bytes < 2 ^ width → varint_at most width bytes ≡ Ok (groups_of n bytes, n)
varint_of_groups most width zero bytes e few fits = absurd e
varint_of_groups zero width (suc n) bytes e few fits = absurd (omega arith)
varint_of_groups (suc most) width (suc zero) [] e few fits = absurd e
varint_of_groups (suc most) width (suc (suc n)) [] e few fits = absurd e
varint_of_groups (suc most) width (suc zero) (b ∷ bytes) e few fits =
    let own : b % 128 + 128 * 0 ≡ b = omega arith in
    let low : b % 128 < 2 ^ width = omega arith in
    at_last most width b bytes low e ∙ ap (λ k. Ok (k, 1)) (sym own)
varint_of_groups (suc most) width (suc (suc n)) (b ∷ bytes) e few fits =
    let low : b % 128 < 2 ^ width = omega arith in
    let rest : groups_of (suc n) bytes < 2 ^ (width - 7) = high_below width (b % 128) (groups_of (suc n) bytes) (omega arith) fits in
    at_more most width b bytes low e.0
    ∙ ap (below (b % 128)) (varint_of_groups most (width - 7) (suc n) bytes e.1 (omega arith) rest)
    ∙ ap (λ k. Ok (b % 128 + 128 * groups_of (suc n) bytes, k)) (omega arith)

-- ---- the word, masked

kept : ℕ → List ℕ → List ℕ
kept n [] = []
kept zero (b ∷ bytes) = 0 ∷ kept zero bytes
kept (suc n) (b ∷ bytes) = b ∷ kept n bytes

number_of_none : (bytes : List ℕ) → number_l 256 (kept zero bytes) ≡ 0
unfolding kept
number_of_none [] = refl
number_of_none (b ∷ bytes) = omega (arith, number_of_none bytes)

number_kept : (n : ℕ) (bytes : List ℕ) → AllBelow 256 bytes → number_l 256 bytes % 2 ^ (8 * n) ≡ number_l 256 (kept n bytes)
unfolding kept
number_kept zero [] small = refl
number_kept (suc n) [] small = omega (arith, pow_pos (8 * suc n))
number_kept zero (b ∷ bytes) small = let none = number_of_none (b ∷ bytes) in omega (arith, none)
number_kept (suc n) (b ∷ bytes) small =
    let more : 8 * suc n ≡ 8 * n + 8 = omega arith in
    let high : (b + 256 * number_l 256 bytes) / 2 ^ 8 ≡ number_l 256 bytes = omega (arith, small.0) in
    let low : (b + 256 * number_l 256 bytes) % 2 ^ 8 ≡ b = omega (arith, small.0) in
    ap (λ k. (b + 256 * number_l 256 bytes) % 2 ^ k) more ∙ mod-pow-add (b + 256 * number_l 256 bytes) (8 * n) 8
    ∙ ap (λ k. k % 2 ^ (8 * n) * 256 + (b + 256 * number_l 256 bytes) % 256) high ∙ ap (λ k. number_l 256 bytes % 2 ^ (8 * n) * 256 + k) low
    ∙ ap (λ k. k * 256 + b) (number_kept n bytes small.1) ∙ omega arith

kept_below : (n : ℕ) (bytes : List ℕ) → AllBelow 256 bytes → AllBelow 256 (kept n bytes)
unfolding kept
kept_below n [] small = tt
kept_below zero (b ∷ bytes) small = (omega arith, kept_below zero bytes small.1)
kept_below (suc n) (b ∷ bytes) small = (small.0, kept_below n bytes small.1)

length-kept : (n : ℕ) (bytes : List ℕ) → length (kept n bytes) ≡ length bytes
unfolding kept
length-kept n [] = refl
length-kept zero (b ∷ bytes) = ap suc (length-kept zero bytes)
length-kept (suc n) (b ∷ bytes) = ap suc (length-kept n bytes)

-- the seven low bits of each
pub lows : List ℕ → List ℕ
lows bytes = map (λ b. bit_and b 127) bytes

low_is : (b : ℕ) → bit_and b 127 ≡ b % 128
low_is b = and_mask b 7

lows_below : (bytes : List ℕ) → AllBelow 128 (lows bytes)
unfolding lows
lows_below [] = tt
lows_below (b ∷ bytes) = (omega (arith, low_is b), lows_below bytes)

length-lows : (bytes : List ℕ) → length (lows bytes) ≡ length bytes
unfolding lows
length-lows [] = refl
length-lows (b ∷ bytes) = ap suc (length-lows bytes)

pub lows_are_groups : (bytes : List ℕ) → length bytes ≡ 8 → AreGroups (lows bytes)
lows_are_groups bytes long = record { eight = length-lows bytes ∙ long; small = lows_below bytes }

lows_of_none : (bytes : List ℕ) → number_l 128 (lows (kept zero bytes)) ≡ 0
unfolding lows kept
lows_of_none [] = refl
lows_of_none (b ∷ bytes) = omega (arith, lows_of_none bytes)

lows_kept : (n : ℕ) (bytes : List ℕ) → number_l 128 (lows (kept n bytes)) ≡ groups_of n bytes
unfolding lows kept
lows_kept zero [] = refl
lows_kept (suc n) [] = refl
lows_kept zero (b ∷ bytes) = lows_of_none (b ∷ bytes)
lows_kept (suc n) (b ∷ bytes) = ap (λ k. k + 128 * number_l 128 (map (λ b. bit_and b 127) (kept n bytes))) (low_is b) ∙ ap (λ k. b % 128 + 128 * k) (lows_kept n bytes)

lows_all : (n : ℕ) (bytes : List ℕ) → length bytes ≡ n → number_l 128 (lows bytes) ≡ groups_of n bytes
unfolding lows
lows_all zero [] long = refl
lows_all (suc n) [] long = absurd (omega arith)
lows_all zero (b ∷ bytes) long = absurd (omega arith)
lows_all (suc n) (b ∷ bytes) long = ap (λ k. k + 128 * number_l 128 (map (λ b. bit_and b 127) bytes)) (low_is b) ∙ ap (λ k. b % 128 + 128 * k) (lows_all n bytes (omega arith))

-- eight bytes as a word
pub word_of : (bytes : List ℕ) → length bytes ≡ 8 → from_le_bytes w64 bytes ≡ number_l 256 bytes
word_of [] long = absurd (omega arith)
word_of (a ∷ []) long = absurd (omega arith)
word_of (a ∷ b ∷ []) long = absurd (omega arith)
word_of (a ∷ b ∷ c ∷ []) long = absurd (omega arith)
word_of (a ∷ b ∷ c ∷ d ∷ []) long = absurd (omega arith)
word_of (a ∷ b ∷ c ∷ d ∷ e ∷ []) long = absurd (omega arith)
word_of (a ∷ b ∷ c ∷ d ∷ e ∷ f ∷ []) long = absurd (omega arith)
word_of (a ∷ b ∷ c ∷ d ∷ e ∷ f ∷ g ∷ []) long = absurd (omega arith)
word_of (a ∷ b ∷ c ∷ d ∷ e ∷ f ∷ g ∷ h ∷ []) long = omega arith
word_of (a ∷ b ∷ c ∷ d ∷ e ∷ f ∷ g ∷ h ∷ i ∷ rest) long = absurd (omega arith)

first_below : (n : ℕ) (bytes : List ℕ) → ((k : ℕ) → Fits w8 (get_or bytes k 0)) → AllBelow 256 (take n bytes)
first_below zero bytes small = tt
first_below (suc n) [] small = tt
first_below (suc n) (b ∷ bytes) small = (omega (arith, small 0), first_below n bytes (λ k. small (suc k)))

-- what stands behind a place are bytes too
pub behind_below : (at : ℕ) (bytes : List ℕ) → ((k : ℕ) → Fits w8 (get_or bytes k 0)) → (k : ℕ) → Fits w8 (get_or (drop at bytes) k 0)
behind_below at bytes small k = rw get_or-drop (small (at + k))

-- the marks of the eight bytes that a word is made of
pub marks_at : (bytes : List ℕ) (word ends : ℕ) → 8 ≤ length bytes → ((k : ℕ) → Fits w8 (get_or bytes k 0)) → word ≡ number_l 256 (take 8 bytes)
    → ((eight : List ℕ) → length eight ≡ 8 → AllBelow 256 eight → word ≡ number_l 256 eight → ends ≡ number_l 256 (map end_mark eight))
    → ends ≡ number_l 256 (map end_mark (take 8 bytes))
marks_at bytes word ends room small is marks = marks (take 8 bytes) (length-take-le 8 bytes room) (first_below 8 bytes small) is

masked_lows : (bytes : List ℕ) → length bytes ≡ 8 → AllBelow 256 bytes → bit_and (number_l 256 bytes) 9187201950435737471 ≡ number_l 256 (lows bytes)
unfolding lows
masked_lows bytes long small =
    subst (λ n. bit_and (number_l 256 bytes) (number_l 256 (replicate n 127)) ≡ number_l 256 (map (λ b. bit_and b 127) bytes)) long (lanes_and 8 127 bytes (omega arith) small)

-- ---- the word up to the lowest mark

turned : (x y : ℕ) → x + 256 * y ≡ y * 2 ^ 8 + x
turned x y = omega arith

-- byte by byte
both : (x y m n : ℕ) → x < 256 → m < 256 → bit_and (x + 256 * y) (m + 256 * n) ≡ bit_and x m + 256 * bit_and y n
both x y m n hx hm =
    ap (λ k. bit_and k (m + 256 * n)) (turned x y) ∙ ap (bit_and (y * 2 ^ 8 + x)) (turned m n) ∙ and_block 8 y n x m hx hm ∙ sym (turned (bit_and x m) (bit_and y n))

mark_of_last : (b : ℕ) → b < 128 → end_mark b ≡ 128
mark_of_last b last = grind (arith, nat_tests, last)

mark_of_more : (b : ℕ) → 128 ≤ b → end_mark b ≡ 0
mark_of_more b more = grind (arith, nat_tests, more)

-- no byte has the bit of its mark
unmarked : (b : ℕ) → b < 256 → bit_and b (end_mark b) ≡ 0
unmarked b small = split (nat_lt b 128) refl
  where
    split : (t : Bool) → nat_lt b 128 ≡ t → bit_and b (cond t 128 0) ≡ 0
    split true e = let last : b < 128 = grind (arith, nat_tests, e) in omega (arith, and_high b 1 7)
    split false e = omega (arith, and_mask b 0)

mark_small : (b : ℕ) → end_mark b < 256
mark_small b = split (nat_lt b 128)
  where
    split : (t : Bool) → cond t 128 0 < 256
    split true = omega arith
    split false = omega arith

apart : (bytes : List ℕ) → AllBelow 256 bytes → bit_and (number_l 256 bytes) (number_l 256 (map end_mark bytes)) ≡ 0
apart [] small = refl
apart (b ∷ bytes) small =
    both b (number_l 256 bytes) (end_mark b) (number_l 256 (map end_mark bytes)) small.0 (mark_small b) ∙ omega (arith, unmarked b small.0, apart bytes small.1)

some_mark : (n : ℕ) (bytes : List ℕ) → IsEnded (suc n) bytes → 0 < number_l 256 (map end_mark bytes)
some_mark zero [] e = absurd e
some_mark zero (b ∷ bytes) e = let last = mark_of_last b e in omega (arith, last)
some_mark (suc n) [] e = absurd e
some_mark (suc n) (b ∷ bytes) e = let more = some_mark n bytes e.1 in omega (arith, more)

cut_at : (n : ℕ) (bytes : List ℕ) → AllBelow 256 bytes → IsEnded (suc n) bytes → bit_and (number_l 256 bytes) (number_l 256 (map end_mark bytes) - 1) ≡ number_l 256 bytes % 2 ^ (8 * suc n)
cut_at zero [] small e = absurd e
cut_at (suc n) [] small e = absurd e
cut_at zero (b ∷ bytes) small e =
    let rest = number_l 256 bytes in
    let marks = number_l 256 (map end_mark bytes) in
    let less : end_mark b + 256 * marks - 1 ≡ 127 + 256 * marks = omega (arith, mark_of_last b e) in
    ap (bit_and (b + 256 * rest)) less ∙ both b rest 127 marks small.0 (omega arith) ∙ omega (arith, and_mask b 7, apart bytes small.1, e)
cut_at (suc n) (b ∷ bytes) small e =
    let rest = number_l 256 bytes in
    let marks = number_l 256 (map end_mark bytes) in
    let less : end_mark b + 256 * marks - 1 ≡ 255 + 256 * (marks - 1) = omega (arith, mark_of_more b e.0, some_mark n bytes e.1) in
    let more : 8 * suc (suc n) ≡ 8 * suc n + 8 = omega arith in
    let high : (b + 256 * rest) / 2 ^ 8 ≡ rest = omega (arith, small.0) in
    let low : (b + 256 * rest) % 2 ^ 8 ≡ b = omega (arith, small.0) in
    let own : bit_and b 255 ≡ b = omega (arith, and_mask b 8, small.0) in
    let whole : (b + 256 * rest) % 2 ^ (8 * suc (suc n)) ≡ rest % 2 ^ (8 * suc n) * 2 ^ 8 + b =
    ap (λ k. (b + 256 * rest) % 2 ^ k) more ∙ mod-pow-add (b + 256 * rest) (8 * suc n) 8 ∙ ap (λ k. k % 2 ^ (8 * suc n) * 2 ^ 8 + (b + 256 * rest) % 2 ^ 8) high ∙ ap (λ k. rest % 2 ^ (8 * suc n) * 2 ^ 8 + k) low in
    ap (bit_and (b + 256 * rest)) less ∙ both b rest 255 (marks - 1) small.0 (omega arith)
    ∙ ap (λ k. k + 256 * bit_and rest (marks - 1)) own ∙ ap (λ k. b + 256 * k) (cut_at n bytes small.1 e.1) ∙ turned b (rest % 2 ^ (8 * suc n)) ∙ sym whole

ended_of_take : (n m : ℕ) (bytes : List ℕ) → n ≤ m → IsEnded n bytes → IsEnded n (take m bytes)
ended_of_take zero m bytes few e = absurd e
ended_of_take (suc n) zero bytes few e = absurd (omega arith)
ended_of_take (suc zero) (suc m) [] few e = absurd e
ended_of_take (suc zero) (suc m) (b ∷ bytes) few e = e
ended_of_take (suc (suc n)) (suc m) [] few e = absurd e
ended_of_take (suc (suc n)) (suc m) (b ∷ bytes) few e = (e.0, ended_of_take (suc n) m bytes (omega arith) e.1)

-- what the lowest mark cuts from a word is the front
pub front_at : (bytes : List ℕ) (word ends : ℕ) → 8 ≤ length bytes → ((k : ℕ) → Fits w8 (get_or bytes k 0)) → word ≡ number_l 256 (take 8 bytes) → ends ≡ number_l 256 (map end_mark (take 8 bytes))
    → 0 < ends → IsFront bytes (bit_and word (ends - 1)) (count_trailing_zeros 64 ends / 8 + 1)
front_at bytes word ends room small is marks some =
    let ending = ended_by_marks bytes ends room marks some in
    let before = count_trailing_zeros 64 ends / 8 in
    let ended : IsEnded (suc before) bytes = subst (λ n. IsEnded n bytes) (add-one before) ending.ended in
    record {
      room = room;
      ended = ending.ended;
      own_is = rw (add-one) (ap (λ k. bit_and k (ends - 1)) is ∙ ap (λ k. bit_and (number_l 256 (take 8 bytes)) (k - 1)) marks
          ∙ cut_at before (take 8 bytes) (first_below 8 bytes small) (ended_of_take (suc before) 8 bytes (omega (arith, ending.few)) ended));
      few = omega (arith, ending.few);
    }

front_kept : (bytes : List ℕ) (own n : ℕ) → ((k : ℕ) → Fits w8 (get_or bytes k 0)) → IsFront bytes own n → own ≡ number_l 256 (kept n (take 8 bytes))
front_kept bytes own n small front = front.own_is ∙ number_kept n (take 8 bytes) (first_below 8 bytes small)

-- what is gathered from it is the number
pub front_number : (bytes : List ℕ) (own n number : ℕ) → ((k : ℕ) → Fits w8 (get_or bytes k 0)) → IsFront bytes own n
    → ((groups : List ℕ) → AreGroups groups → bit_and own 9187201950435737471 ≡ number_l 256 groups → number ≡ number_l 128 groups) → number ≡ groups_of n bytes
front_number bytes own n number small front gathers =
    let eight = take 8 bytes in
    let long : length eight ≡ 8 = length-take-le 8 bytes front.room in
    let below = first_below 8 bytes small in
    let long_kept : length (kept n eight) ≡ 8 = length-kept n eight ∙ long in
    gathers (lows (kept n eight)) (lows_are_groups _ long_kept)
    (ap (λ k. bit_and k 9187201950435737471) (front_kept bytes own n small front) ∙ masked_lows (kept n eight) long_kept (kept_below n eight below))
    ∙ lows_kept n eight ∙ groups_take n 8 bytes front.few

no_groups : (k : ℕ) → groups_in k 0 ≡ 0
no_groups zero = refl
no_groups (suc k) = omega (arith, no_groups k)

groups_kept : (k n : ℕ) (bytes : List ℕ) → n ≤ k → AllBelow 256 bytes → groups_in k (number_l 256 (kept n bytes)) ≡ groups_of n bytes
unfolding kept
groups_kept k zero [] few small = no_groups k
groups_kept k (suc n) [] few small = no_groups k
groups_kept k zero (b ∷ bytes) few small = ap (groups_in k) (number_of_none (b ∷ bytes)) ∙ no_groups k
groups_kept zero (suc n) (b ∷ bytes) few small = absurd (omega arith)
groups_kept (suc k) (suc n) (b ∷ bytes) few small =
    let rest = number_l 256 (kept n bytes) in
    let low : (b + 256 * rest) % 128 ≡ b % 128 = omega arith in
    let high : (b + 256 * rest) / 256 ≡ rest = omega (arith, small.0) in
    ap (λ x. x + 128 * groups_in k ((b + 256 * rest) / 256)) low ∙ ap (λ x. b % 128 + 128 * groups_in k x) high
    ∙ ap (λ x. b % 128 + 128 * x) (groups_kept k n bytes (omega arith) small.1)

-- a small word has few bytes
few_groups : (k n : ℕ) (bytes : List ℕ) → IsEnded n bytes → number_l 256 (kept n bytes) < 128 * 256 ^ k → n ≤ suc k
unfolding kept
few_groups k zero bytes e h = absurd e
few_groups k (suc zero) bytes e h = omega arith
few_groups k (suc (suc n)) [] e h = absurd e
few_groups zero (suc (suc n)) (b ∷ bytes) e h = absurd (omega (arith, e.0))
few_groups (suc k) (suc (suc n)) (b ∷ bytes) e h =
    let wide : 256 ^ suc k ≡ 256 * 256 ^ k = pow-succ' 256 k in
    let rest : number_l 256 (kept (suc n) bytes) < 128 * 256 ^ k = omega (arith, wide) in
    omega (arith, few_groups k (suc n) bytes e.1 rest)

pub front_found : (most width k : ℕ) (bytes : List ℕ) (own n number : ℕ) → ((i : ℕ) → Fits w8 (get_or bytes i 0)) → IsFront bytes own n → own < 128 * 256 ^ k → suc k ≤ most
    → number ≡ groups_in (suc k) own → number < 2 ^ width → varint_at most width bytes ≡ Ok (number, n)
front_found most width k bytes own n number small front below room is fits =
    let eight = take 8 bytes in
    let kept_is = front_kept bytes own n small front in
    let few : n ≤ suc k = few_groups k n eight (ended_of_take n 8 bytes front.few front.ended) (omega (arith, kept_is, below)) in
    let whole : number ≡ groups_of n bytes =
    is ∙ ap (groups_in (suc k)) kept_is ∙ groups_kept (suc k) n eight few (first_below 8 bytes small) ∙ groups_take n 8 bytes front.few in
    varint_of_groups most width n bytes front.ended (omega (arith, few, room)) (omega (arith, whole, fits)) ∙ ap (λ x. Ok (x, n)) (sym whole)

pub front_found_64 : (bytes : List ℕ) (own n number : ℕ) → IsFront bytes own n → number ≡ groups_of n bytes → varint_at 10 64 bytes ≡ Ok (number, n)
front_found_64 bytes own n number front is =
    let few : 7 * n ≤ 64 = omega (arith, front.few) in
    let wide : 2 ^ (7 * n) ≤ 2 ^ 64 = pow_mono few in
    varint_of_groups 10 64 n bytes front.ended (omega (arith, front.few)) (omega (arith, groups_small n bytes, wide)) ∙ ap (λ x. Ok (x, n)) (sym is)

pub front_within : (bytes : List ℕ) (own n at : ℕ) → at ≤ length bytes → IsFront (drop at bytes) own n → at + n ≤ length bytes
front_within bytes own n at within front = omega (arith, ended_length n (drop at bytes) front.ended, length-drop at bytes)

-- ---- numbers of nine and ten bytes

-- none of these bytes is a number's last
abbrev pub AreMore : List ℕ → Type 0
AreMore [] = Unit {0}
AreMore (b ∷ bytes) = (128 ≤ b) × AreMore bytes

more_by_marks : (bytes : List ℕ) → number_l 256 (map end_mark bytes) ≡ 0 → AreMore bytes
more_by_marks [] none = tt
more_by_marks (b ∷ bytes) none = split (more_by_marks bytes) (nat_lt b 128) refl none
  where
    split : (number_l 256 (map end_mark bytes) ≡ 0 → AreMore bytes) → (t : Bool) → nat_lt b 128 ≡ t → cond t 128 0 + 256 * number_l 256 (map end_mark bytes) ≡ 0 → (128 ≤ b) × AreMore bytes
    split behind true e h = absurd (omega arith)
    split behind false e h = (grind (arith, nat_tests, e), behind (omega arith))

ended_behind : (a b c d e f g h : ℕ) (n : ℕ) (rest : List ℕ) → AreMore (a ∷ b ∷ c ∷ d ∷ e ∷ f ∷ g ∷ h ∷ []) → IsEnded (suc n) rest
    → IsEnded (suc (suc (suc (suc (suc (suc (suc (suc (suc n))))))))) (a ∷ b ∷ c ∷ d ∷ e ∷ f ∷ g ∷ h ∷ rest)
ended_behind a b c d e f g h n rest m ends = (m.0, (m.1.0, (m.1.1.0, (m.1.1.1.0, (m.1.1.1.1.0, (m.1.1.1.1.1.0, (m.1.1.1.1.1.1.0, (m.1.1.1.1.1.1.1.0, ends))))))))

-- what stands at a place: the first eight bytes, and two more
pub record Long (bytes : List ℕ) (ninth tenth : ℕ) : Type 0 where
  pub rest : List ℕ
  pub parts : bytes ≡ take 8 bytes ++ (ninth ∷ tenth ∷ rest)
  pub more : AreMore (take 8 bytes)

long_parts : (bytes : List ℕ) → 10 ≤ length bytes → bytes ≡ take 8 bytes ++ (get_or bytes 8 0 ∷ get_or bytes 9 0 ∷ drop 10 bytes)
long_parts [] long = absurd (omega arith)
long_parts (a ∷ []) long = absurd (omega arith)
long_parts (a ∷ b ∷ []) long = absurd (omega arith)
long_parts (a ∷ b ∷ c ∷ []) long = absurd (omega arith)
long_parts (a ∷ b ∷ c ∷ d ∷ []) long = absurd (omega arith)
long_parts (a ∷ b ∷ c ∷ d ∷ e ∷ []) long = absurd (omega arith)
long_parts (a ∷ b ∷ c ∷ d ∷ e ∷ f ∷ []) long = absurd (omega arith)
long_parts (a ∷ b ∷ c ∷ d ∷ e ∷ f ∷ g ∷ []) long = absurd (omega arith)
long_parts (a ∷ b ∷ c ∷ d ∷ e ∷ f ∷ g ∷ h ∷ []) long = absurd (omega arith)
long_parts (a ∷ b ∷ c ∷ d ∷ e ∷ f ∷ g ∷ h ∷ i ∷ []) long = absurd (omega arith)
long_parts (a ∷ b ∷ c ∷ d ∷ e ∷ f ∷ g ∷ h ∷ i ∷ j ∷ rest) long = refl

pub long_at : (at : ℕ) (bytes : List ℕ) → 10 ≤ length bytes - at → number_l 256 (map end_mark (take 8 (drop at bytes))) ≡ 0 → Long (drop at bytes) (get_or bytes (at + 8) 0) (get_or bytes (at + 9) 0)
long_at at bytes room none = record {
  rest = drop 10 (drop at bytes);
  parts = long_parts (drop at bytes) (omega (arith, length-drop at bytes)) ∙ rw (get_or-drop at bytes 8 0, get_or-drop at bytes 9 0) refl;
  more = more_by_marks (take 8 (drop at bytes)) none;
}

-- the number in the low bits of eight bytes, and what the two behind them add
pub low_number : (bytes : List ℕ) (word low : ℕ) → 8 ≤ length bytes → ((k : ℕ) → Fits w8 (get_or bytes k 0)) → word ≡ number_l 256 (take 8 bytes)
    → ((groups : List ℕ) → AreGroups groups → bit_and word 9187201950435737471 ≡ number_l 256 groups → low ≡ number_l 128 groups)
    → low ≡ groups_of 8 (take 8 bytes)
low_number bytes word low room small is gathers =
    let front = take 8 bytes in
    let long : length front ≡ 8 = omega (arith, length-take 8 bytes) in
    let below = first_below 8 bytes small in
    gathers (lows front) (lows_are_groups front long) (ap (λ k. bit_and k 9187201950435737471) is ∙ masked_lows front long below) ∙ lows_all 8 front long

nine_of : (front rest : List ℕ) (ninth tenth : ℕ) → length front ≡ 8 → AreMore front → ninth < 128
    → varint_at 10 64 (front ++ (ninth ∷ tenth ∷ rest)) ≡ Ok (groups_of 8 front + 72057594037927936 * ninth, 9)
nine_of [] rest ninth tenth long more last = absurd (omega arith)
nine_of (a ∷ []) rest ninth tenth long more last = absurd (omega arith)
nine_of (a ∷ b ∷ []) rest ninth tenth long more last = absurd (omega arith)
nine_of (a ∷ b ∷ c ∷ []) rest ninth tenth long more last = absurd (omega arith)
nine_of (a ∷ b ∷ c ∷ d ∷ []) rest ninth tenth long more last = absurd (omega arith)
nine_of (a ∷ b ∷ c ∷ d ∷ e ∷ []) rest ninth tenth long more last = absurd (omega arith)
nine_of (a ∷ b ∷ c ∷ d ∷ e ∷ f ∷ []) rest ninth tenth long more last = absurd (omega arith)
nine_of (a ∷ b ∷ c ∷ d ∷ e ∷ f ∷ g ∷ []) rest ninth tenth long more last = absurd (omega arith)
nine_of (a ∷ b ∷ c ∷ d ∷ e ∷ f ∷ g ∷ h ∷ i ∷ front) rest ninth tenth long more last = absurd (omega arith)
nine_of (a ∷ b ∷ c ∷ d ∷ e ∷ f ∷ g ∷ h ∷ []) rest ninth tenth long more last =
    let all = a ∷ b ∷ c ∷ d ∷ e ∷ f ∷ g ∷ h ∷ ninth ∷ tenth ∷ rest in
    let same : ninth % 128 ≡ ninth = omega arith in
    let sum : groups_of 9 all ≡ groups_of 8 (a ∷ b ∷ c ∷ d ∷ e ∷ f ∷ g ∷ h ∷ []) + 72057594037927936 * ninth = omega (arith, same) in
    let fits : groups_of 9 all < 2 ^ 64 = omega (arith, groups_small 9 all) in
    varint_of_groups 10 64 9 all (ended_behind a b c d e f g h 0 (ninth ∷ tenth ∷ rest) more last) (omega arith) fits ∙ ap (λ k. Ok (k, 9)) sum

ten_of : (front rest : List ℕ) (ninth tenth : ℕ) → length front ≡ 8 → AreMore front → 128 ≤ ninth → tenth < 2
    → varint_at 10 64 (front ++ (ninth ∷ tenth ∷ rest)) ≡ Ok (groups_of 8 front + 72057594037927936 * (ninth % 128) + 9223372036854775808 * tenth, 10)
ten_of [] rest ninth tenth long more next last = absurd (omega arith)
ten_of (a ∷ []) rest ninth tenth long more next last = absurd (omega arith)
ten_of (a ∷ b ∷ []) rest ninth tenth long more next last = absurd (omega arith)
ten_of (a ∷ b ∷ c ∷ []) rest ninth tenth long more next last = absurd (omega arith)
ten_of (a ∷ b ∷ c ∷ d ∷ []) rest ninth tenth long more next last = absurd (omega arith)
ten_of (a ∷ b ∷ c ∷ d ∷ e ∷ []) rest ninth tenth long more next last = absurd (omega arith)
ten_of (a ∷ b ∷ c ∷ d ∷ e ∷ f ∷ []) rest ninth tenth long more next last = absurd (omega arith)
ten_of (a ∷ b ∷ c ∷ d ∷ e ∷ f ∷ g ∷ []) rest ninth tenth long more next last = absurd (omega arith)
ten_of (a ∷ b ∷ c ∷ d ∷ e ∷ f ∷ g ∷ h ∷ i ∷ front) rest ninth tenth long more next last = absurd (omega arith)
ten_of (a ∷ b ∷ c ∷ d ∷ e ∷ f ∷ g ∷ h ∷ []) rest ninth tenth long more next last =
    let all = a ∷ b ∷ c ∷ d ∷ e ∷ f ∷ g ∷ h ∷ ninth ∷ tenth ∷ rest in
    let same : tenth % 128 ≡ tenth = omega arith in
    let sum : groups_of 10 all ≡ groups_of 8 (a ∷ b ∷ c ∷ d ∷ e ∷ f ∷ g ∷ h ∷ []) + 72057594037927936 * (ninth % 128) + 9223372036854775808 * tenth = omega (arith, same) in
    let nine = groups_small 9 all in
    let fits : groups_of 10 all < 2 ^ 64 = omega (arith, same, nine) in
    let ends : IsEnded 1 (tenth ∷ rest) = omega arith in
    varint_of_groups 10 64 10 all (ended_behind a b c d e f g h 1 (ninth ∷ tenth ∷ rest) more (next, ends)) (omega arith) fits ∙ ap (λ k. Ok (k, 10)) sum

pub nine_found : (bytes : List ℕ) (ninth tenth low number : ℕ) → 8 ≤ length bytes → Long bytes ninth tenth → low ≡ groups_of 8 (take 8 bytes) → ninth < 128 → number ≡ low + 72057594037927936 * ninth
    → varint_at 10 64 bytes ≡ Ok (number, 9)
nine_found bytes ninth tenth low number room long is last whole =
    ap (varint_at 10 64) long.parts ∙ nine_of (take 8 bytes) long.rest ninth tenth (omega (arith, length-take 8 bytes)) long.more last ∙ ap (λ k. Ok (k, 9)) (omega (arith, is, whole))

pub ten_found : (bytes : List ℕ) (ninth tenth low number : ℕ) → 8 ≤ length bytes → Long bytes ninth tenth → low ≡ groups_of 8 (take 8 bytes) → 128 ≤ ninth → tenth < 2
    → number ≡ low + 72057594037927936 * (ninth % 128) + 9223372036854775808 * tenth → varint_at 10 64 bytes ≡ Ok (number, 10)
ten_found bytes ninth tenth low number room long is next last whole =
    ap (varint_at 10 64) long.parts ∙ ten_of (take 8 bytes) long.rest ninth tenth (omega (arith, length-take 8 bytes)) long.more next last ∙ ap (λ k. Ok (k, 10)) (omega (arith, is, whole))

pub low_small : (bytes : List ℕ) (low : ℕ) → low ≡ groups_of 8 (take 8 bytes) → low < 72057594037927936
low_small bytes low is = omega (arith, groups_small 8 (take 8 bytes), is)

-- what is found is told with its place
pub told_at : (at : ℕ) (found : Result (ℕ × ℕ) VarFault) (number count : ℕ) → found ≡ Ok (number, count) → Some (number, at + count) ≡ found_at at found
told_at at found number count is = sym (ap (found_at at) is)
