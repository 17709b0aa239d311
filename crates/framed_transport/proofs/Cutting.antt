-- What the first four bytes say of the frame at the front.
use Rattle.std.proofs.Common.{nat_lt, if◌then◌else◌, true, false, Bool, ◌-◌, ◌≡◌, ℕ, zero, suc, ◌+◌, ◌^◌, ◌<◌, ◌≤◌, ℤ, List, [], ◌∷◌, ◌++◌, length, take, drop, get_or, Some, arith, refl, sym, ◌∙◌, ap, append_assoc, length-append}
use Rattle.std.specs.Int.{to_be_bytes, from_be_bytes, cast_signed, w32}
use Rattle.std.proofs.lemmas.Nat.{be_bytes_4, from_be_bytes-to_be_bytes_4}
use Rattle.std.proofs.lemmas.Bool.Decides.{nat_tests}
use Rattle.std.proofs.lemmas.List.{take-append-drop, take-append-le, take_at, drop_at, length-take-le, length-drop, drop-drop}
use Rattle.framed_transport.specs.Frames.{framed, IsCut}
use Rattle.framed_transport.specs.Front.{Part, Whole, Large, front, behind, whole_size, is_part}

pub record Says (frame rest bytes : List ℕ) : Type 0 where
  pub says : from_be_bytes w32 (take 4 bytes) ≡ length frame
  pub behind : drop 4 bytes ≡ frame ++ rest
  pub enough : 4 + (length frame + length rest) ≡ length bytes

-- what a frame at the front says
pub says_of : (frame rest bytes : List ℕ) → length frame < 2 ^ 32 → bytes ≡ framed frame ++ rest → Says frame rest bytes
unfolding framed
says_of frame rest bytes small e =
    rw e (record {
      says = from_be_bytes-to_be_bytes_4 (length frame) small;
      behind = refl;
      enough = omega (arith, length-append frame rest);
    })

-- the rest is what stands behind the frame's length and bytes
pub rest_is : (frame rest bytes : List ℕ) → length frame < 2 ^ 32 → bytes ≡ framed frame ++ rest → drop (length frame) (drop 4 bytes) ≡ rest
rest_is frame rest bytes small e = rw ((says_of frame rest bytes small e).behind) (drop_at frame rest (length frame) refl)

-- a byte of the first four is a byte, and there is 0 past them
small_front : (k : ℕ) (bytes : List ℕ) (i : ℕ) → ((k : ℕ) → get_or bytes k 0 < 256) → get_or (take k bytes) i 0 < 256
small_front zero bytes i small = omega arith
small_front (suc k) [] i small = omega arith
small_front (suc k) (b ∷ bytes) zero small = small 0
small_front (suc k) (b ∷ bytes) (suc i) small = small_front k bytes i (λ j. small (suc j))

-- a head, and two parts of what stands behind it
joined : (head front a b behind all : List ℕ) → head ≡ front → a ++ b ≡ behind → front ++ behind ≡ all → all ≡ head ++ a ++ b
joined head front a b behind all h t e = sym (append_assoc head a b ∙ (ap (λ xs. head ++ xs) t ∙ (ap (λ xs. xs ++ behind) h ∙ e)))

-- a whole frame stands at the front
pub split : (bytes : List ℕ) (n : ℕ) → 4 ≤ length bytes → ((i : ℕ) → get_or bytes i 0 < 256) → n ≡ from_be_bytes w32 (take 4 bytes) → 4 + n ≤ length bytes → bytes ≡ framed (take n (drop 4 bytes)) ++ drop n (drop 4 bytes)
unfolding framed
split bytes n four small is enough =
    let long : length (take n (drop 4 bytes)) ≡ n = length-take-le n (drop 4 bytes) (omega (arith, length-drop 4 bytes)) in
    let head : to_be_bytes w32 n ≡ take 4 bytes = be_bytes_4 (take 4 bytes) n (length-take-le 4 bytes four) (λ i. small_front 4 bytes i small) is in
    joined (to_be_bytes w32 (length (take n (drop 4 bytes)))) (take 4 bytes) (take n (drop 4 bytes)) (drop n (drop 4 bytes)) (drop 4 bytes) bytes (ap (to_be_bytes w32) long ∙ head) (take-append-drop n (drop 4 bytes)) (take-append-drop 4 bytes)

-- where a frame stands whole, it stands at the front
pub stands : (limit : ℕ) (bytes frame rest : List ℕ) → limit < 2 ^ 31 → length frame ≤ limit → bytes ≡ framed frame ++ rest → front limit bytes ≡ Whole frame rest
unfolding front
stands limit bytes frame rest small within e =
    let s = says_of frame rest bytes (omega arith) e in
    let four : nat_lt (length bytes) 4 ≡ false = grind (arith, nat_tests, s.enough) in
    let fits : nat_lt limit (from_be_bytes w32 (take 4 bytes)) ≡ false = grind (arith, nat_tests, s.says) in
    let enough : nat_lt (length bytes - 4) (from_be_bytes w32 (take 4 bytes)) ≡ false = grind (arith, nat_tests, s.says, s.enough) in
    rw (four, fits, enough, s.says, s.behind) (cc (take_at frame rest (length frame) refl, drop_at frame rest (length frame) refl))

-- the parts of what stands whole
pub parts : {a b c d : List ℕ} → Whole a b ≡ Whole c d → (a ≡ c) × (b ≡ d)
parts e = (cc, cc)

-- the same by each test
by_tests : (limit n : ℕ) (bytes frame rest : List ℕ) → ((i : ℕ) → get_or bytes i 0 < 256) → n ≡ from_be_bytes w32 (take 4 bytes) → (a : Bool) → nat_lt (length bytes) 4 ≡ a → (b : Bool) → nat_lt limit n ≡ b → (d : Bool) → nat_lt (length bytes - 4) n ≡ d → (if a then Part else if b then Large (cast_signed w32 n) else if d then Part else Whole (take n (drop 4 bytes)) (drop n (drop 4 bytes))) ≡ Whole frame rest → IsCut limit bytes frame rest
by_tests limit n bytes frame rest each is true p b q d r e = absurd (cc)
by_tests limit n bytes frame rest each is false p true q d r e = absurd (cc)
by_tests limit n bytes frame rest each is false p false q true r e = absurd (cc)
by_tests limit n bytes frame rest each is false p false q false r e =
    let four : 4 ≤ length bytes = grind (arith, nat_tests, p) in
    let fits : n ≤ limit = grind (arith, nat_tests, q) in
    let enough : n ≤ length bytes - 4 = grind (arith, nat_tests, r) in
    let long : length (take n (drop 4 bytes)) ≡ n = length-take-le n (drop 4 bytes) (omega (arith, length-drop 4 bytes)) in
    let whole : bytes ≡ framed (take n (drop 4 bytes)) ++ drop n (drop 4 bytes) = split bytes n four each is (omega arith) in
    let same = parts e in
    record {
      within = omega (arith, long, ap length same.0);
      whole = whole ∙ (ap (λ f. framed f ++ drop n (drop 4 bytes)) same.0 ∙ ap (λ r. framed frame ++ r) same.1);
    }

-- what stands at the front stands there whole
pub cut_of : (limit : ℕ) (bytes frame rest : List ℕ) → limit < 2 ^ 31 → ((i : ℕ) → get_or bytes i 0 < 256) → front limit bytes ≡ Whole frame rest → IsCut limit bytes frame rest
unfolding front
cut_of limit bytes frame rest small each e =
    by_tests limit (from_be_bytes w32 (take 4 bytes)) bytes frame rest each refl (nat_lt (length bytes) 4) refl (nat_lt limit (from_be_bytes w32 (take 4 bytes))) refl (nat_lt (length bytes - 4) (from_be_bytes w32 (take 4 bytes))) refl e

-- a frame within the limit and the bytes stands whole
pub whole_front : (limit n : ℕ) (bytes : List ℕ) → n ≡ from_be_bytes w32 (take 4 bytes) → 4 ≤ length bytes → n ≤ limit → n ≤ length bytes - 4 → front limit bytes ≡ Whole (take n (drop 4 bytes)) (drop n (drop 4 bytes))
unfolding front
whole_front limit n bytes is four fits enough =
    let a : nat_lt (length bytes) 4 ≡ false = grind (arith, nat_tests) in
    let b : nat_lt limit (from_be_bytes w32 (take 4 bytes)) ≡ false = grind (arith, nat_tests) in
    let d : nat_lt (length bytes - 4) (from_be_bytes w32 (take 4 bytes)) ≡ false = grind (arith, nat_tests) in
    rw (a, b, d, is) refl

-- ---- letting a frame go

pub within_held : (limit : ℕ) (bytes frame rest : List ℕ) → limit < 2 ^ 31 → IsCut limit bytes frame rest → length frame + 4 ≤ length bytes
within_held limit bytes frame rest small cut = let s = says_of frame rest bytes (omega (arith, cut.within)) cut.whole in omega (arith, s.enough)

full_by : (limit n : ℕ) (bytes : List ℕ) (z : ℤ) (frame rest : List ℕ) → length bytes ≡ limit + 4 → (a : Bool) → nat_lt (length bytes) 4 ≡ a → (b : Bool) → nat_lt limit n ≡ b → (d : Bool) → nat_lt (length bytes - 4) n ≡ d → is_part (if a then Part else if b then Large z else if d then Part else Whole frame rest) ≡ false
full_by limit n bytes z frame rest full true p b q d r = (let few : length bytes < 4 = grind (arith, nat_tests, p) in absurd (omega (arith, full, few)))
full_by limit n bytes z frame rest full false p true q d r = refl
full_by limit n bytes z frame rest full false p false q true r = (let few : length bytes - 4 < n = grind (arith, nat_tests, r) in let fits : n ≤ limit = grind (arith, nat_tests, q) in absurd (omega (arith, full, few, fits)))
full_by limit n bytes z frame rest full false p false q false r = refl

pub full_front : (limit : ℕ) (bytes : List ℕ) → length bytes ≡ limit + 4 → is_part (front limit bytes) ≡ false
unfolding front
full_front limit bytes full = full_by limit (from_be_bytes w32 (take 4 bytes)) bytes _ _ _ full (nat_lt (length bytes) 4) refl (nat_lt limit (from_be_bytes w32 (take 4 bytes))) refl (nat_lt (length bytes - 4) (from_be_bytes w32 (take 4 bytes))) refl

-- so much less is held
pub record Gone (limit size : ℕ) (bytes left : List ℕ) : Type 0 where
  pub within : size ≤ limit
  pub inside : size + 4 ≤ length bytes
  pub left_is : drop (size + 4) bytes ≡ left

gone_by : (limit n size : ℕ) (bytes : List ℕ) (z : ℤ) → (a : Bool) → nat_lt (length bytes) 4 ≡ a → (b : Bool) → nat_lt limit n ≡ b → (d : Bool) → nat_lt (length bytes - 4) n ≡ d → whole_size (if a then Part else if b then Large z else if d then Part else Whole (take n (drop 4 bytes)) (drop n (drop 4 bytes))) ≡ Some size → Gone limit size bytes (behind bytes (if a then Part else if b then Large z else if d then Part else Whole (take n (drop 4 bytes)) (drop n (drop 4 bytes))))
gone_by limit n size bytes z true p b q d r e = absurd (cc)
gone_by limit n size bytes z false p true q d r e = absurd (cc)
gone_by limit n size bytes z false p false q true r e = absurd (cc)
gone_by limit n size bytes z false p false q false r e =
    let four : 4 ≤ length bytes = grind (arith, nat_tests, p) in
    let fits : n ≤ limit = grind (arith, nat_tests, q) in
    let enough : n ≤ length bytes - 4 = grind (arith, nat_tests, r) in
    let long : length (take n (drop 4 bytes)) ≡ n = length-take-le n (drop 4 bytes) (omega (arith, length-drop 4 bytes)) in
    let is : n ≡ size = (let same : length (take n (drop 4 bytes)) ≡ size = cc in sym long ∙ same) in
    record {
      within = omega (arith, is);
      inside = omega (arith, is);
      left_is = ap (λ k. drop k bytes) (omega (arith, is)) ∙ sym (drop-drop n 4 bytes);
    }

-- what is left where a whole frame of this size is let go
pub whole_gone : (limit size : ℕ) (bytes : List ℕ) → whole_size (front limit bytes) ≡ Some size → Gone limit size bytes (behind bytes (front limit bytes))
unfolding front
whole_gone limit size bytes e =
    gone_by limit (from_be_bytes w32 (take 4 bytes)) size bytes (cast_signed w32 (from_be_bytes w32 (take 4 bytes))) (nat_lt (length bytes) 4) refl (nat_lt limit (from_be_bytes w32 (take 4 bytes))) refl (nat_lt (length bytes - 4) (from_be_bytes w32 (take 4 bytes))) refl e

-- what stands behind the frame at the front
pub rest_after : (limit : ℕ) (bytes frame rest : List ℕ) → limit < 2 ^ 31 → IsCut limit bytes frame rest → drop (length frame + 4) bytes ≡ rest
rest_after limit bytes frame rest small cut =
    let at : length frame + 4 ≡ 4 + length frame = omega arith in
    ap (λ k. drop k bytes) at ∙ (sym (drop-drop (length frame) 4 bytes) ∙ rest_is frame rest bytes (omega (arith, cut.within)) cut.whole)

by_length : (limit : ℕ) (held : List ℕ) → length held ≤ limit + 4 → front limit held ≡ Part → (b : Bool) → nat_lt (length held) (limit + 4) ≡ b → length held < limit + 4
by_length limit held within part true e = grind (arith, nat_tests, e)
by_length limit held within part false e =
    let full : length held ≡ limit + 4 = (let more : limit + 4 ≤ length held = grind (arith, nat_tests, e) in omega (arith, more, within)) in
    let wrong : true ≡ false = sym (ap is_part part) ∙ full_front limit held full in
    absurd (cc)

-- where less than a frame stands, there is room for more
pub part_leaves_room : (limit : ℕ) (held : List ℕ) → length held ≤ limit + 4 → front limit held ≡ Part → length held < limit + 4
part_leaves_room limit held within part =
    by_length limit held within part (nat_lt (length held) (limit + 4)) refl

-- ---- more comes behind

large_by : (limit n : ℕ) (bytes frame rest : List ℕ) (w z : ℤ) → (a : Bool) → nat_lt (length bytes) 4 ≡ a → (b : Bool) → nat_lt limit n ≡ b → (d : Bool) → nat_lt (length bytes - 4) n ≡ d → (if a then Part else if b then Large w else if d then Part else Whole frame rest) ≡ Large z → (4 ≤ length bytes) × (limit < n) × (w ≡ z)
large_by limit n bytes frame rest w z true p b q d r e = absurd (cc)
large_by limit n bytes frame rest w z false p true q d r e = (grind (arith, nat_tests, p), grind (arith, nat_tests, q), cc)
large_by limit n bytes frame rest w z false p false q true r e = absurd (cc)
large_by limit n bytes frame rest w z false p false q false r e = absurd (cc)

-- a length that is too large stays so
pub large_stays : (limit : ℕ) (bytes more : List ℕ) (z : ℤ) → front limit bytes ≡ Large z → front limit (bytes ++ more) ≡ Large z
unfolding front
large_stays limit bytes more z e =
    let parts = large_by limit (from_be_bytes w32 (take 4 bytes)) bytes _ _ _ z (nat_lt (length bytes) 4) refl (nat_lt limit (from_be_bytes w32 (take 4 bytes))) refl (nat_lt (length bytes - 4) (from_be_bytes w32 (take 4 bytes))) refl e in
    let four : nat_lt (length (bytes ++ more)) 4 ≡ false = (let long : 4 ≤ length bytes = parts.0 in grind (arith, nat_tests, length-append bytes more, long)) in
    let large : nat_lt limit (from_be_bytes w32 (take 4 bytes)) ≡ true = (let above : limit < from_be_bytes w32 (take 4 bytes) = parts.1 in grind (arith, nat_tests, above)) in
    rw (four, take-append-le 4 bytes more parts.0, large) (ap (λ (n : ℤ). Large n) parts.2)

-- a whole frame stays, with more behind it
pub whole_stays : (limit : ℕ) (bytes frame rest more : List ℕ) → limit < 2 ^ 31 → IsCut limit bytes frame rest → front limit (bytes ++ more) ≡ Whole frame (rest ++ more)
whole_stays limit bytes frame rest more small cut =
    stands limit (bytes ++ more) frame (rest ++ more) small cut.within (ap (λ t. t ++ more) cut.whole ∙ append_assoc (framed frame) rest more)
