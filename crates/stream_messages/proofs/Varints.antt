-- Runs over varints.
use Rattle.std.proofs.Common.{◌≡◌, ℕ, zero, suc, ◌+◌, ◌-◌, ◌*◌, ◌%◌, ◌<◌, ◌≤◌, ◌^◌, Bool, true, false, cond, List, [], ◌∷◌, drop, Ok, Err, refl, arith, sym, ap, ◌∙◌}
use Rattle.std.specs.Prelude.{Result, nat_lt, nat_le, min}
use Rattle.std.proofs.lemmas.Bool.Decides.{nat_tests}
use Rattle.std.proofs.lemmas.Nat.{pow-add}
use Rattle.std.proofs.Math.Nat.{mul-le-mul_left, one-le-pow}
use Rattle.varint_zigzag.specs.declared.fault.VarFault.{VarFault}
use Rattle.varint_zigzag.specs.declared.fault.VarFault.TheVariants.{Short, Bad}
use Rattle.varint_zigzag.specs.Varint.{varint_at, below}
use Rattle.protocol_traits.specs.declared.nest.Slot.{Slot}
use Rattle.protocol_traits.specs.Follow.{spent}
use Rattle.stream_messages.specs.declared.scan.Wire.{Wire}
use Rattle.stream_messages.specs.declared.parts.Next.{Next}
use Rattle.stream_messages.specs.declared.parts.Next.TheVariants as next
use Rattle.stream_messages.specs.declared.parts.Part.TheVariants as part
use Rattle.stream_messages.specs.declared.parts.CompactPart.TheVariants as compact
use Rattle.stream_messages.specs.declared.parts.CompactSized.{CompactSized}
use Rattle.stream_messages.specs.declared.parts.CompactSized.TheVariants as sizes
use Rattle.stream_messages.specs.declared.parts.CompactPassed.TheVariants as whose
use Rattle.stream_messages.specs.Compact as of
use Rattle.stream_messages.specs.Feeding.{Ran, goes, short, wrong, behind, led, run}
use Rattle.stream_messages.proofs.BinaryHead.{later}

-- seven bits are enough to tell
pub wide_same : (byte width : ℕ) → of.is_wide byte width ≡ nat_le (2 ^ width) (byte % 128)
wide_same byte width = by_test (nat_le width 7) refl
  where
    split : 7 ≤ width → 2 ^ width ≡ 2 ^ 7 * 2 ^ (width - 7)
    split h = let e : width ≡ 7 + (width - 7) = omega arith in ap (λ k. 2 ^ k) e ∙ pow-add 2 7 (width - 7)

    some : (k : ℕ) → 0 < 2 ^ k
    some zero = omega arith
    some (suc k) = let h = some k in grind arith

    by_test : (t : Bool) → nat_le width 7 ≡ t → nat_le (2 ^ min width 7) (byte % 128) ≡ nat_le (2 ^ width) (byte % 128)
    by_test true e = let m : min width 7 ≡ width = let le : width ≤ 7 = grind (arith, nat_tests) in omega arith in ap (λ k. nat_le (2 ^ k) (byte % 128)) m
    by_test false e =
        let more : 7 ≤ width = grind (arith, nat_tests) in
        let m : min width 7 ≡ 7 = omega arith in
        let p = some (width - 7) in
        let s = split more in
        let far : nat_le (2 ^ width) (byte % 128) ≡ false = grind (arith, nat_tests) in
        let near : nat_le (2 ^ 7) (byte % 128) ≡ false = grind (arith, nat_tests) in
        ap (λ k. nat_le (2 ^ k) (byte % 128)) m ∙ near ∙ sym far

module _ (wire : Wire) (nest : List Slot) where
  abbrev pub led_to : List ℕ → Next × List Slot → Ran
  led_to more x = led x.0 x.1 (run wire more)

  -- a number that isn't needed
  abbrev pub value_run : Result (ℕ × ℕ) VarFault → Ran
  value_run (Ok x) = goes (spent nest) x.1
  value_run (Err Short) = short
  value_run (Err Bad) = wrong

  value_below : (low : ℕ) (r : Result (ℕ × ℕ) VarFault) → behind (value_run r) ≡ value_run (below low r)
  value_below low (Ok x) = refl
  value_below low (Err Short) = refl
  value_below low (Err Bad) = refl

  pub passed_value : (k width : ℕ) (bytes : List ℕ) → run wire bytes (part.Compact (compact.Passed whose.Value (suc k) width)) nest ≡ value_run (varint_at (suc k) width bytes)
  unfolding of.step_of of.passed
  passed_value k width [] = refl
  passed_value zero width (b ∷ more) = rw (wide_same b width) (by_tests (nat_le (2 ^ width) (b % 128)) (nat_lt b 128))
    where
      by_tests : (x y : Bool) → led_to more (cond x (next.Bad, nest) (cond y (of.passed_end whose.Value nest) (next.Bad, nest))) ≡ value_run (cond x (Err Bad) (cond y (Ok (b, 1)) (Err Bad)))
      by_tests true y = refl
      by_tests false true = refl
      by_tests false false = refl
  passed_value (suc k) width (b ∷ more) =
      let back : suc (suc k) - 1 ≡ suc k = omega arith in
      let most : nat_le (suc (suc k)) 1 ≡ false = grind (arith, nat_tests) in
      rw (wide_same b width, back, most) (by_tests (passed_value k (width - 7) more) (nat_le (2 ^ width) (b % 128)) (nat_lt b 128))
    where
      by_tests : run wire more (part.Compact (compact.Passed whose.Value (suc k) (width - 7))) nest ≡ value_run (varint_at (suc k) (width - 7) more) → (x y : Bool)
          → led_to more (cond x (next.Bad, nest) (cond y (of.passed_end whose.Value nest) (of.goes_on (compact.Passed whose.Value (suc k) (width - 7)), nest)))
          ≡ value_run (cond x (Err Bad) (cond y (Ok (b, 1)) (below (b % 128) (varint_at (suc k) (width - 7) more))))
      by_tests again true y = refl
      by_tests again false true = refl
      by_tests again false false = ap behind again ∙ value_below (b % 128) (varint_at (suc k) (width - 7) more)

  -- the sequence number, and the length of the name behind it
  abbrev pub sequence_run : List ℕ → Result (ℕ × ℕ) VarFault → Ran
  sequence_run bytes (Ok x) = later x.1 (run wire (drop x.1 bytes) (part.Compact (compact.Number sizes.Name 32 1 0)) nest)
  sequence_run bytes (Err Short) = short
  sequence_run bytes (Err Bad) = wrong

  behind_later : (n : ℕ) (r : Ran) → behind (later n r) ≡ later (n + 1) r
  behind_later n (goes l m) = let e : m + n + 1 ≡ m + (n + 1) = omega arith in ap (λ j. goes l j) e
  behind_later n short = refl
  behind_later n wrong = refl

  one_later : (r : Ran) → behind r ≡ later 1 r
  one_later (goes l m) = refl
  one_later short = refl
  one_later wrong = refl

  sequence_below : (low b : ℕ) (more : List ℕ) (r : Result (ℕ × ℕ) VarFault) → behind (sequence_run more r) ≡ sequence_run (b ∷ more) (below low r)
  sequence_below low b more (Ok x) =
      let e : x.1 + 1 ≡ suc x.1 = omega arith in
      behind_later x.1 (run wire (drop x.1 more) (part.Compact (compact.Number sizes.Name 32 1 0)) nest)
      ∙ ap (λ j. later (x.1 + 1) (run wire (drop j (b ∷ more)) (part.Compact (compact.Number sizes.Name 32 1 0)) nest)) (sym e)
  sequence_below low b more (Err Short) = refl
  sequence_below low b more (Err Bad) = refl

  pub passed_sequence : (k width : ℕ) (bytes : List ℕ) → run wire bytes (part.Compact (compact.Passed whose.Sequence (suc k) width)) nest ≡ sequence_run bytes (varint_at (suc k) width bytes)
  unfolding of.step_of of.passed
  passed_sequence k width [] = refl
  passed_sequence zero width (b ∷ more) = rw (wide_same b width) (by_tests (nat_le (2 ^ width) (b % 128)) (nat_lt b 128))
    where
      by_tests : (x y : Bool) → led_to more (cond x (next.Bad, nest) (cond y (of.passed_end whose.Sequence nest) (next.Bad, nest))) ≡ sequence_run (b ∷ more) (cond x (Err Bad) (cond y (Ok (b, 1)) (Err Bad)))
      by_tests true y = refl
      by_tests false true = one_later (run wire more (part.Compact (compact.Number sizes.Name 32 1 0)) nest)
      by_tests false false = refl
  passed_sequence (suc k) width (b ∷ more) =
      let back : suc (suc k) - 1 ≡ suc k = omega arith in
      let most : nat_le (suc (suc k)) 1 ≡ false = grind (arith, nat_tests) in
      rw (wide_same b width, back, most) (by_tests (passed_sequence k (width - 7) more) (nat_le (2 ^ width) (b % 128)) (nat_lt b 128))
    where
      by_tests : run wire more (part.Compact (compact.Passed whose.Sequence (suc k) (width - 7))) nest ≡ sequence_run more (varint_at (suc k) (width - 7) more) → (x y : Bool)
          → led_to more (cond x (next.Bad, nest) (cond y (of.passed_end whose.Sequence nest) (of.goes_on (compact.Passed whose.Sequence (suc k) (width - 7)), nest)))
          ≡ sequence_run (b ∷ more) (cond x (Err Bad) (cond y (Ok (b, 1)) (below (b % 128) (varint_at (suc k) (width - 7) more))))
      by_tests again true y = refl
      by_tests again false true = one_later (run wire more (part.Compact (compact.Number sizes.Name 32 1 0)) nest)
      by_tests again false false = ap behind again ∙ sequence_below (b % 128) b more (varint_at (suc k) (width - 7) more)

-- ---- numbers

-- So many bytes may follow the next one, which counts so often; what stands before it makes less.
pub record Counts (k width unit sum : ℕ) : Type 0 where
  pub place : unit * 128 ^ k ≡ 268435456
  pub small : sum < unit
  pub room : unit * 2 ^ width ≤ 4294967296

sum_fits : (unit sum low power : ℕ) → sum < unit → low < power → unit * power ≤ 4294967296 → sum + unit * low < 4294967296
sum_fits unit sum low power s l r =
    let m : unit * (low + 1) ≤ unit * power = mul-le-mul_left unit (omega arith) in
    let e : unit * (low + 1) ≡ unit * low + unit = omega arith in
    omega arith

one_power : (k unit : ℕ) → unit * 128 ^ suc k ≡ unit * 128 * 128 ^ k
one_power k unit =
    let n : suc k ≡ 1 + k = omega arith in
    let p : 128 ^ suc k ≡ 128 * 128 ^ k = ap (λ j. 128 ^ j) n ∙ pow-add 128 1 k in
    ap (λ q. unit * q) p ∙ omega arith

pub unit_small : (k unit : ℕ) → unit * 128 ^ suc k ≡ 268435456 → unit * 128 ≤ 268435456
unit_small k unit e =
    let p : 1 ≤ 128 ^ k = one-le-pow k 128 (omega arith) in
    let m : unit * 128 * 1 ≤ unit * 128 * 128 ^ k = mul-le-mul_left (unit * 128) p in
    let s : unit * 128 ^ suc k ≡ unit * 128 * 128 ^ k = one_power k unit in
    omega arith

room_left : (width unit : ℕ) → unit * 128 ≤ 268435456 → unit * 2 ^ width ≤ 4294967296 → unit * 128 * 2 ^ (width - 7) ≤ 4294967296
room_left width unit s r = by_test (nat_le 7 width) refl
  where
    by_test : (t : Bool) → nat_le 7 width ≡ t → unit * 128 * 2 ^ (width - 7) ≤ 4294967296
    by_test true e =
        let more : 7 ≤ width = grind (arith, nat_tests) in
        let w : width ≡ 7 + (width - 7) = omega arith in
        let p : 2 ^ width ≡ 128 * 2 ^ (width - 7) = ap (λ k. 2 ^ k) w ∙ pow-add 2 7 (width - 7) in
        let q : unit * 2 ^ width ≡ unit * 128 * 2 ^ (width - 7) = ap (λ k. unit * k) p ∙ omega arith in
        omega arith
    by_test false e =
        let few : width < 7 = grind (arith, nat_tests) in
        let w : width - 7 ≡ 0 = omega arith in
        let p : 2 ^ (width - 7) ≡ 1 = ap (λ k. 2 ^ k) w in
        let q : unit * 128 * 2 ^ (width - 7) ≡ unit * 128 = ap (λ k. unit * 128 * k) p ∙ omega arith in
        omega arith

pub counts_on : (k width unit sum low : ℕ) → low < 128 → Counts (suc k) width unit sum → Counts k (width - 7) (unit * 128) (sum + unit * low)
counts_on k width unit sum low h c = record {
  place = sym (one_power k unit) ∙ c.place;
  small =
      let m : unit * low ≤ unit * 127 = mul-le-mul_left unit (omega arith) in
      let s = c.small in
      omega arith;
  room = room_left width unit (unit_small k unit c.place) c.room;
}

module _ (wire : Wire) (size : CompactSized) (nest : List Slot) where
  -- behind a number that was read
  abbrev pub begun_at : Next × List Slot → List ℕ → Ran
  begun_at (next.Part p, last) more = run wire more p last
  begun_at (next.Ended, last) more = goes last 0
  begun_at (next.Bad, last) more = wrong

  led_later : (x : Next × List Slot) (more : List ℕ) → led x.0 x.1 (run wire more) ≡ later 1 (begun_at x more)
  led_later (next.Part p, last) more = one_behind (run wire more p last)
    where
      one_behind : (r : Ran) → behind r ≡ later 1 r
      one_behind (goes l m) = refl
      one_behind short = refl
      one_behind wrong = refl
  led_later (next.Ended, last) more = refl
  led_later (next.Bad, last) more = refl

  -- the number of which a part was read before
  abbrev pub number_run : ℕ → ℕ → List ℕ → Result (ℕ × ℕ) VarFault → Ran
  number_run unit sum bytes (Ok x) = later x.1 (begun_at (of.numbered size (sum + unit * x.0) nest) (drop x.1 bytes))
  number_run unit sum bytes (Err Short) = short
  number_run unit sum bytes (Err Bad) = wrong

  number_below : (unit sum low b : ℕ) (more : List ℕ) (r : Result (ℕ × ℕ) VarFault) → behind (number_run (unit * 128) (sum + unit * low) more r) ≡ number_run unit sum (b ∷ more) (below low r)
  number_below unit sum low b more (Ok x) =
      let e : x.1 + 1 ≡ suc x.1 = omega arith in
      let n : sum + unit * low + unit * 128 * x.0 ≡ sum + unit * (low + 128 * x.0) = omega arith in
      farther x.1 (begun_at (of.numbered size (sum + unit * low + unit * 128 * x.0) nest) (drop x.1 more))
      ∙ ap (λ j. later (x.1 + 1) (begun_at (of.numbered size j nest) (drop x.1 more))) n
      ∙ ap (λ j. later (x.1 + 1) (begun_at (of.numbered size (sum + unit * (low + 128 * x.0)) nest) (drop j (b ∷ more)))) (sym e)
    where
      farther : (n : ℕ) (r : Ran) → behind (later n r) ≡ later (n + 1) r
      farther n (goes l m) = let e : m + n + 1 ≡ m + (n + 1) = omega arith in ap (λ j. goes l j) e
      farther n short = refl
      farther n wrong = refl
  number_below unit sum low b more (Err Short) = refl
  number_below unit sum low b more (Err Bad) = refl

  abbrev pub led_by : List ℕ → Next × List Slot → Ran
  led_by more x = led x.0 x.1 (run wire more)

  -- the last byte
  at_end : (unit sum b : ℕ) (more : List ℕ) → nat_lt b 128 ≡ true → led_by more (of.numbered size (sum + unit * (b % 128)) nest) ≡ number_run unit sum (b ∷ more) (Ok (b, 1))
  at_end unit sum b more t =
      let less : b < 128 = grind (arith, nat_tests) in
      let same : b % 128 ≡ b = omega arith in
      led_later (of.numbered size (sum + unit * (b % 128)) nest) more ∙ ap (λ j. later 1 (begun_at (of.numbered size (sum + unit * j) nest) more)) same

  pub number_law : (k width unit sum : ℕ) (bytes : List ℕ) → Counts k width unit sum → run wire bytes (part.Compact (compact.Number size width unit sum)) nest ≡ number_run unit sum bytes (varint_at (suc k) width bytes)
  unfolding of.step_of of.number_of
  number_law k width unit sum [] c = refl
  number_law zero width unit sum (b ∷ more) c = rw (wide_same b width) (by_wide (nat_le (2 ^ width) (b % 128)) refl)
    where
      by_last : (y : Bool) → nat_lt b 128 ≡ y → led_by more (cond y (of.numbered size (sum + unit * (b % 128)) nest) (next.Bad, nest)) ≡ number_run unit sum (b ∷ more) (cond y (Ok (b, 1)) (Err Bad))
      by_last true q = at_end unit sum b more q
      by_last false q = refl

      by_wide : (x : Bool) → nat_le (2 ^ width) (b % 128) ≡ x
          → led_by more (cond x (next.Bad, nest) (of.summed size width unit (sum + unit * (b % 128)) b nest)) ≡ number_run unit sum (b ∷ more) (cond x (Err Bad) (cond (nat_lt b 128) (Ok (b, 1)) (Err Bad)))
      by_wide true p = refl
      by_wide false p =
          let low : b % 128 < 2 ^ width = grind (arith, nat_tests) in
          let f : sum + unit * (b % 128) < 4294967296 = sum_fits unit sum (b % 128) (2 ^ width) c.small low c.room in
          let g : nat_lt (sum + unit * (b % 128)) 4294967296 ≡ true = grind (arith, nat_tests) in
          let u : unit ≡ 268435456 = let e = c.place in omega arith in
          let t : nat_lt 2097152 unit ≡ true = grind (arith, nat_tests) in
          rw (g, t) (by_last (nat_lt b 128) refl)
  number_law (suc k) width unit sum (b ∷ more) c =
      rw (wide_same b width) (by_wide (number_law k (width - 7) (unit * 128) (sum + unit * (b % 128)) more (counts_on k width unit sum (b % 128) (omega arith) c)) (nat_le (2 ^ width) (b % 128)) refl)
    where
      by_last : run wire more (part.Compact (compact.Number size (width - 7) (unit * 128) (sum + unit * (b % 128)))) nest ≡ number_run (unit * 128) (sum + unit * (b % 128)) more (varint_at (suc k) (width - 7) more)
          → (y : Bool) → nat_lt b 128 ≡ y
          → led_by more (cond y (of.numbered size (sum + unit * (b % 128)) nest) (of.goes_on (compact.Number size (width - 7) (unit * 128) (sum + unit * (b % 128))), nest))
          ≡ number_run unit sum (b ∷ more) (cond y (Ok (b, 1)) (below (b % 128) (varint_at (suc k) (width - 7) more)))
      by_last again true q = at_end unit sum b more q
      by_last again false q = ap behind again ∙ number_below unit sum (b % 128) b more (varint_at (suc k) (width - 7) more)

      by_wide : run wire more (part.Compact (compact.Number size (width - 7) (unit * 128) (sum + unit * (b % 128)))) nest ≡ number_run (unit * 128) (sum + unit * (b % 128)) more (varint_at (suc k) (width - 7) more)
          → (x : Bool) → nat_le (2 ^ width) (b % 128) ≡ x
          → led_by more (cond x (next.Bad, nest) (of.summed size width unit (sum + unit * (b % 128)) b nest))
          ≡ number_run unit sum (b ∷ more) (cond x (Err Bad) (cond (nat_lt b 128) (Ok (b, 1)) (below (b % 128) (varint_at (suc k) (width - 7) more))))
      by_wide again true p = refl
      by_wide again false p =
          let low : b % 128 < 2 ^ width = grind (arith, nat_tests) in
          let f : sum + unit * (b % 128) < 4294967296 = sum_fits unit sum (b % 128) (2 ^ width) c.small low c.room in
          let g : nat_lt (sum + unit * (b % 128)) 4294967296 ≡ true = grind (arith, nat_tests) in
          let u : unit * 128 ≤ 268435456 = unit_small k unit c.place in
          let t : nat_lt 2097152 unit ≡ false = grind (arith, nat_tests) in
          rw (g, t) (by_last again (nat_lt b 128) refl)

pub from_size : Counts 4 32 1 0
from_size = record { place = refl; small = omega arith; room = omega arith }

pub from_id : Counts 4 16 1 0
from_id = record { place = refl; small = omega arith; room = omega arith }
