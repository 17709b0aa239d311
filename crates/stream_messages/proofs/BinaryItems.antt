-- The items of the Binary protocol, byte by byte.
use Rattle.std.proofs.Common.{◌≡◌, ℕ, zero, suc, ◌+◌, ◌≤◌, Bool, true, false, cond, List, [], ◌∷◌, length, take, drop, Ok, Err, refl, arith, sym, ap, ◌∙◌, length-drop}
use Rattle.std.specs.Prelude.{Option, Some, None, nat_lt, nat_le, ◌==◌, ◌&&◌}
use Rattle.std.proofs.lemmas.Bool.Decides.{nat_tests}
use Rattle.gate_base.specs.Bytes.{AreBytes}
use Rattle.thrift_value.specs.declared.kind.Kind.{Kind}
use Rattle.thrift_value.specs.declared.kind.Kind.TheVariants as kinds
use Rattle.thrift_value.specs.Items.{Item, stop, bool_value, text, empty_map, map_begin, set_begin, list_begin}
use Rattle.protocol_traits.specs.declared.fault.Fault.{Fault}
use Rattle.protocol_traits.specs.declared.fault.Reason.TheVariants as reasons
use Rattle.protocol_traits.specs.declared.nest.Slot.{Slot}
use Rattle.protocol_traits.specs.declared.nest.Slot.TheVariants as slots
use Rattle.protocol_traits.specs.Follow.{after, spent}
use Rattle.protocol_traits.specs.Stack.{rest_of}
use Rattle.binary_protocol.specs.Codes.{kind_of_code}
use Rattle.binary_protocol.specs.Scan.{Scan, cut, fault, shifted, ◌>>=◌, field_at, field_of, bool_at, i8_at, i16_at, i32_at, i64_at, double_at, uuid_at, size_at, zero_at, string_at, string_of, text_at, elements_at, elements_of, set_at, list_at, map_at, map_of, map_item, value_at}
use Rattle.stream_messages.specs.declared.scan.Wire.{Wire}
use Rattle.stream_messages.specs.declared.parts.Next.{Next}
use Rattle.stream_messages.specs.declared.parts.Next.TheVariants as next
use Rattle.stream_messages.specs.declared.parts.Part.TheVariants as part
use Rattle.stream_messages.specs.declared.parts.BinaryPart.TheVariants as binary
use Rattle.stream_messages.specs.declared.parts.BinarySized.{BinarySized}
use Rattle.stream_messages.specs.declared.parts.BinarySized.TheVariants as sizes
use Rattle.stream_messages.specs.Levels.{opens, nests}
use Rattle.stream_messages.specs.Binary as of
use Rattle.stream_messages.specs.Feeding.{Ran, goes, short, wrong, behind, led, run}
use Rattle.stream_messages.proofs.Seen.{faulty, seen, is_cut}
use Rattle.stream_messages.proofs.Runs.{any_law, ran_any, size_law, size_run, sized_run, first_size}

-- ---- what a size takes

both_faults : {X : Type 0} → (b : Bool) (f g : Fault) (x : X) → cond b (Err f) (Err g) ≡ Ok x → ⊥
both_faults {X} true f g x e = absurd (cc)
both_faults {X} false f g x e = absurd (cc)

pub four : (bytes : List ℕ) (x : ℕ × ℕ) → size_at bytes ≡ Ok x → (4 ≤ length bytes) × (x.1 ≡ 4)
unfolding size_at
four [] x e = absurd (cc)
four (a ∷ []) x e = absurd (both_faults (nat_le 128 a) _ _ x e)
four (a ∷ b ∷ []) x e = absurd (both_faults (nat_le 128 a) _ _ x e)
four (a ∷ b ∷ c ∷ []) x e = absurd (both_faults (nat_le 128 a) _ _ x e)
four (a ∷ b ∷ c ∷ d ∷ more) x e =
    let long : nat_lt (length (a ∷ b ∷ c ∷ d ∷ more)) 4 ≡ false = grind (arith, nat_tests) in
    (omega arith, by_test _ _ (rw long at e))
  where
    by_test : (b : Bool) (n : ℕ) → cond b (Ok (n, 4)) (fault {X = ℕ} 0 reasons.BadSize) ≡ Ok x → x.1 ≡ 4
    by_test true n e = cc
    by_test false n e = absurd (cc)

behind_faulty : (f : Fault) (place : ℕ) → faulty (record { place = place; reason = f.reason }) ≡ behind (faulty f)
behind_faulty f place = by_test (is_cut f.reason)
  where
    by_test : (b : Bool) → cond b short wrong ≡ behind (cond b short wrong)
    by_test true = refl
    by_test false = refl

module _ (wire : Wire) (slot : Slot) (up : List Slot) where
  -- the first byte of a value, and what follows it
  abbrev pub first_value : Kind → List ℕ → Ran
  first_value kind [] = short
  first_value kind (b ∷ more) = led (of.value_of kind b (slot ∷ up)).0 (of.value_of kind b (slot ∷ up)).1 (run wire more)

  -- what a byte leads to
  abbrev pub led_to : List ℕ → Next × List Slot → Ran
  led_to more x = led x.0 x.1 (run wire more)

  -- two bytes or more, whatever they are
  wide_law : (k b : ℕ) (more : List ℕ) (item : Item) → after item (slot ∷ up) ≡ spent (slot ∷ up)
      → seen (slot ∷ up) (cond (nat_lt (length (b ∷ more)) (suc (suc k))) (cut (b ∷ more)) (Ok (item, suc (suc k)))) ≡ behind (run wire more (part.Any (suc k)) (spent (slot ∷ up)))
  wide_law k b more item e = by_test (nat_lt (length more) (suc k)) refl ∙ ap behind (sym (any_law wire k more (spent (slot ∷ up))))
    where
      by_test : (t : Bool) → nat_lt (length more) (suc k) ≡ t
          → seen (slot ∷ up) (cond (nat_lt (length (b ∷ more)) (suc (suc k))) (cut (b ∷ more)) (Ok (item, suc (suc k)))) ≡ behind (ran_any (suc k) more (spent (slot ∷ up)))
      by_test true t = let s : nat_lt (suc (length more)) (suc (suc k)) ≡ true = grind (arith, nat_tests) in rw (s, t) refl
      by_test false t =
          let s : nat_lt (suc (length more)) (suc (suc k)) ≡ false = grind (arith, nat_tests) in
          let n : suc k + 1 ≡ suc (suc k) = omega arith in
          rw (s, t, n) (ap (λ l. goes l (suc (suc k))) e)

  one_there : (b : ℕ) (more : List ℕ) → nat_lt (length (b ∷ more)) 1 ≡ false
  one_there b more = grind (arith, nat_tests)

  i8_law : (bytes : List ℕ) → seen (slot ∷ up) (i8_at bytes) ≡ first_value kinds.I8 bytes
  unfolding i8_at of.value_of
  i8_law [] = refl
  i8_law (b ∷ more) = rw (one_there b more) refl

  i16_law : (bytes : List ℕ) → seen (slot ∷ up) (i16_at bytes) ≡ first_value kinds.I16 bytes
  unfolding i16_at of.value_of
  i16_law [] = refl
  i16_law (b ∷ more) = wide_law 0 b more _ refl

  i32_law : (bytes : List ℕ) → seen (slot ∷ up) (i32_at bytes) ≡ first_value kinds.I32 bytes
  unfolding i32_at of.value_of
  i32_law [] = refl
  i32_law (b ∷ more) = wide_law 2 b more _ refl

  i64_law : (bytes : List ℕ) → seen (slot ∷ up) (i64_at bytes) ≡ first_value kinds.I64 bytes
  unfolding i64_at of.value_of
  i64_law [] = refl
  i64_law (b ∷ more) = wide_law 6 b more _ refl

  double_law : (bytes : List ℕ) → seen (slot ∷ up) (double_at bytes) ≡ first_value kinds.Double bytes
  unfolding double_at of.value_of
  double_law [] = refl
  double_law (b ∷ more) = wide_law 6 b more _ refl

  uuid_law : (bytes : List ℕ) → seen (slot ∷ up) (uuid_at bytes) ≡ first_value kinds.Uuid bytes
  unfolding uuid_at of.value_of
  uuid_law [] = refl
  uuid_law (b ∷ more) = wide_law 14 b more _ refl

  bool_law : (bytes : List ℕ) → seen (slot ∷ up) (bool_at bytes) ≡ first_value kinds.Bool bytes
  unfolding bool_at of.value_of
  bool_law [] = refl
  bool_law (b ∷ more) = rw (one_there b more) (by_tests (b == 0) (b == 1) (nat_lt 1 b) refl refl refl)
    where
      by_tests : (x y z : Bool) → (b == 0) ≡ x → (b == 1) ≡ y → nat_lt 1 b ≡ z
          → seen (slot ∷ up) (cond x (Ok (bool_value false, 1)) (cond y (Ok (bool_value true, 1)) (fault 0 reasons.BadBool)))
          ≡ led (cond z (next.Bad, slot ∷ up) (of.wide 1 (slot ∷ up))).0 (cond z (next.Bad, slot ∷ up) (of.wide 1 (slot ∷ up))).1 (run wire more)
      by_tests true y true p q r = absurd (grind (arith, nat_tests))
      by_tests true y false p q r = refl
      by_tests false true true p q r = absurd (grind (arith, nat_tests))
      by_tests false true false p q r = refl
      by_tests false false true p q r = refl
      by_tests false false false p q r = absurd (grind (arith, nat_tests))

  -- ---- strings

  text_of : (bytes : List ℕ) (s : Scan ℕ) → ((x : ℕ × ℕ) → s ≡ Ok x → 4 ≤ length bytes)
      → seen (slot ∷ up) (string_of bytes s >>= λ x. Ok (text x.0, x.1)) ≡ size_run wire sizes.Text (slot ∷ up) bytes s
  unfolding of.sized
  text_of bytes (Err f) h = refl
  text_of bytes (Ok (zero, t)) h =
      let long : 4 ≤ length bytes = h (zero, t) refl in
      let s : nat_lt (length bytes) (0 + 4) ≡ false = grind (arith, nat_tests) in
      rw s refl
  text_of bytes (Ok (suc k, t)) h =
      let long : 4 ≤ length bytes = h (suc k, t) refl in
      let some : (suc k == 0) ≡ false = grind (arith, nat_tests) in
      rw some (by_test long (nat_lt (length bytes) (suc k + 4)) refl ∙ ap (λ r. behind (behind (behind (behind r)))) (sym (any_law wire k (drop 4 bytes) (spent (slot ∷ up)))))
    where
      by_test : 4 ≤ length bytes → (t : Bool) → nat_lt (length bytes) (suc k + 4) ≡ t
          → seen (slot ∷ up) (cond t (cut bytes) (Ok (take (suc k) (drop 4 bytes), suc k + 4)) >>= λ x. Ok (text x.0, x.1)) ≡ behind (behind (behind (behind (ran_any (suc k) (drop 4 bytes) (spent (slot ∷ up))))))
      by_test long true e = let s : nat_lt (length (drop 4 bytes)) (suc k) ≡ true = let l = length-drop 4 bytes in grind (arith, nat_tests) in rw s refl
      by_test long false e =
          let s : nat_lt (length (drop 4 bytes)) (suc k) ≡ false = let l = length-drop 4 bytes in grind (arith, nat_tests) in
          let n : suc k + 1 + 1 + 1 + 1 ≡ suc k + 4 = omega arith in
          rw (s, n) refl

  text_law : (bytes : List ℕ) → AreBytes bytes → seen (slot ∷ up) (text_at bytes) ≡ first_value kinds.Str bytes
  unfolding text_at string_at of.value_of
  text_law bytes are = text_of bytes (size_at bytes) (λ x e. (four bytes x e).0) ∙ size_law wire sizes.Text (slot ∷ up) bytes are ∙ same bytes
    where
      same : (bytes : List ℕ) → first_size wire sizes.Text (slot ∷ up) bytes ≡ first_value kinds.Str bytes
      same [] = refl
      same (b ∷ more) = refl

  -- ---- sets and lists

  pub size_behind : (size : BinarySized) (more : List ℕ) → AreBytes more
      → run wire more (part.Binary (binary.Size size 4 0)) (slot ∷ up) ≡ size_run wire size (slot ∷ up) more (size_at more)
  unfolding of.step_of
  size_behind size more are = same more ∙ sym (size_law wire size (slot ∷ up) more are)
    where
      same : (more : List ℕ) → run wire more (part.Binary (binary.Size size 4 0)) (slot ∷ up) ≡ first_size wire size (slot ∷ up) more
      same [] = refl
      same (b ∷ more) = refl

  -- a level is opened
  opened_run : (size : BinarySized) (n : ℕ) (level : Slot) (more : List ℕ) → nat_le 256 (length (slot ∷ up)) ≡ false → of.sized size n (slot ∷ up) ≡ opens level (slot ∷ up)
      → sized_run wire size n (slot ∷ up) more ≡ goes (level ∷ spent (slot ∷ up)) 1
  opened_run size n level more shallow e = rw (e, shallow) refl

  set_law : nat_le 256 (length (slot ∷ up)) ≡ false → (bytes : List ℕ) → AreBytes bytes → seen (slot ∷ up) (set_at bytes) ≡ first_value kinds.Set bytes
  unfolding set_at elements_at of.value_of of.sized
  set_law shallow [] are = refl
  set_law shallow (b ∷ more) are = rw (one_there b more) (by_kind (kind_of_code b))
    where
      by_size : (kind : Kind) (s : Scan ℕ) → size_at more ≡ s → seen (slot ∷ up) (elements_of (Some kind) s >>= λ x. Ok (set_begin x.0.0 x.0.1, x.1)) ≡ behind (size_run wire (sizes.Set kind) (slot ∷ up) more s)
      by_size kind (Err f) e = behind_faulty f (1 + f.place)
      by_size kind (Ok x) e =
          let n : 1 + x.1 ≡ 5 = omega (arith, (four more x e).1) in
          rw (n, shallow) refl

      by_kind : (k : Option Kind) → seen (slot ∷ up) (elements_of k (size_at more) >>= λ x. Ok (set_begin x.0.0 x.0.1, x.1)) ≡ led (of.sized_behind (λ kind. sizes.Set kind) k) (slot ∷ up) (run wire more)
      by_kind None = refl
      by_kind (Some kind) = by_size kind (size_at more) refl ∙ ap behind (sym (size_behind (sizes.Set kind) more are.1))

  list_law : nat_le 256 (length (slot ∷ up)) ≡ false → (bytes : List ℕ) → AreBytes bytes → seen (slot ∷ up) (list_at bytes) ≡ first_value kinds.List bytes
  unfolding list_at elements_at of.value_of of.sized
  list_law shallow [] are = refl
  list_law shallow (b ∷ more) are = rw (one_there b more) (by_kind (kind_of_code b))
    where
      by_size : (kind : Kind) (s : Scan ℕ) → size_at more ≡ s → seen (slot ∷ up) (elements_of (Some kind) s >>= λ x. Ok (list_begin x.0.0 x.0.1, x.1)) ≡ behind (size_run wire (sizes.List kind) (slot ∷ up) more s)
      by_size kind (Err f) e = behind_faulty f (1 + f.place)
      by_size kind (Ok x) e =
          let n : 1 + x.1 ≡ 5 = omega (arith, (four more x e).1) in
          rw (n, shallow) refl

      by_kind : (k : Option Kind) → seen (slot ∷ up) (elements_of k (size_at more) >>= λ x. Ok (list_begin x.0.0 x.0.1, x.1)) ≡ led (of.sized_behind (λ kind. sizes.List kind) k) (slot ∷ up) (run wire more)
      by_kind None = refl
      by_kind (Some kind) = by_size kind (size_at more) refl ∙ ap behind (sym (size_behind (sizes.List kind) more are.1))

  -- ---- fields

  abbrev pub first_field : List ℕ → Ran
  first_field [] = short
  first_field (b ∷ more) = led (of.field_of b (slot ∷ up)).0 (of.field_of b (slot ∷ up)).1 (run wire more)

  pub field_law : (bytes : List ℕ) → seen (slot ∷ up) (field_at bytes) ≡ first_field bytes
  unfolding field_at of.field_of of.step_of of.id_end
  field_law [] = refl
  field_law (b ∷ more) = rw (one_there b more) (by_zero (b == 0))
    where
      by_more : (kind : Kind) (more : List ℕ) → seen (slot ∷ up) (field_of (Some kind) (b ∷ more)) ≡ behind (run wire more (part.Binary (binary.Id kind)) (slot ∷ up))
      by_more kind [] = refl
      by_more kind (c ∷ []) = refl
      by_more kind (c ∷ d ∷ rest) = let s : nat_lt (suc (suc (suc (length rest)))) 3 ≡ false = grind (arith, nat_tests) in rw s refl

      by_kind : (k : Option Kind) → seen (slot ∷ up) (field_of k (b ∷ more)) ≡ led (of.field_kind k) (slot ∷ up) (run wire more)
      by_kind None = refl
      by_kind (Some kind) = by_more kind more

      by_zero : (z : Bool) → seen (slot ∷ up) (cond z (Ok (stop, 1)) (field_of (kind_of_code b) (b ∷ more)))
          ≡ led_to more (cond z (next.Ended, rest_of (slot ∷ up)) (of.field_kind (kind_of_code b), slot ∷ up))
      by_zero true = refl
      by_zero false = by_kind (kind_of_code b)

  -- ---- maps

  -- a size that has to be 0
  abbrev pub zero_run : Scan ℕ → Ran
  zero_run (Ok x) = goes (spent (slot ∷ up)) x.1
  zero_run (Err f) = faulty f

  zero_law : (bytes : List ℕ) → zero_run (zero_at bytes) ≡ run wire bytes (part.Binary (binary.NoPairs 4)) (slot ∷ up)
  unfolding zero_at of.step_of of.no_pairs
  zero_law [] = refl
  zero_law (a ∷ []) = by_tests (a == 0)
    where
      by_tests : (x : Bool) → zero_run (cond ((x && true) && (true && true)) (cut (a ∷ [])) (fault 0 reasons.BadSize)) ≡ led_to [] (cond x (next.Part (part.Binary (binary.NoPairs 3)), slot ∷ up) (next.Bad, slot ∷ up))
      by_tests true = refl
      by_tests false = refl
  zero_law (a ∷ b ∷ []) = by_tests (a == 0) (b == 0) refl refl
    where
      by_tests : (x y : Bool) → (a == 0) ≡ x → (b == 0) ≡ y → zero_run (zero_at (a ∷ b ∷ [])) ≡ run wire (a ∷ b ∷ []) (part.Binary (binary.NoPairs 4)) (slot ∷ up)
      by_tests false y p q = rw p refl
      by_tests true false p q = rw (p, q) refl
      by_tests true true p q = rw (p, q) refl
  zero_law (a ∷ b ∷ c ∷ []) = by_tests (a == 0) (b == 0) (c == 0) refl refl refl
    where
      by_tests : (x y z : Bool) → (a == 0) ≡ x → (b == 0) ≡ y → (c == 0) ≡ z → zero_run (zero_at (a ∷ b ∷ c ∷ [])) ≡ run wire (a ∷ b ∷ c ∷ []) (part.Binary (binary.NoPairs 4)) (slot ∷ up)
      by_tests false y z p q r = rw p refl
      by_tests true false z p q r = rw (p, q) refl
      by_tests true true false p q r = rw (p, q, r) refl
      by_tests true true true p q r = rw (p, q, r) refl
  zero_law (a ∷ b ∷ c ∷ d ∷ more) =
      by_tests (grind (arith, nat_tests)) (grind (arith, nat_tests)) (grind (arith, nat_tests)) (grind (arith, nat_tests)) (grind (arith, nat_tests)) (a == 0) (b == 0) (c == 0) (d == 0) refl refl refl refl
    where
      size : ℕ
      size = suc (suc (suc (suc (length more))))

      by_tests : nat_le (suc (suc (suc (suc (length more))))) 0 ≡ false → nat_le (suc (suc (suc (suc (length more))))) 1 ≡ false → nat_le (suc (suc (suc (suc (length more))))) 2 ≡ false
          → nat_le (suc (suc (suc (suc (length more))))) 3 ≡ false → nat_lt (suc (suc (suc (suc (length more))))) 4 ≡ false
          → (x y z w : Bool) → (a == 0) ≡ x → (b == 0) ≡ y → (c == 0) ≡ z → (d == 0) ≡ w
          → zero_run (zero_at (a ∷ b ∷ c ∷ d ∷ more)) ≡ run wire (a ∷ b ∷ c ∷ d ∷ more) (part.Binary (binary.NoPairs 4)) (slot ∷ up)
      by_tests e f g h l false y z w p q r s = rw (e, f, g, h, p) refl
      by_tests e f g h l true false z w p q r s = rw (e, f, g, h, p, q) refl
      by_tests e f g h l true true false w p q r s = rw (e, f, g, h, p, q, r) refl
      by_tests e f g h l true true true false p q r s = rw (e, f, g, h, p, q, r, s) refl
      by_tests e f g h l true true true true p q r s = rw (e, f, g, h, l, p, q, r, s) refl

  -- behind both kinds of a map
  pairs_law : nat_le 256 (length (slot ∷ up)) ≡ false → (key value : Kind) (bytes : List ℕ) → AreBytes bytes
      → seen (slot ∷ up) (shifted 2 (map_of (Some key) (Some value) bytes)) ≡ behind (behind (run wire bytes (part.Binary (binary.Size (sizes.Map key value) 4 0)) (slot ∷ up)))
  unfolding of.sized
  pairs_law shallow key value bytes are = by_size (size_at bytes) refl ∙ ap (λ r. behind (behind r)) (sym (size_behind (sizes.Map key value) bytes are))
    where
      by_none : (n t : ℕ) → t ≡ 4 → (b : Bool) → (n == 0) ≡ b
          → goes (after (cond b empty_map (map_begin key value n)) (slot ∷ up)) (2 + t)
          ≡ behind (behind (behind (behind (behind (led_to (drop 4 bytes) (cond b (next.Ended, spent (slot ∷ up)) (opens (slots.Keys key value n) (slot ∷ up))))))))
      by_none n t e true p = rw e refl
      by_none n t e false p = rw (e, shallow) refl

      by_size : (s : Scan ℕ) → size_at bytes ≡ s
          → seen (slot ∷ up) (shifted 2 (s >>= λ size. Ok (map_item key value size.0, size.1))) ≡ behind (behind (size_run wire (sizes.Map key value) (slot ∷ up) bytes s))
      by_size (Err f) e = by_fault (is_cut f.reason)
        where
          by_fault : (b : Bool) → cond b short wrong ≡ behind (behind (cond b short wrong))
          by_fault true = refl
          by_fault false = refl
      by_size (Ok x) e = by_none x.0 x.1 (four bytes x e).1 (x.0 == 0) refl

  none_law : (bytes : List ℕ) → seen (slot ∷ up) (shifted 2 (zero_at bytes >>= λ size. Ok (empty_map, size.1))) ≡ behind (behind (run wire bytes (part.Binary (binary.NoPairs 4)) (slot ∷ up)))
  none_law bytes = by_zero (zero_at bytes) ∙ ap (λ r. behind (behind r)) (zero_law bytes)
    where
      by_zero : (s : Scan ℕ) → seen (slot ∷ up) (shifted 2 (s >>= λ size. Ok (empty_map, size.1))) ≡ behind (behind (zero_run s))
      by_zero (Ok x) = let n : 2 + x.1 ≡ x.1 + 1 + 1 = omega arith in ap (λ k. goes (spent (slot ∷ up)) k) n
      by_zero (Err f) = by_fault (is_cut f.reason)
        where
          by_fault : (b : Bool) → cond b short wrong ≡ behind (behind (cond b short wrong))
          by_fault true = refl
          by_fault false = refl

  map_law : nat_le 256 (length (slot ∷ up)) ≡ false → (bytes : List ℕ) → AreBytes bytes → seen (slot ∷ up) (map_at bytes) ≡ first_value kinds.Map bytes
  unfolding map_at of.value_of of.step_of
  map_law shallow [] are = refl
  map_law shallow (b ∷ []) are = by_kind (kind_of_code b) (b == 0) refl refl
    where
      by_kind : (k : Option Kind) (z : Bool) → kind_of_code b ≡ k → (b == 0) ≡ z → seen (slot ∷ up) (map_at (b ∷ [])) ≡ first_value kinds.Map (b ∷ [])
      by_kind (Some key) z e p = rw e refl
      by_kind None true e p = rw (e, p) refl
      by_kind None false e p = rw (e, p) refl
  map_law shallow (b ∷ c ∷ more) are = by_key (grind (arith, nat_tests)) (grind (arith, nat_tests)) (kind_of_code b) (b == 0) (kind_of_code c) (c == 0) refl refl refl refl
    where
      by_key : nat_lt (suc (suc (length more))) 1 ≡ false → nat_lt (suc (suc (length more))) 2 ≡ false → (k : Option Kind) (z : Bool) (l : Option Kind) (y : Bool)
          → kind_of_code b ≡ k → (b == 0) ≡ z → kind_of_code c ≡ l → (c == 0) ≡ y → seen (slot ∷ up) (map_at (b ∷ c ∷ more)) ≡ first_value kinds.Map (b ∷ c ∷ more)
      by_key one two None false l y e p f q = rw (one, e, p) refl
      by_key one two None true None false e p f q = rw (one, two, e, p, f, q) refl
      by_key one two None true None true e p f q = rw (one, two, e, p, f, q) (none_law more)
      by_key one two None true (Some value) y e p f q = rw (one, two, e, p, f) (none_law more)
      by_key one two (Some key) z None false e p f q = rw (one, two, e, f, q) refl
      by_key one two (Some key) z None true e p f q = rw (one, two, e, f, q) (none_law more)
      by_key one two (Some key) z (Some value) y e p f q = rw (one, two, e, f) (pairs_law shallow key value more are.1.1)

  -- a value of any kind but a struct
  pub value_law : (kind : Kind) → (kind ≡ kinds.Struct → ⊥) → (nests kind && nat_le 256 (length (slot ∷ up))) ≡ false → (bytes : List ℕ) → AreBytes bytes
      → seen (slot ∷ up) (value_at kind bytes) ≡ first_value kind bytes
  unfolding value_at
  value_law kinds.Bool s t bytes are = bool_law bytes
  value_law kinds.I8 s t bytes are = i8_law bytes
  value_law kinds.I16 s t bytes are = i16_law bytes
  value_law kinds.I32 s t bytes are = i32_law bytes
  value_law kinds.I64 s t bytes are = i64_law bytes
  value_law kinds.Double s t bytes are = double_law bytes
  value_law kinds.Str s t bytes are = text_law bytes are
  value_law kinds.Uuid s t bytes are = uuid_law bytes
  value_law kinds.Struct s t bytes are = absurd (s refl)
  value_law kinds.Map s t bytes are = map_law t bytes are
  value_law kinds.Set s t bytes are = set_law t bytes are
  value_law kinds.List s t bytes are = list_law t bytes are
