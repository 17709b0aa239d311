-- What a scan tells, other than that the bytes end too early, more bytes behind leave as it was.
use Rattle.std.proofs.Common.{◌≡◌, ℕ, zero, suc, ◌+◌, ◌<◌, ◌≤◌, ◌^◌, Bool, true, false, cond, List, [], ◌∷◌, ◌++◌, length, take, drop, Option, Some, None, Ok, Err, refl, ap, ◌∙◌, sym, subst, arith, ◌⊎◌, inl, inr, length-append, length-drop}
use Rattle.std.specs.Prelude.{nat_lt, nat_le, ◌==◌, ◌&&◌, ◌||◌, slice_index}
use Rattle.std.proofs.lemmas.Bool.Decides.{nat_tests}
use Rattle.std.proofs.lemmas.List.{get_or_append_left}
use Rattle.std.specs.Int.{w8, w16, w32, w64, cast_signed}
use Rattle.binary_laws.proofs.Inverse.{is_read}
use Rattle.thrift_value.specs.declared.kind.Kind.{Kind}
use Rattle.thrift_value.specs.declared.kind.Kind.TheVariants as kinds
use Rattle.thrift_value.specs.declared.kind.MessageType.{MessageType}
use Rattle.thrift_value.specs.Items.{field, i8_value, i16_value, i32_value, i64_value, double_value, uuid_value}
use Rattle.protocol_traits.specs.declared.fault.Fault.{Fault}
use Rattle.protocol_traits.specs.declared.fault.Reason.TheVariants as reasons
use Rattle.protocol_traits.specs.declared.nest.Slot.{Slot}
use Rattle.protocol_traits.specs.declared.nest.Slot.TheVariants as slots
use Rattle.binary_protocol.specs.declared.scan.Called.TheVariants as calls
use Rattle.binary_protocol.specs.Codes.{kind_of_code, type_of_code}
use Rattle.binary_protocol.specs.Scan.{Scan, fault, cut, shifted, ◌>>=◌, unsigned_at, field_at, field_of, bool_at, i8_at, i16_at, i32_at, i64_at, double_at, uuid_at, size_at, size_begun, zero_at, string_at, string_of, text_at, elements_at, elements_of, set_at, list_at, map_at, map_of, is_bad_kind, is_zero_at, nests, value_at, value_in, item_called, item_in}
use Rattle.binary_protocol.specs.Heads.{type_of, type_at, seq_at, version_at, strict_at, old_at, head_at}

abbrev pub Stays : {X : Type 0} → Scan X → Scan X → Type 0
Stays scan longer = ((f : Fault) × (scan ≡ Err f) × (f.reason ≡ reasons.Truncated)) ⊎ (longer ≡ scan)

-- ---- how scans are put together

cut_short : {X : Type 0} → (l : List ℕ) (scan longer : Scan X) → scan ≡ cut l → Stays scan longer
cut_short {X} l scan longer e = inl (record { place = length l; reason = reasons.Truncated }, e, refl)

either_stays : {X : Type 0} → (b : Bool) (x y z w : Scan X) → Stays x z → Stays y w → Stays (cond b x y) (cond b z w)
either_stays {X} true x y z w p q = p
either_stays {X} false x y z w p q = q

test_stays : {X : Type 0} → (b c : Bool) (x y z w : Scan X) → c ≡ b → Stays x z → Stays y w → Stays (cond b x y) (cond c z w)
test_stays {X} b c x y z w e p q = subst (λ d. Stays (cond b x y) (cond d z w)) (sym e) (either_stays b x y z w p q)

pub long_test : (l more : List ℕ) (n : ℕ) → nat_lt (length l) n ≡ false → nat_lt (length (l ++ more)) n ≡ false
long_test l more n e = let s = length-append l more in grind (arith, nat_tests)

pub there : (l : List ℕ) (n : ℕ) → nat_lt (length l) n ≡ false → n ≤ length l
there l n e = grind (arith, nat_tests)

length_stays : {X : Type 0} → (l more : List ℕ) (n : ℕ) (y w : Scan X) → (n ≤ length l → Stays y w) → Stays (cond (nat_lt (length l) n) (cut l) y) (cond (nat_lt (length (l ++ more)) n) (cut (l ++ more)) w)
length_stays {X} l more n y w f = by_test (nat_lt (length l) n) refl
  where
    by_test : (b : Bool) → nat_lt (length l) n ≡ b → Stays (cond b (cut {X = X} l) y) (cond (nat_lt (length (l ++ more)) n) (cut (l ++ more)) w)
    by_test true e = cut_short {X = X} l (cut l) _ refl
    by_test false e = subst (λ d. Stays y (cond d (cut (l ++ more)) w)) (sym (long_test l more n e)) (f (there l n e))

pub then_stays : {X Y : Type 0} → (s r : Scan X) (go on : X × ℕ → Scan Y) → Stays s r → ((x : X × ℕ) → Stays (go x) (on x)) → Stays (s >>= go) (r >>= on)
then_stays {X} {Y} (Ok x) r go on (inl (f, e, t)) h = absurd (cc)
then_stays {X} {Y} (Ok x) r go on (inr e) h = subst (λ z. Stays (go x) (z >>= on)) (sym e) (h x)
then_stays {X} {Y} (Err g) r go on (inl (f, e, t)) h = inl (f, ap (λ (z : Scan X). z >>= go) e, t)
then_stays {X} {Y} (Err g) r go on (inr e) h = inr (ap (λ (z : Scan X). z >>= on) e)

pub shift_stays : {X : Type 0} → (n : ℕ) (s r : Scan X) → Stays s r → Stays (shifted n s) (shifted n r)
shift_stays {X} n s r (inl (f, e, t)) = inl (record { place = n + f.place; reason = f.reason }, ap (shifted n) e, t)
shift_stays {X} n s r (inr e) = inr (ap (shifted n) e)

-- ---- bytes in front

pub kept : (l more : List ℕ) (i : ℕ) → i < length l → slice_index (l ++ more) i ≡ slice_index l i
kept l more i h = get_or_append_left l more 0 i h

take_kept : (n : ℕ) (l more : List ℕ) → n ≤ length l → take n (l ++ more) ≡ take n l
take_kept zero l more h = refl
take_kept (suc n) [] more h = absurd (omega arith)
take_kept (suc n) (x ∷ l) more h = ap (λ r. x ∷ r) (take_kept n l more (omega arith))

pub drop_kept : (n : ℕ) (l more : List ℕ) → n ≤ length l → drop n (l ++ more) ≡ drop n l ++ more
drop_kept zero l more h = refl
drop_kept (suc n) [] more h = absurd (omega arith)
drop_kept (suc n) (x ∷ l) more h = drop_kept n l more (omega arith)

drop_none : (n : ℕ) (l : List ℕ) → length l < n → drop n l ≡ []
drop_none zero l h = absurd (omega arith)
drop_none (suc n) [] h = refl
drop_none (suc n) (x ∷ l) h = drop_none n l (omega arith)

-- a scan that says nothing of no bytes, further on
pub drop_stays : {X : Type 0} → (scan : List ℕ → Scan X) → ((l more : List ℕ) → Stays (scan l) (scan (l ++ more))) → scan [] ≡ cut [] → (n : ℕ) (l more : List ℕ) → Stays (scan (drop n l)) (scan (drop n (l ++ more)))
drop_stays {X} scan h none n l more = by_test (nat_lt (length l) n) refl
  where
    by_test : (b : Bool) → nat_lt (length l) n ≡ b → Stays (scan (drop n l)) (scan (drop n (l ++ more)))
    by_test true e = cut_short [] (scan (drop n l)) _ (ap scan (drop_none n l (grind (arith, nat_tests))) ∙ none)
    by_test false e = subst (λ k. Stays (scan (drop n l)) (scan k)) (sym (drop_kept n l more (there l n e))) (h (drop n l) more)

cells_1 : (l more : List ℕ) → 1 ≤ length l → unsigned_at w8 (l ++ more) ≡ unsigned_at w8 l
cells_1 [] more h = absurd (omega arith)
cells_1 (a ∷ l) more h = refl

cells_2 : (l more : List ℕ) → 2 ≤ length l → unsigned_at w16 (l ++ more) ≡ unsigned_at w16 l
cells_2 [] more h = absurd (omega arith)
cells_2 (a ∷ []) more h = absurd (omega arith)
cells_2 (a ∷ b ∷ l) more h = refl

cells_4 : (l more : List ℕ) → 4 ≤ length l → unsigned_at w32 (l ++ more) ≡ unsigned_at w32 l
cells_4 [] more h = absurd (omega arith)
cells_4 (a ∷ []) more h = absurd (omega arith)
cells_4 (a ∷ b ∷ []) more h = absurd (omega arith)
cells_4 (a ∷ b ∷ c ∷ []) more h = absurd (omega arith)
cells_4 (a ∷ b ∷ c ∷ d ∷ l) more h = refl

cells_8 : (l more : List ℕ) → 8 ≤ length l → unsigned_at w64 (l ++ more) ≡ unsigned_at w64 l
cells_8 [] more s = absurd (omega arith)
cells_8 (a ∷ []) more s = absurd (omega arith)
cells_8 (a ∷ b ∷ []) more s = absurd (omega arith)
cells_8 (a ∷ b ∷ c ∷ []) more s = absurd (omega arith)
cells_8 (a ∷ b ∷ c ∷ d ∷ []) more s = absurd (omega arith)
cells_8 (a ∷ b ∷ c ∷ d ∷ e ∷ []) more s = absurd (omega arith)
cells_8 (a ∷ b ∷ c ∷ d ∷ e ∷ f ∷ []) more s = absurd (omega arith)
cells_8 (a ∷ b ∷ c ∷ d ∷ e ∷ f ∷ g ∷ []) more s = absurd (omega arith)
cells_8 (a ∷ b ∷ c ∷ d ∷ e ∷ f ∷ g ∷ h ∷ l) more s = refl

-- ---- values with no level

module _ (l more : List ℕ) where
  bool_stays : Stays (bool_at l) (bool_at (l ++ more))
  unfolding bool_at
  bool_stays = length_stays l more 1 _ _ (λ h.
      let same = kept l more 0 h in
      test_stays (slice_index l 0 == 0) (slice_index (l ++ more) 0 == 0) _ _ _ _ (ap (λ x. x == 0) same) (inr refl) (test_stays (slice_index l 0 == 1) (slice_index (l ++ more) 0 == 1) _ _ _ _ (ap (λ x. x == 1) same) (inr refl) (inr refl)))

  i8_stays : Stays (i8_at l) (i8_at (l ++ more))
  unfolding i8_at
  i8_stays = length_stays l more 1 _ _ (λ h. inr (ap (λ n. Ok (i8_value (cast_signed w8 n), 1)) (cells_1 l more h)))

  i16_stays : Stays (i16_at l) (i16_at (l ++ more))
  unfolding i16_at
  i16_stays = length_stays l more 2 _ _ (λ h. inr (ap (λ n. Ok (i16_value (cast_signed w16 n), 2)) (cells_2 l more h)))

  i32_stays : Stays (i32_at l) (i32_at (l ++ more))
  unfolding i32_at
  i32_stays = length_stays l more 4 _ _ (λ h. inr (ap (λ n. Ok (i32_value (cast_signed w32 n), 4)) (cells_4 l more h)))

  i64_stays : Stays (i64_at l) (i64_at (l ++ more))
  unfolding i64_at
  i64_stays = length_stays l more 8 _ _ (λ h. inr (ap (λ n. Ok (i64_value (cast_signed w64 n), 8)) (cells_8 l more h)))

  double_stays : Stays (double_at l) (double_at (l ++ more))
  unfolding double_at
  double_stays = length_stays l more 8 _ _ (λ h. inr (ap (λ b. Ok (double_value b, 8)) (take_kept 8 l more h)))

  uuid_stays : Stays (uuid_at l) (uuid_at (l ++ more))
  unfolding uuid_at
  uuid_stays = length_stays l more 16 _ _ (λ h. inr (ap (λ b. Ok (uuid_value b, 16)) (take_kept 16 l more h)))

-- ---- sizes

size_high : (l more : List ℕ) → 1 ≤ length l → 128 ≤ slice_index l 0 → size_at (l ++ more) ≡ fault 0 reasons.BadSize
unfolding size_at
size_high l more some high = by_length (nat_lt (length (l ++ more)) 4) refl
  where
    first : 128 ≤ slice_index (l ++ more) 0
    first = subst (λ x. 128 ≤ x) (sym (kept l more 0 some)) high

    big : (k : List ℕ) → 4 ≤ length k → 128 ≤ slice_index k 0 → nat_lt (unsigned_at w32 k) (2 ^ 31) ≡ false
    big [] h g = absurd (omega arith)
    big (a ∷ []) h g = absurd (omega arith)
    big (a ∷ b ∷ []) h g = absurd (omega arith)
    big (a ∷ b ∷ c ∷ []) h g = absurd (omega arith)
    big (a ∷ b ∷ c ∷ d ∷ k) h g = let n = unsigned_at w32 (a ∷ b ∷ c ∷ d ∷ k) in let far : 2 ^ 31 ≤ n = omega arith in grind (arith, nat_tests)

    by_length : (b : Bool) → nat_lt (length (l ++ more)) 4 ≡ b → cond b (size_begun (l ++ more)) (cond (nat_lt (unsigned_at w32 (l ++ more)) (2 ^ 31)) (Ok (unsigned_at w32 (l ++ more), 4)) (fault 0 reasons.BadSize)) ≡ fault 0 reasons.BadSize
    by_length true e =
        let s = length-append l more in
        let f : 128 ≤ slice_index (l ++ more) 0 = first in
        let t : nat_lt (length (l ++ more)) 1 ≡ false = grind (arith, nat_tests) in
        let u : nat_le 128 (slice_index (l ++ more) 0) ≡ true = grind (arith, nat_tests) in
        rw (t, u) refl
    by_length false e = rw (big (l ++ more) (there (l ++ more) 4 e) first) refl

pub size_stays : (l more : List ℕ) → Stays (size_at l) (size_at (l ++ more))
unfolding size_at
size_stays l more = by_length (nat_lt (length l) 4) refl
  where
    whole : List ℕ → Scan ℕ
    whole k = cond (nat_lt (unsigned_at w32 k) (2 ^ 31)) (Ok (unsigned_at w32 k, 4)) (fault 0 reasons.BadSize)

    by_begin : (a b : Bool) → nat_lt (length l) 1 ≡ a → nat_le 128 (slice_index l 0) ≡ b → Stays (cond a (cut {X = ℕ} l) (cond b (fault 0 reasons.BadSize) (cut l))) (size_at (l ++ more))
    by_begin true b p q = cut_short l (cut {X = ℕ} l) _ refl
    by_begin false true p q = inr (size_high l more (there l 1 p) (grind (arith, nat_tests)))
    by_begin false false p q = cut_short l (cut {X = ℕ} l) _ refl

    by_length : (b : Bool) → nat_lt (length l) 4 ≡ b → Stays (cond b (size_begun l) (whole l)) (size_at (l ++ more))
    by_length true e = by_begin (nat_lt (length l) 1) (nat_le 128 (slice_index l 0)) refl refl
    by_length false e = inr (rw (long_test l more 4 e) (ap (λ n. cond (nat_lt n (2 ^ 31)) (is_read (n, 4)) (fault 0 reasons.BadSize)) (cells_4 l more (there l 4 e))))

-- a byte that isn't 0 stays so
or_false : (a b : Bool) → (a || b) ≡ false → (a ≡ false) × (b ≡ false)
or_false false b e = (refl, e)
or_false true b e = absurd (cc)

past_end : (l : List ℕ) (i : ℕ) → nat_le (length l) i ≡ false → i < length l
past_end l i e = grind (arith, nat_tests)

not_past : (l more : List ℕ) (i : ℕ) → i < length l → nat_le (length (l ++ more)) i ≡ false
not_past l more i h = let s = length-append l more in grind (arith, nat_tests)

inside : (l : List ℕ) (i : ℕ) → i < length l → nat_le (length l) i ≡ false
inside l i h = grind (arith, nat_tests)

zero_same : (l more : List ℕ) (i : ℕ) → i < length l → is_zero_at (l ++ more) i ≡ is_zero_at l i
zero_same l more i h = ap (λ x. nat_le (length (l ++ more)) i || (x == 0)) (kept l more i h) ∙ ap (λ b. b || (slice_index l i == 0)) (not_past l more i h ∙ sym (inside l i h))

zero_stays_false : (l more : List ℕ) (i : ℕ) → is_zero_at l i ≡ false → is_zero_at (l ++ more) i ≡ false
zero_stays_false l more i e = let p = or_false (nat_le (length l) i) (slice_index l i == 0) e in zero_same l more i (past_end l i p.0) ∙ e

and_false : (a b c d : Bool) → (a ≡ false → c ≡ false) → (b ≡ false → d ≡ false) → (a && b) ≡ false → (c && d) ≡ false
and_false false b c d f g e = ap (λ z. z && d) (f refl)
and_false true b true d f g e = g e
and_false true b false d f g e = refl

pub zero_stays : (l more : List ℕ) → Stays (zero_at l) (zero_at (l ++ more))
unfolding zero_at
zero_stays l more = by_tests (all l) refl
  where
    all : List ℕ → Bool
    all k = (is_zero_at k 0 && is_zero_at k 1) && (is_zero_at k 2 && is_zero_at k 3)

    rest : List ℕ → Scan ℕ
    rest k = cond (nat_lt (length k) 4) (cut k) (is_read (0, 4))

    still_false : all l ≡ false → all (l ++ more) ≡ false
    still_false e =
        and_false (is_zero_at l 0 && is_zero_at l 1) (is_zero_at l 2 && is_zero_at l 3) _ _
        (and_false (is_zero_at l 0) (is_zero_at l 1) _ _ (zero_stays_false l more 0) (zero_stays_false l more 1)) (and_false (is_zero_at l 2) (is_zero_at l 3) _ _ (zero_stays_false l more 2) (zero_stays_false l more 3)) e

    still_all : 4 ≤ length l → all (l ++ more) ≡ all l
    still_all h =
        ap (λ z. (z && is_zero_at (l ++ more) 1) && (is_zero_at (l ++ more) 2 && is_zero_at (l ++ more) 3)) (zero_same l more 0 (omega arith))
        ∙ ap (λ z. (is_zero_at l 0 && z) && (is_zero_at (l ++ more) 2 && is_zero_at (l ++ more) 3)) (zero_same l more 1 (omega arith))
        ∙ ap (λ z. (is_zero_at l 0 && is_zero_at l 1) && (z && is_zero_at (l ++ more) 3)) (zero_same l more 2 (omega arith)) ∙ ap (λ z. (is_zero_at l 0 && is_zero_at l 1) && (is_zero_at l 2 && z)) (zero_same l more 3 (omega arith))

    by_tests : (b : Bool) → all l ≡ b → Stays (cond b (rest l) (fault 0 reasons.BadSize)) (cond (all (l ++ more)) (rest (l ++ more)) (fault 0 reasons.BadSize))
    by_tests false e = inr (rw (still_false e) refl)
    by_tests true e = by_length (nat_lt (length l) 4) refl
      where
        by_length : (b : Bool) → nat_lt (length l) 4 ≡ b → Stays (cond b (cut {X = ℕ} l) (is_read (0, 4))) (cond (all (l ++ more)) (rest (l ++ more)) (fault 0 reasons.BadSize))
        by_length true p = cut_short l (cut {X = ℕ} l) _ refl
        by_length false p = inr (rw (still_all (there l 4 p) ∙ e) (ap (λ b. cond b (cut {X = ℕ} (l ++ more)) (is_read (0, 4))) (long_test l more 4 p)))

-- ---- strings, lists, sets and maps

string_of_stays : (l more : List ℕ) (s r : Scan ℕ) → Stays s r → Stays (string_of l s) (string_of (l ++ more) r)
string_of_stays l more (Err g) r (inl (f, e, t)) = inl (f, ap (string_of l) e, t)
string_of_stays l more (Err g) r (inr e) = inr (ap (string_of (l ++ more)) e)
string_of_stays l more (Ok x) r (inl (f, e, t)) = absurd (cc)
string_of_stays l more (Ok x) r (inr e) =
    subst (λ z. Stays (string_of l (Ok x)) (string_of (l ++ more) z)) (sym e) (length_stays l more (x.0 + 4) _ _ (λ h.
    inr (ap (λ b. is_read (b, x.0 + 4)) (ap (take x.0) (drop_kept 4 l more (omega arith)) ∙ take_kept x.0 (drop 4 l) more (omega (arith, length-drop 4 l, h))))))

pub string_stays : (l more : List ℕ) → Stays (string_at l) (string_at (l ++ more))
unfolding string_at
string_stays l more = string_of_stays l more (size_at l) (size_at (l ++ more)) (size_stays l more)

text_stays : (l more : List ℕ) → Stays (text_at l) (text_at (l ++ more))
unfolding text_at
text_stays l more = then_stays (string_at l) (string_at (l ++ more)) _ _ (string_stays l more) (λ x. inr refl)

elements_of_stays : (found : Option Kind) (s r : Scan ℕ) → Stays s r → Stays (elements_of found s) (elements_of found r)
elements_of_stays None s r h = inr refl
elements_of_stays (Some k) (Ok x) r (inl (f, e, t)) = absurd (cc)
elements_of_stays (Some k) (Ok x) r (inr e) = inr (ap (elements_of (Some k)) e)
elements_of_stays (Some k) (Err g) r (inl (f, e, t)) = inl (record { place = 1 + f.place; reason = f.reason }, ap (elements_of (Some k)) e, t)
elements_of_stays (Some k) (Err g) r (inr e) = inr (ap (elements_of (Some k)) e)

no_size : size_at [] ≡ cut []
unfolding size_at
no_size = refl

pub elements_stays : (l more : List ℕ) → Stays (elements_at l) (elements_at (l ++ more))
unfolding elements_at
elements_stays l more = length_stays l more 1 _ _ (λ h.
    subst (λ x. Stays (elements_of (kind_of_code (slice_index l 0)) (size_at (drop 1 l))) (elements_of (kind_of_code x) (size_at (drop 1 (l ++ more))))) (sym (kept l more 0 h))
    (elements_of_stays (kind_of_code (slice_index l 0)) (size_at (drop 1 l)) (size_at (drop 1 (l ++ more))) (drop_stays size_at size_stays no_size 1 l more)))

set_stays : (l more : List ℕ) → Stays (set_at l) (set_at (l ++ more))
unfolding set_at
set_stays l more = then_stays (elements_at l) (elements_at (l ++ more)) _ _ (elements_stays l more) (λ x. inr refl)

list_stays : (l more : List ℕ) → Stays (list_at l) (list_at (l ++ more))
unfolding list_at
list_stays l more = then_stays (elements_at l) (elements_at (l ++ more)) _ _ (elements_stays l more) (λ x. inr refl)

map_of_stays : (key value : Option Kind) (l more : List ℕ) → Stays (map_of key value l) (map_of key value (l ++ more))
map_of_stays (Some key) (Some value) l more = then_stays (size_at l) (size_at (l ++ more)) _ _ (size_stays l more) (λ x. inr refl)
map_of_stays (Some key) None l more = then_stays (zero_at l) (zero_at (l ++ more)) _ _ (zero_stays l more) (λ x. inr refl)
map_of_stays None value l more = then_stays (zero_at l) (zero_at (l ++ more)) _ _ (zero_stays l more) (λ x. inr refl)

map_rest : (key value : Option Kind) (l more : List ℕ) → 2 ≤ length l → Stays (shifted 2 (map_of key value (drop 2 l))) (shifted 2 (map_of key value (drop 2 (l ++ more))))
map_rest key value l more h = shift_stays 2 _ _ (subst (λ k. Stays (map_of key value (drop 2 l)) (map_of key value k)) (sym (drop_kept 2 l more h)) (map_of_stays key value (drop 2 l) more))

map_stays : (l more : List ℕ) → Stays (map_at l) (map_at (l ++ more))
unfolding map_at
map_stays l more = length_stays l more 1 _ _ (λ h.
    let x = kept l more 0 h in
    test_stays (is_bad_kind (slice_index l 0)) (is_bad_kind (slice_index (l ++ more) 0)) _ _ _ _ (ap (λ c. is_bad_kind c) x) (inr refl) (length_stays l more 2 _ _ (λ g.
    let y = kept l more 1 g in
    test_stays (is_bad_kind (slice_index l 1)) (is_bad_kind (slice_index (l ++ more) 1)) _ _ _ _ (ap (λ c. is_bad_kind c) y) (inr refl)
    (subst (λ c. Stays (shifted 2 (map_of (kind_of_code (slice_index l 0)) (kind_of_code (slice_index l 1)) (drop 2 l))) (shifted 2 (map_of (kind_of_code c) (kind_of_code (slice_index (l ++ more) 1)) (drop 2 (l ++ more))))) (sym x)
    (subst (λ c. Stays (shifted 2 (map_of (kind_of_code (slice_index l 0)) (kind_of_code (slice_index l 1)) (drop 2 l))) (shifted 2 (map_of (kind_of_code (slice_index l 0)) (kind_of_code c) (drop 2 (l ++ more))))) (sym y)
    (map_rest (kind_of_code (slice_index l 0)) (kind_of_code (slice_index l 1)) l more g))))))

-- ---- values, fields and ends

value_at_stays : (k : Kind) (l more : List ℕ) → Stays (value_at k l) (value_at k (l ++ more))
unfolding value_at
value_at_stays kinds.Bool l more = bool_stays l more
value_at_stays kinds.I8 l more = i8_stays l more
value_at_stays kinds.I16 l more = i16_stays l more
value_at_stays kinds.I32 l more = i32_stays l more
value_at_stays kinds.I64 l more = i64_stays l more
value_at_stays kinds.Double l more = double_stays l more
value_at_stays kinds.Str l more = text_stays l more
value_at_stays kinds.Struct l more = inr refl
value_at_stays kinds.Map l more = map_stays l more
value_at_stays kinds.Set l more = set_stays l more
value_at_stays kinds.List l more = list_stays l more
value_at_stays kinds.Uuid l more = uuid_stays l more

value_stays : (d : ℕ) (k : Kind) (l more : List ℕ) → Stays (value_in d k l) (value_in d k (l ++ more))
unfolding value_in
value_stays d k l more = either_stays (nests k && nat_le 256 d) _ _ _ _ (inr refl) (value_at_stays k l more)

field_of_stays : (found : Option Kind) (l more : List ℕ) → Stays (field_of found l) (field_of found (l ++ more))
field_of_stays None l more = inr refl
field_of_stays (Some k) l more = length_stays l more 3 _ _ (λ h.
    inr (ap (λ x. is_read (field (cast_signed w16 (unsigned_at w16 (x ∷ slice_index (l ++ more) 2 ∷ []))) k, 3)) (kept l more 1 (omega arith))
    ∙ ap (λ x. is_read (field (cast_signed w16 (unsigned_at w16 (slice_index l 1 ∷ x ∷ []))) k, 3)) (kept l more 2 (omega arith))))

field_stays : (l more : List ℕ) → Stays (field_at l) (field_at (l ++ more))
unfolding field_at
field_stays l more = length_stays l more 1 _ _ (λ h.
    let x = kept l more 0 h in
    test_stays (slice_index l 0 == 0) (slice_index (l ++ more) 0 == 0) _ _ _ _ (ap (λ c. c == 0) x) (inr refl)
    (subst (λ c. Stays (field_of (kind_of_code (slice_index l 0)) l) (field_of (kind_of_code c) (l ++ more))) (sym x) (field_of_stays (kind_of_code (slice_index l 0)) l more)))

called_stays : (d : ℕ) (k : Kind) (b : Bool) (l more : List ℕ) → Stays (item_called d (cond b calls.End (calls.Value k)) l) (item_called d (cond b calls.End (calls.Value k)) (l ++ more))
called_stays d k true l more = inr refl
called_stays d k false l more = value_stays d k l more

pub item_stays : (d : ℕ) (slot : Slot) (l more : List ℕ) → Stays (item_in d slot l) (item_in d slot (l ++ more))
item_stays d (slots.Fields last) l more = field_stays l more
item_stays d (slots.Value k id) l more = value_stays d k l more
item_stays d (slots.Elements k left) l more = called_stays d k (left == 0) l more
item_stays d (slots.Keys key value left) l more = called_stays d key (left == 0) l more
item_stays d (slots.Values key value left) l more = value_stays d value l more

-- ---- headers

pub type_stays : (l more : List ℕ) → Stays (type_at l) (type_at (l ++ more))
unfolding type_at
type_stays l more = length_stays l more 1 _ _ (λ h. inr (ap (λ c. type_of (type_of_code c)) (kept l more 0 h)))

pub seq_stays : (l more : List ℕ) → Stays (seq_at l) (seq_at (l ++ more))
unfolding seq_at
seq_stays l more = length_stays l more 4 _ _ (λ h. inr (ap (λ n. is_read (cast_signed w32 n, 4)) (cells_4 l more h)))

pub no_type : type_at [] ≡ cut []
unfolding type_at
no_type = refl

pub no_seq : seq_at [] ≡ cut []
unfolding seq_at
no_seq = refl

pub no_string : string_at [] ≡ cut []
unfolding string_at size_at
no_string = refl

pub version_stays : (l more : List ℕ) → 1 ≤ length l → Stays (version_at l) (version_at (l ++ more))
unfolding version_at
version_stays l more some = by_first (slice_index l 0 == 128) refl
  where
    rest : List ℕ → Scan MessageType
    rest k = cond (nat_lt (length k) 4) (cut k) (shifted 3 (type_at (drop 3 k)))

    found : List ℕ → Bool → Bool → Scan MessageType
    found k a b = cond (a && (nat_lt (length k) 2 || b)) (rest k) (fault 0 reasons.BadVersion)

    rests : Stays (rest l) (rest (l ++ more))
    rests = length_stays l more 4 _ _ (λ h. shift_stays 3 _ _ (drop_stays type_at type_stays no_type 3 l more))

    by_second : (b : Bool) → nat_lt (length l) 2 ≡ b → Stays (found l true (slice_index l 1 == 1)) (found (l ++ more) true (slice_index (l ++ more) 1 == 1))
    by_second true e = cut_short l _ _ (rw (e, shorter_4 e) refl)
      where
        shorter_4 : nat_lt (length l) 2 ≡ true → nat_lt (length l) 4 ≡ true
        shorter_4 e = grind (arith, nat_tests)
    by_second false e = test_stays (nat_lt (length l) 2 || (slice_index l 1 == 1)) (nat_lt (length (l ++ more)) 2 || (slice_index (l ++ more) 1 == 1)) _ _ _ _
        (ap (λ x. nat_lt (length (l ++ more)) 2 || (x == 1)) (kept l more 1 (there l 2 e)) ∙ ap (λ b. b || (slice_index l 1 == 1)) (long_test l more 2 e ∙ sym e)) rests (inr refl)

    by_first : (a : Bool) → (slice_index l 0 == 128) ≡ a → Stays (found l (slice_index l 0 == 128) (slice_index l 1 == 1)) (found (l ++ more) (slice_index (l ++ more) 0 == 128) (slice_index (l ++ more) 1 == 1))
    by_first true e = rw (e, ap (λ x. x == 128) (kept l more 0 some) ∙ e) (by_second (nat_lt (length l) 2) refl)
    by_first false e = inr (rw (e, ap (λ x. x == 128) (kept l more 0 some) ∙ e) refl)

strict_stays : (l more : List ℕ) → 1 ≤ length l → Stays (strict_at l) (strict_at (l ++ more))
unfolding strict_at
strict_stays l more some =
    then_stays (version_at l) (version_at (l ++ more)) _ _ (version_stays l more some) (λ t. then_stays _ _ _ _ (shift_stays t.1 _ _ (drop_stays string_at string_stays no_string t.1 l more))
    (λ n. then_stays _ _ _ _ (shift_stays n.1 _ _ (drop_stays seq_at seq_stays no_seq n.1 l more)) (λ s. inr refl)))

old_stays : (l more : List ℕ) → Stays (old_at l) (old_at (l ++ more))
unfolding old_at
old_stays l more =
    then_stays (string_at l) (string_at (l ++ more)) _ _ (string_stays l more) (λ n. then_stays _ _ _ _ (shift_stays n.1 _ _ (drop_stays type_at type_stays no_type n.1 l more))
    (λ t. then_stays _ _ _ _ (shift_stays t.1 _ _ (drop_stays seq_at seq_stays no_seq t.1 l more)) (λ s. inr refl)))

pub head_stays : (l more : List ℕ) → Stays (head_at l) (head_at (l ++ more))
unfolding head_at
head_stays l more = length_stays l more 1 _ _ (λ h.
    test_stays (nat_le 128 (slice_index l 0)) (nat_le 128 (slice_index (l ++ more) 0)) _ _ _ _ (ap (λ c. nat_le 128 c) (kept l more 0 h)) (strict_stays l more h) (old_stays l more))
