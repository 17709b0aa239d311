-- An item that the bytes end inside is completed to a whole one.
use Rattle.std.proofs.Common.{◌≡◌, ℕ, ℤ, zero, suc, ◌+◌, ◌-◌, ◌<◌, ◌≤◌, ◌^◌, Bool, true, false, cond, List, [], ◌∷◌, ◌++◌, length, take, drop, Option, Some, None, Ok, Err, refl, ap, ◌∙◌, sym, arith, ◌⊎◌, inl, inr, length-append, append_assoc}
use Rattle.std.specs.Prelude.{nat_lt, nat_le, ◌==◌, ◌&&◌, slice_index}
use Rattle.std.proofs.lemmas.Bool.Decides.{nat_tests}
use Rattle.std.specs.Int.{w8, w16, w32, w64}
use Rattle.thrift_value.specs.declared.kind.Kind.{Kind}
use Rattle.thrift_value.specs.declared.kind.Kind.TheVariants as kinds
use Rattle.thrift_value.specs.Items.{Item, field, stop, bool_value, i8_value, i16_value, i32_value, i64_value, double_value, text, struct_begin, empty_map, map_begin, set_begin, list_begin, end, uuid_value}
use Rattle.protocol_traits.specs.declared.fault.Fault.{Fault}
use Rattle.protocol_traits.specs.declared.fault.Reason.{Reason}
use Rattle.protocol_traits.specs.declared.fault.Reason.TheVariants as reasons
use Rattle.protocol_traits.specs.declared.nest.Slot.{Slot}
use Rattle.protocol_traits.specs.declared.nest.Slot.TheVariants as slots
use Rattle.protocol_traits.specs.Stack.{rest_of}
use Rattle.protocol_traits.specs.Follow.{spent, after}
use Rattle.binary_protocol.specs.Codes.{kind_of_code}
use Rattle.binary_protocol.specs.Scan.{Scan, fault, cut, shifted, ◌>>=◌, unsigned_at, signed_at, field_at, field_of, bool_at, i8_at, i16_at, i32_at, i64_at, double_at, uuid_at, size_at, size_begun, zero_at, string_at, string_of, text_at, elements_at, elements_of, set_at, list_at, map_at, map_of, map_item, is_bad_kind, is_zero_at, value_at, value_in, nests, item_in, item_called}
use Rattle.binary_protocol.specs.declared.scan.Called.TheVariants as calls
use Rattle.binary_protocol.specs.Grammar.{size, IsKindByte}
use Rattle.gate_base.specs.Bytes.{AreBytes}
use Rattle.binary_laws.proofs.Inverse.{either, is_read, is_fault}
use Rattle.binary_laws.proofs.Closing.{bytes_join}
use Rattle.binary_laws.proofs.Leaves.{bool_again, size_again, size_scan, string_scan, elements_scan, elements_again, no_map_again, map_scan, field_scan, stop_again}
use Rattle.binary_laws.proofs.Begun.{size_read, named_byte, room_left, zero_cell, both}
use Rattle.binary_laws.proofs.Walking.{opened}

-- some bytes make the item whole, whatever follows
pub record Completed (scan : List ℕ → Scan Item) (bytes : List ℕ) : Type 0 where
  pub more : List ℕ
  pub are : AreBytes more
  pub next : List Slot → List Slot
  pub whole : (tail : List ℕ) → (item : Item) × (scan ((bytes ++ more) ++ tail) ≡ Ok (item, length (bytes ++ more))) × ((nest : List Slot) → after item nest ≡ next nest)

-- where the scan is cut short, it is at the end of the bytes, and they can be completed
abbrev pub IsCut : (List ℕ → Scan Item) → List ℕ → Type 0
IsCut scan bytes = (f : Fault) → scan bytes ≡ Err f → f.reason ≡ reasons.Truncated → (f.place ≡ length bytes) × Completed scan bytes

-- ---- faults

abbrev pub blame : {X : Type 0} → Fault → Scan X → Fault
blame d (Ok p) = d
blame d (Err f) = f

pub same_fault : {X : Type 0} → (f g : Fault) → is_fault {X = X} f ≡ Err g → f ≡ g
same_fault {X} f g e = ap (λ (r : Scan X). blame f r) e

pub never_read : {X : Type 0} → (x : X × ℕ) (f : Fault) → is_read x ≡ Err f → ⊥
never_read x f e = absurd (cc)

pub other_reason : {X : Type 0} → (p : ℕ) (r : Reason) (f : Fault) → (r ≡ reasons.Truncated → ⊥) → is_fault {X = X} (record { place = p; reason = r }) ≡ Err f → f.reason ≡ reasons.Truncated → ⊥
other_reason {X} p r f differs e t = differs (ap (λ (g : Fault). g.reason) (same_fault {X = X} (record { place = p; reason = r }) f e) ∙ t)

pub not_kind : reasons.BadKind ≡ reasons.Truncated → ⊥
not_kind e = absurd (cc)

pub not_size : reasons.BadSize ≡ reasons.Truncated → ⊥
not_size e = absurd (cc)

pub not_bool : reasons.BadBool ≡ reasons.Truncated → ⊥
not_bool e = absurd (cc)

pub not_deep : reasons.TooDeep ≡ reasons.Truncated → ⊥
not_deep e = absurd (cc)

-- ---- bytes of a number

pub zeros : ℕ → List ℕ
zeros zero = []
zeros (suc n) = 0 ∷ zeros n

pub zeros_small : (n : ℕ) → AreBytes (zeros n)
unfolding zeros
zeros_small zero = tt
zeros_small (suc n) = (omega arith, zeros_small n)

pub zeros_long : (n : ℕ) → length (zeros n) ≡ n
unfolding zeros
zeros_long zero = refl
zeros_long (suc n) = ap suc (zeros_long n)

pub shorter : (n m : ℕ) → nat_lt n m ≡ true → n < m
shorter n m e = grind (arith, nat_tests)

pub cut_place : {X : Type 0} → (bytes : List ℕ) (f : Fault) → is_fault {X = X} (record { place = length bytes; reason = reasons.Truncated }) ≡ Err f → f.place ≡ length bytes
cut_place {X} bytes f e = sym (ap (λ (g : Fault). g.place) (same_fault {X = X} (record { place = length bytes; reason = reasons.Truncated }) f e))

-- a scan that reads so many bytes, whatever they are
module _ (scan : List ℕ → Scan Item) (n : ℕ) (value : List ℕ → Item) (plain : (bytes : List ℕ) (nest : List Slot) → after (value bytes) nest ≡ spent nest)
    (is : (bytes : List ℕ) → scan bytes ≡ cond (nat_lt (length bytes) n) (cut bytes) (is_read (value bytes, n))) where
  padded : (bytes : List ℕ) → length bytes < n → Completed scan bytes
  padded bytes h =
      let more = zeros (n - length bytes) in
      let long : length (bytes ++ more) ≡ n = omega (arith, length-append bytes more, zeros_long (n - length bytes), h) in
      record {
        more = more;
        are = zeros_small (n - length bytes);
        next = spent;
        whole = (λ tail.
            let all = (bytes ++ more) ++ tail in
            let l = length-append (bytes ++ more) tail in
            let t : nat_lt (length all) n ≡ false = grind (arith, nat_tests) in
            (value all, is all ∙ ap (λ b. cond b (cut all) (is_read (value all, n))) t ∙ ap (λ k. is_read (value all, k)) (sym long), plain all));
      }

  fixed_cut : (bytes : List ℕ) → IsCut scan bytes
  fixed_cut bytes f e t = by_length (either (nat_lt (length bytes) n) (cut {X = Item} bytes) (is_read (value bytes, n)) (Err f) (sym (is bytes) ∙ e))
    where
      by_length : (nat_lt (length bytes) n ≡ true) × (cut {X = Item} bytes ≡ Err f) ⊎ (nat_lt (length bytes) n ≡ false) × (is_read (value bytes, n) ≡ Err f) → (f.place ≡ length bytes) × Completed scan bytes
      by_length (inl h) = (cut_place {X = Item} bytes f h.1, padded bytes (shorter (length bytes) n h.0))
      by_length (inr h) = absurd (never_read (value bytes, n) f h.1)

i8_is : (bytes : List ℕ) → i8_at bytes ≡ cond (nat_lt (length bytes) 1) (cut bytes) (is_read (i8_value (signed_at w8 bytes), 1))
unfolding i8_at
i8_is bytes = refl

i16_is : (bytes : List ℕ) → i16_at bytes ≡ cond (nat_lt (length bytes) 2) (cut bytes) (is_read (i16_value (signed_at w16 bytes), 2))
unfolding i16_at
i16_is bytes = refl

i32_is : (bytes : List ℕ) → i32_at bytes ≡ cond (nat_lt (length bytes) 4) (cut bytes) (is_read (i32_value (signed_at w32 bytes), 4))
unfolding i32_at
i32_is bytes = refl

i64_is : (bytes : List ℕ) → i64_at bytes ≡ cond (nat_lt (length bytes) 8) (cut bytes) (is_read (i64_value (signed_at w64 bytes), 8))
unfolding i64_at
i64_is bytes = refl

double_is : (bytes : List ℕ) → double_at bytes ≡ cond (nat_lt (length bytes) 8) (cut bytes) (is_read (double_value (take 8 bytes), 8))
unfolding double_at
double_is bytes = refl

uuid_is : (bytes : List ℕ) → uuid_at bytes ≡ cond (nat_lt (length bytes) 16) (cut bytes) (is_read (uuid_value (take 16 bytes), 16))
unfolding uuid_at
uuid_is bytes = refl

i8_cut : (bytes : List ℕ) → IsCut i8_at bytes
i8_cut = fixed_cut i8_at 1 (λ b. i8_value (signed_at w8 b)) (λ b nest. refl) i8_is

i16_cut : (bytes : List ℕ) → IsCut i16_at bytes
i16_cut = fixed_cut i16_at 2 (λ b. i16_value (signed_at w16 b)) (λ b nest. refl) i16_is

i32_cut : (bytes : List ℕ) → IsCut i32_at bytes
i32_cut = fixed_cut i32_at 4 (λ b. i32_value (signed_at w32 b)) (λ b nest. refl) i32_is

i64_cut : (bytes : List ℕ) → IsCut i64_at bytes
i64_cut = fixed_cut i64_at 8 (λ b. i64_value (signed_at w64 b)) (λ b nest. refl) i64_is

double_cut : (bytes : List ℕ) → IsCut double_at bytes
double_cut = fixed_cut double_at 8 (λ b. double_value (take 8 b)) (λ b nest. refl) double_is

uuid_cut : (bytes : List ℕ) → IsCut uuid_at bytes
uuid_cut = fixed_cut uuid_at 16 (λ b. uuid_value (take 16 b)) (λ b nest. refl) uuid_is

-- ---- bools

bool_cut : (bytes : List ℕ) → IsCut bool_at bytes
unfolding bool_at
bool_cut [] f e t = (
  cut_place {X = Item} [] f e,
  record { more = 0 ∷ []; are = (omega arith, tt); next = spent; whole = (λ tail. (bool_value false, bool_again false tail, (λ nest. refl))) },
)
bool_cut (x ∷ rest) f e t = absurd (by_value (nat_lt (length (x ∷ rest)) 1) (x == 0) (x == 1) (grind (arith, nat_tests)) e)
  where
    by_value : (a b c : Bool) → a ≡ false → cond a (cut {X = Item} (x ∷ rest)) (cond b (is_read (bool_value false, 1)) (cond c (is_read (bool_value true, 1)) (fault 0 reasons.BadBool))) ≡ Err f → ⊥
    by_value true b c p h = absurd (cc)
    by_value false true c p h = never_read (bool_value false, 1) f h
    by_value false false true p h = never_read (bool_value true, 1) f h
    by_value false false false p h = other_reason {X = Item} 0 reasons.BadBool f not_bool h t

-- ---- sizes

pub record SizeDone (bytes : List ℕ) : Type 0 where
  pub more : List ℕ
  pub are : AreBytes more
  pub n : ℕ
  pub small : n < 2 ^ 31
  pub four : length (bytes ++ more) ≡ 4
  pub whole : (tail : List ℕ) → size_at ((bytes ++ more) ++ tail) ≡ Ok (n, 4)

pub nil_small : 0 < 256
nil_small = omega arith

size_done : (l : List ℕ) → AreBytes l → length l < 4 → slice_index l 0 < 128 → SizeDone l
size_done [] are h low = record { more = 0 ∷ 0 ∷ 0 ∷ 0 ∷ []; are = (nil_small, (nil_small, (nil_small, (nil_small, tt)))); n = 0; small = omega arith; four = refl; whole = (λ tail. size_again 0 tail (omega arith)) }
size_done (a ∷ []) are h low =
    let n = unsigned_at w32 (a ∷ 0 ∷ 0 ∷ 0 ∷ []) in
    let small : n < 2 ^ 31 = omega arith in
    record { more = 0 ∷ 0 ∷ 0 ∷ []; are = (nil_small, (nil_small, (nil_small, tt))); n = n; small = small; four = refl; whole = (λ tail. size_scan (a ∷ 0 ∷ 0 ∷ 0 ∷ tail) n (omega arith) refl small) }
size_done (a ∷ b ∷ []) are h low =
    let n = unsigned_at w32 (a ∷ b ∷ 0 ∷ 0 ∷ []) in
    let small : n < 2 ^ 31 = omega (arith, are.1.0) in
    record { more = 0 ∷ 0 ∷ []; are = (nil_small, (nil_small, tt)); n = n; small = small; four = refl; whole = (λ tail. size_scan (a ∷ b ∷ 0 ∷ 0 ∷ tail) n (omega arith) refl small) }
size_done (a ∷ b ∷ c ∷ []) are h low =
    let n = unsigned_at w32 (a ∷ b ∷ c ∷ 0 ∷ []) in
    let small : n < 2 ^ 31 = omega (arith, are.1.0, are.1.1.0) in
    record { more = 0 ∷ []; are = (nil_small, tt); n = n; small = small; four = refl; whole = (λ tail. size_scan (a ∷ b ∷ c ∷ 0 ∷ tail) n (omega arith) refl small) }
size_done (a ∷ b ∷ c ∷ d ∷ l) are h low = absurd (omega arith)

pub size_cut : (bytes : List ℕ) → AreBytes bytes → (f : Fault) → size_at bytes ≡ Err f → f.reason ≡ reasons.Truncated → (f.place ≡ length bytes) × SizeDone bytes
unfolding size_at
size_cut bytes are f e t = by_length (either (nat_lt (length bytes) 4) (size_begun bytes) found (Err f) e)
  where
    found : Scan ℕ
    found = cond (nat_lt (unsigned_at w32 bytes) (2 ^ 31)) (Ok (unsigned_at w32 bytes, 4)) (fault 0 reasons.BadSize)

    by_found : (b : Bool) → cond b (is_read (unsigned_at w32 bytes, 4)) (fault 0 reasons.BadSize) ≡ Err f → ⊥
    by_found true h = never_read (unsigned_at w32 bytes, 4) f h
    by_found false h = other_reason {X = ℕ} 0 reasons.BadSize f not_size h t

    by_begin : (a b : Bool) → nat_lt (length bytes) 1 ≡ a → nat_le 128 (slice_index bytes 0) ≡ b → cond a (cut {X = ℕ} bytes) (cond b (fault 0 reasons.BadSize) (cut bytes)) ≡ Err f → (f.place ≡ length bytes) × (slice_index bytes 0 < 128)
    by_begin true b p q h = (cut_place {X = ℕ} bytes f h, none bytes p)
      where
        none : (l : List ℕ) → nat_lt (length l) 1 ≡ true → slice_index l 0 < 128
        none [] r = omega arith
        none (x ∷ l) r = absurd (grind (arith, nat_tests))
    by_begin false true p q h = absurd (other_reason {X = ℕ} 0 reasons.BadSize f not_size h t)
    by_begin false false p q h = (cut_place {X = ℕ} bytes f h, grind (arith, nat_tests))

    by_length : (nat_lt (length bytes) 4 ≡ true) × (size_begun bytes ≡ Err f) ⊎ (nat_lt (length bytes) 4 ≡ false) × (found ≡ Err f) → (f.place ≡ length bytes) × SizeDone bytes
    by_length (inl h) = let b = by_begin _ _ refl refl h.1 in (b.0, size_done bytes are (shorter (length bytes) 4 h.0) b.1)
    by_length (inr h) = absurd (by_found _ h.1)

-- ---- texts

text_whole : (all : List ℕ) (n : ℕ) → size_at all ≡ Ok (n, 4) → n + 4 ≤ length all → text_at all ≡ Ok (text (take n (drop 4 all)), n + 4)
unfolding text_at
text_whole all n s h = rw (string_scan all n s h) refl

-- so many bytes behind the size
text_done : (bytes more : List ℕ) (n : ℕ) → AreBytes more → length (bytes ++ more) ≡ n + 4 → ((tail : List ℕ) → size_at ((bytes ++ more) ++ tail) ≡ Ok (n, 4)) → Completed text_at bytes
text_done bytes more n are long s = record {
  more = more;
  are = are;
  next = spent;
  whole = (λ tail.
      let all = (bytes ++ more) ++ tail in
      (text (take n (drop 4 all)), text_whole all n (s tail) (omega (arith, long, length-append (bytes ++ more) tail)) ∙ ap (λ k. is_read (text (take n (drop 4 all)), k)) (sym long), (λ nest. refl)));
}

text_cut : (bytes : List ℕ) → AreBytes bytes → IsCut text_at bytes
unfolding text_at string_at
text_cut bytes are f e t = by_size (size_at bytes) refl (unbound (string_of bytes (size_at bytes)) e)
  where
    unbound : (scan : Scan (List ℕ)) → (scan >>= λ x. Ok (text x.0, x.1)) ≡ Err f → scan ≡ Err f
    unbound (Ok x) h = absurd (never_read (text x.0, x.1) f h)
    unbound (Err g) h = ap (λ k. Err k) (same_fault {X = Item} g f h)

    by_size : (scan : Scan ℕ) → size_at bytes ≡ scan → string_of bytes scan ≡ Err f → (f.place ≡ length bytes) × Completed text_at bytes
    by_size (Err g) s h =
        let same = same_fault {X = List ℕ} g f h in
        let c = size_cut bytes are f (s ∙ ap (λ k. Err k) same) t in
        let d = c.1 in
        let more = d.more ++ zeros d.n in
        let join = append_assoc bytes d.more (zeros d.n) in (
          c.0,
          text_done bytes more d.n (bytes_join d.more (zeros d.n) d.are (zeros_small d.n)) (omega (arith, ap length join, length-append (bytes ++ d.more) (zeros d.n), zeros_long d.n, d.four))
              (λ tail. ap size_at (ap (λ l. l ++ tail) (sym join) ∙ append_assoc (bytes ++ d.more) (zeros d.n) tail) ∙ d.whole (zeros d.n ++ tail)),
        )
    by_size (Ok x) s h = by_length (either (nat_lt (length bytes) (x.0 + 4)) (cut {X = List ℕ} bytes) (is_read (take x.0 (drop 4 bytes), x.0 + 4)) (Err f) h)
      where
        by_length : (nat_lt (length bytes) (x.0 + 4) ≡ true) × (cut {X = List ℕ} bytes ≡ Err f) ⊎ (nat_lt (length bytes) (x.0 + 4) ≡ false) × (is_read (take x.0 (drop 4 bytes), x.0 + 4) ≡ Err f) → (f.place ≡ length bytes) × Completed text_at bytes
        by_length (inr k) = absurd (never_read (take x.0 (drop 4 bytes), x.0 + 4) f k.1)
        by_length (inl k) =
            let n = x.0 in
            let r = size_read bytes are n x.1 s in
            let less = shorter (length bytes) (n + 4) k.0 in
            let more = zeros ((n + 4) - length bytes) in (
              cut_place {X = List ℕ} bytes f k.1,
              text_done bytes more n (zeros_small _) (omega (arith, length-append bytes more, zeros_long ((n + 4) - length bytes), less))
                  (λ tail. ap (λ l. size_at ((l ++ more) ++ tail)) r.laid ∙ ap size_at (append_assoc (size n ++ r.rest) more tail ∙ append_assoc (size n) r.rest (more ++ tail)) ∙ size_again n (r.rest ++ (more ++ tail)) r.small),
            )

-- ---- lists and sets

record ElementsDone (bytes : List ℕ) : Type 0 where
  more : List ℕ
  are : AreBytes more
  k : Kind
  n : ℕ
  five : length (bytes ++ more) ≡ 5
  whole : (tail : List ℕ) → elements_at ((bytes ++ more) ++ tail) ≡ Ok ((k, n), 5)

elements_cut : (bytes : List ℕ) → AreBytes bytes → (f : Fault) → elements_at bytes ≡ Err f → f.reason ≡ reasons.Truncated → (f.place ≡ length bytes) × ElementsDone bytes
unfolding elements_at
elements_cut [] are f e t = (cut_place {X = Kind × ℕ} [] f e, record { more = 3 ∷ size 0; are = (omega arith, (nil_small, (nil_small, (nil_small, (nil_small, tt))))); k = kinds.I8; n = 0; five = refl; whole = (λ tail. elements_again kinds.I8 0 tail (omega arith)) })
elements_cut (x ∷ rest) are f e t = by_length (nat_lt (length (x ∷ rest)) 1) (grind (arith, nat_tests)) e
  where
    by_kind : (found : Option Kind) → kind_of_code x ≡ found → (scan : Scan ℕ) → size_at rest ≡ scan → elements_of found scan ≡ Err f → (f.place ≡ length (x ∷ rest)) × ElementsDone (x ∷ rest)
    by_kind None is scan s h = absurd (other_reason {X = Kind × ℕ} 0 reasons.BadKind f not_kind h t)
    by_kind (Some k) is (Ok n) s h = absurd (never_read ((k, n.0), 1 + n.1) f h)
    by_kind (Some k) is (Err g) s h =
        let same = same_fault {X = Kind × ℕ} (record { place = 1 + g.place; reason = g.reason }) f h in
        let reason : g.reason ≡ reasons.Truncated = ap (λ (b : Fault). b.reason) same ∙ t in
        let place : 1 + g.place ≡ f.place = ap (λ (b : Fault). b.place) same in
        let c = size_cut rest are.1 g s reason in
        let d = c.1 in (
          omega (arith, place, c.0),
          record {
            more = d.more;
            are = d.are;
            k = k;
            n = d.n;
            five = omega (arith, d.four);
            whole = (λ tail. elements_scan (x ∷ ((rest ++ d.more) ++ tail)) k d.n (omega arith) is (d.whole tail));
          },
        )

    by_length : (b : Bool) → b ≡ false → cond b (cut {X = Kind × ℕ} (x ∷ rest)) (elements_of (kind_of_code x) (size_at rest)) ≡ Err f → (f.place ≡ length (x ∷ rest)) × ElementsDone (x ∷ rest)
    by_length true p h = absurd (cc)
    by_length false p h = by_kind (kind_of_code x) refl (size_at rest) refl h

unbound_elements : (make : Kind → ℕ → Item) (scan : Scan (Kind × ℕ)) (f : Fault) → (scan >>= λ x. Ok (make x.0.0 x.0.1, x.1)) ≡ Err f → scan ≡ Err f
unbound_elements make (Ok x) f h = absurd (never_read (make x.0.0 x.0.1, x.1) f h)
unbound_elements make (Err g) f h = ap (λ k. Err k) (same_fault {X = Item} g f h)

set_cut : (bytes : List ℕ) → AreBytes bytes → IsCut set_at bytes
unfolding set_at
set_cut bytes are f e t =
    let c = elements_cut bytes are f (unbound_elements set_begin (elements_at bytes) f e) t in
    let d = c.1 in
    (c.0, record { more = d.more; are = d.are; next = (λ nest. slots.Elements d.k d.n ∷ spent nest); whole = (λ tail. (set_begin d.k d.n, ap (λ s. s >>= λ x. Ok (set_begin x.0.0 x.0.1, x.1)) (d.whole tail) ∙ ap (λ j. is_read (set_begin d.k d.n, j)) (sym d.five), (λ nest. refl))) })

list_cut : (bytes : List ℕ) → AreBytes bytes → IsCut list_at bytes
unfolding list_at
list_cut bytes are f e t =
    let c = elements_cut bytes are f (unbound_elements list_begin (elements_at bytes) f e) t in
    let d = c.1 in
    (c.0, record { more = d.more; are = d.are; next = (λ nest. slots.Elements d.k d.n ∷ spent nest); whole = (λ tail. (list_begin d.k d.n, ap (λ s. s >>= λ x. Ok (list_begin x.0.0 x.0.1, x.1)) (d.whole tail) ∙ ap (λ j. is_read (list_begin d.k d.n, j)) (sym d.five), (λ nest. refl))) })

-- ---- maps

-- a size that may only be 0
zero_more : (l : List ℕ) → length l < 4 → ((is_zero_at l 0 && is_zero_at l 1) && (is_zero_at l 2 && is_zero_at l 3)) ≡ true → (more : List ℕ) × AreBytes more × (l ++ more ≡ size 0)
zero_more [] h t = (0 ∷ 0 ∷ 0 ∷ 0 ∷ [], (nil_small, (nil_small, (nil_small, (nil_small, tt)))), refl)
zero_more (a ∷ []) h t =
    let p = both (is_zero_at (a ∷ []) 0 && is_zero_at (a ∷ []) 1) (is_zero_at (a ∷ []) 2 && is_zero_at (a ∷ []) 3) t in
    let q = both (is_zero_at (a ∷ []) 0) (is_zero_at (a ∷ []) 1) p.0 in
    (0 ∷ 0 ∷ 0 ∷ [], (nil_small, (nil_small, (nil_small, tt))), ap (λ x. x ∷ 0 ∷ 0 ∷ 0 ∷ []) (zero_cell 1 0 a q.0 (omega arith)))
zero_more (a ∷ b ∷ []) h t =
    let l = a ∷ b ∷ [] in
    let p = both (is_zero_at l 0 && is_zero_at l 1) (is_zero_at l 2 && is_zero_at l 3) t in
    let q = both (is_zero_at l 0) (is_zero_at l 1) p.0 in
    (0 ∷ 0 ∷ [], (nil_small, (nil_small, tt)), ap (λ x. x ∷ b ∷ 0 ∷ 0 ∷ []) (zero_cell 2 0 a q.0 (omega arith)) ∙ ap (λ x. 0 ∷ x ∷ 0 ∷ 0 ∷ []) (zero_cell 2 1 b q.1 (omega arith)))
zero_more (a ∷ b ∷ c ∷ []) h t =
    let l = a ∷ b ∷ c ∷ [] in
    let p = both (is_zero_at l 0 && is_zero_at l 1) (is_zero_at l 2 && is_zero_at l 3) t in
    let q = both (is_zero_at l 0) (is_zero_at l 1) p.0 in
    let r = both (is_zero_at l 2) (is_zero_at l 3) p.1 in
    (0 ∷ [], (nil_small, tt), ap (λ x. x ∷ b ∷ c ∷ 0 ∷ []) (zero_cell 3 0 a q.0 (omega arith)) ∙ ap (λ x. 0 ∷ x ∷ c ∷ 0 ∷ []) (zero_cell 3 1 b q.1 (omega arith)) ∙ ap (λ x. 0 ∷ 0 ∷ x ∷ 0 ∷ []) (zero_cell 3 2 c r.0 (omega arith)))
zero_more (a ∷ b ∷ c ∷ d ∷ l) h t = absurd (omega arith)

record ZeroDone (bytes : List ℕ) : Type 0 where
  more : List ℕ
  are : AreBytes more
  whole : bytes ++ more ≡ size 0

zero_cut : (bytes : List ℕ) (f : Fault) → zero_at bytes ≡ Err f → f.reason ≡ reasons.Truncated → (f.place ≡ length bytes) × ZeroDone bytes
unfolding zero_at
zero_cut bytes f e t = by_tests ((is_zero_at bytes 0 && is_zero_at bytes 1) && (is_zero_at bytes 2 && is_zero_at bytes 3)) (nat_lt (length bytes) 4) refl refl e
  where
    by_tests : (a b : Bool) → ((is_zero_at bytes 0 && is_zero_at bytes 1) && (is_zero_at bytes 2 && is_zero_at bytes 3)) ≡ a → nat_lt (length bytes) 4 ≡ b
        → cond a (cond b (cut {X = ℕ} bytes) (is_read (0, 4))) (fault 0 reasons.BadSize) ≡ Err f → (f.place ≡ length bytes) × ZeroDone bytes
    by_tests false b p q h = absurd (other_reason {X = ℕ} 0 reasons.BadSize f not_size h t)
    by_tests true false p q h = absurd (never_read (0, 4) f h)
    by_tests true true p q h = let z = zero_more bytes (shorter (length bytes) 4 q) p in (cut_place {X = ℕ} bytes f h, record { more = z.0; are = z.1; whole = z.2 })

-- a map that tells no kinds
no_map_done : (x y : ℕ) (rest more : List ℕ) → IsKindByte x → IsKindByte y → AreBytes more → rest ++ more ≡ size 0 → Completed map_at (x ∷ y ∷ rest)
no_map_done x y rest more a b are is = record {
  more = more;
  are = are;
  next = spent;
  whole = (λ tail. (
    empty_map,
    ap (λ l. map_at (x ∷ y ∷ (l ++ tail))) is ∙ no_map_again x y tail a b ∙ ap (λ n. is_read (empty_map, n)) (sym (ap (λ l. length (x ∷ y ∷ l)) is)),
    (λ nest. refl),
  ));
}

shifted_cut : (n : ℕ) (scan : Scan Item) (f : Fault) → shifted n scan ≡ Err f → (g : Fault) × (scan ≡ Err g) × (n + g.place ≡ f.place) × (g.reason ≡ f.reason)
shifted_cut n (Ok x) f e = absurd (never_read (x.0, n + x.1) f e)
shifted_cut n (Err g) f e =
    let same = same_fault {X = Item} (record { place = n + g.place; reason = g.reason }) f e in (g, refl, ap (λ (b : Fault). b.place) same, ap (λ (b : Fault). b.reason) same)

unbound_size : (make : ℕ → Item) (scan : Scan ℕ) (f : Fault) → (scan >>= λ x. Ok (make x.0, x.1)) ≡ Err f → scan ≡ Err f
unbound_size make (Ok x) f h = absurd (never_read (make x.0, x.1) f h)
unbound_size make (Err g) f h = ap (λ k. Err k) (same_fault {X = Item} g f h)

-- the levels behind a map's front
map_next : Kind → Kind → ℕ → Bool → List Slot → List Slot
map_next key value n b nest = cond b (spent nest) (slots.Keys key value n ∷ spent nest)

map_after : (key value : Kind) (n : ℕ) (b : Bool) (nest : List Slot) → after (cond b empty_map (map_begin key value n)) nest ≡ map_next key value n b nest
unfolding map_next
map_after key value n true nest = refl
map_after key value n false nest = refl

module _ (x y : ℕ) (rest : List ℕ) (are : AreBytes rest) (gx : is_bad_kind x ≡ false) (gy : is_bad_kind y ≡ false) (g : Fault) (t : g.reason ≡ reasons.Truncated) where
  pairs_cut : (key value : Kind) → kind_of_code x ≡ Some key → kind_of_code y ≡ Some value → map_of (Some key) (Some value) rest ≡ Err g → (g.place ≡ length rest) × Completed map_at (x ∷ y ∷ rest)
  pairs_cut key value kx ky e =
      let c = size_cut rest are g (unbound_size (map_item key value) (size_at rest) g e) t in
      let d = c.1 in
      let n = d.n in
      let six : 6 ≡ length (x ∷ y ∷ (rest ++ d.more)) = omega (arith, d.four) in (
        c.0,
        record {
          more = d.more;
          are = d.are;
          next = map_next key value n (n == 0);
          whole = (λ tail.
              let all = x ∷ y ∷ ((rest ++ d.more) ++ tail) in
              let inner : map_of (Some key) (Some value) ((rest ++ d.more) ++ tail) ≡ Ok (map_item key value n, 4) = ap (λ s. s >>= λ z. Ok (map_item key value z.0, z.1)) (d.whole tail) in
              (map_item key value n, map_scan all (Some key) (Some value) (Ok (map_item key value n, 4)) (omega arith) gx gy kx ky inner ∙ ap (λ k. is_read (map_item key value n, k)) six, map_after key value n (n == 0)));
        },
      )

  zero_of_map : zero_at rest ≡ Err g → (g.place ≡ length rest) × Completed map_at (x ∷ y ∷ rest)
  zero_of_map e = let c = zero_cut rest g e t in (c.0, no_map_done x y rest c.1.more (named_byte x gx) (named_byte y gy) c.1.are c.1.whole)

  kinds_cut : (key value : Option Kind) → kind_of_code x ≡ key → kind_of_code y ≡ value → map_of key value rest ≡ Err g → (g.place ≡ length rest) × Completed map_at (x ∷ y ∷ rest)
  kinds_cut (Some key) (Some value) kx ky e = pairs_cut key value kx ky e
  kinds_cut (Some key) None kx ky e = zero_of_map (unbound_size (λ n. empty_map) (zero_at rest) g e)
  kinds_cut None value kx ky e = zero_of_map (unbound_size (λ n. empty_map) (zero_at rest) g e)

map_cut : (bytes : List ℕ) → AreBytes bytes → IsCut map_at bytes
unfolding map_at
map_cut [] are f e t = (cut_place {X = Item} [] f e, record { more = 0 ∷ 0 ∷ size 0; are = (nil_small, (nil_small, (nil_small, (nil_small, (nil_small, (nil_small, tt)))))); next = spent; whole = (λ tail. (empty_map, no_map_again 0 0 tail (inl refl) (inl refl), (λ nest. refl))) })
map_cut (x ∷ []) are f e t = by_kind (is_bad_kind x) refl e
  where
    by_kind : (b : Bool) → is_bad_kind x ≡ b → cond b (fault {X = Item} 0 reasons.BadKind) (cut (x ∷ [])) ≡ Err f → (f.place ≡ 1) × Completed map_at (x ∷ [])
    by_kind true p h = absurd (other_reason {X = Item} 0 reasons.BadKind f not_kind h t)
    by_kind false p h = (
      cut_place {X = Item} (x ∷ []) f h,
      record {
        more = 0 ∷ size 0;
        are = (nil_small, (nil_small, (nil_small, (nil_small, (nil_small, tt)))));
        next = spent;
        whole = (λ tail. (empty_map, no_map_again x 0 tail (named_byte x p) (inl refl), (λ nest. refl)));
      },
    )
map_cut (x ∷ y ∷ rest) are f e t = by_tests (nat_lt (length (x ∷ y ∷ rest)) 1) (is_bad_kind x) (nat_lt (length (x ∷ y ∷ rest)) 2) (is_bad_kind y) (grind (arith, nat_tests)) refl (grind (arith, nat_tests)) refl e
  where
    by_tests : (a b c d : Bool) → a ≡ false → is_bad_kind x ≡ b → c ≡ false → is_bad_kind y ≡ d
        → cond a (cut {X = Item} (x ∷ y ∷ rest)) (cond b (fault 0 reasons.BadKind) (cond c (cut (x ∷ y ∷ rest)) (cond d (fault 1 reasons.BadKind) (shifted 2 (map_of (kind_of_code x) (kind_of_code y) rest))))) ≡ Err f
        → (f.place ≡ length (x ∷ y ∷ rest)) × Completed map_at (x ∷ y ∷ rest)
    by_tests true b c d p q r s h = absurd (cc)
    by_tests false true c d p q r s h = absurd (other_reason {X = Item} 0 reasons.BadKind f not_kind h t)
    by_tests false false true d p q r s h = absurd (cc)
    by_tests false false false true p q r s h = absurd (other_reason {X = Item} 1 reasons.BadKind f not_kind h t)
    by_tests false false false false p q r s h =
        let g = shifted_cut 2 (map_of (kind_of_code x) (kind_of_code y) rest) f h in
        let c = kinds_cut x y rest are.1.1 q s g.0 (g.3 ∙ t) (kind_of_code x) (kind_of_code y) refl refl g.1 in
        let place = g.2 in
        (omega (arith, place, c.0), c.1)

-- ---- values

by_scan : (scan other : List ℕ → Scan Item) (bytes : List ℕ) → ((l : List ℕ) → scan l ≡ other l) → IsCut other bytes → IsCut scan bytes
by_scan scan other bytes same c f e t =
    let d = c f (sym (same bytes) ∙ e) t in
    (d.0, record { more = d.1.more; are = d.1.are; next = d.1.next; whole = (λ tail. let w = d.1.whole tail in (w.0, same ((bytes ++ d.1.more) ++ tail) ∙ w.1, w.2)) })

-- a value of a kind that opens a level
by_room : (d : ℕ) (k : Kind) (bytes : List ℕ) → nests k ≡ true → IsCut (value_at k) bytes → IsCut (value_in d k) bytes
unfolding value_in
by_room d k bytes n c f e t = by_test (nat_le 256 d) refl (ap (λ b. cond (b && nat_le 256 d) (fault {X = Item} 0 reasons.TooDeep) (value_at k bytes)) (sym n) ∙ e)
  where
    by_test : (b : Bool) → nat_le 256 d ≡ b → cond (true && b) (fault {X = Item} 0 reasons.TooDeep) (value_at k bytes) ≡ Err f → (f.place ≡ length bytes) × Completed (value_in d k) bytes
    by_test true p h = absurd (other_reason {X = Item} 0 reasons.TooDeep f not_deep h t)
    by_test false p h = by_scan (value_in d k) (value_at k) bytes (λ l. opened d k l (room_left d p)) c f (opened d k bytes (room_left d p) ∙ h) t

struct_cut : (bytes : List ℕ) → IsCut (value_at kinds.Struct) bytes
unfolding value_at
struct_cut bytes f e t = absurd (never_read (struct_begin, 0) f e)

value_is : (l : List ℕ) → (value_at kinds.Map l ≡ map_at l) × (value_at kinds.Set l ≡ set_at l) × (value_at kinds.List l ≡ list_at l)
unfolding value_at
value_is l = (refl, refl, refl)

flat_is : (d : ℕ) (l : List ℕ) → (value_in d kinds.Bool l ≡ bool_at l) × (value_in d kinds.I8 l ≡ i8_at l) × (value_in d kinds.I16 l ≡ i16_at l) × (value_in d kinds.I32 l ≡ i32_at l) × (value_in d kinds.I64 l ≡ i64_at l)
    × (value_in d kinds.Double l ≡ double_at l) × (value_in d kinds.Str l ≡ text_at l) × (value_in d kinds.Uuid l ≡ uuid_at l)
unfolding value_in value_at
flat_is d l = (refl, refl, refl, refl, refl, refl, refl, refl)

value_cut : (d : ℕ) (k : Kind) (bytes : List ℕ) → AreBytes bytes → IsCut (value_in d k) bytes
value_cut d kinds.Bool bytes are = by_scan (value_in d kinds.Bool) bool_at bytes (λ l. (flat_is d l).0) (bool_cut bytes)
value_cut d kinds.I8 bytes are = by_scan (value_in d kinds.I8) i8_at bytes (λ l. (flat_is d l).1) (i8_cut bytes)
value_cut d kinds.I16 bytes are = by_scan (value_in d kinds.I16) i16_at bytes (λ l. (flat_is d l).2) (i16_cut bytes)
value_cut d kinds.I32 bytes are = by_scan (value_in d kinds.I32) i32_at bytes (λ l. (flat_is d l).3) (i32_cut bytes)
value_cut d kinds.I64 bytes are = by_scan (value_in d kinds.I64) i64_at bytes (λ l. (flat_is d l).4) (i64_cut bytes)
value_cut d kinds.Double bytes are = by_scan (value_in d kinds.Double) double_at bytes (λ l. (flat_is d l).5) (double_cut bytes)
value_cut d kinds.Str bytes are = by_scan (value_in d kinds.Str) text_at bytes (λ l. (flat_is d l).6) (text_cut bytes are)
value_cut d kinds.Uuid bytes are = by_scan (value_in d kinds.Uuid) uuid_at bytes (λ l. (flat_is d l).7) (uuid_cut bytes)
value_cut d kinds.Struct bytes are = by_room d kinds.Struct bytes refl (struct_cut bytes)
value_cut d kinds.Map bytes are = by_room d kinds.Map bytes refl (by_scan (value_at kinds.Map) map_at bytes (λ l. (value_is l).0) (map_cut bytes are))
value_cut d kinds.Set bytes are = by_room d kinds.Set bytes refl (by_scan (value_at kinds.Set) set_at bytes (λ l. (value_is l).1) (set_cut bytes are))
value_cut d kinds.List bytes are = by_room d kinds.List bytes refl (by_scan (value_at kinds.List) list_at bytes (λ l. (value_is l).2) (list_cut bytes are))

-- ---- fields

field_done : (l more : List ℕ) (k : Kind) (id : ℤ) → AreBytes more → length (l ++ more) ≡ 3 → ((tail : List ℕ) → field_at ((l ++ more) ++ tail) ≡ Ok (field id k, 3)) → Completed field_at l
field_done l more k id are three whole = record {
  more = more;
  are = are;
  next = (λ nest. slots.Value k id ∷ rest_of nest);
  whole = (λ tail. (field id k, whole tail ∙ ap (λ n. is_read (field id k, n)) (sym three), (λ nest. refl)));
}

some_code : (x : ℕ) → (x == 0) ≡ false → 0 < x
some_code x e = grind (arith, nat_tests)

field_more : (x : ℕ) (rest : List ℕ) (k : Kind) → kind_of_code x ≡ Some k → 0 < x → length (x ∷ rest) < 3 → Completed field_at (x ∷ rest)
field_more x [] k is some h =
    let id = signed_at w16 (0 ∷ 0 ∷ []) in field_done (x ∷ []) (0 ∷ 0 ∷ []) k id (nil_small, (nil_small, tt)) refl (λ tail. field_scan (x ∷ 0 ∷ 0 ∷ tail) k id (omega arith) is refl some)
field_more x (b ∷ []) k is some h =
    let id = signed_at w16 (b ∷ 0 ∷ []) in field_done (x ∷ b ∷ []) (0 ∷ []) k id (nil_small, tt) refl (λ tail. field_scan (x ∷ b ∷ 0 ∷ tail) k id (omega arith) is refl some)
field_more x (b ∷ c ∷ rest) k is some h = absurd (omega arith)

field_cut : (bytes : List ℕ) → IsCut field_at bytes
unfolding field_at
field_cut [] f e t = (cut_place {X = Item} [] f e, record { more = 0 ∷ []; are = (nil_small, tt); next = rest_of; whole = (λ tail. (stop, stop_again tail, (λ nest. refl))) })
field_cut (x ∷ rest) f e t = by_tests (nat_lt (length (x ∷ rest)) 1) (x == 0) (grind (arith, nat_tests)) refl e
  where
    by_length : (k : Kind) → kind_of_code x ≡ Some k → 0 < x → (b : Bool) → nat_lt (length (x ∷ rest)) 3 ≡ b → (item : Item) → cond b (cut {X = Item} (x ∷ rest)) (is_read (item, 3)) ≡ Err f → (f.place ≡ length (x ∷ rest)) × Completed field_at (x ∷ rest)
    by_length k is some true p item h = (cut_place {X = Item} (x ∷ rest) f h, field_more x rest k is some (shorter (length (x ∷ rest)) 3 p))
    by_length k is some false p item h = absurd (never_read (item, 3) f h)

    by_kind : (found : Option Kind) → kind_of_code x ≡ found → 0 < x → field_of found (x ∷ rest) ≡ Err f → (f.place ≡ length (x ∷ rest)) × Completed field_at (x ∷ rest)
    by_kind None is some h = absurd (other_reason {X = Item} 0 reasons.BadKind f not_kind h t)
    by_kind (Some k) is some h = by_length k is some (nat_lt (length (x ∷ rest)) 3) refl _ h

    by_tests : (a b : Bool) → a ≡ false → (x == 0) ≡ b → cond a (cut {X = Item} (x ∷ rest)) (cond b (is_read (stop, 1)) (field_of (kind_of_code x) (x ∷ rest))) ≡ Err f → (f.place ≡ length (x ∷ rest)) × Completed field_at (x ∷ rest)
    by_tests true b p q h = absurd (cc)
    by_tests false true p q h = absurd (never_read (stop, 1) f h)
    by_tests false false p q h = by_kind (kind_of_code x) refl (some_code x q) h

-- ---- what a level calls for

called_cut : (d : ℕ) (k : Kind) (b : Bool) (bytes : List ℕ) → AreBytes bytes → IsCut (item_called d (cond b calls.End (calls.Value k))) bytes
called_cut d k true bytes are f e t = absurd (never_read (end, 0) f e)
called_cut d k false bytes are f e t = value_cut d k bytes are f e t

pub item_cut : (d : ℕ) (slot : Slot) (bytes : List ℕ) → AreBytes bytes → IsCut (item_in d slot) bytes
item_cut d (slots.Fields last) bytes are = field_cut bytes
item_cut d (slots.Value k id) bytes are = value_cut d k bytes are
item_cut d (slots.Elements k left) bytes are = called_cut d k (left == 0) bytes are
item_cut d (slots.Keys key value left) bytes are = called_cut d key (left == 0) bytes are
item_cut d (slots.Values key value left) bytes are = value_cut d value bytes are
