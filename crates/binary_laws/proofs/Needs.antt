-- Where a scan is cut short, more bytes are needed: whatever stands behind, what is told then takes in a byte that was not there.
use Rattle.std.proofs.Common.{◌≡◌, ℕ, ◌+◌, ◌<◌, ◌≤◌, ◌^◌, Bool, true, false, cond, List, ◌++◌, length, drop, Option, Some, None, Ok, Err, refl, ap, ◌∙◌, sym, subst, arith, inl, inr, length-drop}
use Rattle.std.specs.Prelude.{nat_lt, nat_le, ◌==◌, ◌&&◌, ◌||◌, slice_index}
use Rattle.std.proofs.lemmas.Bool.Decides.{nat_tests}
use Rattle.std.specs.Int.{w32}
use Rattle.thrift_value.specs.declared.kind.Kind.{Kind}
use Rattle.thrift_value.specs.declared.kind.Kind.TheVariants as kinds
use Rattle.thrift_value.specs.declared.kind.MessageType.{MessageType}
use Rattle.protocol_traits.specs.Heads.{Header}
use Rattle.protocol_traits.specs.declared.fault.Fault.{Fault}
use Rattle.protocol_traits.specs.declared.fault.Reason.{Reason}
use Rattle.protocol_traits.specs.declared.fault.Reason.TheVariants as reasons
use Rattle.protocol_traits.specs.declared.nest.Slot.{Slot}
use Rattle.protocol_traits.specs.declared.nest.Slot.TheVariants as slots
use Rattle.binary_protocol.specs.declared.scan.Called.TheVariants as calls
use Rattle.binary_protocol.specs.Codes.{kind_of_code, type_of_code}
use Rattle.binary_protocol.specs.Scan.{Scan, fault, cut, shifted, ◌>>=◌, unsigned_at, field_at, field_of, bool_at, i8_at, i16_at, i32_at, i64_at, double_at, uuid_at, size_at, size_begun, zero_at, string_at, string_of, text_at, elements_at, elements_of, set_at, list_at, map_at, map_of, is_bad_kind, is_zero_at, nests, value_at, value_in, item_called, item_in}
use Rattle.binary_protocol.specs.Heads.{type_of, type_at, seq_at, version_at, strict_at, old_at, head_at}
use Rattle.binary_laws.specs.Faults.{extent}
use Rattle.binary_laws.proofs.Inverse.{is_read}
use Rattle.binary_laws.proofs.Cutting.{never_read, other_reason, not_kind, not_size, not_bool, not_deep}
use Rattle.binary_laws.proofs.Stable.{Stays, long_test, there, kept, drop_kept, shift_stays, drop_stays, size_stays, zero_stays, string_stays, elements_stays, type_stays, seq_stays, version_stays, no_type, no_seq, no_string}

-- what is told takes in more than so many bytes
abbrev pub Beyond : {X : Type 0} → ℕ → Scan X → Type 0
Beyond n (Ok x) = n < x.1
Beyond n (Err f) = (f.reason ≡ reasons.Truncated → ⊥) → n < f.place + extent f.reason

pub record Needs {X : Type 0} (n : ℕ) (scan longer : Scan X) : Type 0 where
  pub by : (f : Fault) → scan ≡ Err f → f.reason ≡ reasons.Truncated → Beyond n longer

-- what is told stands behind so many bytes
abbrev Behind : {X : Type 0} → ℕ → Scan X → Type 0
Behind n (Ok x) = n ≤ x.1
Behind n (Err f) = n ≤ f.place

-- ---- how scans are put together

cut_beyond : (n : ℕ) (l : List ℕ) → (reasons.Truncated ≡ reasons.Truncated → ⊥) → n < length l + 0
cut_beyond n l other = absurd (other refl)

either_beyond : {X : Type 0} → (b : Bool) (n : ℕ) (x y : Scan X) → Beyond n x → Beyond n y → Beyond n (cond b x y)
either_beyond {X} true n x y p q = p
either_beyond {X} false n x y p q = q

shift_behind : {X : Type 0} → (k : ℕ) (s : Scan X) → Behind k (shifted k s)
shift_behind {X} k (Ok x) = omega arith
shift_behind {X} k (Err f) = omega arith

then_behind : {X Y : Type 0} → (k : ℕ) (s : Scan X) (go : X × ℕ → Scan Y) → Behind k s → ((x : X × ℕ) → Behind x.1 (go x)) → Behind k (s >>= go)
then_behind {X} {Y} k (Err f) go p h = p
then_behind {X} {Y} k (Ok x) go p h = further k x.1 (go x) p (h x)
  where
    further : (k n : ℕ) (s : Scan Y) → k ≤ n → Behind n s → Behind k s
    further k n (Ok y) p q = omega arith
    further k n (Err f) p q = omega arith

then_beyond : {X Y : Type 0} → (n : ℕ) (s : Scan X) (go : X × ℕ → Scan Y) → Beyond n s → ((x : X × ℕ) → Behind x.1 (go x)) → Beyond n (s >>= go)
then_beyond {X} {Y} n (Err f) go p h = p
then_beyond {X} {Y} n (Ok x) go p h = further x.1 (go x) p (h x)
  where
    further : (k : ℕ) (s : Scan Y) → n < k → Behind k s → Beyond n s
    further k (Ok y) p q = omega arith
    further k (Err f) p q = λ other. omega arith

-- a scan further on, where the bytes end before it
past_beyond : {X : Type 0} → (n k : ℕ) (s : Scan X) → n < k → Beyond n (shifted k s)
past_beyond {X} n k (Ok x) h = omega arith
past_beyond {X} n k (Err f) h = λ other. omega arith

shift_beyond : {X : Type 0} → (m k n : ℕ) (s : Scan X) → m ≤ k + n → Beyond n s → Beyond m (shifted k s)
shift_beyond {X} m k n (Ok x) h p = omega arith
shift_beyond {X} m k n (Err f) h p = λ other. let q = p other in omega arith

read_needs : {X : Type 0} → (n : ℕ) (x : X × ℕ) (longer : Scan X) → Needs n (is_read x) longer
read_needs {X} n x longer = record { by = λ f e t. absurd (never_read x f e) }

row_needs : {X : Type 0} → (n p : ℕ) (r : Reason) (longer : Scan X) → (r ≡ reasons.Truncated → ⊥) → Needs n (fault {X = X} p r) longer
row_needs {X} n p r longer differs = record { by = λ f e t. absurd (other_reason {X = X} p r f differs e t) }

any_needs : {X : Type 0} → (n : ℕ) (b : Bool) (x y longer : Scan X) → Needs n x longer → Needs n y longer → Needs n (cond b x y) longer
any_needs {X} n true x y longer p q = p
any_needs {X} n false x y longer p q = q

either_needs : {X : Type 0} → (n : ℕ) (b : Bool) (x y z w : Scan X) → Needs n x z → Needs n y w → Needs n (cond b x y) (cond b z w)
either_needs {X} n true x y z w p q = p
either_needs {X} n false x y z w p q = q

test_needs : {X : Type 0} → (n : ℕ) (b c : Bool) (x y z w : Scan X) → c ≡ b → Needs n x z → Needs n y w → Needs n (cond b x y) (cond c z w)
test_needs {X} n b c x y z w e p q = subst (λ d. Needs n (cond b x y) (cond d z w)) (sym e) (either_needs n b x y z w p q)

length_needs : {X : Type 0} → (l more : List ℕ) (k : ℕ) (y w : Scan X) → (length l < k → Beyond (length l) w) → (k ≤ length l → Needs (length l) y w)
    → Needs (length l) (cond (nat_lt (length l) k) (cut l) y) (cond (nat_lt (length (l ++ more)) k) (cut (l ++ more)) w)
length_needs {X} l more k y w short long = by_test (nat_lt (length l) k) refl
  where
    by_test : (b : Bool) → nat_lt (length l) k ≡ b → Needs (length l) (cond b (cut {X = X} l) y) (cond (nat_lt (length (l ++ more)) k) (cut (l ++ more)) w)
    by_test true e = record { by = λ f g t. either_beyond (nat_lt (length (l ++ more)) k) (length l) (cut (l ++ more)) w (cut_beyond (length l) (l ++ more)) (short (grind (arith, nat_tests))) }
    by_test false e = subst (λ d. Needs (length l) y (cond d (cut (l ++ more)) w)) (sym (long_test l more k e)) (long (there l k e))

then_needs : {X Y : Type 0} → (n : ℕ) (s r : Scan X) (go on : X × ℕ → Scan Y) → Stays s r → Needs n s r → ((x : X × ℕ) → Behind x.1 (on x)) → ((x : X × ℕ) → Needs n (go x) (on x)) → Needs n (s >>= go) (r >>= on)
then_needs {X} {Y} n (Ok x) r go on (inl (f, e, t)) p b h = absurd (cc)
then_needs {X} {Y} n (Ok x) r go on (inr e) p b h = subst (λ z. Needs n (go x) (z >>= on)) (sym e) (h x)
then_needs {X} {Y} n (Err g) r go on st p b h = record { by = λ f e t. then_beyond n r on (p.by g refl (reason_is f e t)) b }
  where
    blame : Scan Y → Fault
    blame (Ok y) = g
    blame (Err f) = f

    reason_is : (f : Fault) → fault {X = Y} g.place g.reason ≡ Err f → f.reason ≡ reasons.Truncated → g.reason ≡ reasons.Truncated
    reason_is f e t = ap (λ s. (blame s).reason) e ∙ t

shift_needs : {X : Type 0} → (m k n : ℕ) (s r : Scan X) → m ≤ k + n → Needs n s r → Needs m (shifted k s) (shifted k r)
shift_needs {X} m k n (Ok x) r h p = record { by = λ f e t. absurd (never_read (x.0, k + x.1) f e) }
shift_needs {X} m k n (Err g) r h p = record { by = λ f e t. shift_beyond m k n r h (p.by g refl (reason_is f e t)) }
  where
    blame : Scan X → Fault
    blame (Ok y) = g
    blame (Err f) = f

    reason_is : (f : Fault) → fault {X = X} (k + g.place) g.reason ≡ Err f → f.reason ≡ reasons.Truncated → g.reason ≡ reasons.Truncated
    reason_is f e t = ap (λ s. (blame s).reason) e ∙ t

-- a scan further on
drop_needs : {X : Type 0} → (scan : List ℕ → Scan X) → ((l more : List ℕ) → Needs (length l) (scan l) (scan (l ++ more))) → (k : ℕ) (l more : List ℕ)
    → Needs (length l) (shifted k (scan (drop k l))) (shifted k (scan (drop k (l ++ more))))
drop_needs {X} scan h k l more = by_test (nat_lt (length l) k) refl
  where
    by_test : (b : Bool) → nat_lt (length l) k ≡ b → Needs (length l) (shifted k (scan (drop k l))) (shifted k (scan (drop k (l ++ more))))
    by_test true e = record { by = λ f g t. past_beyond (length l) k (scan (drop k (l ++ more))) (grind (arith, nat_tests)) }
    by_test false e =
        let size = length-drop k l in
        let less = there l k e in
        shift_needs (length l) k (length (drop k l)) (scan (drop k l)) (scan (drop k (l ++ more))) (omega arith) (subst (λ m. Needs (length (drop k l)) (scan (drop k l)) (scan m)) (sym (drop_kept k l more less)) (h (drop k l) more))

-- ---- values with no level

module _ (l more : List ℕ) where
  bool_needs : Needs (length l) (bool_at l) (bool_at (l ++ more))
  unfolding bool_at
  bool_needs = length_needs l more 1 _ _ (λ h. either_beyond (slice_index (l ++ more) 0 == 0) (length l) _ _ h (either_beyond (slice_index (l ++ more) 0 == 1) (length l) _ _ h (λ other. h)))
      (λ h. any_needs (length l) (slice_index l 0 == 0) _ _ _ (read_needs (length l) _ _) (any_needs (length l) (slice_index l 0 == 1) _ _ _ (read_needs (length l) _ _) (row_needs (length l) 0 reasons.BadBool _ not_bool)))

  i8_needs : Needs (length l) (i8_at l) (i8_at (l ++ more))
  unfolding i8_at
  i8_needs = length_needs l more 1 _ _ (λ h. h) (λ h. read_needs (length l) _ _)

  i16_needs : Needs (length l) (i16_at l) (i16_at (l ++ more))
  unfolding i16_at
  i16_needs = length_needs l more 2 _ _ (λ h. h) (λ h. read_needs (length l) _ _)

  i32_needs : Needs (length l) (i32_at l) (i32_at (l ++ more))
  unfolding i32_at
  i32_needs = length_needs l more 4 _ _ (λ h. h) (λ h. read_needs (length l) _ _)

  i64_needs : Needs (length l) (i64_at l) (i64_at (l ++ more))
  unfolding i64_at
  i64_needs = length_needs l more 8 _ _ (λ h. h) (λ h. read_needs (length l) _ _)

  double_needs : Needs (length l) (double_at l) (double_at (l ++ more))
  unfolding double_at
  double_needs = length_needs l more 8 _ _ (λ h. h) (λ h. read_needs (length l) _ _)

  uuid_needs : Needs (length l) (uuid_at l) (uuid_at (l ++ more))
  unfolding uuid_at
  uuid_needs = length_needs l more 16 _ _ (λ h. h) (λ h. read_needs (length l) _ _)

-- ---- sizes

size_beyond : (n : ℕ) (l : List ℕ) → n < 4 → Beyond n (size_at l)
unfolding size_at
size_beyond n l h =
    either_beyond (nat_lt (length l) 4) n _ _
    (either_beyond (nat_lt (length l) 1) n _ _ (cut_beyond n l) (either_beyond (nat_le 128 (slice_index l 0)) n _ _ (λ other. h) (cut_beyond n l)))
    (either_beyond (nat_lt (unsigned_at w32 l) (2 ^ 31)) n _ _ h (λ other. h))

-- so many bytes hold a whole size
size_whole : (n : ℕ) (l : List ℕ) (longer : Scan ℕ) → nat_lt (length l) 4 ≡ false → Needs n (size_at l) longer
unfolding size_at
size_whole n l longer e =
    subst (λ b. Needs n (cond b (size_begun l) (cond (nat_lt (unsigned_at w32 l) (2 ^ 31)) (is_read (unsigned_at w32 l, 4)) (fault 0 reasons.BadSize))) longer) (sym e)
    (any_needs n (nat_lt (unsigned_at w32 l) (2 ^ 31)) _ _ longer (read_needs n _ longer) (row_needs n 0 reasons.BadSize longer not_size))

size_needs : (l more : List ℕ) → Needs (length l) (size_at l) (size_at (l ++ more))
size_needs l more = by_length (nat_lt (length l) 4) refl
  where
    by_length : (b : Bool) → nat_lt (length l) 4 ≡ b → Needs (length l) (size_at l) (size_at (l ++ more))
    by_length true e = record { by = λ f g t. size_beyond (length l) (l ++ more) (grind (arith, nat_tests)) }
    by_length false e = size_whole (length l) l (size_at (l ++ more)) e

zero_beyond : (n : ℕ) (l : List ℕ) → n < 4 → Beyond n (zero_at l)
unfolding zero_at
zero_beyond n l h = either_beyond ((is_zero_at l 0 && is_zero_at l 1) && (is_zero_at l 2 && is_zero_at l 3)) n _ _ (either_beyond (nat_lt (length l) 4) n _ _ (cut_beyond n l) h) (λ other. h)

zero_whole : (n : ℕ) (l : List ℕ) (longer : Scan ℕ) → nat_lt (length l) 4 ≡ false → Needs n (zero_at l) longer
unfolding zero_at
zero_whole n l longer e =
    subst (λ b. Needs n (cond ((is_zero_at l 0 && is_zero_at l 1) && (is_zero_at l 2 && is_zero_at l 3)) (cond b (cut l) (is_read (0, 4))) (fault 0 reasons.BadSize)) longer) (sym e)
    (any_needs n ((is_zero_at l 0 && is_zero_at l 1) && (is_zero_at l 2 && is_zero_at l 3)) _ _ longer (read_needs n _ longer) (row_needs n 0 reasons.BadSize longer not_size))

zero_needs : (l more : List ℕ) → Needs (length l) (zero_at l) (zero_at (l ++ more))
zero_needs l more = by_length (nat_lt (length l) 4) refl
  where
    by_length : (b : Bool) → nat_lt (length l) 4 ≡ b → Needs (length l) (zero_at l) (zero_at (l ++ more))
    by_length true e = record { by = λ f g t. zero_beyond (length l) (l ++ more) (grind (arith, nat_tests)) }
    by_length false e = zero_whole (length l) l (zero_at (l ++ more)) e

-- ---- strings, lists, sets and maps

string_of_beyond : (n : ℕ) (l : List ℕ) (s : Scan ℕ) → n < 4 → Beyond n s → Beyond n (string_of l s)
string_of_beyond n l (Err f) h p = p
string_of_beyond n l (Ok x) h p = either_beyond (nat_lt (length l) (x.0 + 4)) n _ _ (cut_beyond n l) (omega arith)

string_beyond : (n : ℕ) (l : List ℕ) → n < 4 → Beyond n (string_at l)
unfolding string_at
string_beyond n l h = string_of_beyond n l (size_at l) h (size_beyond n l h)

string_of_needs : (l more : List ℕ) (s r : Scan ℕ) → Stays s r → Needs (length l) s (is_read (0, 0)) → Needs (length l) (string_of l s) (string_of (l ++ more) r)
string_of_needs l more (Ok x) r (inl (f, e, t)) p = absurd (cc)
string_of_needs l more (Ok x) r (inr e) p = subst (λ z. Needs (length l) (string_of l (Ok x)) (string_of (l ++ more) z)) (sym e) (length_needs l more (x.0 + 4) _ _ (λ g. g) (λ g. read_needs (length l) _ _))
string_of_needs l more (Err g) r st p = record { by = λ f e t. let wrong = p.by g refl (ap (λ s. (blame s).reason) e ∙ t) in absurd (omega arith) }
  where
    blame : Scan (List ℕ) → Fault
    blame (Ok y) = g
    blame (Err f) = f

string_needs : (l more : List ℕ) → Needs (length l) (string_at l) (string_at (l ++ more))
unfolding string_at
string_needs l more = by_length (nat_lt (length l) 4) refl
  where
    by_length : (b : Bool) → nat_lt (length l) 4 ≡ b → Needs (length l) (string_of l (size_at l)) (string_of (l ++ more) (size_at (l ++ more)))
    by_length true e = record { by = λ f g t. string_of_beyond (length l) (l ++ more) (size_at (l ++ more)) (grind (arith, nat_tests)) (size_beyond (length l) (l ++ more) (grind (arith, nat_tests))) }
    by_length false e = string_of_needs l more (size_at l) (size_at (l ++ more)) (size_stays l more) (size_whole (length l) l (is_read (0, 0)) e)

text_needs : (l more : List ℕ) → Needs (length l) (text_at l) (text_at (l ++ more))
unfolding text_at
text_needs l more = then_needs (length l) (string_at l) (string_at (l ++ more)) _ _ (string_stays l more) (string_needs l more) (λ x. omega arith) (λ x. read_needs (length l) _ _)

elements_of_beyond : (found : Option Kind) (s : Scan ℕ) → Beyond 0 s → Beyond 0 (elements_of found s)
elements_of_beyond None s p = λ other. omega arith
elements_of_beyond (Some k) (Ok x) p = omega arith
elements_of_beyond (Some k) (Err f) p = λ other. omega arith

elements_of_needs : (m n : ℕ) (found : Option Kind) (s r : Scan ℕ) → m ≤ 1 + n → Needs n s r → Needs m (elements_of found s) (elements_of found r)
elements_of_needs m n None s r h p = row_needs m 0 reasons.BadKind _ not_kind
elements_of_needs m n (Some k) (Ok x) r h p = read_needs m ((k, x.0), 1 + x.1) _
elements_of_needs m n (Some k) (Err g) r h p = record { by = λ f e t. further r (p.by g refl (ap (λ s. (blame s).reason) e ∙ t)) }
  where
    blame : Scan (Kind × ℕ) → Fault
    blame (Ok y) = g
    blame (Err f) = f

    further : (r : Scan ℕ) → Beyond n r → Beyond m (elements_of (Some k) r)
    further (Ok x) q = omega arith
    further (Err f) q = λ other. let c = q other in omega arith

elements_needs : (l more : List ℕ) → Needs (length l) (elements_at l) (elements_at (l ++ more))
unfolding elements_at
elements_needs l more = length_needs l more 1 _ _ (λ h. less_beyond h) (λ h.
    let size = length-drop 1 l in
    subst (λ x. Needs (length l) (elements_of (kind_of_code (slice_index l 0)) (size_at (drop 1 l))) (elements_of (kind_of_code x) (size_at (drop 1 (l ++ more))))) (sym (kept l more 0 h))
    (elements_of_needs (length l) (length (drop 1 l)) (kind_of_code (slice_index l 0)) (size_at (drop 1 l)) (size_at (drop 1 (l ++ more))) (omega arith)
    (subst (λ m. Needs (length (drop 1 l)) (size_at (drop 1 l)) (size_at m)) (sym (drop_kept 1 l more h)) (size_needs (drop 1 l) more))))
  where
    less_beyond : length l < 1 → Beyond (length l) (elements_of (kind_of_code (slice_index (l ++ more) 0)) (size_at (drop 1 (l ++ more))))
    less_beyond h =
        let none : length l ≡ 0 = omega arith in
        subst (λ n. Beyond n (elements_of (kind_of_code (slice_index (l ++ more) 0)) (size_at (drop 1 (l ++ more))))) (sym none)
        (elements_of_beyond (kind_of_code (slice_index (l ++ more) 0)) (size_at (drop 1 (l ++ more))) (size_beyond 0 (drop 1 (l ++ more)) (omega arith)))

set_needs : (l more : List ℕ) → Needs (length l) (set_at l) (set_at (l ++ more))
unfolding set_at
set_needs l more = then_needs (length l) (elements_at l) (elements_at (l ++ more)) _ _ (elements_stays l more) (elements_needs l more) (λ x. omega arith) (λ x. read_needs (length l) _ _)

list_needs : (l more : List ℕ) → Needs (length l) (list_at l) (list_at (l ++ more))
unfolding list_at
list_needs l more = then_needs (length l) (elements_at l) (elements_at (l ++ more)) _ _ (elements_stays l more) (elements_needs l more) (λ x. omega arith) (λ x. read_needs (length l) _ _)

map_of_needs : (key value : Option Kind) (l more : List ℕ) → Needs (length l) (map_of key value l) (map_of key value (l ++ more))
map_of_needs (Some key) (Some value) l more = then_needs (length l) (size_at l) (size_at (l ++ more)) _ _ (size_stays l more) (size_needs l more) (λ x. omega arith) (λ x. read_needs (length l) _ _)
map_of_needs (Some key) None l more = then_needs (length l) (zero_at l) (zero_at (l ++ more)) _ _ (zero_stays l more) (zero_needs l more) (λ x. omega arith) (λ x. read_needs (length l) _ _)
map_of_needs None value l more = then_needs (length l) (zero_at l) (zero_at (l ++ more)) _ _ (zero_stays l more) (zero_needs l more) (λ x. omega arith) (λ x. read_needs (length l) _ _)

map_needs : (l more : List ℕ) → Needs (length l) (map_at l) (map_at (l ++ more))
unfolding map_at
map_needs l more = length_needs l more 1 _ _
    (λ h. either_beyond (is_bad_kind (slice_index (l ++ more) 0)) (length l) _ _ (λ other. h) (either_beyond (nat_lt (length (l ++ more)) 2) (length l) _ _ (cut_beyond (length l) (l ++ more)) (second (omega arith))))
    (λ h.
    let x = kept l more 0 h in
    test_needs (length l) (is_bad_kind (slice_index l 0)) (is_bad_kind (slice_index (l ++ more) 0)) _ _ _ _ (ap (λ c. is_bad_kind c) x) (row_needs (length l) 0 reasons.BadKind _ not_kind) (length_needs l more 2 _ _ second (λ g.
    let y = kept l more 1 g in
    test_needs (length l) (is_bad_kind (slice_index l 1)) (is_bad_kind (slice_index (l ++ more) 1)) _ _ _ _ (ap (λ c. is_bad_kind c) y) (row_needs (length l) 1 reasons.BadKind _ not_kind)
    (subst (λ c. Needs (length l) (shifted 2 (map_of (kind_of_code (slice_index l 0)) (kind_of_code (slice_index l 1)) (drop 2 l))) (shifted 2 (map_of (kind_of_code c) (kind_of_code (slice_index (l ++ more) 1)) (drop 2 (l ++ more))))) (sym x)
    (subst (λ c. Needs (length l) (shifted 2 (map_of (kind_of_code (slice_index l 0)) (kind_of_code (slice_index l 1)) (drop 2 l))) (shifted 2 (map_of (kind_of_code (slice_index l 0)) (kind_of_code c) (drop 2 (l ++ more))))) (sym y)
    (drop_needs (map_of (kind_of_code (slice_index l 0)) (kind_of_code (slice_index l 1))) (map_of_needs (kind_of_code (slice_index l 0)) (kind_of_code (slice_index l 1))) 2 l more))))))
  where
    second : length l < 2 → Beyond (length l) (cond (is_bad_kind (slice_index (l ++ more) 1)) (fault 1 reasons.BadKind) (shifted 2 (map_of (kind_of_code (slice_index (l ++ more) 0)) (kind_of_code (slice_index (l ++ more) 1)) (drop 2 (l ++ more)))))
    second h = either_beyond (is_bad_kind (slice_index (l ++ more) 1)) (length l) _ _ (λ other. h) (past_beyond (length l) 2 _ h)

-- ---- values, fields and ends

value_at_needs : (k : Kind) (l more : List ℕ) → Needs (length l) (value_at k l) (value_at k (l ++ more))
unfolding value_at
value_at_needs kinds.Bool l more = bool_needs l more
value_at_needs kinds.I8 l more = i8_needs l more
value_at_needs kinds.I16 l more = i16_needs l more
value_at_needs kinds.I32 l more = i32_needs l more
value_at_needs kinds.I64 l more = i64_needs l more
value_at_needs kinds.Double l more = double_needs l more
value_at_needs kinds.Str l more = text_needs l more
value_at_needs kinds.Struct l more = read_needs (length l) _ _
value_at_needs kinds.Map l more = map_needs l more
value_at_needs kinds.Set l more = set_needs l more
value_at_needs kinds.List l more = list_needs l more
value_at_needs kinds.Uuid l more = uuid_needs l more

value_needs : (d : ℕ) (k : Kind) (l more : List ℕ) → Needs (length l) (value_in d k l) (value_in d k (l ++ more))
unfolding value_in
value_needs d k l more = either_needs (length l) (nests k && nat_le 256 d) _ _ _ _ (row_needs (length l) 0 reasons.TooDeep _ not_deep) (value_at_needs k l more)

field_of_beyond : (n : ℕ) (found : Option Kind) (l : List ℕ) → n < 1 → Beyond n (field_of found l)
field_of_beyond n None l h = λ other. h
field_of_beyond n (Some k) l h = either_beyond (nat_lt (length l) 3) n _ _ (cut_beyond n l) (omega arith)

field_of_needs : (found : Option Kind) (l more : List ℕ) → Needs (length l) (field_of found l) (field_of found (l ++ more))
field_of_needs None l more = row_needs (length l) 0 reasons.BadKind _ not_kind
field_of_needs (Some k) l more = length_needs l more 3 _ _ (λ h. h) (λ h. read_needs (length l) _ _)

field_needs : (l more : List ℕ) → Needs (length l) (field_at l) (field_at (l ++ more))
unfolding field_at
field_needs l more = length_needs l more 1 _ _ (λ h. either_beyond (slice_index (l ++ more) 0 == 0) (length l) _ _ h (field_of_beyond (length l) (kind_of_code (slice_index (l ++ more) 0)) (l ++ more) h)) (λ h.
    let x = kept l more 0 h in
    test_needs (length l) (slice_index l 0 == 0) (slice_index (l ++ more) 0 == 0) _ _ _ _ (ap (λ c. c == 0) x) (read_needs (length l) _ _)
    (subst (λ c. Needs (length l) (field_of (kind_of_code (slice_index l 0)) l) (field_of (kind_of_code c) (l ++ more))) (sym x) (field_of_needs (kind_of_code (slice_index l 0)) l more)))

called_needs : (d : ℕ) (k : Kind) (b : Bool) (l more : List ℕ) → Needs (length l) (item_called d (cond b calls.End (calls.Value k)) l) (item_called d (cond b calls.End (calls.Value k)) (l ++ more))
called_needs d k true l more = read_needs (length l) _ _
called_needs d k false l more = value_needs d k l more

pub item_needs : (d : ℕ) (slot : Slot) (l more : List ℕ) → Needs (length l) (item_in d slot l) (item_in d slot (l ++ more))
item_needs d (slots.Fields last) l more = field_needs l more
item_needs d (slots.Value k id) l more = value_needs d k l more
item_needs d (slots.Elements k left) l more = called_needs d k (left == 0) l more
item_needs d (slots.Keys key value left) l more = called_needs d key (left == 0) l more
item_needs d (slots.Values key value left) l more = value_needs d value l more

-- ---- the header

type_of_beyond : (n : ℕ) (found : Option MessageType) → n < 1 → Beyond n (type_of found)
type_of_beyond n None h = λ other. h
type_of_beyond n (Some t) h = h

type_of_needs : (n : ℕ) (found : Option MessageType) (longer : Scan MessageType) → Needs n (type_of found) longer
type_of_needs n None longer = row_needs n 0 reasons.BadType longer not_type
  where
    not_type : reasons.BadType ≡ reasons.Truncated → ⊥
    not_type e = absurd (cc)
type_of_needs n (Some t) longer = read_needs n (t, 1) longer

type_beyond : (l : List ℕ) → Beyond 0 (type_at l)
unfolding type_at
type_beyond l = either_beyond (nat_lt (length l) 1) 0 _ _ (cut_beyond 0 l) (type_of_beyond 0 (type_of_code (slice_index l 0)) (omega arith))

type_needs : (l more : List ℕ) → Needs (length l) (type_at l) (type_at (l ++ more))
unfolding type_at
type_needs l more = length_needs l more 1 _ _ (λ h. type_of_beyond (length l) (type_of_code (slice_index (l ++ more) 0)) h) (λ h. type_of_needs (length l) (type_of_code (slice_index l 0)) _)

seq_needs : (l more : List ℕ) → Needs (length l) (seq_at l) (seq_at (l ++ more))
unfolding seq_at
seq_needs l more = length_needs l more 4 _ _ (λ h. h) (λ h. read_needs (length l) _ _)

not_version : reasons.BadVersion ≡ reasons.Truncated → ⊥
not_version e = absurd (cc)

version_beyond : (n : ℕ) (l : List ℕ) → n < 2 → Beyond n (version_at l)
unfolding version_at
version_beyond n l h =
    either_beyond ((slice_index l 0 == 128) && (nat_lt (length l) 2 || (slice_index l 1 == 1))) n _ _ (either_beyond (nat_lt (length l) 4) n _ _ (cut_beyond n l) (past_beyond n 3 (type_at (drop 3 l)) (omega arith))) (λ other. h)

version_long : (l more : List ℕ) → nat_lt (length l) 2 ≡ false → 2 ≤ length l → Needs (length l) (version_at l) (version_at (l ++ more))
unfolding version_at
version_long l more e h =
    test_needs (length l) ((slice_index l 0 == 128) && (nat_lt (length l) 2 || (slice_index l 1 == 1))) ((slice_index (l ++ more) 0 == 128) && (nat_lt (length (l ++ more)) 2 || (slice_index (l ++ more) 1 == 1))) _ _ _ _
    (ap (λ x. (x == 128) && (nat_lt (length (l ++ more)) 2 || (slice_index (l ++ more) 1 == 1))) (kept l more 0 (omega arith)) ∙ ap (λ x. (slice_index l 0 == 128) && (nat_lt (length (l ++ more)) 2 || (x == 1))) (kept l more 1 h)
    ∙ ap (λ b. (slice_index l 0 == 128) && (b || (slice_index l 1 == 1))) (long_test l more 2 e ∙ sym e))
    (length_needs l more 4 _ _ (λ g. shift_beyond (length l) 3 0 (type_at (drop 3 (l ++ more))) (omega arith) (type_beyond (drop 3 (l ++ more)))) (λ g. drop_needs type_at type_needs 3 l more)) (row_needs (length l) 0 reasons.BadVersion _ not_version)

version_needs : (l more : List ℕ) → Needs (length l) (version_at l) (version_at (l ++ more))
version_needs l more = by_length (nat_lt (length l) 2) refl
  where
    by_length : (b : Bool) → nat_lt (length l) 2 ≡ b → Needs (length l) (version_at l) (version_at (l ++ more))
    by_length true e = record { by = λ f g t. version_beyond (length l) (l ++ more) (grind (arith, nat_tests)) }
    by_length false e = version_long l more e (there l 2 e)

-- what stands behind the type, and behind the name
after_type : MessageType × ℕ → List ℕ → Scan Header
after_type t l = shifted t.1 (string_at (drop t.1 l)) >>= λ n. shifted n.1 (seq_at (drop n.1 l)) >>= λ s. Ok (record { name = n.0; mtype = t.0; seq = s.0 }, s.1)

after_name : List ℕ × ℕ → List ℕ → Scan Header
after_name n l = shifted n.1 (type_at (drop n.1 l)) >>= λ t. shifted t.1 (seq_at (drop t.1 l)) >>= λ s. Ok (record { name = n.0; mtype = t.0; seq = s.0 }, s.1)

type_behind : (t : MessageType × ℕ) (l : List ℕ) → Behind t.1 (after_type t l)
unfolding after_type
type_behind t l = then_behind t.1 _ _ (shift_behind t.1 (string_at (drop t.1 l))) (λ n. then_behind n.1 _ _ (shift_behind n.1 (seq_at (drop n.1 l))) (λ s. omega arith))

name_behind : (n : List ℕ × ℕ) (l : List ℕ) → Behind n.1 (after_name n l)
unfolding after_name
name_behind n l = then_behind n.1 _ _ (shift_behind n.1 (type_at (drop n.1 l))) (λ t. then_behind t.1 _ _ (shift_behind t.1 (seq_at (drop t.1 l))) (λ s. omega arith))

strict_beyond : (l : List ℕ) → Beyond 0 (strict_at l)
unfolding strict_at after_type
strict_beyond l = then_beyond 0 (version_at l) (λ t. after_type t l) (version_beyond 0 l (omega arith)) (λ t. type_behind t l)

old_beyond : (l : List ℕ) → Beyond 0 (old_at l)
unfolding old_at after_name
old_beyond l = then_beyond 0 (string_at l) (λ n. after_name n l) (string_beyond 0 l (omega arith)) (λ n. name_behind n l)

strict_needs : (l more : List ℕ) → 1 ≤ length l → Needs (length l) (strict_at l) (strict_at (l ++ more))
unfolding strict_at after_type
strict_needs l more some =
    then_needs (length l) (version_at l) (version_at (l ++ more)) (λ t. after_type t l) (λ t. after_type t (l ++ more)) (version_stays l more some) (version_needs l more) (λ t. type_behind t (l ++ more)) (λ t.
    then_needs (length l) _ _ _ _ (shift_stays t.1 _ _ (drop_stays string_at string_stays no_string t.1 l more)) (drop_needs string_at string_needs t.1 l more) (λ n. then_behind n.1 _ _ (shift_behind n.1 (seq_at (drop n.1 (l ++ more)))) (λ s. omega arith)) (λ n.
    then_needs (length l) _ _ _ _ (shift_stays n.1 _ _ (drop_stays seq_at seq_stays no_seq n.1 l more)) (drop_needs seq_at seq_needs n.1 l more) (λ s. omega arith) (λ s. read_needs (length l) _ _)))

old_needs : (l more : List ℕ) → Needs (length l) (old_at l) (old_at (l ++ more))
unfolding old_at after_name
old_needs l more =
    then_needs (length l) (string_at l) (string_at (l ++ more)) (λ n. after_name n l) (λ n. after_name n (l ++ more)) (string_stays l more) (string_needs l more) (λ n. name_behind n (l ++ more)) (λ n.
    then_needs (length l) _ _ _ _ (shift_stays n.1 _ _ (drop_stays type_at type_stays no_type n.1 l more)) (drop_needs type_at type_needs n.1 l more) (λ t. then_behind t.1 _ _ (shift_behind t.1 (seq_at (drop t.1 (l ++ more)))) (λ s. omega arith)) (λ t.
    then_needs (length l) _ _ _ _ (shift_stays t.1 _ _ (drop_stays seq_at seq_stays no_seq t.1 l more)) (drop_needs seq_at seq_needs t.1 l more) (λ s. omega arith) (λ s. read_needs (length l) _ _)))

pub head_needs : (l more : List ℕ) → Needs (length l) (head_at l) (head_at (l ++ more))
unfolding head_at
head_needs l more = length_needs l more 1 _ _ (λ h. none_beyond (omega arith)) (λ h.
    test_needs (length l) (nat_le 128 (slice_index l 0)) (nat_le 128 (slice_index (l ++ more) 0)) _ _ _ _ (ap (λ c. nat_le 128 c) (kept l more 0 h)) (strict_needs l more h) (old_needs l more))
  where
    none_beyond : length l ≡ 0 → Beyond (length l) (cond (nat_le 128 (slice_index (l ++ more) 0)) (strict_at (l ++ more)) (old_at (l ++ more)))
    none_beyond e =
        subst (λ n. Beyond n (cond (nat_le 128 (slice_index (l ++ more) 0)) (strict_at (l ++ more)) (old_at (l ++ more)))) (sym e)
        (either_beyond (nat_le 128 (slice_index (l ++ more) 0)) 0 _ _ (strict_beyond (l ++ more)) (old_beyond (l ++ more)))
