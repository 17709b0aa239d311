-- What a scan tells with more bytes behind is what it told, or it was cut short and now takes in a byte that was not there.
use Rattle.std.proofs.Common.{◌≡◌, ℕ, ℤ, zero, suc, ◌+◌, ◌-◌, ◌*◌, ◌/◌, ◌%◌, ◌<◌, ◌≤◌, ◌^◌, Bool, true, false, cond, List, [], ◌∷◌, ◌++◌, length, take, drop, Option, Some, None, Ok, Err, refl, ap, ◌∙◌, sym, subst, arith, ◌⊎◌, inl, inr, length-drop}
use Rattle.std.specs.Prelude.{⊤, nat_lt, nat_le, ◌==◌, ◌&&◌, Result, reverse, slice_index}
use Rattle.std.proofs.lemmas.Bool.Decides.{nat_tests}
use Rattle.std.specs.Int.{w8, cast_signed}
use Rattle.varint_zigzag.specs.declared.fault.VarFault.{VarFault}
use Rattle.varint_zigzag.specs.declared.fault.VarFault.TheVariants.{Short, Bad}
use Rattle.varint_zigzag.specs.Varint.{varint_at, below}
use Rattle.thrift_value.specs.declared.kind.Kind.{Kind}
use Rattle.thrift_value.specs.declared.kind.Kind.TheVariants as kinds
use Rattle.thrift_value.specs.declared.kind.MessageType.{MessageType}
use Rattle.thrift_value.specs.Items.{stop, bool_value, i8_value, double_value, uuid_value}
use Rattle.protocol_traits.specs.declared.fault.Fault.{Fault}
use Rattle.protocol_traits.specs.declared.fault.Reason.TheVariants as reasons
use Rattle.protocol_traits.specs.declared.nest.Slot.{Slot}
use Rattle.protocol_traits.specs.declared.nest.Slot.TheVariants as slots
use Rattle.compact_protocol.specs.Codes.{kind_of, type_of}
use Rattle.compact_protocol.specs.Scan.{Scan, fault, shifted, ◌>>=◌, varint_of, varint16_at, varint32_at, varint64_at, id_at, size_at, string_at, short_field, long_field, field_of, field_at, bool_at, i8_at, i16_at, i32_at, i64_at, double_at, text_at, uuid_at, elements_of, elements_at, set_at, list_at, both_kinds, kinds_at, map_at, value_at, value_in, opens, is_bool, field_value, next_of, item_in, type_or_fault, type_at, front_at}
use Rattle.binary_laws.proofs.Inverse.{is_read}
use Rattle.compact_laws.specs.Extent.{varint_end, extent}
use Rattle.compact_laws.proofs.Short.{bad_apart, read_apart, behind_short, of_var}
use Rattle.compact_laws.proofs.Stable.{IsTruncated, cut, VarStays, long_test, there, kept, take_kept, drop_kept, drop_none, found_stays, no_varint, no_string, no_kinds}

-- what is told of these bytes takes in more than so many of them
abbrev pub Beyond : {X : Type 0} → ℕ → List ℕ → Scan X → Type 0
Beyond n bytes (Ok x) = n < x.1
Beyond n bytes (Err f) = (f.reason ≡ reasons.Truncated → ⊥) → n < f.place + extent f.reason (drop f.place bytes)

-- what so many bytes of these told, and what all of them tell
abbrev pub Grows : {X : Type 0} → ℕ → List ℕ → Scan X → Scan X → Type 0
Grows n bytes scan longer = (IsTruncated scan × Beyond n bytes longer) ⊎ (longer ≡ scan)

-- what is told stands behind so many bytes
abbrev Behind : {X : Type 0} → ℕ → Scan X → Type 0
Behind n (Ok x) = n ≤ x.1
Behind n (Err f) = (f.reason ≡ reasons.Truncated → ⊥) → n ≤ f.place

abbrev pub Growing : {X : Type 0} → (List ℕ → Scan X) → Type 0
Growing scan = (l more : List ℕ) → Grows (length l) (l ++ more) (scan l) (scan (l ++ more))

-- ---- how scans are put together

cut_beyond : (X : Type 0) (n p : ℕ) (bytes : List ℕ) → Beyond {X = X} n bytes (cut p)
cut_beyond X n p bytes = λ other. absurd (other refl)

cut_behind : (X : Type 0) (n p : ℕ) → Behind {X = X} n (cut p)
cut_behind X n p = λ other. absurd (other refl)

cut_grows : {X : Type 0} → (n p : ℕ) (bytes : List ℕ) (longer : Scan X) → Beyond n bytes longer → Grows n bytes (cut p) longer
cut_grows {X} n p bytes longer b = inl ((record { place = p; reason = reasons.Truncated }, refl, refl), b)

either_beyond : {X : Type 0} → (b : Bool) (n : ℕ) (bytes : List ℕ) (x y : Scan X) → Beyond n bytes x → Beyond n bytes y → Beyond n bytes (cond b x y)
either_beyond {X} true n bytes x y p q = p
either_beyond {X} false n bytes x y p q = q

either_behind : {X : Type 0} → (b : Bool) (n : ℕ) (x y : Scan X) → Behind n x → Behind n y → Behind n (cond b x y)
either_behind {X} true n x y p q = p
either_behind {X} false n x y p q = q

shift_behind : {X : Type 0} → (k : ℕ) (s : Scan X) → Behind k (shifted k s)
shift_behind {X} k (Ok x) = omega arith
shift_behind {X} k (Err f) = λ other. omega arith

then_behind : {X Y : Type 0} → (k : ℕ) (s : Scan X) (go : X × ℕ → Scan Y) → Behind k s → ((x : X × ℕ) → Behind x.1 (go x)) → Behind k (s >>= go)
then_behind {X} {Y} k (Err f) go p h = p
then_behind {X} {Y} k (Ok x) go p h = further k x.1 (go x) p (h x)
  where
    further : (k n : ℕ) (s : Scan Y) → k ≤ n → Behind n s → Behind k s
    further k n (Ok y) p q = omega arith
    further k n (Err f) p q = λ other. let less = q other in omega arith

then_beyond : {X Y : Type 0} → (n : ℕ) (bytes : List ℕ) (s : Scan X) (go : X × ℕ → Scan Y) → Beyond n bytes s → ((x : X × ℕ) → Behind x.1 (go x)) → Beyond n bytes (s >>= go)
then_beyond {X} {Y} n bytes (Err f) go p h = p
then_beyond {X} {Y} n bytes (Ok x) go p h = further x.1 (go x) p (h x)
  where
    further : (k : ℕ) (s : Scan Y) → n < k → Behind k s → Beyond n bytes s
    further k (Ok y) p q = omega arith
    further k (Err f) p q = λ other. let less = q other in omega arith

-- a scan further on, where the bytes end before it
past_beyond : {X : Type 0} → (n k : ℕ) (bytes : List ℕ) (s : Scan X) → n < k → Beyond n bytes (shifted k s)
past_beyond {X} n k bytes (Ok x) h = omega arith
past_beyond {X} n k bytes (Err f) h = λ other. omega arith

drop_nil : (n : ℕ) → drop {A = ℕ} n [] ≡ []
drop_nil zero = refl
drop_nil (suc n) = refl

pub drop_on : (k p : ℕ) (l : List ℕ) → drop (k + p) l ≡ drop p (drop k l)
drop_on zero p l = ap (λ n. drop n l) (omega arith)
drop_on (suc k) p [] = drop_nil (suc k + p) ∙ sym (drop_nil p)
drop_on (suc k) p (x ∷ l) = ap (λ n. drop n (x ∷ l)) same ∙ drop_on k p l
  where
    same : suc k + p ≡ suc (k + p)
    same = omega arith

shift_beyond : {X : Type 0} → (m k n : ℕ) (bytes : List ℕ) (s : Scan X) → m ≤ k + n → Beyond n (drop k bytes) s → Beyond m bytes (shifted k s)
shift_beyond {X} m k n bytes (Ok x) h p = omega arith
shift_beyond {X} m k n bytes (Err f) h p = λ other. let q = p other in let same = ap (extent f.reason) (drop_on k f.place bytes) in omega (arith, h, q, same)

either_grows : {X : Type 0} → (n : ℕ) (bytes : List ℕ) (b : Bool) (x y z w : Scan X) → Grows n bytes x z → Grows n bytes y w → Grows n bytes (cond b x y) (cond b z w)
either_grows {X} n bytes true x y z w p q = p
either_grows {X} n bytes false x y z w p q = q

length_grows : {X : Type 0} → (l more : List ℕ) (k p q : ℕ) (y w : Scan X) → (length l < k → Beyond (length l) (l ++ more) w) → (k ≤ length l → Grows (length l) (l ++ more) y w)
    → Grows (length l) (l ++ more) (cond (nat_lt (length l) k) (cut p) y) (cond (nat_lt (length (l ++ more)) k) (cut q) w)
length_grows {X} l more k p q y w short long = by_test (nat_lt (length l) k) refl
  where
    by_test : (b : Bool) → nat_lt (length l) k ≡ b → Grows (length l) (l ++ more) (cond b (cut {X = X} p) y) (cond (nat_lt (length (l ++ more)) k) (cut q) w)
    by_test true e = cut_grows (length l) p (l ++ more) _ (either_beyond (nat_lt (length (l ++ more)) k) (length l) (l ++ more) (cut q) w (cut_beyond X (length l) q (l ++ more)) (short (grind (arith, nat_tests))))
    by_test false e = subst (λ d. Grows (length l) (l ++ more) y (cond d (cut q) w)) (sym (long_test l more k e)) (long (there l k e))

then_grows : {X Y : Type 0} → (n : ℕ) (bytes : List ℕ) (s r : Scan X) (go on : X × ℕ → Scan Y) → Grows n bytes s r → ((x : X × ℕ) → Behind x.1 (on x)) → ((x : X × ℕ) → Grows n bytes (go x) (on x)) → Grows n bytes (s >>= go) (r >>= on)
then_grows {X} {Y} n bytes (Ok x) r go on (inl ((f, e, t), p)) b h = absurd (cc)
then_grows {X} {Y} n bytes (Ok x) r go on (inr e) b h = subst (λ z. Grows n bytes (go x) (z >>= on)) (sym e) (h x)
then_grows {X} {Y} n bytes (Err g) r go on (inl ((f, e, t), p)) b h = inl ((f, ap (λ (z : Scan X). z >>= go) e, t), then_beyond n bytes r on p b)
then_grows {X} {Y} n bytes (Err g) r go on (inr e) b h = inr (ap (λ (z : Scan X). z >>= on) e)

shift_grows : {X : Type 0} → (m k n : ℕ) (bytes : List ℕ) (s r : Scan X) → m ≤ k + n → Grows n (drop k bytes) s r → Grows m bytes (shifted k s) (shifted k r)
shift_grows {X} m k n bytes s r h (inl ((f, e, t), p)) = inl ((record { place = k + f.place; reason = f.reason }, ap (shifted k) e, t), shift_beyond m k n bytes r h p)
shift_grows {X} m k n bytes s r h (inr e) = inr (ap (shifted k) e)

-- a scan further on
drop_grows : {X : Type 0} → (scan : List ℕ → Scan X) → Growing scan → scan [] ≡ cut 0 → (k : ℕ) (l more : List ℕ) → Grows (length l) (l ++ more) (shifted k (scan (drop k l))) (shifted k (scan (drop k (l ++ more))))
drop_grows {X} scan h none k l more = by_test (nat_lt (length l) k) refl
  where
    by_test : (b : Bool) → nat_lt (length l) k ≡ b → Grows (length l) (l ++ more) (shifted k (scan (drop k l))) (shifted k (scan (drop k (l ++ more))))
    by_test true e =
        inl ((record { place = k + 0; reason = reasons.Truncated }, ap (shifted k) (ap scan (drop_none k l (grind (arith, nat_tests))) ∙ none), refl), past_beyond (length l) k (l ++ more) (scan (drop k (l ++ more))) (grind (arith, nat_tests)))
    by_test false e =
        let size = length-drop k l in
        let less = there l k e in
        shift_grows (length l) k (length (drop k l)) (l ++ more) (scan (drop k l)) (scan (drop k (l ++ more))) (omega arith)
        (subst (λ m. Grows (length (drop k l)) m (scan (drop k l)) (scan m)) (sym (drop_kept k l more less)) (h (drop k l) more))

-- ---- numbers

abbrev VarBeyond : ℕ → ℕ → List ℕ → Result (ℕ × ℕ) VarFault → Type 0
VarBeyond n most bytes (Ok x) = n < x.1
VarBeyond n most bytes (Err Short) = ⊤
VarBeyond n most bytes (Err Bad) = n < varint_end most bytes

ends_on : (top : ℕ) (b : ℕ) (bytes : List ℕ) → 0 < varint_end (suc top) (b ∷ bytes)
ends_on top b bytes = by_last (nat_lt b 128)
  where
    by_last : (c : Bool) → 0 < cond c 1 (suc (varint_end top bytes))
    by_last true = omega arith
    by_last false = omega arith

first_beyond : (most top width b : ℕ) (bytes : List ℕ) → VarBeyond 0 (suc top) (b ∷ bytes) (varint_at (suc most) width (b ∷ bytes))
first_beyond most top width b bytes = by_tests (nat_le (2 ^ width) (b % 128)) (nat_lt b 128) (varint_at most (width - 7) bytes)
  where
    by_tests : (p q : Bool) (found : Result (ℕ × ℕ) VarFault) → VarBeyond 0 (suc top) (b ∷ bytes) (cond p (Err Bad) (cond q (Ok (b, 1)) (below (b % 128) found)))
    by_tests true q found = ends_on top b bytes
    by_tests false true found = omega arith
    by_tests false false (Ok x) = omega arith
    by_tests false false (Err Short) = tt
    by_tests false false (Err Bad) = ends_on top b bytes

next_beyond : (n top b : ℕ) (bytes : List ℕ) (found : Result (ℕ × ℕ) VarFault) → nat_lt b 128 ≡ false → VarBeyond n top bytes found → VarBeyond (suc n) (suc top) (b ∷ bytes) (below (b % 128) found)
next_beyond n top b bytes (Ok x) e p = omega arith
next_beyond n top b bytes (Err Short) e p = tt
next_beyond n top b bytes (Err Bad) e p = subst (λ c. suc n < cond c 1 (suc (varint_end top bytes))) (sym e) (omega arith)

found_beyond : (most top width : ℕ) → most ≤ top → (l more : List ℕ) → varint_at most width l ≡ Err Short → VarBeyond (length l) top (l ++ more) (varint_at most width (l ++ more))
found_beyond zero top width h l more e = absurd (bad_apart e)
found_beyond (suc most) zero width h l more e = absurd (omega arith)
found_beyond (suc most) (suc top) width h [] [] e = tt
found_beyond (suc most) (suc top) width h [] (c ∷ more) e = first_beyond most top width c more
found_beyond (suc most) (suc top) width h (b ∷ l) more e =
    by_tests (nat_le (2 ^ width) (b % 128)) (nat_lt b 128) refl e (λ k. found_beyond most top (width - 7) (omega arith) l more k)
  where
    longer : Result (ℕ × ℕ) VarFault
    longer = varint_at most (width - 7) (l ++ more)

    by_tests : (p q : Bool) → nat_lt b 128 ≡ q → cond p (Err Bad) (cond q (Ok (b, 1)) (below (b % 128) (varint_at most (width - 7) l))) ≡ of_var Short
        → (varint_at most (width - 7) l ≡ Err Short → VarBeyond (length l) top (l ++ more) longer) → VarBeyond (suc (length l)) (suc top) (b ∷ (l ++ more)) (cond p (Err Bad) (cond q (Ok (b, 1)) (below (b % 128) longer)))
    by_tests true q s t go = absurd (bad_apart t)
    by_tests false true s t go = absurd (read_apart _ t)
    by_tests false false s t go = next_beyond (length l) top b (l ++ more) longer s (go (behind_short (b % 128) (varint_at most (width - 7) l) t))

var_beyond : (n q : ℕ) (bytes : List ℕ) (longer : Result (ℕ × ℕ) VarFault) → VarBeyond n 10 bytes longer → Beyond n bytes (varint_of q longer)
var_beyond n q bytes (Ok x) p = p
var_beyond n q bytes (Err Short) p = cut_beyond ℕ n q bytes
var_beyond n q bytes (Err Bad) p = λ other. omega (arith, p)

of_grows : (n p q : ℕ) (bytes : List ℕ) (found longer : Result (ℕ × ℕ) VarFault) → VarStays found longer → (found ≡ Err Short → VarBeyond n 10 bytes longer) → Grows n bytes (varint_of p found) (varint_of q longer)
of_grows n p q bytes (Ok x) longer (inl e) b = absurd (cc)
of_grows n p q bytes (Ok x) longer (inr e) b = inr (ap (varint_of q) e)
of_grows n p q bytes (Err Short) longer h b = cut_grows {X = ℕ} n p bytes (varint_of q longer) (var_beyond n q bytes longer (b refl))
of_grows n p q bytes (Err Bad) longer (inl e) b = absurd (cc)
of_grows n p q bytes (Err Bad) longer (inr e) b = inr (ap (varint_of q) e)

varint_grows : (most width : ℕ) → most ≤ 10 → (l more : List ℕ) → Grows (length l) (l ++ more) (varint_of (length l) (varint_at most width l)) (varint_of (length (l ++ more)) (varint_at most width (l ++ more)))
varint_grows most width few l more =
    of_grows (length l) (length l) (length (l ++ more)) (l ++ more) (varint_at most width l) (varint_at most width (l ++ more)) (found_stays most width l more) (found_beyond most 10 width few l more)

varint16_grows : Growing varint16_at
unfolding varint16_at
varint16_grows l more = varint_grows 5 16 (omega arith) l more

varint32_grows : Growing varint32_at
unfolding varint32_at
varint32_grows l more = varint_grows 5 32 (omega arith) l more

varint64_grows : Growing varint64_at
unfolding varint64_at
varint64_grows l more = varint_grows 10 64 (omega arith) l more

id_grows : Growing id_at
unfolding id_at
id_grows l more = then_grows (length l) (l ++ more) (varint16_at l) (varint16_at (l ++ more)) _ _ (varint16_grows l more) (λ x. omega arith) (λ x. inr refl)

-- ---- sizes

bad_read : (x : ℕ × ℕ) → of_var Bad ≡ Ok x → ⊥
bad_read x e = absurd (cc)

short_read : (x : ℕ × ℕ) → of_var Short ≡ Ok x → ⊥
short_read x e = absurd (cc)

abbrev got_place : ℕ → Result (ℕ × ℕ) VarFault → ℕ
got_place n (Ok x) = x.1
got_place n (Err f) = n

abbrev is_number : ℕ × ℕ → Result (ℕ × ℕ) VarFault
is_number x = Ok x

same_place : (x y : ℕ × ℕ) → is_number x ≡ Ok y → x.1 ≡ y.1
same_place x y e = ap (got_place 0) e

-- a varint that is read goes as far as it was read
pub whole_end : (most width : ℕ) (l : List ℕ) (x : ℕ × ℕ) → varint_at most width l ≡ Ok x → varint_end most l ≡ x.1
whole_end zero width l x e = absurd (bad_read x e)
whole_end (suc most) width [] x e = absurd (short_read x e)
whole_end (suc most) width (b ∷ l) x e = by_tests (nat_le (2 ^ width) (b % 128)) (nat_lt b 128) (varint_at most (width - 7) l) refl e (λ y k. whole_end most (width - 7) l y k)
  where
    by_tests : (p q : Bool) (found : Result (ℕ × ℕ) VarFault) → varint_at most (width - 7) l ≡ found → cond p (Err Bad) (cond q (Ok (b, 1)) (below (b % 128) found)) ≡ is_number x
        → ((y : ℕ × ℕ) → varint_at most (width - 7) l ≡ Ok y → varint_end most l ≡ y.1) → cond q 1 (suc (varint_end most l)) ≡ x.1
    by_tests true q found s t go = absurd (bad_read x t)
    by_tests false true found s t go = same_place (b, 1) x t
    by_tests false false (Ok y) s t go = let same = go y s in let here = same_place (b % 128 + 128 * y.0, y.1 + 1) x t in omega (arith, same, here)
    by_tests false false (Err Short) s t go = absurd (short_read x t)
    by_tests false false (Err Bad) s t go = absurd (bad_read x t)

abbrev sized : ℕ × ℕ → Scan ℕ
sized n = cond (nat_lt n.0 2147483648) (Ok n) (fault 0 reasons.BadSize)

size_beyond : (n : ℕ) (bytes : List ℕ) → Beyond n bytes (varint32_at bytes) → Beyond n bytes (size_at bytes)
unfolding size_at varint32_at
size_beyond n bytes p = by_found (varint_at 5 32 bytes) refl p
  where
    by_found : (found : Result (ℕ × ℕ) VarFault) → varint_at 5 32 bytes ≡ found → Beyond n bytes (varint_of (length bytes) found) → Beyond n bytes (varint_of (length bytes) found >>= sized)
    by_found (Ok x) e p = let whole = whole_end 5 32 bytes x e in either_beyond (nat_lt x.0 2147483648) n bytes (is_read x) (fault 0 reasons.BadSize) p (λ other. omega (arith, p, whole))
    by_found (Err Short) e p = p
    by_found (Err Bad) e p = p

pub size_grows : Growing size_at
unfolding size_at
size_grows l more = by_number (varint32_grows l more)
  where
    then_sized : (s r : Scan ℕ) → s ≡ r → (s >>= sized) ≡ (r >>= sized)
    then_sized s r e = ap (λ (z : Scan ℕ). z >>= sized) e

    by_number : Grows (length l) (l ++ more) (varint32_at l) (varint32_at (l ++ more)) → Grows (length l) (l ++ more) (varint32_at l >>= sized) (varint32_at (l ++ more) >>= sized)
    by_number (inl ((f, e, t), p)) = inl ((f, then_sized (varint32_at l) (Err f) e, t), size_beyond (length l) (l ++ more) p)
    by_number (inr e) = inr (then_sized (varint32_at (l ++ more)) (varint32_at l) e)

string_behind : (l : List ℕ) (x : ℕ × ℕ) → Behind x.1 (cond (nat_lt (length l) (x.1 + x.0)) (cut (length l)) (is_read (take x.0 (drop x.1 l), x.1 + x.0)))
string_behind l x = either_behind (nat_lt (length l) (x.1 + x.0)) x.1 (cut (length l)) _ (cut_behind (List ℕ) x.1 (length l)) (omega arith)

string_grows : Growing string_at
unfolding string_at
string_grows l more =
    then_grows (length l) (l ++ more) (size_at l) (size_at (l ++ more)) _ _ (size_grows l more) (string_behind (l ++ more)) (λ x.
    length_grows l more (x.1 + x.0) (length l) (length (l ++ more)) _ _ (λ h. h) (λ h.
    inr (ap (λ b. is_read (b, x.1 + x.0)) (ap (take x.0) (drop_kept x.1 l more (omega arith)) ∙ take_kept x.0 (drop x.1 l) more (omega (arith, length-drop x.1 l, h))))))

-- ---- values

long_one : {X : Type 0} → (x : ℕ) (l : List ℕ) (a b : Scan X) → cond (nat_lt (length (x ∷ l)) 1) a b ≡ b
long_one {X} x l a b = by_test (nat_lt (length (x ∷ l)) 1) refl
  where
    by_test : (c : Bool) → nat_lt (length (x ∷ l)) 1 ≡ c → cond c a b ≡ b
    by_test true e = absurd (grind (arith, nat_tests))
    by_test false e = refl

-- a scan of a first byte and what follows
first_grows : {X : Type 0} → (scan : List ℕ → Scan X) (one : ℕ → List ℕ → Scan X) → ((l : List ℕ) → scan l ≡ cond (nat_lt (length l) 1) (cut 0) (one (slice_index l 0) l))
    → ((x : ℕ) (l : List ℕ) → Beyond 0 (x ∷ l) (one x (x ∷ l))) → ((x : ℕ) (l more : List ℕ) → Grows (length (x ∷ l)) ((x ∷ l) ++ more) (one x (x ∷ l)) (one x ((x ∷ l) ++ more))) → Growing scan
first_grows {X} scan one is some h [] [] = inr refl
first_grows {X} scan one is some h [] (y ∷ more) =
    inl ((record { place = 0; reason = reasons.Truncated }, is [], refl), subst (λ s. Beyond 0 (y ∷ more) s) (sym (is (y ∷ more) ∙ long_one y more (cut 0) (one y (y ∷ more)))) (some y more))
first_grows {X} scan one is some h (x ∷ l) more =
    subst (λ a. Grows (length (x ∷ l)) ((x ∷ l) ++ more) a (scan ((x ∷ l) ++ more))) (sym (is (x ∷ l) ∙ long_one x l (cut 0) (one x (x ∷ l))))
    (subst (λ b. Grows (length (x ∷ l)) ((x ∷ l) ++ more) (one x (x ∷ l)) b) (sym (is ((x ∷ l) ++ more) ∙ long_one x (l ++ more) (cut 0) (one x ((x ∷ l) ++ more)))) (h x l more))

bool_grows : Growing bool_at
unfolding bool_at
bool_grows l more =
    first_grows bool_at (λ x l. cond (x == 1) (is_read (bool_value true, 1)) (cond (x == 2) (is_read (bool_value false, 1)) (cond (x == 0) (is_read (bool_value false, 1)) (fault 0 reasons.BadBool)))) (λ k. refl)
    (λ x k. either_beyond (x == 1) 0 (x ∷ k) _ _ (omega arith) (either_beyond (x == 2) 0 (x ∷ k) _ _ (omega arith) (either_beyond (x == 0) 0 (x ∷ k) _ _ (omega arith) (λ other. omega arith)))) (λ x k m. inr refl) l more

i8_grows : Growing i8_at
unfolding i8_at
i8_grows l more = first_grows i8_at (λ x l. is_read (i8_value (cast_signed w8 x), 1)) (λ k. refl) (λ x k. omega arith) (λ x k m. inr refl) l more

i16_grows : Growing i16_at
unfolding i16_at
i16_grows l more = then_grows (length l) (l ++ more) (id_at l) (id_at (l ++ more)) _ _ (id_grows l more) (λ x. omega arith) (λ x. inr refl)

i32_grows : Growing i32_at
unfolding i32_at
i32_grows l more = then_grows (length l) (l ++ more) (varint32_at l) (varint32_at (l ++ more)) _ _ (varint32_grows l more) (λ x. omega arith) (λ x. inr refl)

i64_grows : Growing i64_at
unfolding i64_at
i64_grows l more = then_grows (length l) (l ++ more) (varint64_at l) (varint64_at (l ++ more)) _ _ (varint64_grows l more) (λ x. omega arith) (λ x. inr refl)

double_grows : Growing double_at
unfolding double_at
double_grows l more = length_grows l more 8 (length l) (length (l ++ more)) _ _ (λ h. h) (λ h. inr (ap (λ b. is_read (double_value (reverse b), 8)) (take_kept 8 l more h)))

uuid_grows : Growing uuid_at
unfolding uuid_at
uuid_grows l more = length_grows l more 16 (length l) (length (l ++ more)) _ _ (λ h. h) (λ h. inr (ap (λ b. is_read (uuid_value b, 16)) (take_kept 16 l more h)))

text_grows : Growing text_at
unfolding text_at
text_grows l more = then_grows (length l) (l ++ more) (string_at l) (string_at (l ++ more)) _ _ (string_grows l more) (λ x. omega arith) (λ x. inr refl)

-- ---- containers

elements_of_beyond : (found : Option Kind) (x : ℕ) (l : List ℕ) → Beyond 0 (x ∷ l) (elements_of (x ∷ l) found)
elements_of_beyond None x l = λ other. omega arith
elements_of_beyond (Some k) x l = either_beyond (nat_lt (x / 16) 15) 0 (x ∷ l) _ _ (omega arith) (then_beyond 0 (x ∷ l) (shifted 1 (size_at l)) _ (past_beyond 0 1 (x ∷ l) (size_at l) (omega arith)) (λ y. omega arith))

elements_of_grows : (found : Option Kind) (x : ℕ) (l more : List ℕ) → Grows (length (x ∷ l)) ((x ∷ l) ++ more) (elements_of (x ∷ l) found) (elements_of ((x ∷ l) ++ more) found)
elements_of_grows None x l more = inr refl
elements_of_grows (Some k) x l more =
    let n = length (x ∷ l) in
    let bytes = (x ∷ l) ++ more in
    either_grows n bytes (nat_lt (x / 16) 15) _ _ _ _ (inr refl)
    (then_grows n bytes (shifted 1 (size_at l)) (shifted 1 (size_at (l ++ more))) _ _ (shift_grows n 1 (length l) bytes (size_at l) (size_at (l ++ more)) (omega arith) (size_grows l more)) (λ y. omega arith) (λ y. inr refl))

elements_grows : Growing elements_at
unfolding elements_at
elements_grows l more = first_grows elements_at (λ x k. elements_of k (kind_of (x % 16))) (λ k. refl) (λ x k. elements_of_beyond (kind_of (x % 16)) x k) (λ x k m. elements_of_grows (kind_of (x % 16)) x k m) l more

set_grows : Growing set_at
unfolding set_at
set_grows l more = then_grows (length l) (l ++ more) (elements_at l) (elements_at (l ++ more)) _ _ (elements_grows l more) (λ x. omega arith) (λ x. inr refl)

list_grows : Growing list_at
unfolding list_at
list_grows l more = then_grows (length l) (l ++ more) (elements_at l) (elements_at (l ++ more)) _ _ (elements_grows l more) (λ x. omega arith) (λ x. inr refl)

kinds_beyond : (key value : Option Kind) (bytes : List ℕ) → Beyond 0 bytes (both_kinds key value)
kinds_beyond None value bytes = λ other. omega arith
kinds_beyond (Some key) None bytes = λ other. omega arith
kinds_beyond (Some key) (Some value) bytes = omega arith

kinds_grows : Growing kinds_at
unfolding kinds_at
kinds_grows l more = first_grows kinds_at (λ x k. both_kinds (kind_of (x / 16)) (kind_of (x % 16))) (λ k. refl) (λ x k. kinds_beyond (kind_of (x / 16)) (kind_of (x % 16)) (x ∷ k)) (λ x k m. inr refl) l more

map_grows : Growing map_at
unfolding map_at
map_grows l more =
    then_grows (length l) (l ++ more) (size_at l) (size_at (l ++ more)) _ _ (size_grows l more)
    (λ x. either_behind (x.0 == 0) x.1 _ _ (omega arith) (then_behind x.1 _ _ (shift_behind x.1 (kinds_at (drop x.1 (l ++ more)))) (λ y. omega arith)))
    (λ x. either_grows (length l) (l ++ more) (x.0 == 0) _ _ _ _ (inr refl) (then_grows (length l) (l ++ more) _ _ _ _ (drop_grows kinds_at kinds_grows no_kinds x.1 l more) (λ y. omega arith) (λ y. inr refl)))

value_at_grows : (k : Kind) → Growing (value_at k)
unfolding value_at
value_at_grows kinds.Bool l more = bool_grows l more
value_at_grows kinds.I8 l more = i8_grows l more
value_at_grows kinds.I16 l more = i16_grows l more
value_at_grows kinds.I32 l more = i32_grows l more
value_at_grows kinds.I64 l more = i64_grows l more
value_at_grows kinds.Double l more = double_grows l more
value_at_grows kinds.Str l more = text_grows l more
value_at_grows kinds.Struct l more = inr refl
value_at_grows kinds.Map l more = map_grows l more
value_at_grows kinds.Set l more = set_grows l more
value_at_grows kinds.List l more = list_grows l more
value_at_grows kinds.Uuid l more = uuid_grows l more

value_grows : (d : ℕ) (k : Kind) → Growing (value_in d k)
unfolding value_in
value_grows d k l more = either_grows (length l) (l ++ more) (opens k && nat_le 256 d) _ _ _ _ (inr refl) (value_at_grows k l more)

-- ---- fields and ends

short_beyond : (k : Kind) (id : Option ℤ) (bytes : List ℕ) → Beyond 0 bytes (short_field k id)
short_beyond k None bytes = λ other. omega arith
short_beyond k (Some id) bytes = omega arith

field_of_beyond : (last : ℤ) (found : Option Kind) (x : ℕ) (l : List ℕ) → Beyond 0 (x ∷ l) (field_of last (x ∷ l) found)
unfolding long_field
field_of_beyond last None x l = λ other. omega arith
field_of_beyond last (Some k) x l = either_beyond (x / 16 == 0) 0 (x ∷ l) _ _ (then_beyond 0 (x ∷ l) (shifted 1 (id_at l)) _ (past_beyond 0 1 (x ∷ l) (id_at l) (omega arith)) (λ y. omega arith)) (short_beyond k _ (x ∷ l))

field_of_grows : (last : ℤ) (found : Option Kind) (x : ℕ) (l more : List ℕ) → Grows (length (x ∷ l)) ((x ∷ l) ++ more) (field_of last (x ∷ l) found) (field_of last ((x ∷ l) ++ more) found)
unfolding long_field
field_of_grows last None x l more = inr refl
field_of_grows last (Some k) x l more =
    let n = length (x ∷ l) in
    let bytes = (x ∷ l) ++ more in
    either_grows n bytes (x / 16 == 0) _ _ _ _
    (then_grows n bytes (shifted 1 (id_at l)) (shifted 1 (id_at (l ++ more))) _ _ (shift_grows n 1 (length l) bytes (id_at l) (id_at (l ++ more)) (omega arith) (id_grows l more)) (λ y. omega arith) (λ y. inr refl)) (inr refl)

field_grows : (last : ℤ) → Growing (field_at last)
unfolding field_at
field_grows last l more =
    first_grows (field_at last) (λ x k. cond (x == 0) (is_read (stop, 1)) (field_of last k (kind_of (x % 16)))) (λ k. refl)
    (λ x k. either_beyond (x == 0) 0 (x ∷ k) _ _ (omega arith) (field_of_beyond last (kind_of (x % 16)) x k)) (λ x k m. either_grows _ _ (x == 0) _ _ _ _ (inr refl) (field_of_grows last (kind_of (x % 16)) x k m)) l more

next_grows : (d : ℕ) (k : Kind) (left : ℕ) → Growing (next_of d k left)
unfolding next_of
next_grows d k left l more = either_grows (length l) (l ++ more) (left == 0) _ _ _ _ (inr refl) (value_grows d k l more)

field_value_grows : (d : ℕ) (k : Kind) (flag : Bool) → Growing (field_value d k flag)
unfolding field_value
field_value_grows d k flag l more = either_grows (length l) (l ++ more) (is_bool k) _ _ _ _ (inr refl) (value_grows d k l more)

pub item_grows : (d : ℕ) (slot : Slot) (flag : Bool) → Growing (item_in d slot flag)
unfolding item_in
item_grows d (slots.Fields last) flag l more = field_grows last l more
item_grows d (slots.Value k id) flag l more = field_value_grows d k flag l more
item_grows d (slots.Elements k left) flag l more = next_grows d k left l more
item_grows d (slots.Keys key value left) flag l more = next_grows d key left l more
item_grows d (slots.Values key value left) flag l more = value_grows d value l more

-- ---- headers

typed_beyond : (n : ℕ) (found : Option MessageType) (bytes : List ℕ) → n < 2 → Beyond n bytes (type_or_fault found)
typed_beyond n None bytes h = λ other. omega arith
typed_beyond n (Some t) bytes h = h

abbrev versioned : ℕ → Scan MessageType
versioned y = cond (y % 32 == 1) (type_or_fault (type_of (y / 32))) (fault 1 reasons.BadVersion)

versioned_beyond : (n y : ℕ) (bytes : List ℕ) → n < 2 → Beyond n bytes (versioned y)
versioned_beyond n y bytes h = either_beyond (y % 32 == 1) n bytes _ (fault 1 reasons.BadVersion) (typed_beyond n (type_of (y / 32)) bytes h) (λ other. omega arith)

abbrev typed : ℕ → List ℕ → Scan MessageType
typed x k = cond (x == 130) (cond (nat_lt (length k) 2) (cut 1) (versioned (slice_index k 1))) (fault 0 reasons.BadVersion)

typed_first : (x : ℕ) (l : List ℕ) → Beyond 0 (x ∷ l) (typed x (x ∷ l))
typed_first x l =
    either_beyond (x == 130) 0 (x ∷ l) _ (fault 0 reasons.BadVersion)
    (either_beyond (nat_lt (length (x ∷ l)) 2) 0 (x ∷ l) (cut 1) _ (cut_beyond MessageType 0 1 (x ∷ l)) (versioned_beyond 0 (slice_index (x ∷ l) 1) (x ∷ l) (omega arith))) (λ other. omega arith)

typed_grows : (x : ℕ) (l more : List ℕ) → Grows (length (x ∷ l)) ((x ∷ l) ++ more) (typed x (x ∷ l)) (typed x ((x ∷ l) ++ more))
typed_grows x l more =
    either_grows _ _ (x == 130) _ _ _ _
    (length_grows (x ∷ l) more 2 1 1 (versioned (slice_index (x ∷ l) 1)) (versioned (slice_index ((x ∷ l) ++ more) 1)) (versioned_beyond (length (x ∷ l)) (slice_index ((x ∷ l) ++ more) 1) ((x ∷ l) ++ more))
    (λ h. inr (ap versioned (kept (x ∷ l) more 1 h)))) (inr refl)

pub type_grows : Growing type_at
unfolding type_at
type_grows l more = first_grows type_at typed (λ k. refl) typed_first typed_grows l more

pub front_grows : Growing front_at
unfolding front_at
front_grows l more =
    then_grows (length l) (l ++ more) (type_at l) (type_at (l ++ more)) _ _ (type_grows l more) (λ t. then_behind t.1 _ _ (shift_behind t.1 (varint32_at (drop t.1 (l ++ more)))) (λ n. omega arith))
    (λ t. then_grows (length l) (l ++ more) _ _ _ _ (drop_grows varint32_at varint32_grows no_varint t.1 l more) (λ n. omega arith) (λ n. inr refl))

-- the type, the number and the name
abbrev pub header_at : List ℕ → Scan (List ℕ)
header_at l = front_at l >>= λ t. shifted t.1 (string_at (drop t.1 l))

pub header_grows : (l more : List ℕ) → Grows (length l) (l ++ more) (header_at l) (header_at (l ++ more))
header_grows l more =
    then_grows (length l) (l ++ more) (front_at l) (front_at (l ++ more)) _ _ (front_grows l more) (λ t. shift_behind t.1 (string_at (drop t.1 (l ++ more)))) (λ t. drop_grows string_at string_grows no_string t.1 l more)

-- ---- a scan that was cut short

reason_in : {X : Type 0} → Fault → Scan X → Fault
reason_in {X} f (Ok x) = f
reason_in {X} f (Err g) = g

pub needs : {X : Type 0} → (n : ℕ) (bytes : List ℕ) (scan longer : Scan X) (f : Fault) → Grows n bytes scan longer → scan ≡ Err f → f.reason ≡ reasons.Truncated → Beyond n bytes longer
needs {X} n bytes scan longer f (inl p) e t = p.1
needs {X} n bytes scan longer f (inr same) e t = subst (λ z. Beyond n bytes z) (sym (same ∙ e)) (λ other. absurd (other t))
