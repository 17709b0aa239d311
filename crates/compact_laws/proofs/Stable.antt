-- What a scan tells, other than that the bytes end too early, more bytes behind leave as it was.
use Rattle.std.proofs.Common.{◌≡◌, ℕ, ℤ, zero, suc, ◌+◌, ◌-◌, ◌/◌, ◌%◌, ◌<◌, ◌≤◌, ◌^◌, Bool, true, false, cond, List, [], ◌∷◌, ◌++◌, length, take, drop, Option, Some, None, Ok, Err, refl, ap, ◌∙◌, sym, subst, arith, ◌⊎◌, inl, inr, length-append, length-drop}
use Rattle.std.specs.Prelude.{nat_lt, nat_le, ◌==◌, ◌&&◌, Result, reverse, slice_index}
use Rattle.std.proofs.lemmas.Bool.Decides.{nat_tests}
use Rattle.std.proofs.lemmas.List.{get_or_append_left}
use Rattle.std.specs.Int.{w8, cast_signed}
use Rattle.varint_zigzag.specs.declared.fault.VarFault.{VarFault}
use Rattle.varint_zigzag.specs.declared.fault.VarFault.TheVariants.{Short, Bad}
use Rattle.varint_zigzag.specs.Varint.{varint_at, below}
use Rattle.thrift_value.specs.declared.kind.Kind.{Kind}
use Rattle.thrift_value.specs.declared.kind.Kind.TheVariants as kinds
use Rattle.thrift_value.specs.Items.{stop, bool_value, i8_value, double_value, uuid_value}
use Rattle.protocol_traits.specs.declared.fault.Fault.{Fault}
use Rattle.protocol_traits.specs.declared.fault.Reason.TheVariants as reasons
use Rattle.protocol_traits.specs.declared.nest.Slot.{Slot}
use Rattle.protocol_traits.specs.declared.nest.Slot.TheVariants as slots
use Rattle.compact_protocol.specs.Codes.{kind_of, type_of}
use Rattle.compact_protocol.specs.Scan.{Scan, fault, shifted, ◌>>=◌, varint_of, varint16_at, varint32_at, varint64_at, id_at, size_at, string_at, long_field, field_of, field_at, bool_at, i8_at, i16_at, i32_at, i64_at, double_at, text_at, uuid_at, elements_of, elements_at, set_at, list_at, both_kinds, kinds_at, map_at, value_at, value_in, opens, is_bool, field_value, next_of, item_in, type_or_fault, type_at, front_at}
use Rattle.binary_laws.proofs.Inverse.{is_read}

abbrev pub IsTruncated : {X : Type 0} → Scan X → Type 0
IsTruncated scan = (f : Fault) × (scan ≡ Err f) × (f.reason ≡ reasons.Truncated)

abbrev pub Stays : {X : Type 0} → Scan X → Scan X → Type 0
Stays scan longer = IsTruncated scan ⊎ (longer ≡ scan)

abbrev pub cut : {X : Type 0} → ℕ → Scan X
cut place = Err (record { place = place; reason = reasons.Truncated })

-- ---- how scans are put together

pub cut_short : {X : Type 0} → (place : ℕ) (scan longer : Scan X) → scan ≡ cut place → Stays scan longer
cut_short {X} place scan longer e = inl (record { place = place; reason = reasons.Truncated }, e, refl)

either_stays : {X : Type 0} → (b : Bool) (x y z w : Scan X) → Stays x z → Stays y w → Stays (cond b x y) (cond b z w)
either_stays {X} true x y z w p q = p
either_stays {X} false x y z w p q = q

pub long_test : (l more : List ℕ) (n : ℕ) → nat_lt (length l) n ≡ false → nat_lt (length (l ++ more)) n ≡ false
long_test l more n e = let s = length-append l more in grind (arith, nat_tests)

pub there : (l : List ℕ) (n : ℕ) → nat_lt (length l) n ≡ false → n ≤ length l
there l n e = grind (arith, nat_tests)

length_stays : {X : Type 0} → (l more : List ℕ) (n p q : ℕ) (y w : Scan X) → (n ≤ length l → Stays y w) → Stays (cond (nat_lt (length l) n) (cut p) y) (cond (nat_lt (length (l ++ more)) n) (cut q) w)
length_stays {X} l more n p q y w f = by_test (nat_lt (length l) n) refl
  where
    by_test : (b : Bool) → nat_lt (length l) n ≡ b → Stays (cond b (cut {X = X} p) y) (cond (nat_lt (length (l ++ more)) n) (cut q) w)
    by_test true e = cut_short {X = X} p (cut p) _ refl
    by_test false e = subst (λ d. Stays y (cond d (cut q) w)) (sym (long_test l more n e)) (f (there l n e))

then_stays : {X Y : Type 0} → (s r : Scan X) (go on : X × ℕ → Scan Y) → Stays s r → ((x : X × ℕ) → Stays (go x) (on x)) → Stays (s >>= go) (r >>= on)
then_stays {X} {Y} (Ok x) r go on (inl (f, e, t)) h = absurd (cc)
then_stays {X} {Y} (Ok x) r go on (inr e) h = subst (λ z. Stays (go x) (z >>= on)) (sym e) (h x)
then_stays {X} {Y} (Err g) r go on (inl (f, e, t)) h = inl (f, ap (λ (z : Scan X). z >>= go) e, t)
then_stays {X} {Y} (Err g) r go on (inr e) h = inr (ap (λ (z : Scan X). z >>= on) e)

shift_stays : {X : Type 0} → (n : ℕ) (s r : Scan X) → Stays s r → Stays (shifted n s) (shifted n r)
shift_stays {X} n s r (inl (f, e, t)) = inl (record { place = n + f.place; reason = f.reason }, ap (shifted n) e, t)
shift_stays {X} n s r (inr e) = inr (ap (shifted n) e)

-- ---- bytes in front

pub kept : (l more : List ℕ) (i : ℕ) → i < length l → slice_index (l ++ more) i ≡ slice_index l i
kept l more i h = get_or_append_left l more 0 i h

pub take_kept : (n : ℕ) (l more : List ℕ) → n ≤ length l → take n (l ++ more) ≡ take n l
take_kept zero l more h = refl
take_kept (suc n) [] more h = absurd (omega arith)
take_kept (suc n) (x ∷ l) more h = ap (λ r. x ∷ r) (take_kept n l more (omega arith))

pub drop_kept : (n : ℕ) (l more : List ℕ) → n ≤ length l → drop n (l ++ more) ≡ drop n l ++ more
drop_kept zero l more h = refl
drop_kept (suc n) [] more h = absurd (omega arith)
drop_kept (suc n) (x ∷ l) more h = drop_kept n l more (omega arith)

pub drop_none : (n : ℕ) (l : List ℕ) → length l < n → drop n l ≡ []
drop_none zero l h = absurd (omega arith)
drop_none (suc n) [] h = refl
drop_none (suc n) (x ∷ l) h = drop_none n l (omega arith)

-- a scan that no bytes cut short, further on
drop_stays : {X : Type 0} → (scan : List ℕ → Scan X) → ((l more : List ℕ) → Stays (scan l) (scan (l ++ more))) → scan [] ≡ cut 0 → (n : ℕ) (l more : List ℕ) → Stays (scan (drop n l)) (scan (drop n (l ++ more)))
drop_stays {X} scan h none n l more = by_test (nat_lt (length l) n) refl
  where
    by_test : (b : Bool) → nat_lt (length l) n ≡ b → Stays (scan (drop n l)) (scan (drop n (l ++ more)))
    by_test true e = cut_short {X = X} 0 (scan (drop n l)) _ (ap scan (drop_none n l (grind (arith, nat_tests))) ∙ none)
    by_test false e = subst (λ k. Stays (scan (drop n l)) (scan k)) (sym (drop_kept n l more (there l n e))) (h (drop n l) more)

-- ---- numbers

abbrev pub VarStays : Result (ℕ × ℕ) VarFault → Result (ℕ × ℕ) VarFault → Type 0
VarStays found longer = (found ≡ Err Short) ⊎ (longer ≡ found)

below_stays : (low : ℕ) (found longer : Result (ℕ × ℕ) VarFault) → VarStays found longer → VarStays (below low found) (below low longer)
below_stays low found longer (inl e) = inl (ap (below low) e)
below_stays low found longer (inr e) = inr (ap (below low) e)

group_stays : (a c : Bool) (last : ℕ × ℕ) (found longer : Result (ℕ × ℕ) VarFault) → VarStays found longer → VarStays (cond a (Err Bad) (cond c (Ok last) found)) (cond a (Err Bad) (cond c (Ok last) longer))
group_stays true c last found longer h = inr refl
group_stays false true last found longer h = inr refl
group_stays false false last found longer h = h

pub found_stays : (most width : ℕ) (l more : List ℕ) → VarStays (varint_at most width l) (varint_at most width (l ++ more))
found_stays zero width l more = inr refl
found_stays (suc most) width [] more = inl refl
found_stays (suc most) width (b ∷ l) more =
    group_stays (nat_le (2 ^ width) (b % 128)) (nat_lt b 128) (b, 1) (below (b % 128) (varint_at most (width - 7) l)) (below (b % 128) (varint_at most (width - 7) (l ++ more)))
    (below_stays (b % 128) (varint_at most (width - 7) l) (varint_at most (width - 7) (l ++ more)) (found_stays most (width - 7) l more))

of_stays : (p q : ℕ) (found longer : Result (ℕ × ℕ) VarFault) → VarStays found longer → Stays (varint_of p found) (varint_of q longer)
of_stays p q (Ok x) longer (inl e) = absurd (cc)
of_stays p q (Ok x) longer (inr e) = inr (ap (varint_of q) e)
of_stays p q (Err Short) longer h = cut_short {X = ℕ} p (cut p) _ refl
of_stays p q (Err Bad) longer (inl e) = absurd (cc)
of_stays p q (Err Bad) longer (inr e) = inr (ap (varint_of q) e)

varint16_stays : (l more : List ℕ) → Stays (varint16_at l) (varint16_at (l ++ more))
unfolding varint16_at
varint16_stays l more = of_stays (length l) (length (l ++ more)) (varint_at 5 16 l) (varint_at 5 16 (l ++ more)) (found_stays 5 16 l more)

varint32_stays : (l more : List ℕ) → Stays (varint32_at l) (varint32_at (l ++ more))
unfolding varint32_at
varint32_stays l more = of_stays (length l) (length (l ++ more)) (varint_at 5 32 l) (varint_at 5 32 (l ++ more)) (found_stays 5 32 l more)

varint64_stays : (l more : List ℕ) → Stays (varint64_at l) (varint64_at (l ++ more))
unfolding varint64_at
varint64_stays l more = of_stays (length l) (length (l ++ more)) (varint_at 10 64 l) (varint_at 10 64 (l ++ more)) (found_stays 10 64 l more)

id_stays : (l more : List ℕ) → Stays (id_at l) (id_at (l ++ more))
unfolding id_at
id_stays l more = then_stays (varint16_at l) (varint16_at (l ++ more)) _ _ (varint16_stays l more) (λ x. inr refl)

pub size_stays : (l more : List ℕ) → Stays (size_at l) (size_at (l ++ more))
unfolding size_at
size_stays l more = then_stays (varint32_at l) (varint32_at (l ++ more)) _ _ (varint32_stays l more) (λ x. inr refl)

pub no_varint : varint32_at [] ≡ cut 0
unfolding varint32_at
no_varint = refl

pub no_string : string_at [] ≡ cut 0
unfolding string_at size_at varint32_at
no_string = refl

pub no_kinds : kinds_at [] ≡ cut 0
unfolding kinds_at
no_kinds = refl

string_stays : (l more : List ℕ) → Stays (string_at l) (string_at (l ++ more))
unfolding string_at
string_stays l more =
    then_stays (size_at l) (size_at (l ++ more)) _ _ (size_stays l more) (λ x.
    length_stays l more (x.1 + x.0) (length l) (length (l ++ more)) _ _ (λ h.
    inr (ap (λ b. is_read (b, x.1 + x.0)) (ap (take x.0) (drop_kept x.1 l more (omega arith)) ∙ take_kept x.0 (drop x.1 l) more (omega (arith, length-drop x.1 l, h))))))

-- ---- values

first_stays : {X : Type 0} → (scan : List ℕ → Scan X) (one : ℕ → List ℕ → Scan X) → ((l : List ℕ) → scan l ≡ cond (nat_lt (length l) 1) (cut 0) (one (slice_index l 0) l))
    → ((x : ℕ) (l more : List ℕ) → Stays (one x (x ∷ l)) (one x ((x ∷ l) ++ more))) → (l more : List ℕ) → Stays (scan l) (scan (l ++ more))
first_stays {X} scan one is h [] more = cut_short {X = X} 0 (scan []) _ (is [])
first_stays {X} scan one is h (x ∷ l) more =
    subst (λ a. Stays a (scan ((x ∷ l) ++ more))) (sym (is (x ∷ l)))
    (subst (λ b. Stays (cond (nat_lt (length (x ∷ l)) 1) (cut 0) (one x (x ∷ l))) b) (sym (is ((x ∷ l) ++ more))) (length_stays (x ∷ l) more 1 0 0 (one x (x ∷ l)) (one x ((x ∷ l) ++ more)) (λ e. h x l more)))

bool_stays : (l more : List ℕ) → Stays (bool_at l) (bool_at (l ++ more))
unfolding bool_at
bool_stays l more =
    first_stays bool_at (λ x l. cond (x == 1) (is_read (bool_value true, 1)) (cond (x == 2) (is_read (bool_value false, 1)) (cond (x == 0) (is_read (bool_value false, 1)) (fault 0 reasons.BadBool)))) (λ k. refl) (λ x k m. inr refl) l more

i8_stays : (l more : List ℕ) → Stays (i8_at l) (i8_at (l ++ more))
unfolding i8_at
i8_stays l more = first_stays i8_at (λ x l. is_read (i8_value (cast_signed w8 x), 1)) (λ k. refl) (λ x k m. inr refl) l more

i16_stays : (l more : List ℕ) → Stays (i16_at l) (i16_at (l ++ more))
unfolding i16_at
i16_stays l more = then_stays (id_at l) (id_at (l ++ more)) _ _ (id_stays l more) (λ x. inr refl)

i32_stays : (l more : List ℕ) → Stays (i32_at l) (i32_at (l ++ more))
unfolding i32_at
i32_stays l more = then_stays (varint32_at l) (varint32_at (l ++ more)) _ _ (varint32_stays l more) (λ x. inr refl)

i64_stays : (l more : List ℕ) → Stays (i64_at l) (i64_at (l ++ more))
unfolding i64_at
i64_stays l more = then_stays (varint64_at l) (varint64_at (l ++ more)) _ _ (varint64_stays l more) (λ x. inr refl)

double_stays : (l more : List ℕ) → Stays (double_at l) (double_at (l ++ more))
unfolding double_at
double_stays l more = length_stays l more 8 (length l) (length (l ++ more)) _ _ (λ h. inr (ap (λ b. is_read (double_value (reverse b), 8)) (take_kept 8 l more h)))

uuid_stays : (l more : List ℕ) → Stays (uuid_at l) (uuid_at (l ++ more))
unfolding uuid_at
uuid_stays l more = length_stays l more 16 (length l) (length (l ++ more)) _ _ (λ h. inr (ap (λ b. is_read (uuid_value b, 16)) (take_kept 16 l more h)))

text_stays : (l more : List ℕ) → Stays (text_at l) (text_at (l ++ more))
unfolding text_at
text_stays l more = then_stays (string_at l) (string_at (l ++ more)) _ _ (string_stays l more) (λ x. inr refl)

-- ---- containers

elements_of_stays : (found : Option Kind) (x : ℕ) (l more : List ℕ) → Stays (elements_of (x ∷ l) found) (elements_of ((x ∷ l) ++ more) found)
elements_of_stays None x l more = inr refl
elements_of_stays (Some k) x l more = either_stays (nat_lt (x / 16) 15) _ _ _ _ (inr refl) (then_stays (shifted 1 (size_at l)) (shifted 1 (size_at (l ++ more))) _ _ (shift_stays 1 (size_at l) (size_at (l ++ more)) (size_stays l more)) (λ y. inr refl))

elements_stays : (l more : List ℕ) → Stays (elements_at l) (elements_at (l ++ more))
unfolding elements_at
elements_stays l more = first_stays elements_at (λ x k. elements_of k (kind_of (x % 16))) (λ k. refl) (λ x k m. elements_of_stays (kind_of (x % 16)) x k m) l more

set_stays : (l more : List ℕ) → Stays (set_at l) (set_at (l ++ more))
unfolding set_at
set_stays l more = then_stays (elements_at l) (elements_at (l ++ more)) _ _ (elements_stays l more) (λ x. inr refl)

list_stays : (l more : List ℕ) → Stays (list_at l) (list_at (l ++ more))
unfolding list_at
list_stays l more = then_stays (elements_at l) (elements_at (l ++ more)) _ _ (elements_stays l more) (λ x. inr refl)

kinds_stays : (l more : List ℕ) → Stays (kinds_at l) (kinds_at (l ++ more))
unfolding kinds_at
kinds_stays l more = first_stays kinds_at (λ x k. both_kinds (kind_of (x / 16)) (kind_of (x % 16))) (λ k. refl) (λ x k m. inr refl) l more

map_stays : (l more : List ℕ) → Stays (map_at l) (map_at (l ++ more))
unfolding map_at
map_stays l more =
    then_stays (size_at l) (size_at (l ++ more)) _ _ (size_stays l more)
    (λ x. either_stays (x.0 == 0) _ _ _ _ (inr refl) (then_stays _ _ _ _ (shift_stays x.1 _ _ (drop_stays kinds_at kinds_stays no_kinds x.1 l more)) (λ y. inr refl)))

value_at_stays : (k : Kind) (l more : List ℕ) → Stays (value_at k l) (value_at k (l ++ more))
unfolding value_at
value_at_stays kinds.Bool l more = bool_stays l more
value_at_stays kinds.I8 l more = i8_stays l more
value_at_stays kinds.I16 l more = i16_stays l more
value_at_stays kinds.I32 l more = i32_stays l more
value_at_stays kinds.I64 l more = i64_stays l more
value_at_stays kinds.Double l more = double_stays l more
value_at_stays kinds.Str l more = text_stays l more
value_at_stays kinds.Struct l more = inr refl
value_at_stays kinds.Map l more = map_stays l more
value_at_stays kinds.Set l more = set_stays l more
value_at_stays kinds.List l more = list_stays l more
value_at_stays kinds.Uuid l more = uuid_stays l more

value_stays : (d : ℕ) (k : Kind) (l more : List ℕ) → Stays (value_in d k l) (value_in d k (l ++ more))
unfolding value_in
value_stays d k l more = either_stays (opens k && nat_le 256 d) _ _ _ _ (inr refl) (value_at_stays k l more)

-- ---- fields and ends

field_of_stays : (last : ℤ) (found : Option Kind) (x : ℕ) (l more : List ℕ) → Stays (field_of last (x ∷ l) found) (field_of last ((x ∷ l) ++ more) found)
unfolding long_field
field_of_stays last None x l more = inr refl
field_of_stays last (Some k) x l more = either_stays (x / 16 == 0) _ _ _ _ (then_stays (shifted 1 (id_at l)) (shifted 1 (id_at (l ++ more))) _ _ (shift_stays 1 (id_at l) (id_at (l ++ more)) (id_stays l more)) (λ y. inr refl)) (inr refl)

field_stays : (last : ℤ) (l more : List ℕ) → Stays (field_at last l) (field_at last (l ++ more))
unfolding field_at
field_stays last l more =
    first_stays (field_at last) (λ x k. cond (x == 0) (is_read (stop, 1)) (field_of last k (kind_of (x % 16)))) (λ k. refl) (λ x k m. either_stays (x == 0) _ _ _ _ (inr refl) (field_of_stays last (kind_of (x % 16)) x k m)) l more

next_stays : (d : ℕ) (k : Kind) (left : ℕ) (l more : List ℕ) → Stays (next_of d k left l) (next_of d k left (l ++ more))
unfolding next_of
next_stays d k left l more = either_stays (left == 0) _ _ _ _ (inr refl) (value_stays d k l more)

field_value_stays : (d : ℕ) (k : Kind) (flag : Bool) (l more : List ℕ) → Stays (field_value d k flag l) (field_value d k flag (l ++ more))
unfolding field_value
field_value_stays d k flag l more = either_stays (is_bool k) _ _ _ _ (inr refl) (value_stays d k l more)

pub item_stays : (d : ℕ) (slot : Slot) (flag : Bool) (l more : List ℕ) → Stays (item_in d slot flag l) (item_in d slot flag (l ++ more))
unfolding item_in
item_stays d (slots.Fields last) flag l more = field_stays last l more
item_stays d (slots.Value k id) flag l more = field_value_stays d k flag l more
item_stays d (slots.Elements k left) flag l more = next_stays d k left l more
item_stays d (slots.Keys key value left) flag l more = next_stays d key left l more
item_stays d (slots.Values key value left) flag l more = value_stays d value l more

-- ---- headers

version_stays : (x : ℕ) (l more : List ℕ) → Stays (cond (x == 130) (cond (nat_lt (length (x ∷ l)) 2) (cut 1) (cond (slice_index (x ∷ l) 1 % 32 == 1) (type_or_fault (type_of (slice_index (x ∷ l) 1 / 32))) (fault 1 reasons.BadVersion))) (fault 0 reasons.BadVersion))
    (cond (x == 130) (cond (nat_lt (length ((x ∷ l) ++ more)) 2) (cut 1) (cond (slice_index ((x ∷ l) ++ more) 1 % 32 == 1) (type_or_fault (type_of (slice_index ((x ∷ l) ++ more) 1 / 32))) (fault 1 reasons.BadVersion))) (fault 0 reasons.BadVersion))
version_stays x l more =
    either_stays (x == 130) _ _ _ _ (length_stays (x ∷ l) more 2 1 1 _ _ (λ h. inr (ap (λ y. cond (y % 32 == 1) (type_or_fault (type_of (y / 32))) (fault 1 reasons.BadVersion)) (kept (x ∷ l) more 1 h)))) (inr refl)

pub type_stays : (l more : List ℕ) → Stays (type_at l) (type_at (l ++ more))
unfolding type_at
type_stays l more =
    first_stays type_at (λ x k. cond (x == 130) (cond (nat_lt (length k) 2) (cut 1) (cond (slice_index k 1 % 32 == 1) (type_or_fault (type_of (slice_index k 1 / 32))) (fault 1 reasons.BadVersion))) (fault 0 reasons.BadVersion)) (λ k. refl) (λ x k m. version_stays x k m) l more

pub front_stays : (l more : List ℕ) → Stays (front_at l) (front_at (l ++ more))
unfolding front_at
front_stays l more = then_stays (type_at l) (type_at (l ++ more)) _ _ (type_stays l more) (λ t. then_stays _ _ _ _ (shift_stays t.1 _ _ (drop_stays varint32_at varint32_stays no_varint t.1 l more)) (λ n. inr refl))

-- the name behind so many bytes
pub name_stays : (at : ℕ) (l more : List ℕ) → Stays (string_at (drop at l)) (string_at (drop at (l ++ more)))
name_stays at l more = drop_stays string_at string_stays no_string at l more
