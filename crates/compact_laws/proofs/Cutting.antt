-- An item that the bytes end inside is completed to a whole one.
use Rattle.std.proofs.Common.{◌≡◌, ℕ, ℤ, pos, ◌-◌, ◌/◌, ◌%◌, ◌<◌, Bool, true, false, cond, List, [], ◌∷◌, ◌++◌, length, take, Option, Some, None, Ok, Err, refl, ap, ◌∙◌, sym, subst, arith, inl, inr, length-append}
use Rattle.std.specs.Prelude.{nat_lt, nat_le, ◌==◌, ◌&&◌, reverse, int_lt, ◌+ℤ◌, slice_index}
use Rattle.std.proofs.lemmas.Bool.Decides.{nat_tests}
use Rattle.std.proofs.lemmas.Int.{ints}
use Rattle.std.specs.Int.{w8, cast_signed}
use Rattle.thrift_value.specs.declared.kind.Kind.{Kind}
use Rattle.thrift_value.specs.declared.kind.Kind.TheVariants as kinds
use Rattle.thrift_value.specs.Items.{Item, field, stop, bool_value, i8_value, i16_value, i32_value, i64_value, double_value, text, struct_begin, empty_map, map_begin, set_begin, list_begin, end, uuid_value}
use Rattle.varint_zigzag.specs.Varint.{Spells}
use Rattle.varint_zigzag.specs.Zigzag.{unfolded}
use Rattle.protocol_traits.specs.declared.fault.Fault.{Fault}
use Rattle.protocol_traits.specs.declared.fault.Reason.TheVariants as reasons
use Rattle.protocol_traits.specs.declared.nest.Slot.{Slot}
use Rattle.protocol_traits.specs.declared.nest.Slot.TheVariants as slots
use Rattle.compact_protocol.specs.Codes.{kind_of}
use Rattle.compact_protocol.specs.Scan.{Scan, fault, shifted, varint32_at, varint64_at, id_at, string_at, elements_at, bool_at, i8_at, i16_at, i32_at, i64_at, double_at, uuid_at, text_at, set_at, list_at, map_at, value_at, value_in, opens, is_bool, next_id, short_field, long_field, field_of, field_at, field_value, next_of, item_in}
use Rattle.compact_protocol.specs.Grammar.{IsSmall, IsWord, IsLong, IsSize, IsString, IsElementsHeader, IsPairsHeader}
use Rattle.gate_base.specs.Bytes.{AreBytes}
use Rattle.binary_laws.proofs.Inverse.{is_read}
use Rattle.binary_laws.proofs.Begun.{room_left}
use Rattle.binary_laws.proofs.Cutting.{never_read, other_reason, cut_place, shorter, zeros, zeros_small, zeros_long}
use Rattle.compact_laws.proofs.Leaves.{IsCode, kind_again, bool_again, i8_again, i16_again, i32_again, i64_again, eight_scan, sixteen_again, text_again, set_again, list_again, map_again, no_map_again, field_again, stop_again}
use Rattle.compact_laws.proofs.Inverse.{word_of, long_of, kind_is}
use Rattle.compact_laws.proofs.Walking.{opened}
use Rattle.compact_laws.proofs.Short.{Filled, filled_as, nil_small, not_kind, first_fault, shift_fault, varint32_cut, varint64_cut, id_cut, string_cut, elements_cut, MapFilled, map_cut}

-- some bytes make the item whole, whatever follows
pub record Completed (scan : List ℕ → Scan Item) (bytes : List ℕ) : Type 0 where
  pub more : List ℕ
  pub are : AreBytes more
  pub item : Item
  pub whole : (tail : List ℕ) → scan ((bytes ++ more) ++ tail) ≡ Ok (item, length (bytes ++ more))

-- where the scan is cut short, it is at the end of the bytes, and they can be completed
abbrev pub IsCut : (List ℕ → Scan Item) → List ℕ → Type 0
IsCut scan bytes = (f : Fault) → scan bytes ≡ Err f → f.reason ≡ reasons.Truncated → (f.place ≡ length bytes) × Completed scan bytes

completed : (P : List ℕ → Type 0) (scan : List ℕ → Scan Item) (bytes : List ℕ) (item : Item) → Filled P bytes → ((l tail : List ℕ) → P l → scan (l ++ tail) ≡ Ok (item, length l)) → Completed scan bytes
completed P scan bytes item f again = record { more = f.more; are = f.are; item = item; whole = (λ tail. again (bytes ++ f.more) tail f.spells) }

not_bool : reasons.BadBool ≡ reasons.Truncated → ⊥
not_bool e = absurd (cc)

not_deep : reasons.TooDeep ≡ reasons.Truncated → ⊥
not_deep e = absurd (cc)

not_id : reasons.BadId ≡ reasons.Truncated → ⊥
not_id e = absurd (cc)

-- ---- scans that begin with a byte

-- a scan that is cut where no byte stands, and nowhere else
one_cut : (scan : List ℕ → Scan Item) (one : ℕ → List ℕ → Scan Item) → ((l : List ℕ) → scan l ≡ cond (nat_lt (length l) 1) (fault 0 reasons.Truncated) (one (slice_index l 0) l)) → Completed scan []
    → ((x : ℕ) (l : List ℕ) → AreBytes (x ∷ l) → (f : Fault) → one x (x ∷ l) ≡ Err f → f.reason ≡ reasons.Truncated → (f.place ≡ length (x ∷ l)) × Completed scan (x ∷ l)) → (bytes : List ℕ) → AreBytes bytes → IsCut scan bytes
one_cut scan one is none some bytes are f e t = by_first bytes are (nat_lt (length bytes) 1) refl (sym (is bytes) ∙ e)
  where
    by_first : (l : List ℕ) → AreBytes l → (b : Bool) → nat_lt (length l) 1 ≡ b → cond b (fault 0 reasons.Truncated) (one (slice_index l 0) l) ≡ Err f → (f.place ≡ length l) × Completed scan l
    by_first [] h true p k = (cut_place {X = Item} [] f k, none)
    by_first [] h false p k = absurd (grind (arith, nat_tests, p))
    by_first (x ∷ l) h true p k = absurd (grind (arith, nat_tests, p))
    by_first (x ∷ l) h false p k = some x l h f k t

bool_value_at : ℕ → Scan Item
bool_value_at x = cond (x == 1) (is_read (bool_value true, 1)) (cond (x == 2) (is_read (bool_value false, 1)) (cond (x == 0) (is_read (bool_value false, 1)) (fault 0 reasons.BadBool)))

never_bool : (x : ℕ) (f : Fault) → bool_value_at x ≡ Err f → f.reason ≡ reasons.Truncated → ⊥
unfolding bool_value_at
never_bool x f e t = by_value (x == 1) (x == 2) (x == 0) e
  where
    by_value : (a b c : Bool) → cond a (is_read (bool_value true, 1)) (cond b (is_read (bool_value false, 1)) (cond c (is_read (bool_value false, 1)) (fault 0 reasons.BadBool))) ≡ Err f → ⊥
    by_value true b c h = never_read (bool_value true, 1) f h
    by_value false true c h = never_read (bool_value false, 1) f h
    by_value false false true h = never_read (bool_value false, 1) f h
    by_value false false false h = other_reason {X = Item} 0 reasons.BadBool f not_bool h t

bool_is : (l : List ℕ) → bool_at l ≡ cond (nat_lt (length l) 1) (fault 0 reasons.Truncated) (bool_value_at (slice_index l 0))
unfolding bool_at bool_value_at
bool_is l = refl

bool_cut : (bytes : List ℕ) → AreBytes bytes → IsCut bool_at bytes
bool_cut bytes are = one_cut bool_at (λ x l. bool_value_at x) bool_is (record { more = 0 ∷ []; are = (nil_small, tt); item = bool_value false; whole = (λ tail. bool_again false 0 tail (inr refl)) }) (λ x l h f e t. absurd (never_bool x f e t)) bytes are

i8_is : (l : List ℕ) → i8_at l ≡ cond (nat_lt (length l) 1) (fault 0 reasons.Truncated) (is_read (i8_value (cast_signed w8 (slice_index l 0)), 1))
unfolding i8_at
i8_is l = refl

i8_cut : (bytes : List ℕ) → AreBytes bytes → IsCut i8_at bytes
i8_cut bytes are =
    one_cut i8_at (λ x l. is_read (i8_value (cast_signed w8 x), 1)) i8_is (record { more = 0 ∷ []; are = (nil_small, tt); item = i8_value (pos 0); whole = (λ tail. i8_again (pos 0) tail (omega (arith, ints))) })
    (λ x l h f e t. absurd (never_read (i8_value (cast_signed w8 x), 1) f e)) bytes are

-- ---- numbers and texts

i16_cut : (bytes : List ℕ) → AreBytes bytes → IsCut i16_at bytes
unfolding i16_at
i16_cut bytes are f e t =
    let c = id_cut bytes are f (first_fault (id_at bytes) (λ n. (i16_value n.0, n.1)) f e) t in
    let z = c.1.0 in
    (c.0, completed (IsSmall z) i16_at bytes (i16_value z) c.1.1 (λ l tail s. i16_again z l tail s))

i32_cut : (bytes : List ℕ) → AreBytes bytes → IsCut i32_at bytes
unfolding i32_at
i32_cut bytes are f e t =
    let c = varint32_cut bytes are f (first_fault (varint32_at bytes) (λ n. (i32_value (unfolded n.0), n.1)) f e) t in
    let z = unfolded c.1.0 in
    (c.0, completed (IsWord z) i32_at bytes (i32_value z) (filled_as (λ l. Spells 5 32 l c.1.0) (IsWord z) bytes c.1.1 (word_of c.1.0)) (λ l tail s. i32_again z l tail s))

i64_cut : (bytes : List ℕ) → AreBytes bytes → IsCut i64_at bytes
unfolding i64_at
i64_cut bytes are f e t =
    let c = varint64_cut bytes are f (first_fault (varint64_at bytes) (λ n. (i64_value (unfolded n.0), n.1)) f e) t in
    let z = unfolded c.1.0 in
    (c.0, completed (IsLong z) i64_at bytes (i64_value z) (filled_as (λ l. Spells 10 64 l c.1.0) (IsLong z) bytes c.1.1 (long_of c.1.0)) (λ l tail s. i64_again z l tail s))

text_cut : (bytes : List ℕ) → AreBytes bytes → IsCut text_at bytes
unfolding text_at
text_cut bytes are f e t =
    let c = string_cut bytes are f (first_fault (string_at bytes) (λ x. (text x.0, x.1)) f e) t in
    let b = c.1.0 in
    (c.0, completed (IsString b) text_at bytes (text b) c.1.1 (λ l tail s. text_again b l tail s))

-- ---- values of so many bytes

padded : (bytes : List ℕ) (n : ℕ) → length bytes < n → Filled (λ l. length l ≡ n) bytes
padded bytes n h = record { more = zeros (n - length bytes); are = zeros_small (n - length bytes); spells = omega (arith, length-append bytes (zeros (n - length bytes)), zeros_long (n - length bytes), h) }

double_cut : (bytes : List ℕ) → IsCut double_at bytes
unfolding double_at
double_cut bytes f e t = by_length (nat_lt (length bytes) 8) refl e
  where
    by_length : (b : Bool) → nat_lt (length bytes) 8 ≡ b → cond b (fault (length bytes) reasons.Truncated) (is_read (double_value (reverse (take 8 bytes)), 8)) ≡ Err f → (f.place ≡ length bytes) × Completed double_at bytes
    by_length true p h =
        let fill = padded bytes 8 (shorter (length bytes) 8 p) in
        let l = bytes ++ fill.more in
        let long = fill.spells in
        (cut_place {X = Item} bytes f h, record { more = fill.more; are = fill.are; item = double_value (reverse l); whole = (λ tail. eight_scan (reverse l) l tail long refl ∙ ap (λ n. is_read (double_value (reverse l), n)) (sym long)) })
    by_length false p h = absurd (never_read (double_value (reverse (take 8 bytes)), 8) f h)

uuid_cut : (bytes : List ℕ) → IsCut uuid_at bytes
unfolding uuid_at
uuid_cut bytes f e t = by_length (nat_lt (length bytes) 16) refl e
  where
    by_length : (b : Bool) → nat_lt (length bytes) 16 ≡ b → cond b (fault (length bytes) reasons.Truncated) (is_read (uuid_value (take 16 bytes), 16)) ≡ Err f → (f.place ≡ length bytes) × Completed uuid_at bytes
    by_length true p h =
        let fill = padded bytes 16 (shorter (length bytes) 16 p) in
        let l = bytes ++ fill.more in
        let long = fill.spells in
        (cut_place {X = Item} bytes f h, record { more = fill.more; are = fill.are; item = uuid_value l; whole = (λ tail. sixteen_again l tail long ∙ ap (λ n. is_read (uuid_value l, n)) (sym long)) })
    by_length false p h = absurd (never_read (uuid_value (take 16 bytes), 16) f h)

-- ---- containers

set_cut : (bytes : List ℕ) → AreBytes bytes → IsCut set_at bytes
unfolding set_at
set_cut bytes are f e t =
    let c = elements_cut bytes are f (first_fault (elements_at bytes) (λ x. (set_begin x.0.0 x.0.1, x.1)) f e) t in
    let k = c.1.0 in
    let n = c.1.1 in
    (c.0, completed (IsElementsHeader k n) set_at bytes (set_begin k n) c.1.2 (λ l tail s. set_again k n l tail s))

list_cut : (bytes : List ℕ) → AreBytes bytes → IsCut list_at bytes
unfolding list_at
list_cut bytes are f e t =
    let c = elements_cut bytes are f (first_fault (elements_at bytes) (λ x. (list_begin x.0.0 x.0.1, x.1)) f e) t in
    let k = c.1.0 in
    let n = c.1.1 in
    (c.0, completed (IsElementsHeader k n) list_at bytes (list_begin k n) c.1.2 (λ l tail s. list_again k n l tail s))

by_map : (bytes : List ℕ) → MapFilled bytes → Completed map_at bytes
by_map bytes (inl f) = completed (IsSize 0) map_at bytes empty_map f (λ l tail s. no_map_again l tail s)
by_map bytes (inr (key, value, n, some, f)) = completed (IsPairsHeader key value n) map_at bytes (map_begin key value n) f (λ l tail s. map_again key value n l tail some s)

pairs_cut : (bytes : List ℕ) → AreBytes bytes → IsCut map_at bytes
pairs_cut bytes are f e t = let c = map_cut bytes are f e t in (c.0, by_map bytes c.1)

-- ---- values at their level

-- a value that opens a level, where there is room for it
deep_cut : (d : ℕ) (k : Kind) (bytes : List ℕ) → ((f : Fault) → value_at k bytes ≡ Err f → f.reason ≡ reasons.Truncated → (f.place ≡ length bytes) × Completed (value_at k) bytes) → opens k ≡ true → IsCut (value_in d k) bytes
unfolding value_in
deep_cut d k bytes cut o f e t = by_depth (nat_le 256 d) refl (ap (λ b. cond (b && nat_le 256 d) (fault 0 reasons.TooDeep) (value_at k bytes)) (sym o) ∙ e)
  where
    by_depth : (b : Bool) → nat_le 256 d ≡ b → cond (true && b) (fault 0 reasons.TooDeep) (value_at k bytes) ≡ Err f → (f.place ≡ length bytes) × Completed (value_in d k) bytes
    by_depth true p h = absurd (other_reason {X = Item} 0 reasons.TooDeep f not_deep h t)
    by_depth false p h =
        let c = cut f h t in
        let i = c.1 in
        (c.0, record { more = i.more; are = i.are; item = i.item; whole = (λ tail. opened d k ((bytes ++ i.more) ++ tail) (room_left d p) ∙ i.whole tail) })

value_cut : (d : ℕ) (k : Kind) (bytes : List ℕ) → AreBytes bytes → IsCut (value_in d k) bytes
unfolding value_in value_at
value_cut d kinds.Bool bytes are f e t = bool_cut bytes are f e t
value_cut d kinds.I8 bytes are f e t = i8_cut bytes are f e t
value_cut d kinds.I16 bytes are f e t = i16_cut bytes are f e t
value_cut d kinds.I32 bytes are f e t = i32_cut bytes are f e t
value_cut d kinds.I64 bytes are f e t = i64_cut bytes are f e t
value_cut d kinds.Double bytes are f e t = double_cut bytes f e t
value_cut d kinds.Str bytes are f e t = text_cut bytes are f e t
value_cut d kinds.Uuid bytes are f e t = uuid_cut bytes f e t
value_cut d kinds.Struct bytes are f e t = deep_cut d kinds.Struct bytes (λ g h k. absurd (never_read (struct_begin, 0) g h)) refl f e t
value_cut d kinds.Map bytes are f e t = deep_cut d kinds.Map bytes (pairs_cut bytes are) refl f e t
value_cut d kinds.Set bytes are f e t = deep_cut d kinds.Set bytes (set_cut bytes are) refl f e t
value_cut d kinds.List bytes are f e t = deep_cut d kinds.List bytes (list_cut bytes are) refl f e t

-- ---- fields

never_short : (last : ℤ) (step : ℕ) (k : Kind) (f : Fault) → short_field k (next_id last step) ≡ Err f → f.reason ≡ reasons.Truncated → ⊥
never_short last step k f e t = by_next (int_lt (pos 32767) (last +ℤ pos step)) e
  where
    by_next : (b : Bool) → short_field k (cond b None (Some (last +ℤ pos step))) ≡ Err f → ⊥
    by_next true h = other_reason {X = Item} 0 reasons.BadId f not_id h t
    by_next false h = never_read (field (last +ℤ pos step) k, 1) f h

long_cut : (last : ℤ) (x : ℕ) (l : List ℕ) (k : Kind) (f : Fault) → AreBytes l → kind_of (x % 16) ≡ Some k → (x / 16 == 0) ≡ true → long_field k (x ∷ l) ≡ Err f → f.reason ≡ reasons.Truncated → (f.place ≡ length (x ∷ l)) × Completed (field_at last) (x ∷ l)
unfolding long_field
long_cut last x l k f are kind high e t =
    let g = shift_fault 1 (id_at l) f (first_fault (shifted 1 (id_at l)) (λ id. (field id.0 k, id.1)) f e) in
    let c = id_cut l are g.0 g.1 (g.3 ∙ t) in
    let z = c.1.0 in
    let s = c.1.1 in
    let place = g.2 in
    let zero : x / 16 ≡ 0 = grind (arith, nat_tests, high) in
    let same : x % 16 ≡ x = omega (arith, zero) in
    let code = subst (λ y. IsCode y k) same (kind_again k (x % 16) (kind_is (x % 16) k kind)) in
    let number = l ++ s.more in
    (omega (arith, place, c.0), record { more = s.more; are = s.are; item = field z k; whole = (λ tail. field_again last z x k (x ∷ number) tail code (inr (number, s.spells, refl))) })

field_rest : ℤ → ℕ → List ℕ → Scan Item
field_rest last x l = cond (x == 0) (is_read (stop, 1)) (field_of last l (kind_of (x % 16)))

field_is : (last : ℤ) (l : List ℕ) → field_at last l ≡ cond (nat_lt (length l) 1) (fault 0 reasons.Truncated) (field_rest last (slice_index l 0) l)
unfolding field_at field_rest
field_is last l = refl

field_some : (last : ℤ) (x : ℕ) (l : List ℕ) → AreBytes (x ∷ l) → (f : Fault) → field_rest last x (x ∷ l) ≡ Err f → f.reason ≡ reasons.Truncated → (f.place ≡ length (x ∷ l)) × Completed (field_at last) (x ∷ l)
unfolding field_rest
field_some last x l are f e t = by_zero (x == 0) e
  where
    by_form : (k : Kind) → kind_of (x % 16) ≡ Some k → (b : Bool) → (x / 16 == 0) ≡ b → cond b (long_field k (x ∷ l)) (short_field k (next_id last (x / 16))) ≡ Err f → (f.place ≡ length (x ∷ l)) × Completed (field_at last) (x ∷ l)
    by_form k is true p h = long_cut last x l k f are.1 is p h t
    by_form k is false p h = absurd (never_short last (x / 16) k f h t)

    by_kind : (found : Option Kind) → kind_of (x % 16) ≡ found → field_of last (x ∷ l) found ≡ Err f → (f.place ≡ length (x ∷ l)) × Completed (field_at last) (x ∷ l)
    by_kind None is h = absurd (other_reason {X = Item} 0 reasons.BadKind f not_kind h t)
    by_kind (Some k) is h = by_form k is (x / 16 == 0) refl h

    by_zero : (b : Bool) → cond b (is_read (stop, 1)) (field_of last (x ∷ l) (kind_of (x % 16))) ≡ Err f → (f.place ≡ length (x ∷ l)) × Completed (field_at last) (x ∷ l)
    by_zero true h = absurd (never_read (stop, 1) f h)
    by_zero false h = by_kind (kind_of (x % 16)) refl h

field_cut : (last : ℤ) (bytes : List ℕ) → AreBytes bytes → IsCut (field_at last) bytes
field_cut last bytes are = one_cut (field_at last) (field_rest last) (field_is last) (record { more = 0 ∷ []; are = (nil_small, tt); item = stop; whole = (λ tail. stop_again last tail) }) (field_some last) bytes are

-- ---- the item that a level calls for

next_cut : (d : ℕ) (k : Kind) (left : ℕ) (bytes : List ℕ) → AreBytes bytes → IsCut (next_of d k left) bytes
unfolding next_of
next_cut d k left bytes are f e t = by_left (left == 0) e
  where
    by_left : (b : Bool) → cond b (is_read (end, 0)) (value_in d k bytes) ≡ Err f → (f.place ≡ length bytes) × Completed (λ l. cond b (is_read (end, 0)) (value_in d k l)) bytes
    by_left true h = absurd (never_read (end, 0) f h)
    by_left false h = value_cut d k bytes are f h t

told_cut : (d : ℕ) (k : Kind) (flag : Bool) (bytes : List ℕ) → AreBytes bytes → IsCut (field_value d k flag) bytes
unfolding field_value
told_cut d k flag bytes are f e t = by_bool (is_bool k) e
  where
    by_bool : (b : Bool) → cond b (is_read (bool_value flag, 0)) (value_in d k bytes) ≡ Err f → (f.place ≡ length bytes) × Completed (λ l. cond b (is_read (bool_value flag, 0)) (value_in d k l)) bytes
    by_bool true h = absurd (never_read (bool_value flag, 0) f h)
    by_bool false h = value_cut d k bytes are f h t

pub item_cut : (d : ℕ) (slot : Slot) (flag : Bool) (bytes : List ℕ) → AreBytes bytes → IsCut (item_in d slot flag) bytes
unfolding item_in
item_cut d (slots.Fields last) flag bytes are f e t = field_cut last bytes are f e t
item_cut d (slots.Value k id) flag bytes are f e t = told_cut d k flag bytes are f e t
item_cut d (slots.Elements k left) flag bytes are f e t = next_cut d k left bytes are f e t
item_cut d (slots.Keys key value left) flag bytes are f e t = next_cut d key left bytes are f e t
item_cut d (slots.Values key value left) flag bytes are f e t = value_cut d value bytes are f e t
