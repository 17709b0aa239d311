-- What stands in a frame of the Compact protocol by the bytes that its writer would lay: what begins a field or a container.
use Rattle.std.proofs.Common.{◌≡◌, ℕ, ℤ, pos, zero, suc, ◌+◌, ◌-◌, ◌*◌, ◌/◌, ◌%◌, ◌<◌, ◌≤◌, Bool, true, false, List, [], ◌∷◌, ◌++◌, length, take, drop, get_or, Option, Some, None, Ok, Err, refl, sym, ap, subst, ◌∙◌, arith, length-drop}
use Rattle.std.specs.Prelude.{IfOk, Result, nat_lt, nat_le, int_lt, ◌==◌, ◌+ℤ◌, ◌-ℤ◌, if◌then◌else◌, slice_index}
use Rattle.std.proofs.lemmas.Bool.Decides.{nat_tests}
use Rattle.std.proofs.lemmas.List.{get_or-drop}
use Rattle.std.proofs.Math.IntN.{+ℤ_comm, +ℤ-neg_ℤ_cancel}
use Rattle.varint_zigzag.specs.declared.fault.VarFault.{VarFault}
use Rattle.varint_zigzag.specs.declared.fault.VarFault.TheVariants.{Short, Bad}
use Rattle.varint_zigzag.specs.Bounds.{Found, varint_found}
use Rattle.varint_zigzag.specs.Varint.{varint_at, shortest}
use Rattle.varint_zigzag.specs.Zigzag.{folded, unfolded}
use Rattle.thrift_value.specs.declared.kind.Kind.{Kind}
use Rattle.thrift_value.specs.declared.kind.Kind.TheVariants as kinds
use Rattle.thrift_value.specs.Items.{Item, field, stop, empty_map, map_begin}
use Rattle.protocol_traits.specs.declared.fault.Fault.{Fault}
use Rattle.protocol_traits.specs.declared.forms.Lead.{Lead}
use Rattle.protocol_traits.specs.declared.forms.Lead.TheVariants as leads
use Rattle.protocol_traits.specs.declared.forms.Opening.{Opening}
use Rattle.protocol_traits.specs.declared.forms.Stand.{Stand}
use Rattle.protocol_traits.specs.declared.nest.Slot.{Slot}
use Rattle.protocol_traits.specs.declared.nest.Slot.TheVariants as slots
use Rattle.protocol_traits.specs.declared.proto.Hint.TheVariants as hints
use Rattle.protocol_traits.specs.Forms.{lead_item, StepsLead, StepsInto}
use Rattle.protocol_traits.specs.Stack.{first_of}
use Rattle.protocol_traits.specs.Steps.{Step}
use Rattle.compact_protocol.specs.Codes.{kind_of, code_of}
use Rattle.compact_protocol.specs.Forms.{next_read, stands_at, called}
use Rattle.compact_protocol.specs.Plain.{short_step, field_with, field_spelling, elements_spelling}
use Rattle.compact_protocol.specs.Reading.{State, moved, reads, scan_at}
use Rattle.compact_protocol.specs.Scan.{Scan, shifted, ◌>>=◌, varint_of, varint16_at, varint32_at, id_at, size_at, next_id, short_field, long_field, field_of, field_at, elements_of, elements_at, both_kinds, kinds_at, map_at, value_at, value_in, opens, is_bool, item_in}
use Rattle.kept_forms.proofs.Fronts.{Small, calling, past, long_enough}
use Rattle.kept_forms.proofs.Varints.{Tight, fewest, folded_again}

-- ---- from a step to what its scan found

abbrev out : Item × State → Step State Item → Item × State
out other (Ok x) = x
out other (Err f) = other

moved_found : (s : State) (scan : Scan Item) (item : Item) (new : State) → moved s scan ≡ Ok (item, new) → scan ≡ Ok (item, new.place - s.place)
moved_found s (Ok x) item new e =
    let same : x.0 ≡ item = ap (λ r. (out (item, new) r).0) e in
    let place : s.place + x.1 ≡ new.place = ap (λ r. (out (item, new) r).1.place) e in
    ap (λ i. Ok (i, x.1)) same ∙ ap (λ n. Ok (item, n)) (omega (arith, place))
moved_found s (Err f) item new e = absurd (cc)

pub stood : List ℕ → ℕ → List Slot → State
stood frame at nest = record { frame = frame; place = at; value = 0; flag = false; nest = nest }

pub lead_found : (frame : List ℕ) (at behind : ℕ) (opening : Opening) (last id : ℤ) (lead : Lead) → (lead ≡ leads.Bad → ⊥) → StepsLead next_read stands_at frame at opening last lead id behind
    → field_at last (drop at frame) ≡ Ok (lead_item lead id, behind - at)
unfolding reads item_in stood
lead_found frame at behind opening last id lead good steps =
    let one = steps [] hints.Unknown good (stood frame at (slots.Fields last ∷ [])) (refl, refl, refl) in
    moved_found (stood frame at (slots.Fields last ∷ [])) (field_at last (drop at frame)) (lead_item lead id) one.0 one.1 ∙ ap (λ n. Ok (lead_item lead id, n - at)) one.2.1

not_deep : (depth : ℕ) → depth ≡ 1 → nat_le 256 depth ≡ false
not_deep depth e = grind (arith, nat_tests)

shallow_in : (depth : ℕ) (kind : Kind) (bytes : List ℕ) → depth ≡ 1 → opens kind ≡ true → value_in depth kind bytes ≡ value_at kind bytes
unfolding value_in
shallow_in depth kind bytes one opened = rw (opened, not_deep depth one) refl

pub level_found : (frame : List ℕ) (at behind : ℕ) (stand : Stand) (kind : Kind) (item : Item) → is_bool kind ≡ false → opens kind ≡ true → StepsInto next_read stands_at frame at stand kind item behind
    → value_at kind (drop at frame) ≡ Ok (item, behind - at)
unfolding reads stood
level_found frame at behind stand kind item plain opened steps =
    let c = calling stand kind in
    let s = stood frame at c.nest in
    let calls = called stand kind c.opening c.nest (λ _. plain) c.calls in
    let one = steps c.opening c.nest hints.Unknown c.calls (omega (arith, c.alone)) s (refl, refl, refl) in
    let scan : scan_at (first_of c.nest) (length c.nest) false (drop at frame) ≡ value_at kind (drop at frame) =
    ap (λ slot. scan_at slot (length c.nest) false (drop at frame)) calls.first ∙ calls.calls_for (length c.nest) false (drop at frame) ∙ shallow_in (length c.nest) kind (drop at frame) c.alone opened in
    sym scan ∙ moved_found s (scan_at (first_of c.nest) (length c.nest) false (drop at frame)) item one.0 one.1 ∙ ap (λ n. Ok (item, n - at)) one.2.1

-- ---- kinds

-- every kind has one code that is written, and bool another that is read
pub kind_code : (code : ℕ) (kind : Kind) → kind_of code ≡ Some kind → (code ≡ 2 → ⊥) → code ≡ code_of kind
kind_code code kinds.Bool e other = grind (arith, nat_tests)
kind_code code kinds.I8 e other = grind (arith, nat_tests)
kind_code code kinds.I16 e other = grind (arith, nat_tests)
kind_code code kinds.I32 e other = grind (arith, nat_tests)
kind_code code kinds.I64 e other = grind (arith, nat_tests)
kind_code code kinds.Double e other = grind (arith, nat_tests)
kind_code code kinds.Str e other = grind (arith, nat_tests)
kind_code code kinds.Struct e other = grind (arith, nat_tests)
kind_code code kinds.Map e other = grind (arith, nat_tests)
kind_code code kinds.Set e other = grind (arith, nat_tests)
kind_code code kinds.List e other = grind (arith, nat_tests)
kind_code code kinds.Uuid e other = grind (arith, nat_tests)

-- ---- numbers

-- a size that was found has its fewest bytes where it is tight
abbrev IsSize : List ℕ → ℕ × ℕ → Type 0
IsSize bytes x = (1 ≤ x.1) × (x.1 ≤ length bytes) × (Tight bytes x.1 → take x.1 bytes ≡ shortest x.0)

size_found : (bytes : List ℕ) → Small bytes → IfOk (size_at bytes) (IsSize bytes)
unfolding size_at varint32_at
size_found bytes small = of_found _ (varint_at 5 32 bytes) refl
  where
    kept : (number count : ℕ) (fits : Bool) (f : Fault) → IsSize bytes (number, count) → IfOk (if fits then Ok (number, count) else Err f) (IsSize bytes)
    kept number count true f good = good
    kept number count false f good = tt

    of_found : (f : Fault) (found : Result (ℕ × ℕ) VarFault) → varint_at 5 32 bytes ≡ found → IfOk (varint_of (length bytes) found >>= λ n. if nat_lt n.0 2147483648 then Ok n else Err f) (IsSize bytes)
    of_found f (Ok x) e =
        let size : Found 32 (length bytes) (Ok x) = subst (Found 32 (length bytes)) e (varint_found 5 32 bytes) in
        kept x.0 x.1 (nat_lt x.0 2147483648) f (size.0, size.1, fewest 5 32 x.0 x.1 bytes (omega arith) small e)
    of_found f (Err Short) e = tt
    of_found f (Err Bad) e = tt

-- and so has an id
abbrev IsId : List ℕ → ℤ × ℕ → Type 0
IsId bytes x = (1 ≤ x.1) × (Tight bytes x.1 → take x.1 bytes ≡ shortest (folded x.0 % 65536))

id_found : (bytes : List ℕ) → Small bytes → IfOk (id_at bytes) (IsId bytes)
unfolding id_at varint16_at
id_found bytes small = of_found (varint_at 5 16 bytes) refl
  where
    of_found : (found : Result (ℕ × ℕ) VarFault) → varint_at 5 16 bytes ≡ found → IfOk (varint_of (length bytes) found >>= λ n. Ok (unfolded n.0, n.1)) (IsId bytes)
    of_found (Ok x) e =
        let size : Found 16 (length bytes) (Ok x) = subst (Found 16 (length bytes)) e (varint_found 5 16 bytes) in
        let again : x.0 ≡ folded (unfolded x.0) % 65536 = let back = folded_again x.0 in omega (arith, back, size.2) in
        (size.0, λ tight. fewest 5 16 x.0 x.1 bytes (omega arith) small e tight ∙ ap shortest again)
    of_found (Err Short) e = tt
    of_found (Err Bad) e = tt

front : (byte : ℕ) (bytes : List ℕ) (count : ℕ) → take (1 + count) (byte ∷ bytes) ≡ byte ∷ take count bytes
front byte bytes count = let more : 1 + count ≡ suc count = omega arith in ap (λ n. take n (byte ∷ bytes)) more

-- ---- a struct's next field

-- the id stands in full only where the byte can't tell it, and is tight
abbrev pub Own : ℤ → ℤ → List ℕ → ℕ → Type 0
Own last id bytes taken = 1 < taken → (short_step last id ≡ None) × (2 < taken → 0 < get_or bytes (taken - 1) 0)

-- what was found is spelled so, with the code that stands in the byte
abbrev pub IsField : ℤ → List ℕ → Item × ℕ → Type 0
IsField last bytes (field id kind, taken) = (kind_of (slice_index bytes 0 % 16) ≡ Some kind) × (Own last id bytes taken → take taken bytes ≡ field_spelling last id (slice_index bytes 0 % 16))
IsField last bytes (stop, taken) = take taken bytes ≡ 0 ∷ []
IsField last bytes (item, taken) = Unit {0}

step_told : (last : ℤ) (step : ℕ) → 1 ≤ step → step < 16 → short_step last (last +ℤ pos step) ≡ Some step
unfolding short_step
step_told last step some few =
    let own : last +ℤ pos step -ℤ last ≡ pos step = ap (λ z. z -ℤ last) (+ℤ_comm last (pos step)) ∙ +ℤ-neg_ℤ_cancel (pos step) last in
    rw own (grind (arith, nat_tests))

short_found : (last : ℤ) (byte : ℕ) (bytes : List ℕ) (kind : Kind) → byte < 256 → 1 ≤ byte / 16 → kind_of (byte % 16) ≡ Some kind → IfOk (short_field kind (next_id last (byte / 16))) (IsField last (byte ∷ bytes))
unfolding field_spelling
short_found last byte bytes kind small some is = split (int_lt (pos 32767) (last +ℤ pos (byte / 16)))
  where
    told : short_step last (last +ℤ pos (byte / 16)) ≡ Some (byte / 16)
    told = step_told last (byte / 16) some (omega (arith, small))

    whole : byte ≡ 16 * (byte / 16) + byte % 16
    whole = omega arith

    split : (high : Bool) → IfOk (short_field kind (if high then None else Some (last +ℤ pos (byte / 16)))) (IsField last (byte ∷ bytes))
    split true = tt
    split false = (is, λ own. ap (λ b. b ∷ []) whole ∙ ap (λ step. field_with step (last +ℤ pos (byte / 16)) (byte % 16)) (sym told))

long_found : (last : ℤ) (byte : ℕ) (bytes : List ℕ) (kind : Kind) → Small bytes → byte / 16 ≡ 0 → kind_of (byte % 16) ≡ Some kind → IfOk (long_field kind (byte ∷ bytes)) (IsField last (byte ∷ bytes))
unfolding long_field field_spelling
long_found last byte bytes kind small none is = of_id (id_at bytes) (id_found bytes small)
  where
    own_byte : byte ≡ byte % 16
    own_byte = omega (arith, none)

    of_id : (scan : Scan ℤ) → IfOk scan (IsId bytes) → IfOk (shifted 1 scan >>= λ id. Ok (field id.0 kind, id.1)) (IsField last (byte ∷ bytes))
    of_id (Ok x) good = (is, spelled)
      where
        spelled : Own last x.0 (byte ∷ bytes) (1 + x.1) → take (1 + x.1) (byte ∷ bytes) ≡ field_with (short_step last x.0) x.0 (byte % 16)
        spelled own =
            let both = own (omega (arith, good.0)) in
            let tight : Tight bytes x.1 = λ more.
            let place : 1 + x.1 - 1 ≡ suc (x.1 - 1) = omega (arith, more) in
            subst (λ n. 0 < get_or (byte ∷ bytes) n 0) place (both.1 (omega (arith, more))) in
            front byte bytes x.1 ∙ ap (λ b. b ∷ take x.1 bytes) own_byte ∙ ap (λ xs. byte % 16 ∷ xs) (good.1 tight) ∙ ap (λ step. field_with step x.0 (byte % 16)) (sym both.0)
    of_id (Err f) good = tt

field_of_found : (last : ℤ) (byte : ℕ) (bytes : List ℕ) (kind : Option Kind) → byte < 256 → Small bytes → kind_of (byte % 16) ≡ kind → IfOk (field_of last (byte ∷ bytes) kind) (IsField last (byte ∷ bytes))
field_of_found last byte bytes None few small is = tt
field_of_found last byte bytes (Some kind) few small is = split (byte / 16 == 0) refl
  where
    split : (none : Bool) → (byte / 16 == 0) ≡ none → IfOk (if none then long_field kind (byte ∷ bytes) else short_field kind (next_id last (byte / 16))) (IsField last (byte ∷ bytes))
    split true e = long_found last byte bytes kind small (grind (arith, nat_tests, e)) is
    split false e = short_found last byte bytes kind few (grind (arith, nat_tests, e)) is

pub field_found : (last : ℤ) (bytes : List ℕ) → Small bytes → IfOk (field_at last bytes) (IsField last bytes)
unfolding field_at
field_found last [] small = tt
field_found last (byte ∷ bytes) small = past (IsField last (byte ∷ bytes)) _ (nat_lt (length (byte ∷ bytes)) 1) _ (λ _. split (byte == 0) refl)
  where
    split : (ends : Bool) → (byte == 0) ≡ ends → IfOk (if ends then Ok (stop, 1) else field_of last (byte ∷ bytes) (kind_of (byte % 16))) (IsField last (byte ∷ bytes))
    split true e = let is : byte ≡ 0 = grind (arith, nat_tests, e) in ap (λ b. b ∷ []) is
    split false e = field_of_found last byte bytes (kind_of (byte % 16)) (omega (arith, small 0)) (λ k. small (suc k)) refl

-- ---- lists and sets

-- the size stands in full only where the byte can't tell it, and is tight; the kind's code is the one that is written
abbrev pub OwnSize : List ℕ → ℕ → ℕ → Type 0
OwnSize bytes size taken = (slice_index bytes 0 % 16 ≡ 2 → ⊥) × (1 < taken → (15 ≤ size) × (2 < taken → 0 < get_or bytes (taken - 1) 0))

abbrev pub IsElements : List ℕ → (Kind × ℕ) × ℕ → Type 0
IsElements bytes x = OwnSize bytes x.0.1 x.1 → take x.1 bytes ≡ elements_spelling x.0.0 x.0.1

few_found : (byte : ℕ) (bytes : List ℕ) (kind : Kind) → kind_of (byte % 16) ≡ Some kind → byte / 16 < 15 → IsElements (byte ∷ bytes) ((kind, byte / 16), 1)
unfolding elements_spelling
few_found byte bytes kind is few own =
    let fits : nat_lt (byte / 16) 15 ≡ true = grind (arith, nat_tests, few) in
    let code = kind_code (byte % 16) kind is own.0 in
    let whole : byte ≡ 16 * (byte / 16) + code_of kind = omega (arith, code) in
    rw fits (ap (λ b. b ∷ []) whole)

many_found : (byte : ℕ) (bytes : List ℕ) (kind : Kind) (size taken : ℕ) → byte < 256 → kind_of (byte % 16) ≡ Some kind → 15 ≤ byte / 16 → IsSize bytes (size, taken) → IsElements (byte ∷ bytes) ((kind, size), 1 + taken)
unfolding elements_spelling
many_found byte bytes kind size taken small is many good own =
    let both = own.1 (omega (arith, good.0)) in
    let full : nat_lt size 15 ≡ false = let least = both.0 in grind (arith, nat_tests, least) in
    let code = kind_code (byte % 16) kind is own.0 in
    let whole : byte ≡ 240 + code_of kind = omega (arith, code, small, many) in
    let tight : Tight bytes taken = λ more.
    let place : 1 + taken - 1 ≡ suc (taken - 1) = omega (arith, more) in
    subst (λ n. 0 < get_or (byte ∷ bytes) n 0) place (both.1 (omega (arith, more))) in
    rw full (front byte bytes taken ∙ ap (λ b. b ∷ take taken bytes) whole ∙ ap (λ xs. (240 + code_of kind) ∷ xs) (good.2 tight))

elements_of_found : (byte : ℕ) (bytes : List ℕ) (kind : Option Kind) → byte < 256 → Small bytes → kind_of (byte % 16) ≡ kind → IfOk (elements_of (byte ∷ bytes) kind) (IsElements (byte ∷ bytes))
elements_of_found byte bytes None few small is = tt
elements_of_found byte bytes (Some kind) few small is = split (nat_lt (byte / 16) 15) refl
  where
    of_size : 15 ≤ byte / 16 → (scan : Scan ℕ) → IfOk scan (IsSize bytes) → IfOk (shifted 1 scan >>= λ size. Ok ((kind, size.0), size.1)) (IsElements (byte ∷ bytes))
    of_size many (Ok x) good = many_found byte bytes kind x.0 x.1 few is many good
    of_size many (Err f) good = tt

    split : (short : Bool) → nat_lt (byte / 16) 15 ≡ short → IfOk (if short then Ok ((kind, byte / 16), 1) else shifted 1 (size_at bytes) >>= λ size. Ok ((kind, size.0), size.1)) (IsElements (byte ∷ bytes))
    split true e = few_found byte bytes kind is (grind (arith, nat_tests, e))
    split false e = of_size (long_enough (byte / 16) 15 e) (size_at bytes) (size_found bytes small)

pub elements_found : (bytes : List ℕ) → Small bytes → IfOk (elements_at bytes) (IsElements bytes)
unfolding elements_at
elements_found [] small = tt
elements_found (byte ∷ bytes) small =
    past (IsElements (byte ∷ bytes)) _ (nat_lt (length (byte ∷ bytes)) 1) _ (λ _. elements_of_found byte bytes (kind_of (byte % 16)) (omega (arith, small 0)) (λ k. small (suc k)) refl)

-- ---- maps

-- neither kind has the other code of bool, and the size is tight
abbrev pub OwnHead : List ℕ → ℕ → Type 0
OwnHead bytes taken = (get_or bytes (taken - 1) 0 / 16 ≡ 2 → ⊥) × (get_or bytes (taken - 1) 0 % 16 ≡ 2 → ⊥) × Tight bytes (taken - 1)

abbrev pub IsMap : List ℕ → Item × ℕ → Type 0
IsMap bytes (map_begin key value size, taken) = OwnHead bytes taken → take taken bytes ≡ shortest size ++ (16 * code_of key + code_of value) ∷ []
IsMap bytes (item, taken) = Unit {0}

one_more : (bytes : List ℕ) (count byte : ℕ) → count < length bytes → get_or bytes count 0 ≡ byte → take (count + 1) bytes ≡ take count bytes ++ byte ∷ []
one_more [] count byte within is = absurd (omega arith)
one_more (b ∷ bytes) zero byte within is = ap (λ x. x ∷ []) is
one_more (b ∷ bytes) (suc count) byte within is =
    let more : suc count + 1 ≡ suc (count + 1) = omega arith in
    ap (λ n. take n (b ∷ bytes)) more ∙ ap (λ xs. b ∷ xs) (one_more bytes count byte (omega arith) is)

pairs_found : (bytes : List ℕ) (key value : Kind) (size count : ℕ) → count < length bytes → kind_of (get_or bytes count 0 / 16) ≡ Some key → kind_of (get_or bytes count 0 % 16) ≡ Some value → IsSize bytes (size, count)
    → IsMap bytes (map_begin key value size, count + 1)
pairs_found bytes key value size count within first second good own =
    let place : count + 1 - 1 ≡ count = omega arith in
    let mine : OwnHead bytes (count + 1) = own in
    let byte = get_or bytes count 0 in
    let key_is = kind_code (byte / 16) key first (subst (λ n. get_or bytes n 0 / 16 ≡ 2 → ⊥) place mine.0) in
    let value_is = kind_code (byte % 16) value second (subst (λ n. get_or bytes n 0 % 16 ≡ 2 → ⊥) place mine.1) in
    let whole : byte ≡ 16 * code_of key + code_of value = omega (arith, key_is, value_is) in
    one_more bytes count (16 * code_of key + code_of value) within whole ∙ ap (λ xs. xs ++ (16 * code_of key + code_of value) ∷ []) (good.2 (subst (λ n. Tight bytes n) place mine.2))

pub map_found : (bytes : List ℕ) → Small bytes → IfOk (map_at bytes) (IsMap bytes)
unfolding map_at kinds_at
map_found bytes small = of_size _ (size_at bytes) (size_found bytes small)
  where
    of_kinds : (size count : ℕ) (key value : Option Kind) → count < length bytes → kind_of (get_or bytes count 0 / 16) ≡ key → kind_of (get_or bytes count 0 % 16) ≡ value → IsSize bytes (size, count)
        → IfOk (shifted count (both_kinds key value) >>= λ x. Ok (map_begin x.0.0 x.0.1 size, x.1)) (IsMap bytes)
    of_kinds size count None value within first second good = tt
    of_kinds size count (Some key) None within first second good = tt
    of_kinds size count (Some key) (Some value) within first second good = pairs_found bytes key value size count within first second good

    of_byte : (size count : ℕ) (byte : ℕ) (none : Bool) (f : Fault) → nat_lt (length (drop count bytes)) 1 ≡ none → get_or bytes count 0 ≡ byte → IsSize bytes (size, count)
        → IfOk (shifted count (if none then Err f else both_kinds (kind_of (byte / 16)) (kind_of (byte % 16))) >>= λ x. Ok (map_begin x.0.0 x.0.1 size, x.1)) (IsMap bytes)
    of_byte size count byte true f e is good = tt
    of_byte size count byte false f e is good =
        let some : 1 ≤ length (drop count bytes) = long_enough (length (drop count bytes)) 1 e in
        of_kinds size count (kind_of (byte / 16)) (kind_of (byte % 16)) (omega (arith, some, length-drop count bytes)) (ap (λ b. kind_of (b / 16)) is) (ap (λ b. kind_of (b % 16)) is) good

    of_pairs : (size count : ℕ) (none : Bool) (f : Fault) → IsSize bytes (size, count)
        → IfOk (if none then Ok (empty_map, count) else shifted count (if nat_lt (length (drop count bytes)) 1 then Err f else both_kinds (kind_of (slice_index (drop count bytes) 0 / 16)) (kind_of (slice_index (drop count bytes) 0 % 16))) >>= λ x. Ok (map_begin x.0.0 x.0.1 size, x.1)) (IsMap bytes)
    of_pairs size count true f good = tt
    of_pairs size count false f good =
        of_byte size count (slice_index (drop count bytes) 0) (nat_lt (length (drop count bytes)) 1) f refl (sym (get_or-drop count bytes 0 0 ∙ ap (λ (n : ℕ). get_or bytes n 0) (omega arith))) good

    of_size : (f : Fault) (scan : Scan ℕ) → IfOk scan (IsSize bytes)
        → IfOk (scan >>= λ size. if size.0 == 0 then Ok (empty_map, size.1) else shifted size.1 (if nat_lt (length (drop size.1 bytes)) 1 then Err f else both_kinds (kind_of (slice_index (drop size.1 bytes) 0 / 16)) (kind_of (slice_index (drop size.1 bytes) 0 % 16))) >>= λ x. Ok (map_begin x.0.0 x.0.1 size.0, x.1)) (IsMap bytes)
    of_size f (Ok x) good = of_pairs x.0 x.1 (x.0 == 0) f good
    of_size f (Err g) good = tt
