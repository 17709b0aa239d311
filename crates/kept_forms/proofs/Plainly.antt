-- Each item that the Binary protocol's reader reads is spelled by the bytes that it took, but for the empty map.
use Rattle.std.proofs.Common.{◌≡◌, ℕ, suc, ◌+◌, ◌-◌, ◌≤◌, ◌^◌, Bool, true, false, List, [], ◌∷◌, ◌++◌, length, take, drop, Option, Some, None, Ok, Err, refl, sym, ap, subst, ◌∙◌, arith, length-take}
use Rattle.std.specs.Prelude.{IfOk, nat_lt, nat_le, ◌==◌, ◌&&◌, if◌then◌else◌, slice_index}
use Rattle.std.specs.Int.{w16, w32, from_be_bytes, cast_signed}
use Rattle.std.proofs.lemmas.Bool.Decides.{nat_tests}
use Rattle.thrift_value.specs.declared.kind.Kind.{Kind}
use Rattle.thrift_value.specs.declared.kind.Kind.TheVariants as kinds
use Rattle.thrift_value.specs.Items.{Item, stop, bool_value, text, empty_map, map_begin, set_begin, list_begin}
use Rattle.protocol_traits.specs.declared.fault.Fault.{Fault}
use Rattle.protocol_traits.specs.declared.nest.Slot.{Slot}
use Rattle.protocol_traits.specs.declared.proto.Mark.{Mark}
use Rattle.protocol_traits.specs.Stack.{first_of}
use Rattle.binary_protocol.specs.declared.scan.Called.{Called}
use Rattle.binary_protocol.specs.declared.scan.Called.TheVariants as calls
use Rattle.binary_protocol.specs.Codes.{code_of_kind, kind_of_code}
use Rattle.binary_protocol.specs.Grammar.{number, size, string, flag}
use Rattle.binary_protocol.specs.Plain.{plain}
use Rattle.binary_protocol.specs.Reading.{State, rest, moved, reads, scan_at}
use Rattle.binary_protocol.specs.Scan.{Scan, shifted, ◌>>=◌, unsigned_at, nests, called_for, item_called, value_in, value_at, field_of, field_at, bool_at, i8_at, i16_at, i32_at, i64_at, double_at, uuid_at, size_begun, size_at, zero_at, string_of, string_at, text_at, elements_of, elements_at, set_at, list_at, map_of, map_item, map_at, is_bad_kind}
use Rattle.kept_forms.proofs.Fronts.{Small, small_behind, long_enough}
use Rattle.kept_forms.proofs.Numbers.{one_byte, two_bytes, four_bytes, eight_bytes, size_bytes}

-- an item is spelled by so many bytes at the front, unless it is an empty map
abbrev pub IsPlain : Mark → List ℕ → Item → ℕ → Type 0
IsPlain mark bytes empty_map taken = Unit {0}
IsPlain mark bytes item taken = take taken bytes ≡ plain item mark

-- and so is what a scan finds
abbrev pub FindsPlain : Mark → List ℕ → Scan Item → Type 0
FindsPlain mark bytes (Ok x) = IsPlain mark bytes x.0 x.1
FindsPlain mark bytes (Err f) = Unit {0}

-- what isn't a fault
past : (mark : Mark) (bytes : List ℕ) (f : Fault) (fails : Bool) (scan : Scan Item) → (fails ≡ false → FindsPlain mark bytes scan) → FindsPlain mark bytes (if fails then Err f else scan)
past mark bytes f true scan good = tt
past mark bytes f false scan good = good refl

zero_byte : (byte : ℕ) → (byte == 0) ≡ true → byte ≡ 0
zero_byte byte e = grind (arith, nat_tests)

-- ---- kinds

kind_is : (code : ℕ) (kind : Kind) → kind_of_code code ≡ Some kind → code ≡ code_of_kind kind
kind_is code kinds.Bool e = grind (arith, nat_tests)
kind_is code kinds.I8 e = grind (arith, nat_tests)
kind_is code kinds.I16 e = grind (arith, nat_tests)
kind_is code kinds.I32 e = grind (arith, nat_tests)
kind_is code kinds.I64 e = grind (arith, nat_tests)
kind_is code kinds.Double e = grind (arith, nat_tests)
kind_is code kinds.Str e = grind (arith, nat_tests)
kind_is code kinds.Struct e = grind (arith, nat_tests)
kind_is code kinds.Map e = grind (arith, nat_tests)
kind_is code kinds.Set e = grind (arith, nat_tests)
kind_is code kinds.List e = grind (arith, nat_tests)
kind_is code kinds.Uuid e = grind (arith, nat_tests)

-- ---- a struct's next field

stop_plain : (mark : Mark) (bytes : List ℕ) → 1 ≤ length bytes → slice_index bytes 0 ≡ 0 → take 1 bytes ≡ 0 ∷ []
stop_plain mark [] long ends = absurd (omega arith)
stop_plain mark (b ∷ bytes) long ends = ap (λ x. x ∷ []) ends

named_plain : (bytes : List ℕ) (kind : Kind) → Small bytes → 3 ≤ length bytes → slice_index bytes 0 ≡ code_of_kind kind
    → take 3 bytes ≡ code_of_kind kind ∷ number w16 (cast_signed w16 (from_be_bytes w16 (slice_index bytes 1 ∷ slice_index bytes 2 ∷ [])))
named_plain [] kind small long is = absurd (omega arith)
named_plain (a ∷ []) kind small long is = absurd (omega arith)
named_plain (a ∷ b ∷ []) kind small long is = absurd (omega arith)
named_plain (a ∷ b ∷ c ∷ bytes) kind small long is =
    ap (λ x. x ∷ b ∷ c ∷ []) is ∙ ap (λ xs. code_of_kind kind ∷ xs) (two_bytes (b ∷ c ∷ bytes) (λ k. small (suc k)) (omega arith))

field_of_plain : (mark : Mark) (bytes : List ℕ) (kind : Option Kind) → Small bytes → kind_of_code (slice_index bytes 0) ≡ kind → FindsPlain mark bytes (field_of kind bytes)
field_of_plain mark bytes None small is = tt
field_of_plain mark bytes (Some kind) small is =
    past mark bytes _ (nat_lt (length bytes) 3) _ (λ long. named_plain bytes kind small (long_enough (length bytes) 3 long) (kind_is (slice_index bytes 0) kind is))

field_plain : (mark : Mark) (bytes : List ℕ) → Small bytes → FindsPlain mark bytes (field_at bytes)
unfolding field_at
field_plain mark bytes small = past mark bytes _ (nat_lt (length bytes) 1) _ (λ long. split long (slice_index bytes 0 == 0) refl)
  where
    split : nat_lt (length bytes) 1 ≡ false → (ends : Bool) → (slice_index bytes 0 == 0) ≡ ends → FindsPlain mark bytes (if ends then Ok (stop, 1) else field_of (kind_of_code (slice_index bytes 0)) bytes)
    split long true e = stop_plain mark bytes (long_enough (length bytes) 1 long) (zero_byte (slice_index bytes 0) e)
    split long false e = field_of_plain mark bytes (kind_of_code (slice_index bytes 0)) small refl

-- ---- values that are no level

flag_plain : (bytes : List ℕ) (value : Bool) → 1 ≤ length bytes → slice_index bytes 0 ≡ flag value → take 1 bytes ≡ flag value ∷ []
flag_plain [] value long is = absurd (omega arith)
flag_plain (b ∷ bytes) value long is = ap (λ x. x ∷ []) is

bool_plain : (mark : Mark) (bytes : List ℕ) → FindsPlain mark bytes (bool_at bytes)
unfolding bool_at
bool_plain mark bytes = past mark bytes _ (nat_lt (length bytes) 1) _ (λ long. split _ (long_enough (length bytes) 1 long) (slice_index bytes 0 == 0) refl)
  where
    ones : (f : Fault) → 1 ≤ length bytes → (one : Bool) → (slice_index bytes 0 == 1) ≡ one → FindsPlain mark bytes (if one then Ok (bool_value true, 1) else Err f)
    ones f long true e = flag_plain bytes true long (grind (arith, nat_tests, e))
    ones f long false e = tt

    split : (f : Fault) → 1 ≤ length bytes → (none : Bool) → (slice_index bytes 0 == 0) ≡ none
        → FindsPlain mark bytes (if none then Ok (bool_value false, 1) else if slice_index bytes 0 == 1 then Ok (bool_value true, 1) else Err f)
    split f long true e = flag_plain bytes false long (zero_byte (slice_index bytes 0) e)
    split f long false e = ones f long (slice_index bytes 0 == 1) refl

i8_plain : (mark : Mark) (bytes : List ℕ) → Small bytes → FindsPlain mark bytes (i8_at bytes)
unfolding i8_at
i8_plain mark bytes small = past mark bytes _ (nat_lt (length bytes) 1) _ (λ long. one_byte bytes small (long_enough (length bytes) 1 long))

i16_plain : (mark : Mark) (bytes : List ℕ) → Small bytes → FindsPlain mark bytes (i16_at bytes)
unfolding i16_at
i16_plain mark bytes small = past mark bytes _ (nat_lt (length bytes) 2) _ (λ long. two_bytes bytes small (long_enough (length bytes) 2 long))

i32_plain : (mark : Mark) (bytes : List ℕ) → Small bytes → FindsPlain mark bytes (i32_at bytes)
unfolding i32_at
i32_plain mark bytes small = past mark bytes _ (nat_lt (length bytes) 4) _ (λ long. four_bytes bytes small (long_enough (length bytes) 4 long))

i64_plain : (mark : Mark) (bytes : List ℕ) → Small bytes → FindsPlain mark bytes (i64_at bytes)
unfolding i64_at
i64_plain mark bytes small = past mark bytes _ (nat_lt (length bytes) 8) _ (λ long. eight_bytes bytes small (long_enough (length bytes) 8 long))

double_plain : (mark : Mark) (bytes : List ℕ) → FindsPlain mark bytes (double_at bytes)
unfolding double_at
double_plain mark bytes = past mark bytes _ (nat_lt (length bytes) 8) _ (λ long. refl)

uuid_plain : (mark : Mark) (bytes : List ℕ) → FindsPlain mark bytes (uuid_at bytes)
unfolding uuid_at
uuid_plain mark bytes = past mark bytes _ (nat_lt (length bytes) 16) _ (λ long. refl)

-- ---- sizes

-- a size that was found stands there in four bytes
abbrev FindsSize : List ℕ → Scan ℕ → Type 0
FindsSize bytes (Ok x) = (x.1 ≡ 4) × (4 ≤ length bytes) × (take 4 bytes ≡ size x.0)
FindsSize bytes (Err f) = Unit {0}

size_plain : (bytes : List ℕ) → Small bytes → FindsSize bytes (size_at bytes)
unfolding size_at
size_plain bytes small = whole _ (nat_lt (length bytes) 4) refl
  where
    begun : (scan : Scan ℕ) (f : Fault) (b : Bool) → FindsSize bytes scan → FindsSize bytes (if b then Err f else scan)
    begun scan f true good = tt
    begun scan f false good = good

    fits : (b : Bool) (f : Fault) → 4 ≤ length bytes → FindsSize bytes (if b then Ok (unsigned_at w32 bytes, 4) else Err f)
    fits true f long = (refl, long, size_bytes bytes small long)
    fits false f long = tt

    whole : (f : Fault) (short : Bool) → nat_lt (length bytes) 4 ≡ short → FindsSize bytes (if short then size_begun bytes else if nat_lt (unsigned_at w32 bytes) (2 ^ 31) then Ok (unsigned_at w32 bytes, 4) else Err f)
    whole f true e = begun _ _ (nat_lt (length bytes) 1) (begun _ _ (nat_le 128 (slice_index bytes 0)) tt)
    whole f false e = fits (nat_lt (unsigned_at w32 bytes) (2 ^ 31)) f (long_enough (length bytes) 4 e)

text_laid : (bytes : List ℕ) (count : ℕ) → 4 ≤ length bytes → count + 4 ≤ length bytes → take 4 bytes ≡ size count
    → take (count + 4) bytes ≡ size (length (take count (drop 4 bytes))) ++ take count (drop 4 bytes)
text_laid [] count long within is = absurd (omega arith)
text_laid (a ∷ []) count long within is = absurd (omega arith)
text_laid (a ∷ b ∷ []) count long within is = absurd (omega arith)
text_laid (a ∷ b ∷ c ∷ []) count long within is = absurd (omega arith)
text_laid (a ∷ b ∷ c ∷ d ∷ bytes) count long within is =
    let more : count + 4 ≡ suc (suc (suc (suc count))) = omega arith in
    let own : length (take count bytes) ≡ count = omega (arith, length-take count bytes, within) in
    ap (λ n. take n (a ∷ b ∷ c ∷ d ∷ bytes)) more ∙ ap (λ xs. xs ++ take count bytes) (is ∙ ap size (sym own))

-- a string that was found is spelled by so many bytes
abbrev pub FindsString : List ℕ → Scan (List ℕ) → Type 0
FindsString bytes (Ok x) = take x.1 bytes ≡ string x.0
FindsString bytes (Err f) = Unit {0}

pub string_plain : (bytes : List ℕ) → Small bytes → FindsString bytes (string_at bytes)
unfolding string_at
string_plain bytes small = of_size (size_at bytes) (size_plain bytes small)
  where
    within : (count : ℕ) (short : Bool) → nat_lt (length bytes) (count + 4) ≡ short → (f : Fault) → 4 ≤ length bytes → take 4 bytes ≡ size count
        → FindsString bytes (if short then Err f else Ok (take count (drop 4 bytes), count + 4))
    within count true e f long is = tt
    within count false e f long is = text_laid bytes count long (long_enough (length bytes) (count + 4) e) is

    of_size : (scan : Scan ℕ) → FindsSize bytes scan → FindsString bytes (string_of bytes scan)
    of_size (Ok x) good = within x.0 (nat_lt (length bytes) (x.0 + 4)) refl _ good.1 good.2
    of_size (Err f) good = tt

text_plain : (mark : Mark) (bytes : List ℕ) → Small bytes → FindsPlain mark bytes (text_at bytes)
unfolding text_at
text_plain mark bytes small = of_string (string_at bytes) (string_plain bytes small)
  where
    of_string : (scan : Scan (List ℕ)) → FindsString bytes scan → FindsPlain mark bytes (scan >>= λ x. Ok (text x.0, x.1))
    of_string (Ok x) good = good
    of_string (Err f) good = tt

-- ---- containers

-- what stands before elements
abbrev FindsElements : List ℕ → Scan (Kind × ℕ) → Type 0
FindsElements bytes (Ok x) = take x.1 bytes ≡ code_of_kind x.0.0 ∷ size x.0.1
FindsElements bytes (Err f) = Unit {0}

headed : (bytes : List ℕ) (code count taken : ℕ) → 1 ≤ length bytes → slice_index bytes 0 ≡ code → taken ≡ 4 → take 4 (drop 1 bytes) ≡ size count → take (1 + taken) bytes ≡ code ∷ size count
headed [] code count taken long is four rest_is = absurd (omega arith)
headed (b ∷ bytes) code count taken long is four rest_is = ap (λ n. take (1 + n) (b ∷ bytes)) four ∙ ap (λ x. x ∷ take 4 bytes) is ∙ ap (λ xs. code ∷ xs) rest_is

elements_of_plain : (bytes : List ℕ) (kind : Option Kind) (scan : Scan ℕ) → 1 ≤ length bytes → kind_of_code (slice_index bytes 0) ≡ kind → FindsSize (drop 1 bytes) scan → FindsElements bytes (elements_of kind scan)
elements_of_plain bytes None scan long is good = tt
elements_of_plain bytes (Some kind) (Ok x) long is good = headed bytes (code_of_kind kind) x.0 x.1 long (kind_is (slice_index bytes 0) kind is) good.0 good.2
elements_of_plain bytes (Some kind) (Err f) long is good = tt

elements_plain : (bytes : List ℕ) → Small bytes → FindsElements bytes (elements_at bytes)
unfolding elements_at
elements_plain bytes small = split _ (nat_lt (length bytes) 1) refl
  where
    split : (f : Fault) (none : Bool) → nat_lt (length bytes) 1 ≡ none → FindsElements bytes (if none then Err f else elements_of (kind_of_code (slice_index bytes 0)) (size_at (drop 1 bytes)))
    split f true e = tt
    split f false e = elements_of_plain bytes (kind_of_code (slice_index bytes 0)) (size_at (drop 1 bytes)) (long_enough (length bytes) 1 e) refl (size_plain (drop 1 bytes) (small_behind 1 bytes small))

set_plain : (mark : Mark) (bytes : List ℕ) (scan : Scan (Kind × ℕ)) → FindsElements bytes scan → FindsPlain mark bytes (scan >>= λ x. Ok (set_begin x.0.0 x.0.1, x.1))
set_plain mark bytes (Ok x) good = good
set_plain mark bytes (Err f) good = tt

list_plain : (mark : Mark) (bytes : List ℕ) (scan : Scan (Kind × ℕ)) → FindsElements bytes scan → FindsPlain mark bytes (scan >>= λ x. Ok (list_begin x.0.0 x.0.1, x.1))
list_plain mark bytes (Ok x) good = good
list_plain mark bytes (Err f) good = tt

paired : (bytes : List ℕ) (key value count : ℕ) → 2 ≤ length bytes → slice_index bytes 0 ≡ key → slice_index bytes 1 ≡ value → take 4 (drop 2 bytes) ≡ size count → take 6 bytes ≡ key ∷ value ∷ size count
paired [] key value count long first second rest_is = absurd (omega arith)
paired (a ∷ []) key value count long first second rest_is = absurd (omega arith)
paired (a ∷ b ∷ bytes) key value count long first second rest_is =
    ap (λ x. x ∷ b ∷ take 4 bytes) first ∙ ap (λ x. key ∷ x ∷ take 4 bytes) second ∙ ap (λ xs. key ∷ value ∷ xs) rest_is

map_plain : (mark : Mark) (bytes : List ℕ) → Small bytes → FindsPlain mark bytes (map_at bytes)
unfolding map_at
map_plain mark bytes small =
    past mark bytes _ (nat_lt (length bytes) 1) _ (λ _.
    past mark bytes _ (is_bad_kind (slice_index bytes 0)) _ (λ _.
    past mark bytes _ (nat_lt (length bytes) 2) _ (λ long.
    past mark bytes _ (is_bad_kind (slice_index bytes 1)) _ (λ _.
    of_kinds (kind_of_code (slice_index bytes 0)) (kind_of_code (slice_index bytes 1)) (long_enough (length bytes) 2 long) refl refl))))
  where
    blank : (scan : Scan ℕ) → FindsPlain mark bytes (shifted 2 (scan >>= λ size. Ok (empty_map, size.1)))
    blank (Ok x) = tt
    blank (Err f) = tt

    some : (key value : Kind) (count taken : ℕ) (none : Bool) → 2 ≤ length bytes → slice_index bytes 0 ≡ code_of_kind key → slice_index bytes 1 ≡ code_of_kind value → taken ≡ 4 → take 4 (drop 2 bytes) ≡ size count
        → FindsPlain mark bytes (shifted 2 (Ok (if none then empty_map else map_begin key value count, taken)))
    some key value count taken true long first second four is = tt
    some key value count taken false long first second four is =
        ap (λ n. take (2 + n) bytes) four ∙ paired bytes (code_of_kind key) (code_of_kind value) count long first second is

    of_size : (key value : Kind) (scan : Scan ℕ) → 2 ≤ length bytes → slice_index bytes 0 ≡ code_of_kind key → slice_index bytes 1 ≡ code_of_kind value → FindsSize (drop 2 bytes) scan
        → FindsPlain mark bytes (shifted 2 (scan >>= λ size. Ok (map_item key value size.0, size.1)))
    of_size key value (Ok x) long first second good = some key value x.0 x.1 (x.0 == 0) long first second good.0 good.2
    of_size key value (Err f) long first second good = tt

    of_kinds : (first second : Option Kind) → 2 ≤ length bytes → kind_of_code (slice_index bytes 0) ≡ first → kind_of_code (slice_index bytes 1) ≡ second
        → FindsPlain mark bytes (shifted 2 (map_of first second (drop 2 bytes)))
    of_kinds None second long first_is second_is = blank (zero_at (drop 2 bytes))
    of_kinds (Some key) None long first_is second_is = blank (zero_at (drop 2 bytes))
    of_kinds (Some key) (Some value) long first_is second_is =
        of_size key value (size_at (drop 2 bytes)) long (kind_is (slice_index bytes 0) key first_is) (kind_is (slice_index bytes 1) value second_is) (size_plain (drop 2 bytes) (small_behind 2 bytes small))

-- ---- what a level calls for

value_plain : (mark : Mark) (kind : Kind) (bytes : List ℕ) → Small bytes → FindsPlain mark bytes (value_at kind bytes)
unfolding value_at set_at list_at
value_plain mark kinds.Bool bytes small = bool_plain mark bytes
value_plain mark kinds.I8 bytes small = i8_plain mark bytes small
value_plain mark kinds.I16 bytes small = i16_plain mark bytes small
value_plain mark kinds.I32 bytes small = i32_plain mark bytes small
value_plain mark kinds.I64 bytes small = i64_plain mark bytes small
value_plain mark kinds.Double bytes small = double_plain mark bytes
value_plain mark kinds.Str bytes small = text_plain mark bytes small
value_plain mark kinds.Struct bytes small = refl
value_plain mark kinds.Map bytes small = map_plain mark bytes small
value_plain mark kinds.Set bytes small = set_plain mark bytes (elements_at bytes) (elements_plain bytes small)
value_plain mark kinds.List bytes small = list_plain mark bytes (elements_at bytes) (elements_plain bytes small)
value_plain mark kinds.Uuid bytes small = uuid_plain mark bytes

value_in_plain : (mark : Mark) (depth : ℕ) (kind : Kind) (bytes : List ℕ) → Small bytes → FindsPlain mark bytes (value_in depth kind bytes)
unfolding value_in
value_in_plain mark depth kind bytes small = past mark bytes _ (nests kind && nat_le 256 depth) _ (λ _. value_plain mark kind bytes small)

called_plain : (mark : Mark) (depth : ℕ) (called : Called) (bytes : List ℕ) → Small bytes → FindsPlain mark bytes (item_called depth called bytes)
called_plain mark depth calls.Field bytes small = field_plain mark bytes small
called_plain mark depth calls.End bytes small = refl
called_plain mark depth (calls.Value kind) bytes small = value_in_plain mark depth kind bytes small

scan_plain : (mark : Mark) (slot : Option Slot) (depth : ℕ) (bytes : List ℕ) → Small bytes → FindsPlain mark bytes (scan_at slot depth bytes)
scan_plain mark None depth bytes small = tt
scan_plain mark (Some slot) depth bytes small = called_plain mark depth (called_for slot) bytes small

moved_plain : (mark : Mark) (s : State) (scan : Scan Item) → FindsPlain mark (rest s) scan → IfOk (moved s scan) (λ x. IsPlain mark (rest s) x.0 (x.1.place - s.place))
moved_plain mark s (Ok x) good = let same : x.1 ≡ s.place + x.1 - s.place = omega arith in subst (λ n. IsPlain mark (rest s) x.0 n) same good
moved_plain mark s (Err f) good = tt

-- what a reader reads is spelled by the bytes that it passes
pub reads_plain : (mark : Mark) (s : State) → Small (rest s) → IfOk (reads s) (λ x. IsPlain mark (rest s) x.0 (x.1.place - s.place))
unfolding reads
reads_plain mark s small = moved_plain mark s _ (scan_plain mark (first_of s.nest) (length s.nest) (rest s) small)

moved_on : (s : State) (scan : Scan Item) → IfOk (moved s scan) (λ x. s.place ≤ x.1.place)
moved_on s (Ok x) = omega arith
moved_on s (Err f) = tt

-- a reader goes forward
pub reads_on : (s : State) → IfOk (reads s) (λ x. s.place ≤ x.1.place)
unfolding reads
reads_on s = moved_on s _
