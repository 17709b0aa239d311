-- The header that the Compact protocol's reader reads is spelled by the bytes in front of the body, where its two numbers have
-- their shortest bytes.
use Rattle.std.proofs.Common.{◌≡◌, ℕ, ℤ, ◌+◌, ◌-◌, ◌*◌, ◌/◌, ◌%◌, ◌<◌, ◌≤◌, Bool, true, false, List, [], ◌∷◌, ◌++◌, length, take, drop, Option, Some, None, Ok, Err, refl, sym, ap, subst, ◌∙◌, arith, append_assoc, length-drop}
use Rattle.std.specs.Prelude.{IfOk, IfSome, Result, is_some, nat_lt, ◌==◌, if◌then◌else◌, slice_index}
use Rattle.std.specs.Int.{w32, cast_signed, cast_unsigned}
use Rattle.std.proofs.lemmas.Bool.Decides.{nat_tests}
use Rattle.std.proofs.lemmas.Int.{of_z-to_z}
use Rattle.std.proofs.lemmas.List.{drop-drop, length-take-le}
use Rattle.varint_zigzag.specs.declared.fault.VarFault.{VarFault}
use Rattle.varint_zigzag.specs.declared.fault.VarFault.TheVariants.{Short, Bad}
use Rattle.varint_zigzag.specs.Bounds.{Found, varint_found}
use Rattle.varint_zigzag.specs.Places.{found_at}
use Rattle.varint_zigzag.specs.Standing.{StandsShortest}
use Rattle.varint_zigzag.specs.Varint.{varint_at, shortest}
use Rattle.thrift_value.specs.declared.kind.MessageType.{MessageType}
use Rattle.thrift_value.specs.declared.kind.MessageType.TheVariants as types
use Rattle.protocol_traits.specs.declared.fault.Fault.{Fault}
use Rattle.protocol_traits.specs.Forms.{ReadsHead}
use Rattle.protocol_traits.specs.Heads.{Header}
use Rattle.protocol_traits.specs.Steps.{Step}
use Rattle.compact_protocol.specs.Codes.{type_of, type_code}
use Rattle.compact_protocol.specs.Forms.{stands_at}
use Rattle.compact_protocol.specs.Plain.{head_spelling, string_spelling}
use Rattle.compact_protocol.specs.Reading.{State, begun, headed, named, reads_head}
use Rattle.compact_protocol.specs.Scan.{Scan, shifted, ◌>>=◌, varint_of, varint32_at, size_at, string_at, type_or_fault, type_at, front_at}
use Rattle.kept_forms.specs.Shortest.{AreShortest, IsOwnFront, IsTight}
use Rattle.kept_forms.proofs.Fronts.{Small, small_behind, laid_on, past, passed, long_enough}
use Rattle.kept_forms.proofs.InCompact.{tight_stands}
use Rattle.kept_forms.proofs.Varints.{fewest}

-- ---- the type

type_is : (code : ℕ) (mtype : MessageType) → type_of code ≡ Some mtype → code ≡ type_code mtype
type_is code types.Call e = grind (arith, nat_tests)
type_is code types.Reply e = grind (arith, nat_tests)
type_is code types.Exception e = grind (arith, nat_tests)
type_is code types.Oneway e = grind (arith, nat_tests)

two_bytes : (bytes : List ℕ) (a b : ℕ) → 2 ≤ length bytes → slice_index bytes 0 ≡ a → slice_index bytes 1 ≡ b → take 2 bytes ≡ a ∷ b ∷ []
two_bytes [] a b long first second = absurd (omega arith)
two_bytes (x ∷ []) a b long first second = absurd (omega arith)
two_bytes (x ∷ y ∷ bytes) a b long first second = ap (λ n. n ∷ y ∷ []) first ∙ ap (λ n. a ∷ n ∷ []) second

abbrev IsType : List ℕ → MessageType × ℕ → Type 0
IsType bytes x = (x.1 ≡ 2) × (take 2 bytes ≡ 130 ∷ (32 * type_code x.0 + 1) ∷ [])

type_found : (bytes : List ℕ) → IfOk (type_at bytes) (IsType bytes)
unfolding type_at
type_found bytes =
    past (IsType bytes) _ (nat_lt (length bytes) 1) _ (λ _.
    passed (IsType bytes) _ (slice_index bytes 0 == 130) _ (λ first.
    past (IsType bytes) _ (nat_lt (length bytes) 2) _ (λ long.
    passed (IsType bytes) _ (slice_index bytes 1 % 32 == 1) _ (λ version.
    of_type (long_enough (length bytes) 2 long) (grind (arith, nat_tests, first)) (grind (arith, nat_tests, version)) (type_of (slice_index bytes 1 / 32)) refl))))
  where
    of_type : 2 ≤ length bytes → slice_index bytes 0 ≡ 130 → slice_index bytes 1 % 32 ≡ 1 → (found : Option MessageType) → type_of (slice_index bytes 1 / 32) ≡ found → IfOk (type_or_fault found) (IsType bytes)
    of_type long first version None e = tt
    of_type long first version (Some mtype) e =
        let code = type_is (slice_index bytes 1 / 32) mtype e in
        (refl, two_bytes bytes 130 (32 * type_code mtype + 1) long first (omega (arith, version, code)))

-- ---- the numbers

abbrev IsNumber : List ℕ → ℕ × ℕ → Type 0
IsNumber bytes x = varint_at 5 32 bytes ≡ Ok x

number_found : (bytes : List ℕ) → IfOk (varint32_at bytes) (IsNumber bytes)
unfolding varint32_at
number_found bytes = of_found (varint_at 5 32 bytes) refl
  where
    of_found : (found : Result (ℕ × ℕ) VarFault) → varint_at 5 32 bytes ≡ found → IfOk (varint_of (length bytes) found) (IsNumber bytes)
    of_found (Ok x) e = e
    of_found (Err Short) e = tt
    of_found (Err Bad) e = tt

size_found : (bytes : List ℕ) → IfOk (size_at bytes) (IsNumber bytes)
unfolding size_at
size_found bytes = of_number _ (varint32_at bytes) (number_found bytes)
  where
    of_number : (f : Fault) (scan : Scan ℕ) → IfOk scan (IsNumber bytes) → IfOk (scan >>= λ n. if nat_lt n.0 2147483648 then Ok n else Err f) (IsNumber bytes)
    of_number f (Ok x) good = passed (IsNumber bytes) f (nat_lt x.0 2147483648) (Ok x) (λ _. good)
    of_number f (Err g) good = tt

-- ---- the sequence number and the name

-- the type stands in two bytes, and the sequence number behind it
pub record Front (bytes : List ℕ) (mtype : MessageType) (seq : ℤ) (behind : ℕ) : Type 0 where
  pub first : ℕ
  pub number : ℕ
  pub begins : take 2 bytes ≡ 130 ∷ (32 * type_code mtype + 1) ∷ []
  pub stands : varint_at 5 32 (drop 2 bytes) ≡ Ok (number, first)
  pub is : seq ≡ cast_signed w32 number
  pub place : behind ≡ 2 + first

abbrev IsFront : List ℕ → (MessageType × ℤ) × ℕ → Type 0
IsFront bytes x = Front bytes x.0.0 x.0.1 x.1

front_found : (bytes : List ℕ) → IfOk (front_at bytes) (IsFront bytes)
unfolding front_at
front_found bytes = of_type (type_at bytes) (type_found bytes)
  where
    of_number : (mtype : MessageType) → take 2 bytes ≡ 130 ∷ (32 * type_code mtype + 1) ∷ [] → (scan : Scan ℕ) → IfOk scan (IsNumber (drop 2 bytes))
        → IfOk (shifted 2 scan >>= λ n. Ok ((mtype, cast_signed w32 n.0), n.1)) (IsFront bytes)
    of_number mtype begins (Ok x) good = record { first = x.1; number = x.0; begins = begins; stands = good; is = refl; place = refl }
    of_number mtype begins (Err f) good = tt

    behind_two : (mtype : MessageType) (taken : ℕ) → taken ≡ 2 → take 2 bytes ≡ 130 ∷ (32 * type_code mtype + 1) ∷ []
        → IfOk (shifted taken (varint32_at (drop taken bytes)) >>= λ n. Ok ((mtype, cast_signed w32 n.0), n.1)) (IsFront bytes)
    behind_two mtype taken two begins = rw two (of_number mtype begins (varint32_at (drop 2 bytes)) (number_found (drop 2 bytes)))

    of_type : (scan : Scan MessageType) → IfOk scan (IsType bytes)
        → IfOk (scan >>= λ t. shifted t.1 (varint32_at (drop t.1 bytes)) >>= λ n. Ok ((t.0, cast_signed w32 n.0), n.1)) (IsFront bytes)
    of_type (Ok x) good = behind_two x.0 x.1 good.0 good.1
    of_type (Err f) good = tt

-- a length in so many bytes, and the bytes of a text
pub record Text (bytes text : List ℕ) (taken : ℕ) : Type 0 where
  pub count : ℕ
  pub stands : varint_at 5 32 bytes ≡ Ok (length text, count)
  pub there : take (length text) (drop count bytes) ≡ text
  pub place : taken ≡ count + length text

abbrev IsText : List ℕ → List ℕ × ℕ → Type 0
IsText bytes x = Text bytes x.0 x.1

text_found : (bytes : List ℕ) → IfOk (string_at bytes) (IsText bytes)
unfolding string_at
text_found bytes = of_size _ (size_at bytes) (size_found bytes)
  where
    some : (size count : ℕ) → IsNumber bytes (size, count) → count + size ≤ length bytes → Text bytes (take size (drop count bytes)) (count + size)
    some size count good within =
        let own : length (take size (drop count bytes)) ≡ size = length-take-le size (drop count bytes) (omega (arith, length-drop count bytes, within)) in
        record { count = count; stands = good ∙ ap (λ n. Ok (n, count)) (sym own); there = ap (λ n. take n (drop count bytes)) own; place = ap (λ n. count + n) (sym own) }

    of_size : (f : Fault) (scan : Scan ℕ) → IfOk scan (IsNumber bytes)
        → IfOk (scan >>= λ size. if nat_lt (length bytes) (size.1 + size.0) then Err f else Ok (take size.0 (drop size.1 bytes), size.1 + size.0)) (IsText bytes)
    of_size f (Ok x) good = past (IsText bytes) f (nat_lt (length bytes) (x.1 + x.0)) _ (λ fits. some x.0 x.1 good (long_enough (length bytes) (x.1 + x.0) fits))
    of_size f (Err g) good = tt

-- ---- the header

-- where the parts of a header stand in a frame
pub record Parts (frame : List ℕ) (header : Header) (behind : ℕ) : Type 0 where
  pub at : ℕ
  pub taken : ℕ
  pub front : Front frame header.mtype header.seq at
  pub text : Text (drop at frame) header.name taken
  pub place : behind ≡ at + taken

headed_found : (frame : List ℕ) (scan : Scan (MessageType × ℤ)) → IfOk scan (IsFront frame) → IfOk (headed (begun frame) scan) (λ x. Parts frame x.0 x.1.place)
headed_found frame (Err f) good = tt
headed_found frame (Ok x) good = of_name (string_at (drop x.1 frame)) (text_found (drop x.1 frame))
  where
    of_name : (scan : Scan (List ℕ)) → IfOk scan (IsText (drop x.1 frame)) → IfOk (named (begun frame) x.0 x.1 (shifted x.1 scan)) (λ y. Parts frame y.0 y.1.place)
    of_name (Ok y) text = record { at = x.1; taken = y.1; front = good; text = text; place = omega arith }
    of_name (Err f) text = tt

head_found : (frame : List ℕ) → IfOk (reads_head (begun frame)) (λ x. Parts frame x.0 x.1.place)
unfolding reads_head
head_found frame = headed_found frame (front_at frame) (front_found frame)

parts_of : (frame : List ℕ) (header : Header) (behind : ℕ) → ReadsHead stands_at (reads_head (begun frame)) frame header behind → Parts frame header behind
parts_of frame header behind read =
    let found = subst (λ (r : Step State Header). IfOk r (λ x. Parts frame x.0 x.1.place)) read.1 (head_found frame) in
    subst (λ n. Parts frame header n) read.2.1 found

-- ---- its numbers by their shortest bytes

abbrev out : ℕ × ℕ → Result (ℕ × ℕ) VarFault → ℕ × ℕ
out other (Ok x) = x
out other (Err f) = other

abbrev Shortest : List ℕ → ℕ → ℕ → Type 0
Shortest bytes number count = take count bytes ≡ shortest number

same_count : (bytes : List ℕ) (number count size : ℕ) → varint_at 5 32 bytes ≡ Ok (number, count) → StandsShortest 5 32 bytes size → count ≡ size
same_count bytes number count size there s = ap (λ r. (out (0, 0) r).1) (sym there ∙ s.stands)

same_shortest : (bytes : List ℕ) (number count size : ℕ) → varint_at 5 32 bytes ≡ Ok (number, count) → StandsShortest 5 32 bytes size → Shortest bytes number count
same_shortest bytes number count size there s =
    let same : number ≡ s.number = ap (λ r. (out (0, 0) r).0) (sym there ∙ s.stands) in
    ap (λ n. take n bytes) (same_count bytes number count size there s) ∙ s.shortest_is ∙ ap shortest (sym same)

-- a number of one byte has no others
one_byte : (bytes : List ℕ) (number count : ℕ) → Small bytes → count ≤ 1 → varint_at 5 32 bytes ≡ Ok (number, count) → Shortest bytes number count
one_byte bytes number count small few there = fewest 5 32 number count bytes (omega arith) small there (λ more. absurd (omega arith))

some_bytes : (bytes : List ℕ) (number count : ℕ) → varint_at 5 32 bytes ≡ Ok (number, count) → 1 ≤ count
some_bytes bytes number count there =
    let size : Found 32 (length bytes) (Ok (number, count)) = subst (Found 32 (length bytes)) there (varint_found 5 32 bytes) in
    size.0

both_shortest : (frame : List ℕ) (number first size second begin : ℕ) → Small frame → varint_at 5 32 (drop 2 frame) ≡ Ok (number, first) → varint_at 5 32 (drop (2 + first) frame) ≡ Ok (size, second)
    → begin ≡ 2 + first + second → IsOwnFront frame begin → Shortest (drop 2 frame) number first × Shortest (drop (2 + first) frame) size second
both_shortest frame number first size second begin small one two place own = split (nat_lt 4 begin) refl
  where
    later : 4 < begin → Shortest (drop 2 frame) number first × Shortest (drop (2 + first) frame) size second
    later far =
        let s = own far in
        let same = same_count (drop 2 frame) number first s.0 one s.2 in
        let next : StandsShortest 5 32 (drop (2 + first) frame) s.1 = subst (λ n. StandsShortest 5 32 (drop (2 + n) frame) s.1) (sym same) s.3 in
        (same_shortest (drop 2 frame) number first s.0 one s.2, same_shortest (drop (2 + first) frame) size second s.1 two next)

    split : (far : Bool) → nat_lt 4 begin ≡ far → Shortest (drop 2 frame) number first × Shortest (drop (2 + first) frame) size second
    split true e = later (grind (arith, nat_tests, e))
    split false e =
        let near = long_enough 4 begin e in
        let some = some_bytes (drop 2 frame) number first one in
        let more = some_bytes (drop (2 + first) frame) size second two in (
          one_byte (drop 2 frame) number first (small_behind 2 frame small) (omega (arith, near, more, place)) one,
          one_byte (drop (2 + first) frame) size second (small_behind (2 + first) frame small) (omega (arith, near, some, place)) two,
        )

spelled : (frame : List ℕ) (header : Header) (number first second : ℕ) → take 2 frame ≡ 130 ∷ (32 * type_code header.mtype + 1) ∷ [] → number ≡ cast_unsigned w32 header.seq → Shortest (drop 2 frame) number first
    → Shortest (drop (2 + first) frame) (length header.name) second → take (length header.name) (drop (2 + first + second) frame) ≡ header.name → take (2 + first + second + length header.name) frame ≡ head_spelling header
unfolding head_spelling string_spelling
spelled frame header number first second begins again one two there =
    let count = shortest number in
    let size = shortest (length header.name) in
    laid_on frame header.name (2 + first + second) (length header.name) there
    ∙ ap (λ xs. xs ++ header.name) (laid_on frame size (2 + first) second two)
    ∙ ap (λ xs. (xs ++ size) ++ header.name) (laid_on frame count 2 first one)
    ∙ ap (λ xs. ((xs ++ count) ++ size) ++ header.name) begins
    ∙ ap (λ xs. 130 ∷ (32 * type_code header.mtype + 1) ∷ xs) (append_assoc count size header.name)
    ∙ ap (λ n. 130 ∷ (32 * type_code header.mtype + 1) ∷ (shortest n ++ (size ++ header.name))) again

pub front_kept : (frame : List ℕ) (header : Header) (behind : ℕ) → Small frame → ReadsHead stands_at (reads_head (begun frame)) frame header behind → IsOwnFront frame (behind - length header.name)
    → take behind frame ≡ head_spelling header
front_kept frame header behind small read own =
    let p = parts_of frame header behind read in
    let f = p.front in
    let t : Text (drop (2 + f.first) frame) header.name p.taken = subst (λ n. Text (drop n frame) header.name p.taken) f.place p.text in
    let all : behind ≡ 2 + f.first + t.count + length header.name = omega (arith, p.place, f.place, t.place) in
    let begin : behind - length header.name ≡ 2 + f.first + t.count = omega (arith, all) in
    let both = both_shortest frame f.number f.first (length header.name) t.count (behind - length header.name) small f.stands t.stands begin own in
    let size : Found 32 (length (drop 2 frame)) (Ok (f.number, f.first)) = subst (Found 32 (length (drop 2 frame))) f.stands (varint_found 5 32 (drop 2 frame)) in
    let again : f.number ≡ cast_unsigned w32 header.seq = sym (ap (cast_unsigned w32) f.is ∙ of_z-to_z w32 f.number size.2) in
    let behind_size : drop t.count (drop (2 + f.first) frame) ≡ drop (2 + f.first + t.count) frame = drop-drop t.count (2 + f.first) frame in
    let there : take (length header.name) (drop (2 + f.first + t.count) frame) ≡ header.name = ap (take (length header.name)) (sym behind_size) ∙ t.there in
    ap (λ n. take n frame) all ∙ spelled frame header f.number f.first t.count f.begins again both.0 both.1 there

-- ---- that they have them

pub shortest_found : (frame : List ℕ) (at count : ℕ) (found : Option (ℕ × ℕ)) → Small frame → StandsShortest 5 32 (drop at frame) count
    → IfSome found (λ x. Some x ≡ found_at (at + count) (varint_at 5 32 (drop (at + count) frame))) → IfSome found (λ x. IsTight frame (at + count) x.1) → is_some found ≡ true → AreShortest frame at
shortest_found frame at count None small first exact tight some = absurd (cc)
shortest_found frame at count (Some x) small first exact tight some =
    let second = tight_stands frame (at + count) 5 32 x.0 x.1 (omega arith) small exact tight in
    (count, second.count, first, second.there)
