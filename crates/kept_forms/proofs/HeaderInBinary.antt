-- The header of the strict form that the Binary protocol's reader reads is spelled by the bytes in front of the body, where the
-- byte that means nothing is 0.
use Rattle.std.proofs.Common.{◌≡◌, ℕ, ℤ, ◌+◌, ◌≤◌, Bool, true, false, List, [], ◌∷◌, ◌++◌, length, take, drop, get_or, Option, Some, None, Ok, Err, refl, sym, ap, subst, ◌∙◌, arith, append_assoc}
use Rattle.std.specs.Prelude.{IfOk, IfSome, nat_lt, ◌==◌, ◌&&◌, ◌||◌, if◌then◌else◌, slice_index}
use Rattle.std.specs.Int.{w32}
use Rattle.std.proofs.lemmas.Bool.Decides.{nat_tests}
use Rattle.std.proofs.lemmas.List.{get_or-drop}
use Rattle.thrift_value.specs.declared.kind.MessageType.{MessageType}
use Rattle.thrift_value.specs.declared.kind.MessageType.TheVariants as types
use Rattle.protocol_traits.specs.declared.fault.Fault.{Fault}
use Rattle.protocol_traits.specs.declared.proto.Head.{Head}
use Rattle.protocol_traits.specs.Forms.{ReadsHead}
use Rattle.protocol_traits.specs.Heads.{Header, header_of}
use Rattle.protocol_traits.specs.Steps.{Step}
use Rattle.binary_protocol.specs.Codes.{code_of_type, type_of_code}
use Rattle.binary_protocol.specs.Forms.{stands_at}
use Rattle.binary_protocol.specs.Grammar.{number, string}
use Rattle.binary_protocol.specs.Heads.{head_at, strict_at, version_at, type_of, type_at, seq_at}
use Rattle.binary_protocol.specs.Plain.{plain_head}
use Rattle.binary_protocol.specs.Reading.{State, begun, headed, reads_head}
use Rattle.binary_protocol.specs.Scan.{Scan, shifted, ◌>>=◌, string_at}
use Rattle.kept_forms.proofs.Fronts.{Small, small_behind, laid_on, past, long_enough}
use Rattle.kept_forms.proofs.Numbers.{four_bytes}
use Rattle.kept_forms.proofs.Plainly.{FindsString, string_plain}

-- ---- the version and the type

type_is : (code : ℕ) (mtype : MessageType) → type_of_code code ≡ Some mtype → code ≡ code_of_type mtype
type_is code types.Call e = grind (arith, nat_tests)
type_is code types.Reply e = grind (arith, nat_tests)
type_is code types.Exception e = grind (arith, nat_tests)
type_is code types.Oneway e = grind (arith, nat_tests)

abbrev IsType : List ℕ → MessageType × ℕ → Type 0
IsType bytes x = (x.1 ≡ 1) × (slice_index bytes 0 ≡ code_of_type x.0)

type_found : (bytes : List ℕ) → IfOk (type_at bytes) (IsType bytes)
unfolding type_at
type_found bytes = past (IsType bytes) _ (nat_lt (length bytes) 1) _ (λ _. of_type (type_of_code (slice_index bytes 0)) refl)
  where
    of_type : (found : Option MessageType) → type_of_code (slice_index bytes 0) ≡ found → IfOk (type_of found) (IsType bytes)
    of_type None e = tt
    of_type (Some mtype) e = (refl, type_is (slice_index bytes 0) mtype e)

-- the four bytes in front of the name
pub record Version (bytes : List ℕ) (mtype : MessageType) (taken : ℕ) : Type 0 where
  pub four : taken ≡ 4
  pub long : 4 ≤ length bytes
  pub first : slice_index bytes 0 ≡ 128
  pub second : slice_index bytes 1 ≡ 1
  pub code : slice_index bytes 3 ≡ code_of_type mtype

abbrev IsVersion : List ℕ → MessageType × ℕ → Type 0
IsVersion bytes x = Version bytes x.0 x.1

version_found : (bytes : List ℕ) → IfOk (version_at bytes) (IsVersion bytes)
unfolding version_at
version_found bytes = split _ _ (slice_index bytes 0 == 128) (nat_lt (length bytes) 2) (slice_index bytes 1 == 1) (nat_lt (length bytes) 4) refl refl refl refl
  where
    fourth : slice_index (drop 3 bytes) 0 ≡ slice_index bytes 3
    fourth = get_or-drop 3 bytes 0 0

    of_type : 4 ≤ length bytes → slice_index bytes 0 ≡ 128 → slice_index bytes 1 ≡ 1 → (scan : Scan MessageType) → IfOk scan (IsType (drop 3 bytes)) → IfOk (shifted 3 scan) (IsVersion bytes)
    of_type long first second (Ok x) good = record { four = omega (arith, good.0); long = long; first = first; second = second; code = sym fourth ∙ good.1 }
    of_type long first second (Err f) good = tt

    split : (f g : Fault) (is_first short is_second ends : Bool) → (slice_index bytes 0 == 128) ≡ is_first → nat_lt (length bytes) 2 ≡ short → (slice_index bytes 1 == 1) ≡ is_second → nat_lt (length bytes) 4 ≡ ends
        → IfOk (if is_first && (short || is_second) then (if ends then Err f else shifted 3 (type_at (drop 3 bytes))) else Err g) (IsVersion bytes)
    split f g false short is_second ends first few second four = tt
    split f g true false false ends first few second four = tt
    split f g true false true true first few second four = tt
    split f g true true is_second true first few second four = tt
    split f g true true is_second false first few second four = let long = long_enough (length bytes) 4 four in absurd (grind (arith, nat_tests, long, few))
    split f g true false true false first few second four =
        of_type (long_enough (length bytes) 4 four) (grind (arith, nat_tests, first)) (grind (arith, nat_tests, second)) (type_at (drop 3 bytes)) (type_found (drop 3 bytes))

version_bytes : (bytes : List ℕ) (a b c d : ℕ) → 4 ≤ length bytes → slice_index bytes 0 ≡ a → slice_index bytes 1 ≡ b → slice_index bytes 2 ≡ c → slice_index bytes 3 ≡ d → take 4 bytes ≡ a ∷ b ∷ c ∷ d ∷ []
version_bytes [] a b c d long first second third fourth = absurd (omega arith)
version_bytes (w ∷ []) a b c d long first second third fourth = absurd (omega arith)
version_bytes (w ∷ x ∷ []) a b c d long first second third fourth = absurd (omega arith)
version_bytes (w ∷ x ∷ y ∷ []) a b c d long first second third fourth = absurd (omega arith)
version_bytes (w ∷ x ∷ y ∷ z ∷ bytes) a b c d long first second third fourth =
    ap (λ n. n ∷ x ∷ y ∷ z ∷ []) first ∙ ap (λ n. a ∷ n ∷ y ∷ z ∷ []) second ∙ ap (λ n. a ∷ b ∷ n ∷ z ∷ []) third ∙ ap (λ n. a ∷ b ∷ c ∷ n ∷ []) fourth

-- ---- the sequence number

abbrev IsSeq : List ℕ → ℤ × ℕ → Type 0
IsSeq bytes x = take x.1 bytes ≡ number w32 x.0

seq_found : (bytes : List ℕ) → Small bytes → IfOk (seq_at bytes) (IsSeq bytes)
unfolding seq_at
seq_found bytes small = past (IsSeq bytes) _ (nat_lt (length bytes) 4) _ (λ long. four_bytes bytes small (long_enough (length bytes) 4 long))

-- ---- the header

abbrev IsOwn : List ℕ → Header × ℕ → Type 0
IsOwn bytes x = take x.1 bytes ≡ plain_head x.0

strict_found : (bytes : List ℕ) → Small bytes → slice_index bytes 2 ≡ 0 → IfOk (strict_at bytes) (IsOwn bytes)
unfolding strict_at
strict_found bytes small unused = of_version (version_at bytes) (version_found bytes)
  where
    front : (mtype : MessageType) (taken : ℕ) → Version bytes mtype taken → take taken bytes ≡ 128 ∷ 1 ∷ 0 ∷ code_of_type mtype ∷ []
    front mtype taken v = ap (λ n. take n bytes) v.four ∙ version_bytes bytes 128 1 0 (code_of_type mtype) v.long v.first v.second unused v.code

    of_seq : (mtype : MessageType) (name : List ℕ) (taken count : ℕ) → Version bytes mtype taken → take count (drop taken bytes) ≡ string name → (scan : Scan ℤ) → IfOk scan (IsSeq (drop (taken + count) bytes))
        → IfOk (shifted (taken + count) scan >>= λ s. Ok (record { name = name; mtype = mtype; seq = s.0 }, s.1)) (IsOwn bytes)
    of_seq mtype name taken count version named (Err f) good = tt
    of_seq mtype name taken count version named (Ok x) good =
        let last = number w32 x.0 in
        laid_on bytes last (taken + count) x.1 good
        ∙ ap (λ xs. xs ++ last) (laid_on bytes (string name) taken count named)
        ∙ append_assoc (take taken bytes) (string name) last
        ∙ ap (λ xs. xs ++ (string name ++ last)) (front mtype taken version)

    of_name : (mtype : MessageType) (taken : ℕ) → Version bytes mtype taken → (scan : Scan (List ℕ)) → FindsString (drop taken bytes) scan
        → IfOk (shifted taken scan >>= λ n. shifted n.1 (seq_at (drop n.1 bytes)) >>= λ s. Ok (record { name = n.0; mtype = mtype; seq = s.0 }, s.1)) (IsOwn bytes)
    of_name mtype taken version (Err f) named = tt
    of_name mtype taken version (Ok x) named =
        of_seq mtype x.0 taken x.1 version named (seq_at (drop (taken + x.1) bytes)) (seq_found (drop (taken + x.1) bytes) (small_behind (taken + x.1) bytes small))

    of_version : (scan : Scan MessageType) → IfOk scan (IsVersion bytes)
        → IfOk (scan >>= λ t. shifted t.1 (string_at (drop t.1 bytes)) >>= λ n. shifted n.1 (seq_at (drop n.1 bytes)) >>= λ s. Ok (record { name = n.0; mtype = t.0; seq = s.0 }, s.1)) (IsOwn bytes)
    of_version (Err f) version = tt
    of_version (Ok x) version = of_name x.0 x.1 version (string_at (drop x.1 bytes)) (string_plain (drop x.1 bytes) (small_behind x.1 bytes small))

head_found : (bytes : List ℕ) → Small bytes → slice_index bytes 0 ≡ 128 → slice_index bytes 2 ≡ 0 → IfOk (head_at bytes) (IsOwn bytes)
unfolding head_at
head_found bytes small first unused = past (IsOwn bytes) _ (nat_lt (length bytes) 1) _ (λ _. rw first (strict_found bytes small unused))

headed_found : (frame : List ℕ) (scan : Scan Header) → IfOk scan (IsOwn frame) → IfOk (headed (begun frame) scan) (λ x. IsOwn frame (x.0, x.1.place))
headed_found frame (Ok x) own = let place : x.1 ≡ 0 + x.1 = omega arith in subst (λ n. IsOwn frame (x.0, n)) place own
headed_found frame (Err f) own = tt

front_found : (frame : List ℕ) → Small frame → get_or frame 0 0 ≡ 128 → get_or frame 2 0 ≡ 0 → IfOk (reads_head (begun frame)) (λ x. IsOwn frame (x.0, x.1.place))
unfolding reads_head
front_found frame small first unused = headed_found frame (head_at frame) (head_found frame small first unused)

pub front_kept : (frame : List ℕ) (found : Option (Head × ℕ)) → Small frame → get_or frame 0 0 ≡ 128 → get_or frame 2 0 ≡ 0
    → IfSome found (λ x. ReadsHead stands_at (reads_head (begun frame)) frame (header_of x.0) x.1) → IfSome found (λ x. take x.1 frame ≡ plain_head (header_of x.0))
front_kept frame None small first unused read = tt
front_kept frame (Some x) small first unused read =
    let header = header_of x.0 in
    let own = subst (λ (r : Step State Header). IfOk r (λ y. IsOwn frame (y.0, y.1.place))) read.1 (front_found frame small first unused) in
    subst (λ n. IsOwn frame (header, n)) read.2.1 own
