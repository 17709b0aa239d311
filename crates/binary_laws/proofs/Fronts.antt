-- What stands before a fault calls for the item at fault, in a header and in a body.
use Rattle.std.proofs.Common.{◌≡◌, ℕ, ℤ, pos, ◌+◌, ◌<◌, ◌≤◌, ◌^◌, Bool, true, false, cond, List, [], ◌∷◌, ◌++◌, length, take, drop, Option, Some, None, Ok, Err, refl, ap, ◌∙◌, sym, subst, arith, ◌⊎◌, inl, inr, length-append, length-take-le, append_assoc}
use Rattle.std.specs.Prelude.{nat_lt, nat_le, ◌==◌, ◌&&◌, ◌||◌, slice_index}
use Rattle.std.proofs.lemmas.Bool.Decides.{nat_tests}
use Rattle.std.specs.Int.{w32}
use Rattle.thrift_value.specs.declared.kind.MessageType.{MessageType}
use Rattle.thrift_value.specs.declared.kind.MessageType.TheVariants as types
use Rattle.thrift_value.specs.Trees.{Message, no_members}
use Rattle.protocol_traits.specs.declared.fault.Fault.{Fault}
use Rattle.protocol_traits.specs.declared.fault.Reason.{Reason}
use Rattle.protocol_traits.specs.declared.fault.Reason.TheVariants as reasons
use Rattle.protocol_traits.specs.Heads.{Header}
use Rattle.binary_protocol.specs.Codes.{code_of_type, type_of_code}
use Rattle.binary_protocol.specs.Scan.{Scan, fault, cut, shifted, ◌>>=◌, unsigned_at, signed_at, size_at, size_begun, string_at, string_of}
use Rattle.binary_protocol.specs.Heads.{type_of, type_at, seq_at, version_at, strict_at, old_at, head_at}
use Rattle.binary_protocol.specs.Reading.{State, begun, body_open, reads_head}
use Rattle.binary_protocol.specs.Grammar.{number, string, BinarySpells}
use Rattle.gate_base.specs.Bytes.{AreBytes}
use Rattle.binary_laws.specs.Called.{IsPart, HasStrictPart, HasAt, IsCalled}
use Rattle.binary_laws.specs.Faults.{extent}
use Rattle.binary_laws.specs.Reads.{Reads}
use Rattle.binary_laws.specs.Refused.{IsRefused}
use Rattle.binary_laws.proofs.Inverse.{is_read, is_fault, bytes_front}
use Rattle.binary_laws.proofs.Begun.{string_read}
use Rattle.binary_laws.proofs.Cutting.{never_read, same_fault}
use Rattle.binary_laws.proofs.HeadCut.{then_fault, shift_fault, zero_fits}
use Rattle.binary_laws.proofs.Headed.{Headed, head_read, message_of, version_read}
use Rattle.binary_laws.proofs.Spelled.{At, headed_state}
use Rattle.binary_laws.proofs.Sound.{same_answer, begun_read}
use Rattle.binary_laws.proofs.Viable.{body_of, begun_fault}
use Rattle.binary_laws.proofs.Staying.{longer, head_longer, begun_is, same_value_place, some_bytes}
use Rattle.binary_laws.proofs.Needs.{Beyond, head_needs}
use Rattle.binary_laws.proofs.Reaching.{last_place}
use Rattle.binary_laws.proofs.Parts.{string_tells}
use Rattle.binary_laws.proofs.Calling.{Calls, row_from, deep_from}
use Rattle.std.proofs.lemmas.List.{take-append-drop}
use Rattle.binary_laws.proofs.Standing.{head_stands}
use Rattle.binary_laws.proofs.Placed.{not_cut, head_shallow, Not, Outcome, outcome, front_are, again, not_before, whole_front, deep_before}

-- some message begins with these bytes, and has such a part behind them
abbrev pub CalledIn : Reason → List ℕ → ℕ → Type 0
CalledIn reason front place = (more : List ℕ) × (m : Message) × BinarySpells m (front ++ more) × HasAt m (front ++ more) reason place

no_row : (r : Reason) → r ≡ reasons.Truncated → 1 ≤ extent r → ⊥
no_row r e h = let none : extent r ≡ 0 = ap extent e in omega (arith, h, none)

-- ---- behind a header

behind_header : (front : List ℕ) (r : Reason) (h : Header) (taken : ℕ) (x : Headed front h taken) → Calls body_open x.body r → CalledIn r front (length front)
behind_header front r h taken x c =
    let b = body_of (c.before ++ c.item ∷ c.behind) (x.body ++ c.more) c.ends in
    let m = message_of h b.ms in
    let laid = ap (λ l. l ++ c.more) x.laid ∙ append_assoc x.header x.body c.more in
    let size = ap length x.laid ∙ length-append x.header x.body in
    let place = c.place in (
      c.more,
      m,
      (x.small, x.fits, (x.header, x.body ++ c.more, x.spells b.ms, b.spells, laid)),
      inr (inr (record { header = x.header; body = x.body ++ c.more; before = c.before; item = c.item; behind = c.behind; at = c.at; head = x.spells b.ms; laid = laid; items = sym b.is; is = omega (arith, size, place); part = c.part })),
    )

-- ---- in a strict header

abbrev strict_header : ℕ → MessageType → List ℕ
strict_header u t = 128 ∷ 1 ∷ u ∷ code_of_type t ∷ string [] ++ number w32 (pos 0)

in_strict : (front more : List ℕ) (u : ℕ) (t : MessageType) (r : Reason) (place : ℕ) → u < 256 → front ++ more ≡ strict_header u t ++ 0 ∷ [] → HasStrictPart r place → CalledIn r front place
in_strict front more u t r place less laid part = (
  more,
  record { name = []; mtype = t; seq = pos 0; body = no_members },
  (omega arith, zero_fits, (strict_header u t, 0 ∷ [], inl (u, less, refl), refl, laid)),
  inl (strict_header u t, 0 ∷ [], laid, (u, less, refl), part),
)

abbrev FaultCalled : Fault → List ℕ → Type 0
FaultCalled f bytes = CalledIn f.reason (take f.place bytes) f.place

to_fault : (f : Fault) (bytes : List ℕ) (r : Reason) (place : ℕ) → f.reason ≡ r → f.place ≡ place → CalledIn r (take place bytes) place → FaultCalled f bytes
to_fault f bytes r place a b c = subst (λ q. CalledIn q (take f.place bytes) f.place) (sym a) (subst (λ p. CalledIn r (take p bytes) p) (sym b) c)

version_called : (bytes : List ℕ) → CalledIn reasons.BadVersion (take 0 bytes) 0
version_called bytes = in_strict [] (strict_header 0 types.Call ++ 0 ∷ []) 0 types.Call reasons.BadVersion 0 (omega arith) refl (inl (refl, refl))

type_bad : (l : List ℕ) (f : Fault) → type_at l ≡ Err f → 1 ≤ extent f.reason → (f.reason ≡ reasons.BadType) × (f.place ≡ 0)
unfolding type_at
type_bad l f e row = by_length (nat_lt (length l) 1) e
  where
    by_type : (found : Option MessageType) → type_of found ≡ Err f → (f.reason ≡ reasons.BadType) × (f.place ≡ 0)
    by_type None h = let same = same_fault {X = MessageType} (record { place = 0; reason = reasons.BadType }) f h in (sym (ap (λ (b : Fault). b.reason) same), sym (ap (λ (b : Fault). b.place) same))
    by_type (Some t) h = absurd (never_read (t, 1) f h)

    by_length : (b : Bool) → cond b (cut {X = MessageType} l) (type_of (type_of_code (slice_index l 0))) ≡ Err f → (f.reason ≡ reasons.BadType) × (f.place ≡ 0)
    by_length true h = absurd (no_row f.reason (sym (ap (λ (b : Fault). b.reason) (same_fault {X = MessageType} (record { place = length l; reason = reasons.Truncated }) f h))) row)
    by_length false h = by_type (type_of_code (slice_index l 0)) h

seq_bad : (l : List ℕ) (f : Fault) → seq_at l ≡ Err f → 1 ≤ extent f.reason → ⊥
unfolding seq_at
seq_bad l f e row = by_length (nat_lt (length l) 4) e
  where
    by_length : (b : Bool) → cond b (cut {X = ℤ} l) (is_read (signed_at w32 l, 4)) ≡ Err f → ⊥
    by_length true h = no_row f.reason (sym (ap (λ (b : Fault). b.reason) (same_fault {X = ℤ} (record { place = length l; reason = reasons.Truncated }) f h))) row
    by_length false h = never_read (signed_at w32 l, 4) f h

string_bad : (l : List ℕ) (f : Fault) → string_at l ≡ Err f → 1 ≤ extent f.reason → (f.reason ≡ reasons.BadSize) × (f.place ≡ 0)
string_bad l f e row = by_told ((string_tells l).bad f e)
  where
    by_told : (f.reason ≡ reasons.Truncated) ⊎ IsPart reasons.BadSize 0 f.reason f.place → (f.reason ≡ reasons.BadSize) × (f.place ≡ 0)
    by_told (inl t) = absurd (no_row f.reason t row)
    by_told (inr p) = p

row_of : (f g : Fault) → g.reason ≡ f.reason → 1 ≤ extent f.reason → 1 ≤ extent g.reason
row_of f g same row = subst (λ r. 1 ≤ extent r) (sym same) row

both_true : (a b : Bool) → (a && b) ≡ true → (a ≡ true) × (b ≡ true)
both_true true true e = (refl, refl)
both_true true false e = absurd (cc)
both_true false b e = absurd (cc)

-- the type, behind a version
type_called : (bytes : List ℕ) → AreBytes bytes → nat_lt (length bytes) 4 ≡ false → ((slice_index bytes 0 == 128) && (nat_lt (length bytes) 2 || (slice_index bytes 1 == 1))) ≡ true → CalledIn reasons.BadType (take 3 bytes) 3
type_called [] are long e = absurd (grind (arith, nat_tests))
type_called (a ∷ []) are long e = absurd (grind (arith, nat_tests))
type_called (a ∷ b ∷ []) are long e = absurd (grind (arith, nat_tests))
type_called (a ∷ b ∷ c ∷ rest) are long e =
    let p = both_true (a == 128) (nat_lt (length (a ∷ b ∷ c ∷ rest)) 2 || (b == 1)) e in
    let v0 = p.0 in
    let v1 = p.1 in
    let first : a ≡ 128 = grind (arith, nat_tests) in
    let second : b ≡ 1 = grind (arith, nat_tests) in
    let more = 1 ∷ string [] ++ number w32 (pos 0) ++ 0 ∷ [] in
    in_strict (a ∷ b ∷ c ∷ []) more c types.Call reasons.BadType 3 are.1.1.0 (ap (λ x. x ∷ b ∷ c ∷ more) first ∙ ap (λ x. 128 ∷ x ∷ c ∷ more) second) (inr (inl (refl, refl)))

version_bad : (bytes : List ℕ) → AreBytes bytes → (f : Fault) → version_at bytes ≡ Err f → 1 ≤ extent f.reason → FaultCalled f bytes
unfolding version_at
version_bad bytes are f e row = by_form ((slice_index bytes 0 == 128) && (nat_lt (length bytes) 2 || (slice_index bytes 1 == 1))) refl e
  where
    by_length : (b : Bool) → nat_lt (length bytes) 4 ≡ b → ((slice_index bytes 0 == 128) && (nat_lt (length bytes) 2 || (slice_index bytes 1 == 1))) ≡ true → cond b (cut {X = MessageType} bytes) (shifted 3 (type_at (drop 3 bytes))) ≡ Err f → FaultCalled f bytes
    by_length true p q h = absurd (no_row f.reason (sym (ap (λ (b : Fault). b.reason) (same_fault {X = MessageType} (record { place = length bytes; reason = reasons.Truncated }) f h))) row)
    by_length false p q h =
        let s = shift_fault 3 (type_at (drop 3 bytes)) f h in
        let t = type_bad (drop 3 bytes) s.0 s.1 (row_of f s.0 s.3 row) in
        let at = s.2 in
        let first = t.1 in
        to_fault f bytes reasons.BadType 3 (sym s.3 ∙ t.0) (omega (arith, at, first)) (type_called bytes are p q)

    by_form : (b : Bool) → ((slice_index bytes 0 == 128) && (nat_lt (length bytes) 2 || (slice_index bytes 1 == 1))) ≡ b → cond b (cond (nat_lt (length bytes) 4) (cut bytes) (shifted 3 (type_at (drop 3 bytes)))) (fault 0 reasons.BadVersion) ≡ Err f → FaultCalled f bytes
    by_form true p h = by_length (nat_lt (length bytes) 4) refl p h
    by_form false p h =
        let same = same_fault {X = MessageType} (record { place = 0; reason = reasons.BadVersion }) f h in
        to_fault f bytes reasons.BadVersion 0 (sym (ap (λ (b : Fault). b.reason) same)) (sym (ap (λ (b : Fault). b.place) same)) (version_called bytes)

abbrev after_type : MessageType → List ℕ → ℕ → List ℕ → Scan Header
after_type t name n bytes = shifted n (seq_at (drop n bytes)) >>= λ s. Ok (record { name = name; mtype = t; seq = s.0 }, s.1)

-- behind the name only a number is read
number_good : (t : MessageType) (name : List ℕ) (n : ℕ) (bytes : List ℕ) (f : Fault) → after_type t name n bytes ≡ Err f → 1 ≤ extent f.reason → ⊥
number_good t name n bytes f e row = by_number (then_fault (shifted n (seq_at (drop n bytes))) (λ s. Ok (record { name = name; mtype = t; seq = s.0 }, s.1)) f e)
  where
    by_number : (shifted n (seq_at (drop n bytes)) ≡ Err f) ⊎ ((s : ℤ × ℕ) × (shifted n (seq_at (drop n bytes)) ≡ Ok s) × (is_read {X = Header} (record { name = name; mtype = t; seq = s.0 }, s.1) ≡ Err f)) → ⊥
    by_number (inl h) = let s = shift_fault n (seq_at (drop n bytes)) f h in seq_bad (drop n bytes) s.0 s.1 (row_of f s.0 s.3 row)
    by_number (inr (s, was, h)) = never_read (record { name = name; mtype = t; seq = s.0 }, s.1) f h

-- the length of the name, behind the type
size_called : (bytes : List ℕ) → AreBytes bytes → (t : MessageType × ℕ) → version_at bytes ≡ Ok t → (t.1 ≡ 4) × CalledIn reasons.BadSize (take 4 bytes) 4
size_called bytes are t e =
    let v = version_read bytes are t.0 t.1 e in (
      v.four,
      subst (λ l. CalledIn reasons.BadSize (take 4 l) 4) (sym v.laid)
          (in_strict (128 ∷ 1 ∷ v.unused ∷ code_of_type t.0 ∷ []) (string [] ++ number w32 (pos 0) ++ 0 ∷ []) v.unused t.0 reasons.BadSize 4 v.byte refl (inr (inr (refl, refl)))),
    )

strict_bad : (bytes : List ℕ) → AreBytes bytes → (f : Fault) → strict_at bytes ≡ Err f → 1 ≤ extent f.reason → FaultCalled f bytes
unfolding strict_at
strict_bad bytes are f e row = by_version (then_fault (version_at bytes) (λ t. shifted t.1 (string_at (drop t.1 bytes)) >>= λ n. after_type t.0 n.0 n.1 bytes) f e)
  where
    by_name : (t : MessageType × ℕ) → version_at bytes ≡ Ok t → (shifted t.1 (string_at (drop t.1 bytes)) ≡ Err f) ⊎ ((n : List ℕ × ℕ) × (shifted t.1 (string_at (drop t.1 bytes)) ≡ Ok n) × (after_type t.0 n.0 n.1 bytes ≡ Err f)) → FaultCalled f bytes
    by_name t was (inl h) =
        let s = shift_fault t.1 (string_at (drop t.1 bytes)) f h in
        let b = string_bad (drop t.1 bytes) s.0 s.1 (row_of f s.0 s.3 row) in
        let c = size_called bytes are t was in
        let at = s.2 in
        let first = b.1 in
        let four = c.0 in
        to_fault f bytes reasons.BadSize 4 (sym s.3 ∙ b.0) (omega (arith, at, first, four)) c.1
    by_name t was (inr (n, read, h)) = absurd (number_good t.0 n.0 n.1 bytes f h row)

    by_version : (version_at bytes ≡ Err f) ⊎ ((t : MessageType × ℕ) × (version_at bytes ≡ Ok t) × ((shifted t.1 (string_at (drop t.1 bytes)) >>= λ n. after_type t.0 n.0 n.1 bytes) ≡ Err f)) → FaultCalled f bytes
    by_version (inl h) = version_bad bytes are f h row
    by_version (inr (t, was, h)) = by_name t was (then_fault (shifted t.1 (string_at (drop t.1 bytes))) (λ n. after_type t.0 n.0 n.1 bytes) f h)

-- ---- in an old header

low_size : (x : ℕ) (rest : List ℕ) → AreBytes (x ∷ rest) → nat_le 128 x ≡ false → nat_lt (length (x ∷ rest)) 4 ≡ false → nat_lt (unsigned_at w32 (x ∷ rest)) (2 ^ 31) ≡ true
low_size x [] are low long = absurd (grind (arith, nat_tests))
low_size x (b ∷ []) are low long = absurd (grind (arith, nat_tests))
low_size x (b ∷ c ∷ []) are low long = absurd (grind (arith, nat_tests))
low_size x (b ∷ c ∷ d ∷ rest) are low long =
    let less : x < 128 = grind (arith, nat_tests) in
    let n = unsigned_at w32 (x ∷ b ∷ c ∷ d ∷ rest) in
    let small : n < 2 ^ 31 = omega (arith, less, are.1.0, are.1.1.0, are.1.1.1.0) in
    grind (arith, nat_tests)

size_good : (x : ℕ) (rest : List ℕ) → AreBytes (x ∷ rest) → nat_le 128 x ≡ false → (f : Fault) → size_at (x ∷ rest) ≡ Err f → 1 ≤ extent f.reason → ⊥
unfolding size_at
size_good x rest are low f e row = by_length (nat_lt (length (x ∷ rest)) 4) refl e
  where
    short : cut {X = ℕ} (x ∷ rest) ≡ Err f → ⊥
    short h = no_row f.reason (sym (ap (λ (b : Fault). b.reason) (same_fault {X = ℕ} (record { place = length (x ∷ rest); reason = reasons.Truncated }) f h))) row

    by_begin : (a b : Bool) → b ≡ false → cond a (cut {X = ℕ} (x ∷ rest)) (cond b (fault 0 reasons.BadSize) (cut (x ∷ rest))) ≡ Err f → ⊥
    by_begin true b p h = short h
    by_begin false true p h = absurd (cc)
    by_begin false false p h = short h

    by_size : (b : Bool) → b ≡ true → cond b (is_read (unsigned_at w32 (x ∷ rest), 4)) (fault 0 reasons.BadSize) ≡ Err f → ⊥
    by_size true p h = never_read (unsigned_at w32 (x ∷ rest), 4) f h
    by_size false p h = absurd (cc)

    by_length : (b : Bool) → nat_lt (length (x ∷ rest)) 4 ≡ b → cond b (size_begun (x ∷ rest)) (cond (nat_lt (unsigned_at w32 (x ∷ rest)) (2 ^ 31)) (is_read (unsigned_at w32 (x ∷ rest), 4)) (fault 0 reasons.BadSize)) ≡ Err f → ⊥
    by_length true p h = by_begin (nat_lt (length (x ∷ rest)) 1) (nat_le 128 x) low h
    by_length false p h = by_size (nat_lt (unsigned_at w32 (x ∷ rest)) (2 ^ 31)) (low_size x rest are low p) h

name_good : (x : ℕ) (rest : List ℕ) → AreBytes (x ∷ rest) → nat_le 128 x ≡ false → (f : Fault) → string_at (x ∷ rest) ≡ Err f → 1 ≤ extent f.reason → ⊥
unfolding string_at
name_good x rest are low f e row = by_size (size_at (x ∷ rest)) refl e
  where
    by_length : (name : List ℕ) (n : ℕ) (b : Bool) → cond b (cut {X = List ℕ} (x ∷ rest)) (is_read (name, n)) ≡ Err f → ⊥
    by_length name n true h = no_row f.reason (sym (ap (λ (b : Fault). b.reason) (same_fault {X = List ℕ} (record { place = length (x ∷ rest); reason = reasons.Truncated }) f h))) row
    by_length name n false h = never_read (name, n) f h

    by_size : (s : Scan ℕ) → size_at (x ∷ rest) ≡ s → string_of (x ∷ rest) s ≡ Err f → ⊥
    by_size (Err g) is h = size_good x rest are low f (is ∙ ap (λ (k : Fault). is_fault k) (same_fault {X = List ℕ} g f h)) row
    by_size (Ok n) is h = by_length (take n.0 (drop 4 (x ∷ rest))) (n.0 + 4) (nat_lt (length (x ∷ rest)) (n.0 + 4)) h

take_front : (xs ys : List ℕ) → take (length xs) (xs ++ ys) ≡ xs
take_front [] ys = refl
take_front (x ∷ xs) ys = ap (λ l. x ∷ l) (take_front xs ys)

-- the type behind the name
named_type : (bytes : List ℕ) → AreBytes bytes → (n : List ℕ × ℕ) → string_at bytes ≡ Ok n → CalledIn reasons.BadType (take n.1 bytes) n.1
named_type bytes are n e =
    let w = string_read bytes are n.0 n.1 e in
    let wide = (string_tells bytes).good n.0 n.1 e in
    let tail = code_of_type types.Call ∷ number w32 (pos 0) in
    let header = string n.0 ++ tail in
    let more = tail ++ 0 ∷ [] in
    let m : Message = record { name = n.0; mtype = types.Call; seq = pos 0; body = no_members } in
    let front : take n.1 bytes ≡ string n.0 = ap (λ l. take n.1 l) w.laid ∙ ap (λ k. take k (string n.0 ++ w.rest)) w.long ∙ take_front (string n.0) w.rest in
    let laid : take n.1 bytes ++ more ≡ header ++ 0 ∷ [] = ap (λ l. l ++ more) front ∙ sym (append_assoc (string n.0) tail (0 ∷ [])) in
    (more, m, (w.small, zero_fits, (header, 0 ∷ [], inr refl, refl, laid)), inr (inl (header, 0 ∷ [], laid, refl, (refl, wide))))

abbrev after_name : List ℕ → ℕ → List ℕ → Scan Header
after_name name n bytes = shifted n (type_at (drop n bytes)) >>= λ t. after_type t.0 name t.1 bytes

old_bad : (x : ℕ) (rest : List ℕ) → AreBytes (x ∷ rest) → nat_le 128 x ≡ false → (f : Fault) → old_at (x ∷ rest) ≡ Err f → 1 ≤ extent f.reason → FaultCalled f (x ∷ rest)
unfolding old_at
old_bad x rest are low f e row = by_name (then_fault (string_at bytes) (λ n. after_name n.0 n.1 bytes) f e)
  where
    bytes : List ℕ
    bytes = x ∷ rest

    by_type : (n : List ℕ × ℕ) → string_at bytes ≡ Ok n → (shifted n.1 (type_at (drop n.1 bytes)) ≡ Err f) ⊎ ((t : MessageType × ℕ) × (shifted n.1 (type_at (drop n.1 bytes)) ≡ Ok t) × (after_type t.0 n.0 t.1 bytes ≡ Err f)) → FaultCalled f bytes
    by_type n was (inl h) =
        let s = shift_fault n.1 (type_at (drop n.1 bytes)) f h in
        let t = type_bad (drop n.1 bytes) s.0 s.1 (row_of f s.0 s.3 row) in
        let at = s.2 in
        let first = t.1 in
        to_fault f bytes reasons.BadType n.1 (sym s.3 ∙ t.0) (omega (arith, at, first)) (named_type bytes are n was)
    by_type n was (inr (t, read, h)) = absurd (number_good t.0 n.0 t.1 bytes f h row)

    by_name : (string_at bytes ≡ Err f) ⊎ ((n : List ℕ × ℕ) × (string_at bytes ≡ Ok n) × (after_name n.0 n.1 bytes ≡ Err f)) → FaultCalled f bytes
    by_name (inl h) = absurd (name_good x rest are low f h row)
    by_name (inr (n, was, h)) = by_type n was (then_fault (shifted n.1 (type_at (drop n.1 bytes))) (λ t. after_type t.0 n.0 t.1 bytes) f h)

head_bad : (bytes : List ℕ) → AreBytes bytes → (f : Fault) → head_at bytes ≡ Err f → 1 ≤ extent f.reason → FaultCalled f bytes
unfolding head_at
head_bad [] are f e row = absurd (no_row f.reason (sym (ap (λ (b : Fault). b.reason) (same_fault {X = Header} (record { place = 0; reason = reasons.Truncated }) f e))) row)
head_bad (x ∷ rest) are f e row = by_form (nat_lt (length (x ∷ rest)) 1) (nat_le 128 x) (grind (arith, nat_tests)) refl e
  where
    by_form : (a b : Bool) → a ≡ false → nat_le 128 x ≡ b → cond a (cut {X = Header} (x ∷ rest)) (cond b (strict_at (x ∷ rest)) (old_at (x ∷ rest))) ≡ Err f → FaultCalled f (x ∷ rest)
    by_form true b p q h = absurd (cc)
    by_form false true p q h = strict_bad (x ∷ rest) are f h row
    by_form false false p q h = old_bad x rest are q f h row

-- ---- a whole frame

header_row : (front rest : List ℕ) (f : Fault) → AreBytes (front ++ rest) → f.place ≡ length front → 1 ≤ extent f.reason → reads_head (begun (front ++ rest)) ≡ Err f → CalledIn f.reason front f.place
header_row front rest f are here row e =
    let r = begun_fault (front ++ rest) f e in
    let g = r.0 in
    let place : g.place ≡ f.place = (let at = r.2 in omega (arith, at)) in
    let c = head_bad (front ++ rest) are g r.1 (row_of f g r.3 row) in
    let before : take f.place (front ++ rest) ≡ front = ap (λ n. take n (front ++ rest)) here ∙ take_front front rest in
    subst (λ l. CalledIn f.reason l f.place) before (subst (λ p. CalledIn f.reason (take p (front ++ rest)) p) place (subst (λ q. CalledIn q (take g.place (front ++ rest)) g.place) r.3 c))

-- a frame that ends at the place of an item at fault, where it is cut short
cut_row : (front rest : List ℕ) (g f : Fault) → AreBytes front → AreBytes (front ++ rest) → f.place ≡ length front → 1 ≤ extent f.reason → IsRefused front g → g.reason ≡ reasons.Truncated → IsRefused (front ++ rest) f → CalledIn f.reason front f.place
cut_row front rest g f are all here row stops t (inl h) = header_row front rest f all here row h
cut_row front rest g f are all here row (inl e) t (inr (header, ys, first, halt, h, body, refuses)) =
    let r = begun_fault front g e in
    let q = begun_read (front ++ rest) header first h in
    let needs : length front < q.0 = subst (Beyond (length front)) q.1 ((head_needs front rest).by r.0 r.1 (r.3 ∙ t)) in
    let place = ap (λ (x : State). x.place) q.2 in
    let last = last_place ys first halt f body refuses in
    absurd (omega (arith, needs, place, last, here))
cut_row front rest g f are all here row (inr (header, items, first, last, head, body, refuses)) t (inr (k, ys, start, halt, more_head, more, stops)) =
    let r = begun_read front header first head in
    let x = head_read front are header r.0 r.1 in
    let at : At first body_open x.body = subst (λ s. At s body_open x.body) (sym r.2) (record { front = x.header; open_levels = refl; laid = x.laid; place = omega (arith, x.long) }) in
    let body_are = (bytes_front x.header x.body (subst AreBytes x.laid are)).1 in
    let one = same_answer k header start (headed_state (front ++ rest) r.0) (sym more_head ∙ begun_is (front ++ rest) header r.0 (head_longer front rest header r.0 r.1)) in
    let is : longer rest first ≡ start = ap (longer rest) r.2 ∙ same_value_place front rest r.0 (some_bytes front header r.0 r.1) ∙ sym one.1 in
    let c = row_from rest f row items first last body_open x.body g ys halt at body_are (omega arith) t (here ∙ sym (ap (λ (s : State). length s.frame) r.2)) body refuses (subst (λ s. Reads s ys halt) (sym is) more) stops in
    subst (λ p. CalledIn f.reason front p) (sym here) (behind_header front f.reason header r.0 x c)

pub row_called : (bytes : List ℕ) (f : Fault) → AreBytes bytes → IsRefused bytes f → Not f reasons.Truncated → Not f reasons.Trailing → Not f reasons.TooDeep → 1 ≤ extent f.reason → f.place < length bytes → IsCalled f.reason bytes f.place
row_called bytes f are refused other untrailed shallow row less = by_outcome (outcome bytes are f refused other f.place)
  where
    n : ℕ
    n = f.place

    size : length (take n bytes) ≡ n
    size = length-take-le n bytes (omega (arith, less))

    by_outcome : Outcome (take n bytes) f → IsCalled f.reason bytes n
    by_outcome (inl whole) = absurd (untrailed (whole_front (take n bytes) (drop n bytes) f (front_are bytes are f refused other n) whole (again bytes are f refused other n)))
    by_outcome (inr (inl (g, stops, t))) =
        cut_row (take n bytes) (drop n bytes) g f (front_are bytes are f refused other n) (subst AreBytes (sym (take-append-drop n bytes)) are) (sym size) row stops t (again bytes are f refused other n)
    by_outcome (inr (inr same)) = absurd (not_before bytes are f refused other shallow less same)

deep_front : (front : List ℕ) (f : Fault) → AreBytes front → IsRefused front f → f.reason ≡ reasons.TooDeep → f.place ≡ length front → CalledIn reasons.TooDeep front (length front)
deep_front front f are (inl e) deep here = let r = begun_fault front f e in absurd (head_shallow front f r.0 deep r.3 ((head_stands front).by r.0 r.1))
deep_front front f are (inr (header, items, first, last, head, body, refuses)) deep here =
    let r = begun_read front header first head in
    let x = head_read front are header r.0 r.1 in
    let at : At first body_open x.body = subst (λ s. At s body_open x.body) (sym r.2) (record { front = x.header; open_levels = refl; laid = x.laid; place = omega (arith, x.long) }) in
    let body_are = (bytes_front x.header x.body (subst AreBytes x.laid are)).1 in
    let c = deep_from items first last body_open x.body f at body_are (omega arith) deep (here ∙ sym (ap (λ (s : State). length s.frame) r.2)) body refuses in
    behind_header front reasons.TooDeep header r.0 x c

pub deep_called : (bytes : List ℕ) (f : Fault) → AreBytes bytes → IsRefused bytes f → f.reason ≡ reasons.TooDeep → f.place ≤ length bytes → IsCalled reasons.TooDeep bytes f.place
deep_called bytes f are refused deep less =
    let other : Not f reasons.Truncated = (λ t. not_cut (sym deep ∙ t)) in
    let size = length-take-le f.place bytes less in
    subst (λ p. CalledIn reasons.TooDeep (take f.place bytes) p) size (deep_front (take f.place bytes) f (front_are bytes are f refused other f.place) (deep_before bytes are f refused other deep) deep (sym size))
