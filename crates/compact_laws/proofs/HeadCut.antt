-- A header that the bytes end inside is completed to a message.
use Rattle.std.proofs.Common.{◌≡◌, ℕ, ℤ, pos, ◌+◌, ◌*◌, ◌/◌, ◌%◌, Bool, true, false, cond, List, [], ◌∷◌, ◌++◌, length, drop, Option, Some, None, Ok, Err, refl, ap, ◌∙◌, sym, subst, arith, ◌⊎◌, inl, inr, length-append, append_assoc}
use Rattle.std.specs.Prelude.{nat_lt, ◌==◌, FitsSigned, slice_index}
use Rattle.std.specs.Int.{w32, cast_signed}
use Rattle.std.proofs.lemmas.Bool.Decides.{nat_tests}
use Rattle.std.proofs.lemmas.Int.{of_z-to_z, ints}
use Rattle.varint_zigzag.specs.Varint.{Spells}
use Rattle.thrift_value.specs.declared.kind.MessageType.{MessageType}
use Rattle.thrift_value.specs.declared.kind.MessageType.TheVariants as types
use Rattle.thrift_value.specs.Trees.{no_members}
use Rattle.protocol_traits.specs.declared.fault.Fault.{Fault}
use Rattle.protocol_traits.specs.declared.fault.Reason.TheVariants as reasons
use Rattle.protocol_traits.specs.Heads.{Header}
use Rattle.compact_protocol.specs.Codes.{type_code, type_of}
use Rattle.compact_protocol.specs.Scan.{Scan, fault, shifted, ◌>>=◌, varint32_at, string_at, type_or_fault, type_at, front_at}
use Rattle.compact_protocol.specs.Grammar.{SpellsHeader}
use Rattle.gate_base.specs.Bytes.{AreBytes}
use Rattle.binary_laws.proofs.Cutting.{never_read, other_reason, cut_place}
use Rattle.binary_laws.proofs.Headed.{message_of}
use Rattle.compact_laws.specs.Refused.{IsViable}
use Rattle.compact_laws.proofs.Closing.{zero_32}
use Rattle.compact_laws.proofs.Inverse.{behind_front, rest_bytes}
use Rattle.compact_laws.proofs.Headed.{IsVersion, IsFront, type_read, front_read, fits_32}
use Rattle.compact_laws.proofs.Short.{Filled, then_fault, first_fault, shift_fault, varint32_cut, string_cut}
use Rattle.compact_laws.proofs.Staying.{HeadFault}

-- ---- a whole header and an empty body

header_viable : (bytes more : List ℕ) (h : Header) → SpellsHeader (message_of h no_members) (bytes ++ more) → IsViable bytes
header_viable bytes more h s = (more ++ 0 ∷ [], message_of h no_members, (bytes ++ more, 0 ∷ [], s, refl, sym (append_assoc bytes more (0 ∷ []))))

header_of : MessageType → ℤ → List ℕ → Header
header_of t z name = record { name = name; mtype = t; seq = z }

-- a front with no name behind
front_viable : (bytes : List ℕ) (t : MessageType) (z : ℤ) → Filled (IsFront t z) bytes → IsViable bytes
unfolding header_of
front_viable bytes t z f =
    let number = f.spells.1.0 in
    header_viable bytes (f.more ++ 0 ∷ []) (header_of t z []) (f.spells.0, (number, 0 ∷ [], f.spells.1.1, (0 ∷ [], (omega arith, zero_32), refl), sym (append_assoc bytes f.more (0 ∷ [])) ∙ ap (λ l. l ++ 0 ∷ []) f.spells.1.2))

-- ---- the version and the type

not_version : reasons.BadVersion ≡ reasons.Truncated → ⊥
not_version e = absurd (cc)

not_type : reasons.BadType ≡ reasons.Truncated → ⊥
not_type e = absurd (cc)

zero_fits : FitsSigned w32 (pos 0)
zero_fits = omega (arith, ints)

zero_front : (l more : List ℕ) → AreBytes more → l ++ more ≡ 130 ∷ 33 ∷ 0 ∷ [] → Filled (IsFront types.Call (pos 0)) l
zero_front l more are e = record { more = more; are = are; spells = (zero_fits, (0 ∷ [], zero_32, e)) }

abbrev Called : List ℕ → Fault → Type 0
Called l f = (f.place ≡ length l) × Filled (IsFront types.Call (pos 0)) l

-- one byte of the two
version_one : (x : ℕ) (l : List ℕ) (f : Fault) → x ≡ 130 → (b : Bool) → nat_lt (length (x ∷ l)) 2 ≡ b
    → cond b (fault 1 reasons.Truncated) (cond (slice_index (x ∷ l) 1 % 32 == 1) (type_or_fault (type_of (slice_index (x ∷ l) 1 / 32))) (fault 1 reasons.BadVersion)) ≡ Err f → f.reason ≡ reasons.Truncated → Called (x ∷ l) f
version_one x [] f is true p e t = (cut_place {X = MessageType} (x ∷ []) f e, zero_front (x ∷ []) (33 ∷ 0 ∷ []) (omega arith, (omega arith, tt)) (ap (λ y. y ∷ 33 ∷ 0 ∷ []) is))
version_one x (y ∷ l) f is true p e t = absurd (grind (arith, nat_tests, p))
version_one x l f is false p e t = absurd (by_version (slice_index (x ∷ l) 1 % 32 == 1) e)
  where
    by_type : (found : Option MessageType) → type_or_fault found ≡ Err f → ⊥
    by_type None h = other_reason {X = MessageType} 1 reasons.BadType f not_type h t
    by_type (Some y) h = never_read (y, 2) f h

    by_version : (b : Bool) → cond b (type_or_fault (type_of (slice_index (x ∷ l) 1 / 32))) (fault 1 reasons.BadVersion) ≡ Err f → ⊥
    by_version true h = by_type (type_of (slice_index (x ∷ l) 1 / 32)) h
    by_version false h = other_reason {X = MessageType} 1 reasons.BadVersion f not_version h t

abbrev behind_first : ℕ → List ℕ → Scan MessageType
behind_first x l = cond (x == 130) (cond (nat_lt (length l) 2) (fault 1 reasons.Truncated) (cond (slice_index l 1 % 32 == 1) (type_or_fault (type_of (slice_index l 1 / 32))) (fault 1 reasons.BadVersion))) (fault 0 reasons.BadVersion)

type_first : (l : List ℕ) (f : Fault) (b : Bool) → nat_lt (length l) 1 ≡ b → cond b (fault 0 reasons.Truncated) (behind_first (slice_index l 0) l) ≡ Err f → f.reason ≡ reasons.Truncated → Called l f
type_first [] f true p e t = (cut_place {X = MessageType} [] f e, zero_front [] (130 ∷ 33 ∷ 0 ∷ []) (omega arith, (omega arith, (omega arith, tt))) refl)
type_first [] f false p e t = absurd (grind (arith, nat_tests, p))
type_first (x ∷ l) f true p e t = absurd (grind (arith, nat_tests, p))
type_first (x ∷ l) f false p e t = by_first (x == 130) refl e
  where
    by_first : (b : Bool) → (x == 130) ≡ b
        → cond b (cond (nat_lt (length (x ∷ l)) 2) (fault 1 reasons.Truncated) (cond (slice_index (x ∷ l) 1 % 32 == 1) (type_or_fault (type_of (slice_index (x ∷ l) 1 / 32))) (fault 1 reasons.BadVersion))) (fault 0 reasons.BadVersion) ≡ Err f
        → Called (x ∷ l) f
    by_first true s h = version_one x l f (grind (arith, nat_tests, s)) (nat_lt (length (x ∷ l)) 2) refl h t
    by_first false s h = absurd (other_reason {X = MessageType} 0 reasons.BadVersion f not_version h t)

type_cut : (bytes : List ℕ) (f : Fault) → type_at bytes ≡ Err f → f.reason ≡ reasons.Truncated → Called bytes f
unfolding type_at
type_cut bytes f e t = type_first bytes f (nat_lt (length bytes) 1) refl e t

-- ---- the sequence number

abbrev Ends : List ℕ → Fault → Type 0
Ends bytes f = (f.place ≡ length bytes) × IsViable bytes

number_cut : (bytes : List ℕ) → AreBytes bytes → (t : MessageType) (k : ℕ) → type_at bytes ≡ Ok (t, k) → (f : Fault) → shifted k (varint32_at (drop k bytes)) ≡ Err f → f.reason ≡ reasons.Truncated → Ends bytes f
number_cut bytes are t k is f e truncated =
    let v = type_read bytes t k is in
    let g = shift_fault k (varint32_at (drop k bytes)) f e in
    let c = varint32_cut v.rest (rest_bytes (IsVersion t) bytes k v are) g.0 (ap varint32_at (sym (behind_front (IsVersion t) bytes k v)) ∙ g.1) (g.3 ∙ truncated) in
    let n = c.1.0 in
    let s = c.1.1 in
    let small = s.spells.fits in
    let number = v.rest ++ s.more in
    let place = g.2 in
    let laid : bytes ++ s.more ≡ 130 ∷ (32 * type_code t + 1) ∷ number = ap (λ l. l ++ s.more) v.laid ∙ append_assoc v.front v.rest s.more ∙ ap (λ l. l ++ number) v.spells in (
      omega (arith, place, c.0, v.size, ap length v.laid, length-append v.front v.rest),
      front_viable bytes t (cast_signed w32 n) (record { more = s.more; are = s.are; spells = (fits_32 n small, (number, subst (λ m. Spells 5 32 number m) (sym (of_z-to_z w32 n small)) s.spells, laid)) }),
    )

abbrev numbered : MessageType → ℕ × ℕ → (MessageType × ℤ) × ℕ
numbered t n = ((t, cast_signed w32 n.0), n.1)

abbrev behind_type : List ℕ → MessageType × ℕ → Scan (MessageType × ℤ)
behind_type bytes t = shifted t.1 (varint32_at (drop t.1 bytes)) >>= λ n. Ok (numbered t.0 n)

front_cut : (bytes : List ℕ) → AreBytes bytes → (f : Fault) → front_at bytes ≡ Err f → f.reason ≡ reasons.Truncated → Ends bytes f
unfolding front_at
front_cut bytes are f e truncated = by_type (then_fault (type_at bytes) (behind_type bytes) f e)
  where
    by_type : (type_at bytes ≡ Err f) ⊎ ((t : MessageType × ℕ) × (type_at bytes ≡ Ok t) × (behind_type bytes t ≡ Err f)) → Ends bytes f
    by_type (inl h) = let c = type_cut bytes f h truncated in (c.0, front_viable bytes types.Call (pos 0) c.1)
    by_type (inr (t, is, h)) = number_cut bytes are t.0 t.1 is f (first_fault (shifted t.1 (varint32_at (drop t.1 bytes))) (numbered t.0) f h) truncated

-- ---- and the name

name_cut : (bytes : List ℕ) → AreBytes bytes → (t : MessageType) (z : ℤ) (at : ℕ) → front_at bytes ≡ Ok ((t, z), at) → (g : Fault) → string_at (drop at bytes) ≡ Err g → g.reason ≡ reasons.Truncated → (at + g.place ≡ length bytes) × IsViable bytes
unfolding header_of
name_cut bytes are t z at is g e truncated =
    let r = front_read bytes are t z at is in
    let c = string_cut r.rest (rest_bytes (IsFront t z) bytes at r are) g (ap string_at (sym (behind_front (IsFront t z) bytes at r)) ∙ e) truncated in
    let name = c.1.0 in
    let s = c.1.1 in
    let number = r.spells.1.0 in
    let text = r.rest ++ s.more in
    let laid : bytes ++ s.more ≡ 130 ∷ (32 * type_code t + 1) ∷ (number ++ text) = ap (λ l. l ++ s.more) r.laid ∙ append_assoc r.front r.rest s.more ∙ ap (λ l. l ++ text) r.spells.1.2 in
    (omega (arith, c.0, r.size, ap length r.laid, length-append r.front r.rest), header_viable bytes s.more (header_of t z name) (r.spells.0, (number, text, r.spells.1.1, s.spells, laid)))

pub head_cut : (bytes : List ℕ) → AreBytes bytes → (f : Fault) → HeadFault bytes f → f.reason ≡ reasons.Truncated → (f.place ≡ length bytes) × IsViable bytes
head_cut bytes are f (inl (g, e, is)) truncated =
    let c = front_cut bytes are g e (ap (λ (b : Fault). b.reason) (sym is) ∙ truncated) in
    let place : f.place ≡ 0 + g.place = ap (λ (b : Fault). b.place) is in
    (omega (arith, place, c.0), c.1)
head_cut bytes are f (inr (front, at, g, e, s, is)) truncated =
    let c = name_cut bytes are front.0 front.1 at e g s (ap (λ (b : Fault). b.reason) (sym is) ∙ truncated) in
    let place : f.place ≡ 0 + (at + g.place) = ap (λ (b : Fault). b.place) is in
    (omega (arith, place, c.0), c.1)
