-- A header that the bytes end inside is completed to a message.
use Rattle.std.proofs.Common.{◌≡◌, ℕ, ℤ, pos, ◌+◌, ◌-◌, ◌<◌, ◌^◌, Bool, true, false, cond, List, [], ◌∷◌, ◌++◌, length, take, drop, Option, Some, None, Ok, Err, refl, ap, ◌∙◌, sym, subst, arith, ◌⊎◌, inl, inr, length-append, append_assoc}
use Rattle.std.specs.Prelude.{nat_lt, nat_le, ◌==◌, ◌&&◌, ◌||◌, FitsSigned, slice_index}
use Rattle.std.proofs.lemmas.Bool.Decides.{nat_tests}
use Rattle.std.proofs.lemmas.List.{append-nil}
use Rattle.std.proofs.lemmas.Int.{ints}
use Rattle.std.specs.Int.{w32}
use Rattle.thrift_value.specs.declared.kind.MessageType.{MessageType}
use Rattle.thrift_value.specs.declared.kind.MessageType.TheVariants as types
use Rattle.thrift_value.specs.Trees.{Message, no_members}
use Rattle.protocol_traits.specs.declared.fault.Fault.{Fault}
use Rattle.protocol_traits.specs.declared.fault.Reason.TheVariants as reasons
use Rattle.protocol_traits.specs.Heads.{Header}
use Rattle.binary_protocol.specs.Codes.{code_of_type, type_of_code}
use Rattle.binary_protocol.specs.Scan.{Scan, fault, cut, shifted, ◌>>=◌, signed_at, size_at, string_at, string_of}
use Rattle.binary_protocol.specs.Heads.{type_of, type_at, seq_at, version_at, strict_at, old_at, head_at}
use Rattle.binary_protocol.specs.Grammar.{number, size, string}
use Rattle.gate_base.specs.Bytes.{AreBytes}
use Rattle.binary_laws.specs.Refused.{IsViable}
use Rattle.binary_laws.proofs.Heading.{drop_by}
use Rattle.binary_laws.proofs.Inverse.{either, is_read, front_32, bytes_front}
use Rattle.binary_laws.proofs.Begun.{size_read, string_read, both}
use Rattle.binary_laws.proofs.Closing.{bytes_join}
use Rattle.binary_laws.proofs.Headed.{version_read, type_read, shift_read}
use Rattle.binary_laws.proofs.Cutting.{never_read, other_reason, same_fault, zeros, zeros_small, zeros_long, shorter, cut_place, size_cut}

no_more : (l : List ℕ) → length l ≡ 0 → l ≡ []
no_more [] e = refl
no_more (x ∷ l) e = absurd (omega arith)

-- ---- a name

record StringDone (bytes : List ℕ) : Type 0 where
  more : List ℕ
  name : List ℕ
  is : bytes ++ more ≡ string name
  small : length name < 2 ^ 31

named : (bytes more name : List ℕ) (n : ℕ) → bytes ++ more ≡ size n ++ name → length name ≡ n → n < 2 ^ 31 → StringDone bytes
named bytes more name n laid long small = record { more = more; name = name; is = laid ∙ ap (λ j. size j ++ name) (sym long); small = omega (arith, long, small) }

string_cut : (bytes : List ℕ) → AreBytes bytes → (f : Fault) → string_at bytes ≡ Err f → f.reason ≡ reasons.Truncated → (f.place ≡ length bytes) × StringDone bytes
unfolding string_at
string_cut bytes are f e t = by_size (size_at bytes) refl e
  where
    by_size : (scan : Scan ℕ) → size_at bytes ≡ scan → string_of bytes scan ≡ Err f → (f.place ≡ length bytes) × StringDone bytes
    by_size (Err g) s h =
        let same = same_fault {X = List ℕ} g f h in
        let c = size_cut bytes are f (s ∙ ap (λ k. Err k) same) t in
        let d = c.1 in
        let front = bytes ++ d.more in
        let r = size_read front (bytes_join bytes d.more are d.are) d.n 4 (ap size_at (sym (append-nil front)) ∙ d.whole []) in
        let none : r.rest ≡ [] = no_more r.rest (omega (arith, d.four, ap length r.laid)) in
        let whole : front ≡ size d.n = r.laid ∙ ap (λ l. size d.n ++ l) none in
        (c.0, named bytes (d.more ++ zeros d.n) (zeros d.n) d.n (sym (append_assoc bytes d.more (zeros d.n)) ∙ ap (λ l. l ++ zeros d.n) whole) (zeros_long d.n) d.small)
    by_size (Ok x) s h = by_length (either (nat_lt (length bytes) (x.0 + 4)) (cut {X = List ℕ} bytes) (is_read (take x.0 (drop 4 bytes), x.0 + 4)) (Err f) h)
      where
        by_length : (nat_lt (length bytes) (x.0 + 4) ≡ true) × (cut {X = List ℕ} bytes ≡ Err f) ⊎ (nat_lt (length bytes) (x.0 + 4) ≡ false) × (is_read (take x.0 (drop 4 bytes), x.0 + 4) ≡ Err f) → (f.place ≡ length bytes) × StringDone bytes
        by_length (inr k) = absurd (never_read (take x.0 (drop 4 bytes), x.0 + 4) f k.1)
        by_length (inl k) =
            let n = x.0 in
            let r = size_read bytes are n x.1 s in
            let less = shorter (length bytes) (n + 4) k.0 in
            let more = zeros ((n + 4) - length bytes) in (
              cut_place {X = List ℕ} bytes f k.1,
              named bytes more (r.rest ++ more) n (ap (λ l. l ++ more) r.laid ∙ append_assoc (size n) r.rest more)
                  (omega (arith, length-append r.rest more, zeros_long ((n + 4) - length bytes), less, ap length r.laid)) r.small,
            )

-- ---- the sequence number

record NumberDone (bytes : List ℕ) : Type 0 where
  more : List ℕ
  z : ℤ
  is : bytes ++ more ≡ number w32 z
  fits : FitsSigned w32 z

seq_cut : (bytes : List ℕ) → AreBytes bytes → (f : Fault) → seq_at bytes ≡ Err f → (f.place ≡ length bytes) × NumberDone bytes
unfolding seq_at
seq_cut bytes are f e = by_length (either (nat_lt (length bytes) 4) (cut {X = ℤ} bytes) (is_read (signed_at w32 bytes, 4)) (Err f) e)
  where
    by_length : (nat_lt (length bytes) 4 ≡ true) × (cut {X = ℤ} bytes ≡ Err f) ⊎ (nat_lt (length bytes) 4 ≡ false) × (is_read (signed_at w32 bytes, 4) ≡ Err f) → (f.place ≡ length bytes) × NumberDone bytes
    by_length (inr h) = absurd (never_read (signed_at w32 bytes, 4) f h.1)
    by_length (inl h) =
        let less = shorter (length bytes) 4 h.0 in
        let more = zeros (4 - length bytes) in
        let whole = bytes ++ more in
        let four : length whole ≡ 4 = omega (arith, length-append bytes more, zeros_long (4 - length bytes), less) in
        let r = front_32 whole (bytes_join bytes more are (zeros_small (4 - length bytes))) (omega (arith, four)) in
        let none : r.rest ≡ [] = no_more r.rest (omega (arith, four, ap length r.laid)) in
        (cut_place {X = ℤ} bytes f h.1, record { more = more; z = signed_at w32 whole; is = r.laid ∙ ap (λ l. number w32 (signed_at w32 whole) ++ l) none; fits = r.fits })

-- ---- a whole header and an empty body

message : List ℕ → MessageType → ℤ → Message
message name t z = record { name = name; mtype = t; seq = z; body = no_members }

pub zero_fits : FitsSigned w32 (pos 0)
zero_fits = omega (arith, ints)

strict_viable : (bytes more name : List ℕ) (u : ℕ) (t : MessageType) (z : ℤ) → u < 256 → length name < 2 ^ 31 → FitsSigned w32 z → bytes ++ more ≡ 128 ∷ 1 ∷ u ∷ code_of_type t ∷ string name ++ number w32 z → IsViable bytes
unfolding message
strict_viable bytes more name u t z less small fits laid =
    (more ++ (0 ∷ []), message name t z, (small, fits, (128 ∷ 1 ∷ u ∷ code_of_type t ∷ string name ++ number w32 z, 0 ∷ [], inl (u, less, refl), refl, sym (append_assoc bytes more (0 ∷ [])) ∙ ap (λ l. l ++ (0 ∷ [])) laid)))

old_viable : (bytes more name : List ℕ) (t : MessageType) (z : ℤ) → length name < 2 ^ 31 → FitsSigned w32 z → bytes ++ more ≡ string name ++ code_of_type t ∷ number w32 z → IsViable bytes
unfolding message
old_viable bytes more name t z small fits laid =
    (more ++ (0 ∷ []), message name t z, (small, fits, (string name ++ code_of_type t ∷ number w32 z, 0 ∷ [], inr refl, refl, sym (append_assoc bytes more (0 ∷ [])) ∙ ap (λ l. l ++ (0 ∷ [])) laid)))

-- ---- faults

not_version : reasons.BadVersion ≡ reasons.Truncated → ⊥
not_version e = absurd (cc)

not_type : reasons.BadType ≡ reasons.Truncated → ⊥
not_type e = absurd (cc)

pub then_fault : {X Y : Type 0} → (scan : Scan X) (go : X × ℕ → Scan Y) (f : Fault) → (scan >>= go) ≡ Err f → (scan ≡ Err f) ⊎ ((x : X × ℕ) × (scan ≡ Ok x) × (go x ≡ Err f))
then_fault {X} {Y} (Ok x) go f e = inr (x, refl, e)
then_fault {X} {Y} (Err g) go f e = inl (ap (λ k. Err k) (same_fault {X = Y} g f e))

pub shift_fault : {X : Type 0} → (n : ℕ) (scan : Scan X) (f : Fault) → shifted n scan ≡ Err f → (g : Fault) × (scan ≡ Err g) × (n + g.place ≡ f.place) × (g.reason ≡ f.reason)
shift_fault {X} n (Ok x) f e = absurd (never_read (x.0, n + x.1) f e)
shift_fault {X} n (Err g) f e =
    let same = same_fault {X = X} (record { place = n + g.place; reason = g.reason }) f e in (g, refl, ap (λ (b : Fault). b.place) same, ap (λ (b : Fault). b.reason) same)

-- a type that isn't there, at the end of the bytes
type_fault : (bytes : List ℕ) (f : Fault) → type_at bytes ≡ Err f → f.reason ≡ reasons.Truncated → (f.place ≡ 0) × (bytes ≡ [])
unfolding type_at
type_fault [] f e t = (cut_place {X = MessageType} [] f e, refl)
type_fault (x ∷ rest) f e t = absurd (by_length (nat_lt (length (x ∷ rest)) 1) (grind (arith, nat_tests)) e)
  where
    by_type : (found : Option MessageType) → type_of found ≡ Err f → ⊥
    by_type None h = other_reason {X = MessageType} 0 reasons.BadType f not_type h t
    by_type (Some y) h = never_read (y, 1) f h

    by_length : (b : Bool) → b ≡ false → cond b (cut {X = MessageType} (x ∷ rest)) (type_of (type_of_code x)) ≡ Err f → ⊥
    by_length true p h = absurd (cc)
    by_length false p h = by_type (type_of_code x) h

-- ---- the version

abbrev Ends : List ℕ → Fault → Type 0
Ends bytes f = (f.place ≡ length bytes) × IsViable bytes

-- a call with no name and the number 0
from_version : (l more : List ℕ) (u : ℕ) → u < 256 → l ++ more ≡ 128 ∷ 1 ∷ u ∷ 1 ∷ string [] ++ number w32 (pos 0) → IsViable l
from_version l more u less e = strict_viable l more [] u types.Call (pos 0) less (omega arith) zero_fits e

eq_of : (x n : ℕ) → (x == n) ≡ true → x ≡ n
eq_of x n e = grind (arith, nat_tests)

version_start : (l : List ℕ) → AreBytes l → length l < 4 → ((slice_index l 0 == 128) && (nat_lt (length l) 2 || (slice_index l 1 == 1))) ≡ true → IsViable l
version_start [] are h v = absurd (grind (arith, nat_tests))
version_start (a ∷ []) are h v =
    let p = both (a == 128) (nat_lt 1 2 || (0 == 1)) v in
    from_version (a ∷ []) (1 ∷ 0 ∷ 1 ∷ string [] ++ number w32 (pos 0)) 0 (omega arith) (ap (λ x. x ∷ 1 ∷ 0 ∷ 1 ∷ string [] ++ number w32 (pos 0)) (eq_of a 128 p.0))
version_start (a ∷ b ∷ []) are h v =
    let p = both (a == 128) (nat_lt 2 2 || (b == 1)) v in
    from_version (a ∷ b ∷ []) (0 ∷ 1 ∷ string [] ++ number w32 (pos 0)) 0 (omega arith)
    (ap (λ x. x ∷ b ∷ 0 ∷ 1 ∷ string [] ++ number w32 (pos 0)) (eq_of a 128 p.0) ∙ ap (λ x. 128 ∷ x ∷ 0 ∷ 1 ∷ string [] ++ number w32 (pos 0)) (eq_of b 1 p.1))
version_start (a ∷ b ∷ c ∷ []) are h v =
    let p = both (a == 128) (nat_lt 3 2 || (b == 1)) v in
    from_version (a ∷ b ∷ c ∷ []) (1 ∷ string [] ++ number w32 (pos 0)) c are.1.1.0
    (ap (λ x. x ∷ b ∷ c ∷ 1 ∷ string [] ++ number w32 (pos 0)) (eq_of a 128 p.0) ∙ ap (λ x. 128 ∷ x ∷ c ∷ 1 ∷ string [] ++ number w32 (pos 0)) (eq_of b 1 p.1))
version_start (a ∷ b ∷ c ∷ d ∷ l) are h v = absurd (omega arith)

some_drop : (l : List ℕ) → nat_lt (length l) 4 ≡ false → drop 3 l ≡ [] → ⊥
some_drop [] h e = grind (arith, nat_tests)
some_drop (a ∷ []) h e = grind (arith, nat_tests)
some_drop (a ∷ b ∷ []) h e = grind (arith, nat_tests)
some_drop (a ∷ b ∷ c ∷ []) h e = grind (arith, nat_tests)
some_drop (a ∷ b ∷ c ∷ d ∷ l) h e = absurd (cc)

version_cut : (bytes : List ℕ) → AreBytes bytes → (f : Fault) → version_at bytes ≡ Err f → f.reason ≡ reasons.Truncated → Ends bytes f
unfolding version_at
version_cut bytes are f e t = by_tests ((slice_index bytes 0 == 128) && (nat_lt (length bytes) 2 || (slice_index bytes 1 == 1))) (nat_lt (length bytes) 4) refl refl e
  where
    by_tests : (a b : Bool) → ((slice_index bytes 0 == 128) && (nat_lt (length bytes) 2 || (slice_index bytes 1 == 1))) ≡ a → nat_lt (length bytes) 4 ≡ b
        → cond a (cond b (cut {X = MessageType} bytes) (shifted 3 (type_at (drop 3 bytes)))) (fault 0 reasons.BadVersion) ≡ Err f → Ends bytes f
    by_tests false b p q h = absurd (other_reason {X = MessageType} 0 reasons.BadVersion f not_version h t)
    by_tests true true p q h = (cut_place {X = MessageType} bytes f h, version_start bytes are (shorter (length bytes) 4 q) p)
    by_tests true false p q h =
        let g = shift_fault 3 (type_at (drop 3 bytes)) f h in
        let none = type_fault (drop 3 bytes) g.0 g.1 (g.3 ∙ t) in
        absurd (some_drop bytes q none.1)

-- ---- both forms

-- behind the version and the type, the name was read and the number is cut
strict_number : (bytes : List ℕ) → AreBytes bytes → (f : Fault) → (v : MessageType × ℕ) → version_at bytes ≡ Ok v → (n : List ℕ × ℕ) → shifted v.1 (string_at (drop v.1 bytes)) ≡ Ok n → shifted n.1 (seq_at (drop n.1 bytes)) ≡ Err f → Ends bytes f
strict_number bytes are f v is n name h =
    let w = version_read bytes are v.0 v.1 is in
    let behind : drop v.1 bytes ≡ w.rest = ap (λ k. drop k bytes) w.four ∙ ap (drop 4) w.laid in
    let rest_are = (subst AreBytes w.laid are).1.1.1.1 in
    let i = shift_read v.1 (string_at (drop v.1 bytes)) n.0 n.1 name in
    let s = string_read w.rest rest_are n.0 i.0 (ap string_at (sym behind) ∙ i.1) in
    let tail_are = (bytes_front (string n.0) s.rest (subst AreBytes s.laid rest_are)).1 in
    let front = 128 ∷ 1 ∷ w.unused ∷ code_of_type v.0 ∷ string n.0 in
    let laid : bytes ≡ front ++ s.rest = w.laid ∙ ap (λ l. 128 ∷ 1 ∷ w.unused ∷ code_of_type v.0 ∷ l) s.laid in
    let size_is : n.1 ≡ length front = omega (arith, i.2, w.four, s.long) in
    let past : drop n.1 bytes ≡ s.rest = ap (drop n.1) laid ∙ drop_by n.1 front s.rest size_is in
    let g = shift_fault n.1 (seq_at (drop n.1 bytes)) f h in
    let c = seq_cut s.rest tail_are g.0 (ap seq_at (sym past) ∙ g.1) in
    let d = c.1 in
    let place = g.2 in (
      omega (arith, place, c.0, size_is, ap length laid, length-append front s.rest),
      strict_viable bytes d.more n.0 w.unused v.0 d.z w.byte s.small d.fits (ap (λ l. l ++ d.more) laid ∙ append_assoc front s.rest d.more ∙ ap (λ l. front ++ l) d.is),
    )

-- the name is cut
strict_name : (bytes : List ℕ) → AreBytes bytes → (f : Fault) → (v : MessageType × ℕ) → version_at bytes ≡ Ok v → shifted v.1 (string_at (drop v.1 bytes)) ≡ Err f → f.reason ≡ reasons.Truncated → Ends bytes f
strict_name bytes are f v is h t =
    let w = version_read bytes are v.0 v.1 is in
    let behind : drop v.1 bytes ≡ w.rest = ap (λ k. drop k bytes) w.four ∙ ap (drop 4) w.laid in
    let rest_are = (subst AreBytes w.laid are).1.1.1.1 in
    let g = shift_fault v.1 (string_at (drop v.1 bytes)) f h in
    let c = string_cut w.rest rest_are g.0 (ap string_at (sym behind) ∙ g.1) (g.3 ∙ t) in
    let d = c.1 in
    let place = g.2 in
    let four = w.four in
    let number_0 = number w32 (pos 0) in
    let front = λ (l : List ℕ). 128 ∷ 1 ∷ w.unused ∷ code_of_type v.0 ∷ l in (
      omega (arith, place, c.0, four, ap length w.laid),
      strict_viable bytes (d.more ++ number_0) d.name w.unused v.0 (pos 0) w.byte d.small zero_fits (ap (λ l. l ++ (d.more ++ number_0)) w.laid ∙ ap front (sym (append_assoc w.rest d.more number_0) ∙ ap (λ l. l ++ number_0) d.is)),
    )

abbrev after_name : MessageType → List ℕ → ℕ → List ℕ → Scan Header
after_name t name n bytes = shifted n (seq_at (drop n bytes)) >>= λ s. Ok (record { name = name; mtype = t; seq = s.0 }, s.1)

strict_seq : (bytes : List ℕ) → AreBytes bytes → (f : Fault) → (v : MessageType × ℕ) → version_at bytes ≡ Ok v → (n : List ℕ × ℕ) → shifted v.1 (string_at (drop v.1 bytes)) ≡ Ok n → after_name v.0 n.0 n.1 bytes ≡ Err f → Ends bytes f
strict_seq bytes are f v is n name e = by_seq (then_fault (shifted n.1 (seq_at (drop n.1 bytes))) (λ s. Ok (record { name = n.0; mtype = v.0; seq = s.0 }, s.1)) f e)
  where
    by_seq : (shifted n.1 (seq_at (drop n.1 bytes)) ≡ Err f) ⊎ ((s : ℤ × ℕ) × (shifted n.1 (seq_at (drop n.1 bytes)) ≡ Ok s) × (is_read {X = Header} (record { name = n.0; mtype = v.0; seq = s.0 }, s.1) ≡ Err f)) → Ends bytes f
    by_seq (inl h) = strict_number bytes are f v is n name h
    by_seq (inr (s, was, h)) = absurd (never_read (record { name = n.0; mtype = v.0; seq = s.0 }, s.1) f h)

strict_rest : (bytes : List ℕ) → AreBytes bytes → (f : Fault) → f.reason ≡ reasons.Truncated → (v : MessageType × ℕ) → version_at bytes ≡ Ok v → (shifted v.1 (string_at (drop v.1 bytes)) >>= λ n. after_name v.0 n.0 n.1 bytes) ≡ Err f → Ends bytes f
strict_rest bytes are f t v is e = by_name (then_fault (shifted v.1 (string_at (drop v.1 bytes))) (λ n. after_name v.0 n.0 n.1 bytes) f e)
  where
    by_name : (shifted v.1 (string_at (drop v.1 bytes)) ≡ Err f) ⊎ ((n : List ℕ × ℕ) × (shifted v.1 (string_at (drop v.1 bytes)) ≡ Ok n) × (after_name v.0 n.0 n.1 bytes ≡ Err f)) → Ends bytes f
    by_name (inl h) = strict_name bytes are f v is h t
    by_name (inr (n, was, h)) = strict_seq bytes are f v is n was h

strict_cut : (bytes : List ℕ) → AreBytes bytes → (f : Fault) → strict_at bytes ≡ Err f → f.reason ≡ reasons.Truncated → Ends bytes f
unfolding strict_at
strict_cut bytes are f e t = by_version (then_fault (version_at bytes) (λ v. shifted v.1 (string_at (drop v.1 bytes)) >>= λ n. after_name v.0 n.0 n.1 bytes) f e)
  where
    by_version : (version_at bytes ≡ Err f) ⊎ ((v : MessageType × ℕ) × (version_at bytes ≡ Ok v) × ((shifted v.1 (string_at (drop v.1 bytes)) >>= λ n. after_name v.0 n.0 n.1 bytes) ≡ Err f)) → Ends bytes f
    by_version (inl h) = version_cut bytes are f h t
    by_version (inr (v, was, h)) = strict_rest bytes are f t v was h

-- the old form: the number is cut
old_number : (bytes : List ℕ) → AreBytes bytes → (f : Fault) → (n : List ℕ × ℕ) → string_at bytes ≡ Ok n → (v : MessageType × ℕ) → shifted n.1 (type_at (drop n.1 bytes)) ≡ Ok v → shifted v.1 (seq_at (drop v.1 bytes)) ≡ Err f → Ends bytes f
old_number bytes are f n name v type h =
    let w = string_read bytes are n.0 n.1 name in
    let rest_are = (bytes_front (string n.0) w.rest (subst AreBytes w.laid are)).1 in
    let behind : drop n.1 bytes ≡ w.rest = ap (drop n.1) w.laid ∙ drop_by n.1 (string n.0) w.rest w.long in
    let i = shift_read n.1 (type_at (drop n.1 bytes)) v.0 v.1 type in
    let y = type_read w.rest v.0 i.0 (ap type_at (sym behind) ∙ i.1) in
    let tail_are = (subst AreBytes y.laid rest_are).1 in
    let front = string n.0 ++ (code_of_type v.0 ∷ []) in
    let laid : bytes ≡ front ++ y.rest = w.laid ∙ ap (λ l. string n.0 ++ l) y.laid ∙ sym (append_assoc (string n.0) (code_of_type v.0 ∷ []) y.rest) in
    let size_is : v.1 ≡ length front = omega (arith, i.2, y.one, w.long, length-append (string n.0) (code_of_type v.0 ∷ [])) in
    let past : drop v.1 bytes ≡ y.rest = ap (drop v.1) laid ∙ drop_by v.1 front y.rest size_is in
    let g = shift_fault v.1 (seq_at (drop v.1 bytes)) f h in
    let c = seq_cut y.rest tail_are g.0 (ap seq_at (sym past) ∙ g.1) in
    let d = c.1 in
    let place = g.2 in (
      omega (arith, place, c.0, size_is, ap length laid, length-append front y.rest),
      old_viable bytes d.more n.0 v.0 d.z w.small d.fits (ap (λ l. l ++ d.more) laid ∙ append_assoc front y.rest d.more ∙ ap (λ l. front ++ l) d.is ∙ append_assoc (string n.0) (code_of_type v.0 ∷ []) (number w32 d.z)),
    )

old_type : (bytes : List ℕ) → AreBytes bytes → (f : Fault) → (n : List ℕ × ℕ) → string_at bytes ≡ Ok n → shifted n.1 (type_at (drop n.1 bytes)) ≡ Err f → f.reason ≡ reasons.Truncated → Ends bytes f
old_type bytes are f n name h t =
    let w = string_read bytes are n.0 n.1 name in
    let behind : drop n.1 bytes ≡ w.rest = ap (drop n.1) w.laid ∙ drop_by n.1 (string n.0) w.rest w.long in
    let g = shift_fault n.1 (type_at (drop n.1 bytes)) f h in
    let c = type_fault w.rest g.0 (ap type_at (sym behind) ∙ g.1) (g.3 ∙ t) in
    let place = g.2 in
    let tail = code_of_type types.Call ∷ number w32 (pos 0) in
    let all : bytes ≡ string n.0 = w.laid ∙ ap (λ l. string n.0 ++ l) c.1 ∙ append-nil (string n.0) in
    (omega (arith, place, c.0, w.long, ap length all), old_viable bytes tail n.0 types.Call (pos 0) w.small zero_fits (ap (λ l. l ++ tail) all))

old_name : (bytes : List ℕ) → AreBytes bytes → (f : Fault) → string_at bytes ≡ Err f → f.reason ≡ reasons.Truncated → Ends bytes f
old_name bytes are f h t =
    let c = string_cut bytes are f h t in
    let d = c.1 in
    let tail = code_of_type types.Call ∷ number w32 (pos 0) in
    (c.0, old_viable bytes (d.more ++ tail) d.name types.Call (pos 0) d.small zero_fits (sym (append_assoc bytes d.more tail) ∙ ap (λ l. l ++ tail) d.is))

old_seq : (bytes : List ℕ) → AreBytes bytes → (f : Fault) → (n : List ℕ × ℕ) → string_at bytes ≡ Ok n → (v : MessageType × ℕ) → shifted n.1 (type_at (drop n.1 bytes)) ≡ Ok v → after_name v.0 n.0 v.1 bytes ≡ Err f → Ends bytes f
old_seq bytes are f n name v type e = by_seq (then_fault (shifted v.1 (seq_at (drop v.1 bytes))) (λ s. Ok (record { name = n.0; mtype = v.0; seq = s.0 }, s.1)) f e)
  where
    by_seq : (shifted v.1 (seq_at (drop v.1 bytes)) ≡ Err f) ⊎ ((s : ℤ × ℕ) × (shifted v.1 (seq_at (drop v.1 bytes)) ≡ Ok s) × (is_read {X = Header} (record { name = n.0; mtype = v.0; seq = s.0 }, s.1) ≡ Err f)) → Ends bytes f
    by_seq (inl h) = old_number bytes are f n name v type h
    by_seq (inr (s, was, h)) = absurd (never_read (record { name = n.0; mtype = v.0; seq = s.0 }, s.1) f h)

old_rest : (bytes : List ℕ) → AreBytes bytes → (f : Fault) → f.reason ≡ reasons.Truncated → (n : List ℕ × ℕ) → string_at bytes ≡ Ok n → (shifted n.1 (type_at (drop n.1 bytes)) >>= λ v. after_name v.0 n.0 v.1 bytes) ≡ Err f → Ends bytes f
old_rest bytes are f t n name e = by_type (then_fault (shifted n.1 (type_at (drop n.1 bytes))) (λ v. after_name v.0 n.0 v.1 bytes) f e)
  where
    by_type : (shifted n.1 (type_at (drop n.1 bytes)) ≡ Err f) ⊎ ((v : MessageType × ℕ) × (shifted n.1 (type_at (drop n.1 bytes)) ≡ Ok v) × (after_name v.0 n.0 v.1 bytes ≡ Err f)) → Ends bytes f
    by_type (inl h) = old_type bytes are f n name h t
    by_type (inr (v, was, h)) = old_seq bytes are f n name v was h

old_cut : (bytes : List ℕ) → AreBytes bytes → (f : Fault) → old_at bytes ≡ Err f → f.reason ≡ reasons.Truncated → Ends bytes f
unfolding old_at
old_cut bytes are f e t = by_name (then_fault (string_at bytes) (λ n. shifted n.1 (type_at (drop n.1 bytes)) >>= λ v. after_name v.0 n.0 v.1 bytes) f e)
  where
    by_name : (string_at bytes ≡ Err f) ⊎ ((n : List ℕ × ℕ) × (string_at bytes ≡ Ok n) × ((shifted n.1 (type_at (drop n.1 bytes)) >>= λ v. after_name v.0 n.0 v.1 bytes) ≡ Err f)) → Ends bytes f
    by_name (inl h) = old_name bytes are f h t
    by_name (inr (n, was, h)) = old_rest bytes are f t n was h

pub head_cut : (bytes : List ℕ) → AreBytes bytes → (f : Fault) → head_at bytes ≡ Err f → f.reason ≡ reasons.Truncated → (f.place ≡ length bytes) × IsViable bytes
unfolding head_at
head_cut [] are f e t = (cut_place {X = Header} [] f e, from_version [] (128 ∷ 1 ∷ 0 ∷ 1 ∷ string [] ++ number w32 (pos 0)) 0 (omega arith) refl)
head_cut (x ∷ rest) are f e t = by_form (nat_lt (length (x ∷ rest)) 1) (nat_le 128 x) (grind (arith, nat_tests)) e
  where
    by_form : (a b : Bool) → a ≡ false → cond a (cut {X = Header} (x ∷ rest)) (cond b (strict_at (x ∷ rest)) (old_at (x ∷ rest))) ≡ Err f → Ends (x ∷ rest) f
    by_form true b p h = absurd (cc)
    by_form false true p h = strict_cut (x ∷ rest) are f h t
    by_form false false p h = old_cut (x ∷ rest) are f h t
