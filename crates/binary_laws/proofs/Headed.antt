-- A header that is read is spelled so.
use Rattle.std.proofs.Common.{◌≡◌, ℕ, ℤ, ◌+◌, ◌<◌, ◌^◌, Bool, true, false, cond, List, [], ◌∷◌, ◌++◌, length, drop, Option, Some, None, Ok, Err, refl, ap, ◌∙◌, sym, subst, arith, ◌⊎◌, inl, inr, length-append, append_assoc}
use Rattle.std.specs.Prelude.{nat_lt, nat_le, ◌==◌, ◌&&◌, ◌||◌, FitsSigned, slice_index}
use Rattle.std.specs.Int.{w32}
use Rattle.std.proofs.lemmas.Bool.Decides.{nat_tests}
use Rattle.thrift_value.specs.declared.kind.MessageType.{MessageType}
use Rattle.thrift_value.specs.Trees.{Message, Members}
use Rattle.protocol_traits.specs.Heads.{Header}
use Rattle.binary_protocol.specs.Codes.{code_of_type, type_of_code}
use Rattle.binary_protocol.specs.Scan.{Scan, shifted, ◌>>=◌, signed_at, string_at}
use Rattle.binary_protocol.specs.Heads.{type_of, type_at, seq_at, version_at, strict_at, old_at, head_at}
use Rattle.binary_protocol.specs.Grammar.{number, string, SpellsStrictHeader, SpellsOldHeader}
use Rattle.gate_base.specs.Bytes.{AreBytes}
use Rattle.binary_laws.proofs.Heading.{drop_by}
use Rattle.binary_laws.proofs.Inverse.{either, is_read, same_value, same_size, no_fault, type_is, front_32, bytes_front}
use Rattle.binary_laws.proofs.Begun.{past, unless, string_read, long_enough}

abbrev pub message_of : Header → Members → Message
message_of h body = record { name = h.name; mtype = h.mtype; seq = h.seq; body = body }

pub record Headed (bytes : List ℕ) (h : Header) (taken : ℕ) : Type 0 where
  pub header : List ℕ
  pub body : List ℕ
  pub laid : bytes ≡ header ++ body
  pub long : taken ≡ length header
  pub small : length h.name < 2 ^ 31
  pub fits : FitsSigned w32 h.seq
  pub spells : (ms : Members) → SpellsStrictHeader (message_of h ms) header ⊎ SpellsOldHeader (message_of h ms) header

-- ---- its parts

pub record Typed (bytes : List ℕ) (t : MessageType) (taken : ℕ) : Type 0 where
  pub rest : List ℕ
  pub laid : bytes ≡ code_of_type t ∷ rest
  pub one : taken ≡ 1

type_first : (l : List ℕ) (t : MessageType) (taken : ℕ) → nat_lt (length l) 1 ≡ false → (found : Option MessageType) → type_of_code (slice_index l 0) ≡ found → type_of found ≡ Ok (t, taken) → Typed l t taken
type_first [] t taken long found is e = absurd (grind (arith, nat_tests))
type_first (x ∷ rest) t taken long None is e = absurd (no_fault _ (t, taken) e)
type_first (x ∷ rest) t taken long (Some found) is e =
    record { rest = rest; laid = ap (λ y. y ∷ rest) (type_is x found is ∙ ap code_of_type (same_value found t 1 taken e)); one = sym (same_size found t 1 taken e) }

pub type_read : (bytes : List ℕ) (t : MessageType) (taken : ℕ) → type_at bytes ≡ Ok (t, taken) → Typed bytes t taken
unfolding type_at
type_read bytes t taken e =
    let h = past _ (nat_lt (length bytes) 1) (type_of (type_of_code (slice_index bytes 0))) (t, taken) e in
    type_first bytes t taken h.0 (type_of_code (slice_index bytes 0)) refl h.1

record Numbered (bytes : List ℕ) (z : ℤ) (taken : ℕ) : Type 0 where
  rest : List ℕ
  laid : bytes ≡ number w32 z ++ rest
  fits : FitsSigned w32 z
  four : taken ≡ 4

seq_read : (bytes : List ℕ) → AreBytes bytes → (z : ℤ) (taken : ℕ) → seq_at bytes ≡ Ok (z, taken) → Numbered bytes z taken
unfolding seq_at
seq_read bytes are z taken e =
    let h = past _ (nat_lt (length bytes) 4) (is_read (signed_at w32 bytes, 4)) (z, taken) e in
    let f = front_32 bytes are (long_enough (length bytes) 4 h.0) in
    let same = same_value (signed_at w32 bytes) z 4 taken h.1 in
    record { rest = f.rest; laid = f.laid ∙ ap (λ v. number w32 v ++ f.rest) same; fits = subst (FitsSigned w32) same f.fits; four = sym (same_size (signed_at w32 bytes) z 4 taken h.1) }

pub shift_read : {X : Type 0} → (n : ℕ) (scan : Scan X) (x : X) (taken : ℕ) → shifted n scan ≡ Ok (x, taken) → (m : ℕ) × (scan ≡ Ok (x, m)) × (taken ≡ n + m)
shift_read {X} n (Ok y) x taken e = (y.1, ap (λ v. Ok (v, y.1)) (same_value y.0 x (n + y.1) taken e), sym (same_size y.0 x (n + y.1) taken e))
shift_read {X} n (Err f) x taken e = absurd (no_fault _ (x, taken) e)

-- what goes on was read
pub then_read : {X Y : Type 0} → (scan : Scan X) (go : X × ℕ → Scan Y) (y : Y × ℕ) → (scan >>= go) ≡ Ok y → (x : X × ℕ) × (scan ≡ Ok x) × (go x ≡ Ok y)
then_read {X} {Y} (Ok x) go y e = (x, refl, e)
then_read {X} {Y} (Err f) go y e = absurd (no_fault f y e)

pub record Versioned (bytes : List ℕ) (t : MessageType) (taken : ℕ) : Type 0 where
  pub unused : ℕ
  pub byte : unused < 256
  pub rest : List ℕ
  pub laid : bytes ≡ 128 ∷ 1 ∷ unused ∷ code_of_type t ∷ rest
  pub four : taken ≡ 4

both : (a b : Bool) → (a && b) ≡ true → (a ≡ true) × (b ≡ true)
both true true e = (refl, refl)
both true false e = absurd (cc)
both false b e = absurd (cc)

version_first : (l : List ℕ) → AreBytes l → (t : MessageType) (taken : ℕ) → nat_lt (length l) 4 ≡ false → ((slice_index l 0 == 128) && (nat_lt (length l) 2 || (slice_index l 1 == 1))) ≡ true
    → shifted 3 (type_at (drop 3 l)) ≡ Ok (t, taken) → Versioned l t taken
version_first [] are t taken long v e = absurd (grind (arith, nat_tests))
version_first (a ∷ []) are t taken long v e = absurd (grind (arith, nat_tests))
version_first (a ∷ b ∷ []) are t taken long v e = absurd (grind (arith, nat_tests))
version_first (a ∷ b ∷ c ∷ rest) are t taken long v e =
    let parts = both (a == 128) (nat_lt (length (a ∷ b ∷ c ∷ rest)) 2 || (b == 1)) v in
    let v0 = parts.0 in let v1 = parts.1 in
    let first : a ≡ 128 = grind (arith, nat_tests) in
    let second : b ≡ 1 = grind (arith, nat_tests) in
    let s = shift_read 3 (type_at rest) t taken e in
    let y = type_read rest t s.0 s.1 in
    record {
      unused = c;
      byte = are.1.1.0;
      rest = y.rest;
      laid = ap (λ x. x ∷ b ∷ c ∷ rest) first ∙ ap (λ x. 128 ∷ x ∷ c ∷ rest) second ∙ ap (λ r. 128 ∷ 1 ∷ c ∷ r) y.laid;
      four = omega (arith, s.2, y.one);
    }

pub version_read : (bytes : List ℕ) → AreBytes bytes → (t : MessageType) (taken : ℕ) → version_at bytes ≡ Ok (t, taken) → Versioned bytes t taken
unfolding version_at
version_read bytes are t taken e =
    let h = unless _ ((slice_index bytes 0 == 128) && (nat_lt (length bytes) 2 || (slice_index bytes 1 == 1))) _ (t, taken) e in
    let k = past _ (nat_lt (length bytes) 4) (shifted 3 (type_at (drop 3 bytes))) (t, taken) h.1 in
    version_first bytes are t taken k.0 h.0 k.1

-- ---- both forms

strict_read : (bytes : List ℕ) → AreBytes bytes → (h : Header) (taken : ℕ) → strict_at bytes ≡ Ok (h, taken) → Headed bytes h taken
unfolding strict_at
strict_read bytes are h taken e =
    let p = then_read (version_at bytes) _ (h, taken) e in
    let t = p.0 in
    let q = then_read (shifted t.1 (string_at (drop t.1 bytes))) _ (h, taken) p.2 in
    let n = q.0 in
    let r = then_read (shifted n.1 (seq_at (drop n.1 bytes))) _ (h, taken) q.2 in
    let s = r.0 in
    let v = version_read bytes are t.0 t.1 p.1 in
    let behind : drop t.1 bytes ≡ v.rest = ap (λ k. drop k bytes) v.four ∙ ap (drop 4) v.laid in
    let rest_are = (subst AreBytes v.laid are).1.1.1.1 in
    let i = shift_read t.1 (string_at (drop t.1 bytes)) n.0 n.1 q.1 in
    let w = string_read v.rest rest_are n.0 i.0 (ap string_at (sym behind) ∙ i.1) in
    let tail_are = (bytes_front (string n.0) w.rest (subst AreBytes w.laid rest_are)).1 in
    let front = 128 ∷ 1 ∷ v.unused ∷ code_of_type t.0 ∷ string n.0 in
    let laid : bytes ≡ front ++ w.rest = v.laid ∙ ap (λ l. 128 ∷ 1 ∷ v.unused ∷ code_of_type t.0 ∷ l) w.laid in
    let size_is : n.1 ≡ length front = omega (arith, i.2, v.four, w.long) in
    let past_name : drop n.1 bytes ≡ w.rest = ap (drop n.1) laid ∙ drop_by n.1 front w.rest size_is in
    let j = shift_read n.1 (seq_at (drop n.1 bytes)) s.0 s.1 r.1 in
    let z = seq_read w.rest tail_are s.0 j.0 (ap seq_at (sym past_name) ∙ j.1) in
    let found : Header = record { name = n.0; mtype = t.0; seq = s.0 } in
    let same = same_value found h s.1 taken r.2 in
    let whole = front ++ number w32 s.0 in
    let made : Headed bytes found taken = record {
      header = whole;
      body = z.rest;
      laid = laid ∙ ap (λ l. front ++ l) z.laid ∙ sym (append_assoc front (number w32 s.0) z.rest);
      long = omega (arith, same_size found h s.1 taken r.2, j.2, z.four, size_is, length-append front (number w32 s.0));
      small = w.small;
      fits = z.fits;
      spells = (λ ms. inl (v.unused, v.byte, refl));
    } in
    subst (λ x. Headed bytes x taken) same made

old_read : (bytes : List ℕ) → AreBytes bytes → (h : Header) (taken : ℕ) → old_at bytes ≡ Ok (h, taken) → Headed bytes h taken
unfolding old_at
old_read bytes are h taken e =
    let p = then_read (string_at bytes) _ (h, taken) e in
    let n = p.0 in
    let q = then_read (shifted n.1 (type_at (drop n.1 bytes))) _ (h, taken) p.2 in
    let t = q.0 in
    let r = then_read (shifted t.1 (seq_at (drop t.1 bytes))) _ (h, taken) q.2 in
    let s = r.0 in
    let w = string_read bytes are n.0 n.1 p.1 in
    let rest_are = (bytes_front (string n.0) w.rest (subst AreBytes w.laid are)).1 in
    let behind : drop n.1 bytes ≡ w.rest = ap (drop n.1) w.laid ∙ drop_by n.1 (string n.0) w.rest w.long in
    let i = shift_read n.1 (type_at (drop n.1 bytes)) t.0 t.1 q.1 in
    let y = type_read w.rest t.0 i.0 (ap type_at (sym behind) ∙ i.1) in
    let tail_are = (subst AreBytes y.laid rest_are).1 in
    let front = string n.0 ++ (code_of_type t.0 ∷ []) in
    let laid : bytes ≡ front ++ y.rest = w.laid ∙ ap (λ l. string n.0 ++ l) y.laid ∙ sym (append_assoc (string n.0) (code_of_type t.0 ∷ []) y.rest) in
    let size_is : t.1 ≡ length front = omega (arith, i.2, y.one, w.long, length-append (string n.0) (code_of_type t.0 ∷ [])) in
    let past_type : drop t.1 bytes ≡ y.rest = ap (drop t.1) laid ∙ drop_by t.1 front y.rest size_is in
    let j = shift_read t.1 (seq_at (drop t.1 bytes)) s.0 s.1 r.1 in
    let z = seq_read y.rest tail_are s.0 j.0 (ap seq_at (sym past_type) ∙ j.1) in
    let found : Header = record { name = n.0; mtype = t.0; seq = s.0 } in
    let same = same_value found h s.1 taken r.2 in
    let made : Headed bytes found taken = record {
      header = string n.0 ++ code_of_type t.0 ∷ number w32 s.0;
      body = z.rest;
      laid = w.laid ∙ ap (λ l. string n.0 ++ l) (y.laid ∙ ap (λ l. code_of_type t.0 ∷ l) z.laid) ∙ sym (append_assoc (string n.0) (code_of_type t.0 ∷ number w32 s.0) z.rest);
      long = omega (arith, same_size found h s.1 taken r.2, j.2, z.four, i.2, y.one, w.long, length-append (string n.0) (code_of_type t.0 ∷ number w32 s.0));
      small = w.small;
      fits = z.fits;
      spells = (λ ms. inr refl);
    } in
    subst (λ x. Headed bytes x taken) same made

pub head_read : (bytes : List ℕ) → AreBytes bytes → (h : Header) (taken : ℕ) → head_at bytes ≡ Ok (h, taken) → Headed bytes h taken
unfolding head_at
head_read bytes are h taken e =
    let p = past _ (nat_lt (length bytes) 1) (cond (nat_le 128 (slice_index bytes 0)) (strict_at bytes) (old_at bytes)) (h, taken) e in
    by_form (either (nat_le 128 (slice_index bytes 0)) (strict_at bytes) (old_at bytes) (Ok (h, taken)) p.1)
  where
    by_form : ((nat_le 128 (slice_index bytes 0) ≡ true) × (strict_at bytes ≡ Ok (h, taken))) ⊎ ((nat_le 128 (slice_index bytes 0) ≡ false) × (old_at bytes ≡ Ok (h, taken))) → Headed bytes h taken
    by_form (inl k) = strict_read bytes are h taken k.1
    by_form (inr k) = old_read bytes are h taken k.1
