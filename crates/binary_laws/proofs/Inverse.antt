-- What one scan has read is spelled so.
use Rattle.std.proofs.Common.{◌≡◌, ℕ, ℤ, zero, suc, ◌%◌, ◌<◌, ◌≤◌, ◌^◌, Bool, true, false, cond, List, [], ◌∷◌, ◌++◌, length, take, drop, get_or, Some, Ok, Err, refl, ap, ◌∙◌, sym, arith, ◌⊎◌, inl, inr, length-take}
use Rattle.std.specs.Prelude.{FitsSigned}
use Rattle.std.proofs.lemmas.Bool.Decides.{nat_tests}
use Rattle.std.proofs.lemmas.List.{take-append-drop}
use Rattle.std.proofs.lemmas.Nat.{be_bytes_2, be_bytes_4, be_bytes_8}
use Rattle.std.proofs.lemmas.Int.{of_z-to_z, ints}
use Rattle.std.specs.Int.{Width, w8, w16, w32, w64, to_be_bytes, cast_signed}
use mir.Val.{bits}
use Rattle.thrift_value.specs.declared.kind.Kind.{Kind}
use Rattle.thrift_value.specs.declared.kind.Kind.TheVariants as kinds
use Rattle.thrift_value.specs.declared.kind.MessageType.{MessageType}
use Rattle.thrift_value.specs.declared.kind.MessageType.TheVariants as types
use Rattle.protocol_traits.specs.declared.fault.Fault.{Fault}
use Rattle.binary_protocol.specs.Codes.{code_of_kind, kind_of_code, code_of_type, type_of_code}
use Rattle.binary_protocol.specs.Scan.{Scan, unsigned_at, signed_at}
use Rattle.binary_protocol.specs.Grammar.{number, size}
use Rattle.gate_base.specs.Bytes.{AreBytes}

-- ---- choices and answers

-- a choice is one of the two
pub either : {A : Type 0} → (b : Bool) (x y z : A) → cond b x y ≡ z → ((b ≡ true) × (x ≡ z)) ⊎ ((b ≡ false) × (y ≡ z))
either true x y z e = inl (refl, e)
either false x y z e = inr (refl, e)

abbrev pub is_read : {X : Type 0} → X × ℕ → Scan X
is_read p = Ok p

abbrev pub is_fault : {X : Type 0} → Fault → Scan X
is_fault f = Err f

abbrev got : {X : Type 0} → X × ℕ → Scan X → X × ℕ
got d (Ok p) = p
got d (Err f) = d

pub same_value : {X : Type 0} → (x y : X) (m n : ℕ) → is_read (x, m) ≡ is_read (y, n) → x ≡ y
same_value {X} x y m n e = ap (λ (r : Scan X). (got (x, m) r).0) e

pub same_size : {X : Type 0} → (x y : X) (m n : ℕ) → is_read (x, m) ≡ is_read (y, n) → m ≡ n
same_size {X} x y m n e = ap (λ (r : Scan X). (got (x, m) r).1) e

pub no_fault : {X : Type 0} → (f : Fault) (x : X × ℕ) → is_fault {X = X} f ≡ Ok x → ⊥
no_fault f x e = absurd (cc)

-- ---- kinds and types

pub kind_is : (x : ℕ) (k : Kind) → kind_of_code x ≡ Some k → x ≡ code_of_kind k
kind_is x kinds.Bool e = grind (arith, nat_tests)
kind_is x kinds.I8 e = grind (arith, nat_tests)
kind_is x kinds.I16 e = grind (arith, nat_tests)
kind_is x kinds.I32 e = grind (arith, nat_tests)
kind_is x kinds.I64 e = grind (arith, nat_tests)
kind_is x kinds.Double e = grind (arith, nat_tests)
kind_is x kinds.Str e = grind (arith, nat_tests)
kind_is x kinds.Struct e = grind (arith, nat_tests)
kind_is x kinds.Map e = grind (arith, nat_tests)
kind_is x kinds.Set e = grind (arith, nat_tests)
kind_is x kinds.List e = grind (arith, nat_tests)
kind_is x kinds.Uuid e = grind (arith, nat_tests)

pub type_is : (x : ℕ) (t : MessageType) → type_of_code x ≡ Some t → x ≡ code_of_type t
type_is x types.Call e = grind (arith, nat_tests)
type_is x types.Reply e = grind (arith, nat_tests)
type_is x types.Exception e = grind (arith, nat_tests)
type_is x types.Oneway e = grind (arith, nat_tests)

-- ---- numbers

-- bytes are those of the number that they make
pub one_cell : (a : ℕ) (rest : List ℕ) → a < 256 → to_be_bytes w8 (unsigned_at w8 (a ∷ rest)) ≡ a ∷ []
one_cell a rest h = let same : a % 256 ≡ a = omega arith in ap (λ x. x ∷ []) same

bytes_small : (xs : List ℕ) → AreBytes xs → (i : ℕ) → get_or xs i 0 < 256
bytes_small [] h i = omega arith
bytes_small (x ∷ xs) h zero = h.0
bytes_small (x ∷ xs) h (suc i) = bytes_small xs h.1 i

pub two_cells : (a b : ℕ) (rest : List ℕ) → AreBytes (a ∷ b ∷ []) → to_be_bytes w16 (unsigned_at w16 (a ∷ b ∷ rest)) ≡ a ∷ b ∷ []
two_cells a b rest k = be_bytes_2 (a ∷ b ∷ []) _ refl (bytes_small (a ∷ b ∷ []) k) refl

pub four_cells : (a b c d : ℕ) (rest : List ℕ) → AreBytes (a ∷ b ∷ c ∷ d ∷ []) → to_be_bytes w32 (unsigned_at w32 (a ∷ b ∷ c ∷ d ∷ rest)) ≡ a ∷ b ∷ c ∷ d ∷ []
four_cells a b c d rest k = be_bytes_4 (a ∷ b ∷ c ∷ d ∷ []) _ refl (bytes_small (a ∷ b ∷ c ∷ d ∷ []) k) refl

pub eight_cells : (a b c d e f g h : ℕ) (rest : List ℕ) → AreBytes (a ∷ b ∷ c ∷ d ∷ e ∷ f ∷ g ∷ h ∷ []) → to_be_bytes w64 (unsigned_at w64 (a ∷ b ∷ c ∷ d ∷ e ∷ f ∷ g ∷ h ∷ rest)) ≡ a ∷ b ∷ c ∷ d ∷ e ∷ f ∷ g ∷ h ∷ []
eight_cells a b c d e f g h rest k = be_bytes_8 (a ∷ b ∷ c ∷ d ∷ e ∷ f ∷ g ∷ h ∷ []) _ refl (bytes_small (a ∷ b ∷ c ∷ d ∷ e ∷ f ∷ g ∷ h ∷ []) k) refl

-- ---- a number of each width

-- a number that stands at the front of the bytes
pub record Front (w : Width) (bytes : List ℕ) (z : ℤ) : Type 0 where
  pub rest : List ℕ
  pub fits : FitsSigned w z
  pub laid : bytes ≡ number w z ++ rest

-- so many bytes, and what is behind them
pub record Cut (n : ℕ) (bytes : List ℕ) : Type 0 where
  pub front : List ℕ
  pub rest : List ℕ
  pub size : length front ≡ n
  pub laid : bytes ≡ front ++ rest

pub cut_at : (n : ℕ) (bytes : List ℕ) → n ≤ length bytes → Cut n bytes
cut_at n bytes h = record { front = take n bytes; rest = drop n bytes; size = omega (arith, length-take n bytes); laid = sym (take-append-drop n bytes) }

pub bytes_front : (xs ys : List ℕ) → AreBytes (xs ++ ys) → AreBytes xs × AreBytes ys
bytes_front [] ys h = (tt, h)
bytes_front (x ∷ xs) ys h = let more = bytes_front xs ys h.1 in ((h.0, more.0), more.1)

again : (w : Width) (n : ℕ) (cells rest : List ℕ) → n < 2 ^ bits w → to_be_bytes w n ≡ cells → cells ++ rest ≡ number w (cast_signed w n) ++ rest
again w n cells rest h e = ap (λ l. l ++ rest) (sym e ∙ ap (to_be_bytes w) (sym (of_z-to_z w n h)))

fits_8 : (n : ℕ) → n < 2 ^ 8 → FitsSigned w8 (cast_signed w8 n)
fits_8 n h = omega (arith, ints)

fits_16 : (n : ℕ) → n < 2 ^ 16 → FitsSigned w16 (cast_signed w16 n)
fits_16 n h = omega (arith, ints)

fits_32 : (n : ℕ) → n < 2 ^ 32 → FitsSigned w32 (cast_signed w32 n)
fits_32 n h = omega (arith, ints)

fits_64 : (n : ℕ) → n < 2 ^ 64 → FitsSigned w64 (cast_signed w64 n)
fits_64 n h = omega (arith, ints)

pub front_8 : (bytes : List ℕ) → AreBytes bytes → 1 ≤ length bytes → Front w8 bytes (signed_at w8 bytes)
front_8 [] k h = absurd (omega arith)
front_8 (a ∷ rest) k h =
    let n = unsigned_at w8 (a ∷ rest) in
    let small : n < 2 ^ 8 = k.0 in
    record { rest = rest; fits = fits_8 n small; laid = again w8 n (a ∷ []) rest small (one_cell a rest k.0) }

pub front_16 : (bytes : List ℕ) → AreBytes bytes → 2 ≤ length bytes → Front w16 bytes (signed_at w16 bytes)
front_16 [] k h = absurd (omega arith)
front_16 (a ∷ []) k h = absurd (omega arith)
front_16 (a ∷ b ∷ rest) k h =
    let n = unsigned_at w16 (a ∷ b ∷ rest) in
    let small : n < 2 ^ 16 = omega (arith, k.0, k.1.0) in
    record { rest = rest; fits = fits_16 n small; laid = again w16 n (a ∷ b ∷ []) rest small (two_cells a b rest (k.0, (k.1.0, tt))) }

pub small_32 : (a b c d : ℕ) (rest : List ℕ) → AreBytes (a ∷ b ∷ c ∷ d ∷ rest) → unsigned_at w32 (a ∷ b ∷ c ∷ d ∷ rest) < 2 ^ 32
small_32 a b c d rest k = omega (arith, k.0, k.1.0, k.1.1.0, k.1.1.1.0)

pub front_32 : (bytes : List ℕ) → AreBytes bytes → 4 ≤ length bytes → Front w32 bytes (signed_at w32 bytes)
front_32 [] k h = absurd (omega arith)
front_32 (a ∷ []) k h = absurd (omega arith)
front_32 (a ∷ b ∷ []) k h = absurd (omega arith)
front_32 (a ∷ b ∷ c ∷ []) k h = absurd (omega arith)
front_32 (a ∷ b ∷ c ∷ d ∷ rest) k h =
    let n = unsigned_at w32 (a ∷ b ∷ c ∷ d ∷ rest) in
    let small = small_32 a b c d rest k in
    record { rest = rest; fits = fits_32 n small; laid = again w32 n (a ∷ b ∷ c ∷ d ∷ []) rest small (four_cells a b c d rest (k.0, (k.1.0, (k.1.1.0, (k.1.1.1.0, tt))))) }

pub front_64 : (bytes : List ℕ) → AreBytes bytes → 8 ≤ length bytes → Front w64 bytes (signed_at w64 bytes)
front_64 [] k s = absurd (omega arith)
front_64 (a ∷ []) k s = absurd (omega arith)
front_64 (a ∷ b ∷ []) k s = absurd (omega arith)
front_64 (a ∷ b ∷ c ∷ []) k s = absurd (omega arith)
front_64 (a ∷ b ∷ c ∷ d ∷ []) k s = absurd (omega arith)
front_64 (a ∷ b ∷ c ∷ d ∷ e ∷ []) k s = absurd (omega arith)
front_64 (a ∷ b ∷ c ∷ d ∷ e ∷ f ∷ []) k s = absurd (omega arith)
front_64 (a ∷ b ∷ c ∷ d ∷ e ∷ f ∷ g ∷ []) k s = absurd (omega arith)
front_64 (a ∷ b ∷ c ∷ d ∷ e ∷ f ∷ g ∷ h ∷ rest) k s =
    let n = unsigned_at w64 (a ∷ b ∷ c ∷ d ∷ e ∷ f ∷ g ∷ h ∷ rest) in
    let parts = bytes_front (a ∷ b ∷ c ∷ d ∷ e ∷ f ∷ g ∷ h ∷ []) rest k in
    let p = parts.0 in
    let small : n < 2 ^ 64 = omega (arith, p.0, p.1.0, p.1.1.0, p.1.1.1.0, p.1.1.1.1.0, p.1.1.1.1.1.0, p.1.1.1.1.1.1.0, p.1.1.1.1.1.1.1.0) in
    record { rest = rest; fits = fits_64 n small; laid = again w64 n (a ∷ b ∷ c ∷ d ∷ e ∷ f ∷ g ∷ h ∷ []) rest small (eight_cells a b c d e f g h rest p) }

-- a size that stands at the front
pub front_size : (bytes : List ℕ) → AreBytes bytes → 4 ≤ length bytes → (rest : List ℕ) × (bytes ≡ size (unsigned_at w32 bytes) ++ rest)
front_size [] k h = absurd (omega arith)
front_size (a ∷ []) k h = absurd (omega arith)
front_size (a ∷ b ∷ []) k h = absurd (omega arith)
front_size (a ∷ b ∷ c ∷ []) k h = absurd (omega arith)
front_size (a ∷ b ∷ c ∷ d ∷ rest) k h = (rest, ap (λ l. l ++ rest) (sym (four_cells a b c d rest (k.0, (k.1.0, (k.1.1.0, (k.1.1.1.0, tt)))))))
