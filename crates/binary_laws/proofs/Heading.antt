-- A header of either form is read, whatever follows it.
use Rattle.std.proofs.Common.{◌≡◌, ℕ, ℤ, suc, ◌+◌, ◌<◌, ◌≤◌, ◌^◌, true, false, List, [], ◌∷◌, ◌++◌, length, drop, Ok, refl, ap, ◌∙◌, sym, arith, ◌⊎◌, inl, inr, length-append, append_assoc}
use Rattle.std.specs.Prelude.{nat_lt, nat_le, ◌==◌, ◌&&◌, ◌||◌, FitsSigned, slice_index}
use Rattle.std.proofs.lemmas.Bool.Decides.{nat_tests}
use Rattle.std.specs.Int.{w32}
use Rattle.thrift_value.specs.declared.kind.MessageType.{MessageType}
use Rattle.thrift_value.specs.Trees.{Message}
use Rattle.binary_protocol.specs.Codes.{code_of_type}
use Rattle.binary_protocol.specs.Scan.{string_at}
use Rattle.binary_protocol.specs.Heads.{type_at, seq_at, version_at, strict_at, old_at, head_at}
use Rattle.binary_protocol.specs.Grammar.{number, string, SpellsStrictHeader, SpellsOldHeader}
use Rattle.binary_laws.proofs.Leaves.{type_again, i32_signed, string_again, or_true}
use Rattle.binary_laws.specs.Reads.{header_of_message}

pub drop_front : (front rest : List ℕ) → drop (length front) (front ++ rest) ≡ rest
drop_front [] rest = refl
drop_front (x ∷ xs) rest = drop_front xs rest

pub drop_by : (n : ℕ) (front rest : List ℕ) → n ≡ length front → drop n (front ++ rest) ≡ rest
drop_by n front rest e = ap (λ k. drop k (front ++ rest)) e ∙ drop_front front rest

type_scan : (t : MessageType) (more : List ℕ) → type_at (code_of_type t ∷ more) ≡ Ok (t, 1)
unfolding type_at
type_scan t more = let some : nat_lt (length (code_of_type t ∷ more)) 1 ≡ false = grind (arith, nat_tests) in rw (some, type_again t) refl

seq_scan : (z : ℤ) (more : List ℕ) → FitsSigned w32 z → seq_at (number w32 z ++ more) ≡ Ok (z, 4)
unfolding seq_at
seq_scan z more h = let t : nat_lt (length (number w32 z ++ more)) 4 ≡ false = grind (arith, nat_tests) in rw (t, i32_signed z more h) refl

-- ---- the strict form

version_scan : (unused : ℕ) (t : MessageType) (more : List ℕ) → version_at (128 ∷ 1 ∷ unused ∷ code_of_type t ∷ more) ≡ Ok (t, 4)
unfolding version_at
version_scan unused t more =
    let n = length (128 ∷ 1 ∷ unused ∷ code_of_type t ∷ more) in
    let a : ((128 == 128) && (nat_lt n 2 || (1 == 1))) ≡ true = or_true (nat_lt n 2) in
    let b : nat_lt n 4 ≡ false = grind (arith, nat_tests) in
    rw (a, b, type_scan t more) refl

strict_scan : (bytes name : List ℕ) (t : MessageType) (z : ℤ) (n k : ℕ) → version_at bytes ≡ Ok (t, 4) → string_at (drop 4 bytes) ≡ Ok (name, n) → seq_at (drop (4 + n) bytes) ≡ Ok (z, k)
    → strict_at bytes ≡ Ok (record { name = name; mtype = t; seq = z }, (4 + n) + k)
unfolding strict_at
strict_scan bytes name t z n k v s q = rw (v, s, q) refl

old_scan : (bytes name : List ℕ) (t : MessageType) (z : ℤ) (n k : ℕ) → string_at bytes ≡ Ok (name, n) → type_at (drop n bytes) ≡ Ok (t, 1) → seq_at (drop (n + 1) bytes) ≡ Ok (z, k)
    → old_at bytes ≡ Ok (record { name = name; mtype = t; seq = z }, (n + 1) + k)
unfolding old_at
old_scan bytes name t z n k s v q = rw (s, v, q) refl

by_high : (bytes : List ℕ) → 1 ≤ length bytes → 128 ≤ slice_index bytes 0 → head_at bytes ≡ strict_at bytes
unfolding head_at
by_high bytes some high =
    let a : nat_lt (length bytes) 1 ≡ false = grind (arith, nat_tests) in
    let b : nat_le 128 (slice_index bytes 0) ≡ true = grind (arith, nat_tests) in
    rw (a, b) refl

by_low : (bytes : List ℕ) → 1 ≤ length bytes → slice_index bytes 0 < 128 → head_at bytes ≡ old_at bytes
unfolding head_at
by_low bytes some low =
    let a : nat_lt (length bytes) 1 ≡ false = grind (arith, nat_tests) in
    let b : nat_le 128 (slice_index bytes 0) ≡ false = grind (arith, nat_tests) in
    rw (a, b) refl

module _ (m : Message) (small : length m.name < 2 ^ 31) (fits : FitsSigned w32 m.seq) (body : List ℕ) where
  strict_head : (unused : ℕ) → head_at ((128 ∷ 1 ∷ unused ∷ code_of_type m.mtype ∷ string m.name ++ number w32 m.seq) ++ body)
      ≡ Ok (header_of_message m, length (128 ∷ 1 ∷ unused ∷ code_of_type m.mtype ∷ string m.name ++ number w32 m.seq))
  strict_head unused =
      let tail = number w32 m.seq ++ body in
      let all = 128 ∷ 1 ∷ unused ∷ code_of_type m.mtype ∷ (string m.name ++ tail) in
      let laid : (128 ∷ 1 ∷ unused ∷ code_of_type m.mtype ∷ string m.name ++ number w32 m.seq) ++ body ≡ all = ap (λ l. 128 ∷ 1 ∷ unused ∷ code_of_type m.mtype ∷ l) (append_assoc (string m.name) (number w32 m.seq) body) in
      let n = length m.name + 4 in
      let front : n ≡ length (string m.name) = omega arith in
      let four : 4 + n ≡ suc (suc (suc (suc n))) = omega arith in
      let seq : seq_at (drop (4 + n) all) ≡ Ok (m.seq, 4) = ap (λ k. seq_at (drop k all)) four ∙ ap seq_at (drop_by n (string m.name) tail front) ∙ seq_scan m.seq body fits in
      let size : (4 + n) + 4 ≡ length (128 ∷ 1 ∷ unused ∷ code_of_type m.mtype ∷ string m.name ++ number w32 m.seq) = omega (arith, front, length-append (string m.name) (number w32 m.seq)) in
      ap head_at laid ∙ by_high all (omega arith) (omega arith) ∙ strict_scan all m.name m.mtype m.seq n 4 (version_scan unused m.mtype (string m.name ++ tail)) (string_again m.name tail small) seq
      ∙ ap (λ k. Ok (header_of_message m, k)) size

  old_head : head_at ((string m.name ++ code_of_type m.mtype ∷ number w32 m.seq) ++ body) ≡ Ok (header_of_message m, length (string m.name ++ code_of_type m.mtype ∷ number w32 m.seq))
  old_head =
      let tail = number w32 m.seq ++ body in
      let all = string m.name ++ (code_of_type m.mtype ∷ tail) in
      let laid : (string m.name ++ code_of_type m.mtype ∷ number w32 m.seq) ++ body ≡ all = append_assoc (string m.name) (code_of_type m.mtype ∷ number w32 m.seq) body in
      let n = length m.name + 4 in
      let front : n ≡ length (string m.name) = omega arith in
      let joined : n + 1 ≡ length (string m.name ++ (code_of_type m.mtype ∷ [])) = omega (arith, front, length-append (string m.name) (code_of_type m.mtype ∷ [])) in
      let apart : all ≡ (string m.name ++ (code_of_type m.mtype ∷ [])) ++ tail = sym (append_assoc (string m.name) (code_of_type m.mtype ∷ []) tail) in
      let type : type_at (drop n all) ≡ Ok (m.mtype, 1) = ap type_at (drop_by n (string m.name) (code_of_type m.mtype ∷ tail) front) ∙ type_scan m.mtype tail in
      let seq : seq_at (drop (n + 1) all) ≡ Ok (m.seq, 4) = ap (λ l. seq_at (drop (n + 1) l)) apart ∙ ap seq_at (drop_by (n + 1) (string m.name ++ (code_of_type m.mtype ∷ [])) tail joined) ∙ seq_scan m.seq body fits in
      let size : (n + 1) + 4 ≡ length (string m.name ++ code_of_type m.mtype ∷ number w32 m.seq) = omega (arith, front, length-append (string m.name) (code_of_type m.mtype ∷ number w32 m.seq)) in
      ap head_at laid ∙ by_low all (omega arith) (omega arith) ∙ old_scan all m.name m.mtype m.seq n 4 (string_again m.name (code_of_type m.mtype ∷ tail) small) type seq
      ∙ ap (λ k. Ok (header_of_message m, k)) size

  pub head_again : (header : List ℕ) → SpellsStrictHeader m header ⊎ SpellsOldHeader m header → head_at (header ++ body) ≡ Ok (header_of_message m, length header)
  head_again header (inl (unused, less, e)) = ap (λ h. head_at (h ++ body)) e ∙ strict_head unused ∙ ap (λ h. Ok (header_of_message m, length h)) (sym e)
  head_again header (inr e) = ap (λ h. head_at (h ++ body)) e ∙ old_head ∙ ap (λ h. Ok (header_of_message m, length h)) (sym e)
