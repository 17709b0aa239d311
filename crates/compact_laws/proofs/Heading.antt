-- A header is read, whatever follows it.
use Rattle.std.proofs.Common.{◌≡◌, ℕ, suc, ◌+◌, ◌*◌, List, ◌∷◌, ◌++◌, length, drop, Ok, refl, ap, ◌∙◌, arith, length-append, append_assoc}
use Rattle.std.proofs.lemmas.Bool.Decides.{nat_tests}
use Rattle.std.proofs.lemmas.Int.{to_z-of_z}
use Rattle.std.specs.Int.{w32, cast_unsigned, cast_signed}
use Rattle.thrift_value.specs.declared.kind.MessageType.{MessageType}
use Rattle.thrift_value.specs.declared.kind.MessageType.TheVariants as types
use Rattle.thrift_value.specs.Trees.{Message}
use Rattle.compact_protocol.specs.Codes.{type_code}
use Rattle.compact_protocol.specs.Scan.{varint32_at, type_at, front_at, string_at}
use Rattle.varint_zigzag.specs.Varint.{Spells}
use Rattle.compact_protocol.specs.Grammar.{IsString, SpellsHeader}
use Rattle.binary_laws.proofs.Heading.{drop_front}
use Rattle.compact_laws.proofs.Leaves.{varint32_again, string_again}

pub type_again : (t : MessageType) (more : List ℕ) → type_at (130 ∷ (32 * type_code t + 1) ∷ more) ≡ Ok (t, 2)
unfolding type_at
type_again types.Call more = grind (arith, nat_tests)
type_again types.Reply more = grind (arith, nat_tests)
type_again types.Exception more = grind (arith, nat_tests)
type_again types.Oneway more = grind (arith, nat_tests)

pub front_scan : (bytes : List ℕ) (t : MessageType) (n taken : ℕ) → type_at bytes ≡ Ok (t, 2) → varint32_at (drop 2 bytes) ≡ Ok (n, taken) → front_at bytes ≡ Ok ((t, cast_signed w32 n), 2 + taken)
unfolding front_at
front_scan bytes t n taken e v = rw (e, v) refl

-- what the front and the name of a header are read as
pub record IsHeaded (m : Message) (header body : List ℕ) : Type 0 where
  pub at : ℕ
  pub long : ℕ
  pub front : front_at (header ++ body) ≡ Ok ((m.mtype, m.seq), at)
  pub name : string_at (drop at (header ++ body)) ≡ Ok (m.name, long)
  pub whole : at + long ≡ length header
  -- the name stands behind the two first bytes and the sequence number
  pub number : List ℕ
  pub text : List ℕ
  pub seq : Spells 5 32 number (cast_unsigned w32 m.seq)
  pub named : IsString m.name text
  pub laid : header ≡ 130 ∷ (32 * type_code m.mtype + 1) ∷ (number ++ text)
  pub behind : at ≡ length number + 2

pub head_again : (m : Message) (header body : List ℕ) → SpellsHeader m header → IsHeaded m header body
head_again m header body (fits, (number, name, seq, named, laid)) =
    let t = m.mtype in
    let n = cast_unsigned w32 m.seq in
    let tail = name ++ body in
    let all = 130 ∷ (32 * type_code t + 1) ∷ (number ++ tail) in
    let is : header ++ body ≡ all = ap (λ l. l ++ body) laid ∙ ap (λ l. 130 ∷ (32 * type_code t + 1) ∷ l) (append_assoc number name body) in
    let two : 2 + length number ≡ suc (suc (length number)) = omega arith in
    let front : front_at all ≡ Ok ((t, cast_signed w32 n), 2 + length number) = front_scan all t n (length number) (type_again t (number ++ tail)) (varint32_again n number tail seq) in
    let behind : drop (2 + length number) all ≡ tail = ap (λ k. drop k all) two ∙ drop_front number tail in
    record {
      at = 2 + length number;
      long = length name;
      front = ap front_at is ∙ front ∙ ap (λ z. Ok ((t, z), 2 + length number)) (to_z-of_z w32 m.seq fits);
      name = ap (λ l. string_at (drop (2 + length number) l)) is ∙ ap string_at behind ∙ string_again m.name name body named;
      whole = omega (arith, ap length laid, length-append number name);
      number = number;
      text = name;
      seq = seq;
      named = named;
      laid = laid;
      behind = omega arith;
    }
