-- What a source tells of the bytes that are known to be left: all of them where each number is a byte, as it is of all that
-- is read, and nothing else.
use Rattle.std.specs.Prelude.{◌≡◌, ℕ, Bool, true, false, ◌&&◌, List, [], ◌∷◌, ◌++◌, take, Option, None, Some, IfSome, nat_lt, if◌then◌else◌}
use Rattle.std.specs.Io.KnownBytes.{Keeps, Consumes, IsAtEnd}
use Rattle.std.proofs.Common.{◌<◌, refl, arith, subst, sym}
use Rattle.std.proofs.lemmas.Bool.{and_parts, and_from}
use Rattle.std.proofs.lemmas.Bool.Decides.{nat_tests}
use Rattle.gate_base.specs.Bytes.{AreBytes}
use Rattle.gate_io.specs.Reading.{Reads}
use Rattle.gate_io.specs.declared.byte_streams.Got.{Got}
use Rattle.gate_io.specs.declared.byte_streams.Got.TheVariants.{Bytes, End, Failed}

abbrev pub are_bytes : List ℕ → Bool
are_bytes [] = true
are_bytes (x ∷ xs) = nat_lt x 256 && are_bytes xs

abbrev pub known_bytes : Option (List ℕ) → Option (List ℕ)
known_bytes None = None
known_bytes (Some xs) = if are_bytes xs then Some xs else None

-- ---- nothing below has to be believed

is_byte : (x : ℕ) → nat_lt x 256 ≡ true → x < 256
is_byte x e = grind (arith, nat_tests)

tested : (xs : List ℕ) → are_bytes xs ≡ true → AreBytes xs
tested [] e = tt
tested (x ∷ xs) e = let parts = and_parts (nat_lt x 256) (are_bytes xs) e in (is_byte x parts.0, tested xs parts.1)

-- what a source tells are bytes
pub known_are_bytes : (known : Option (List ℕ)) → IfSome (known_bytes known) AreBytes
known_are_bytes None = tt
known_are_bytes (Some xs) = by (are_bytes xs) (tested xs)
  where
    by : (t : Bool) → (t ≡ true → AreBytes xs) → IfSome (if t then Some xs else None) AreBytes
    by true are = are refl
    by false are = tt

-- all of them are told where they are bytes
is_tested : (xs : List ℕ) → AreBytes xs → are_bytes xs ≡ true
is_tested [] p = refl
is_tested (x ∷ xs) p = and_from (nat_lt x 256) (are_bytes xs) (is_below x p.0) (is_tested xs p.1)
  where
    is_below : (x : ℕ) → x < 256 → nat_lt x 256 ≡ true
    is_below x h = grind (arith, nat_tests)

pub bytes_are_known : (xs : List ℕ) → AreBytes xs → known_bytes (Some xs) ≡ Some xs
bytes_are_known xs p = rw (is_tested xs p) refl

rest_tested : (piece xs : List ℕ) → are_bytes (piece ++ xs) ≡ true → are_bytes xs ≡ true
rest_tested [] xs e = e
rest_tested (x ∷ piece) xs e = rest_tested piece xs (and_parts (nat_lt x 256) (are_bytes (piece ++ xs)) e).1

known_consumes : (old new : Option (List ℕ)) (piece : List ℕ) → Consumes old new piece → Consumes (known_bytes old) (known_bytes new) piece
known_consumes None new piece p = tt
known_consumes (Some xs) None piece p = absurd p
known_consumes (Some xs) (Some ys) piece p = by (are_bytes xs) (are_bytes ys) (λ e. rest_tested piece ys (subst (λ (zs : List ℕ). are_bytes zs ≡ true) p e))
  where
    by : (s t : Bool) → (s ≡ true → t ≡ true) → Consumes (if s then Some xs else None) (if t then Some ys else None) piece
    by false t keeps = tt
    by true t keeps = rw (keeps refl) p

known_keeps : (old new : Option (List ℕ)) → Keeps old new → Keeps (known_bytes old) (known_bytes new)
known_keeps None new p = tt
known_keeps (Some xs) None p = absurd p
known_keeps (Some xs) (Some ys) p = by (are_bytes xs) (are_bytes ys) (λ e. subst (λ (zs : List ℕ). are_bytes zs ≡ true) (sym p) e)
  where
    by : (s t : Bool) → (s ≡ true → t ≡ true) → Keeps (if s then Some xs else None) (if t then Some ys else None)
    by false t keeps = tt
    by true t keeps = rw (keeps refl) p

known_end : (known : Option (List ℕ)) → IsAtEnd known → IsAtEnd (known_bytes known)
known_end None p = tt
known_end (Some xs) p = by (are_bytes xs)
  where
    by : (t : Bool) → IsAtEnd (if t then Some xs else None)
    by true = p
    by false = tt

-- what a read says of all that is known, it says of what is told
pub known_reads : (old new : Option (List ℕ)) (into : List ℕ) (answer : Got) → Reads old new into answer → Reads (known_bytes old) (known_bytes new) into answer
known_reads old new into (Bytes n) p = (p.0, p.1, known_consumes old new (take n into) p.2)
known_reads old new into End p = (known_end new p.0, known_keeps old new p.1)
known_reads old new into Failed p = known_keeps old new p
