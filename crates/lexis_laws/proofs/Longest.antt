-- A bound on the tokens that stand at the front of a text, and the longest of them.
use Rattle.std.proofs.Common.{◌≡◌, ℕ, ◌<◌, ◌≤◌, List, ◌++◌, length, take, drop, sym, ap, ◌∙◌, subst, arith, ◌⊎◌, inl, inr, length-append, take-append-drop, length-take-le}
use Rattle.std.proofs.lemmas.Bool.{cases_lt}
use Rattle.idl_lexer.specs.Grammar.{IsToken}
use Rattle.idl_lexer.specs.declared.token.TokenForm.{TokenForm}
use Rattle.lexis_laws.specs.Cutting.{IsLongest}
use Rattle.lexis_laws.proofs.Fronts.{take_front}

-- no token at the front is longer
abbrev pub Bound : List ℕ → ℕ → Type 0
Bound text most = (form : TokenForm) (front rest : List ℕ) → text ≡ front ++ rest → IsToken form front → length front ≤ most

pub longest_of : (bytes rest : List ℕ) → Bound (bytes ++ rest) (length bytes) → IsLongest bytes rest
longest_of bytes rest bound other n more within token =
    let text = bytes ++ rest in
    let least = bound other (take n text) (drop n text) (sym (take-append-drop n text)) token in
    let size = length-take-le n text within in
    omega (arith, more, least, size)

pub bound_of : (bytes rest : List ℕ) → IsLongest bytes rest → Bound (bytes ++ rest) (length bytes)
bound_of bytes rest longest form front behind e token = by_size (cases_lt (length bytes) (length front))
  where
    by_size : (length bytes < length front) ⊎ (length front ≤ length bytes) → length front ≤ length bytes
    by_size (inl h) =
        let within : length front ≤ length (bytes ++ rest) = omega (arith, ap length e, length-append front behind) in
        absurd (longest form (length front) h within (subst (λ xs. IsToken form xs) (sym (ap (take (length front)) e ∙ take_front front behind)) token))
    by_size (inr h) = h
