-- Words laid into cells.
use Rattle.std.proofs.Common.{◌≡◌, ℕ, ℤ, pos, negsuc, Option, Some, None, ◌+◌, ◌≤◌, ◌≤ℤ◌, ◌<ℤ◌, List, [], ◌∷◌, ◌++◌, take, sym, ap, ◌∙◌, arith, append_assoc}
use Rattle.std.specs.Prelude.{IfSome}
use Rattle.std.specs.Fmt.{signed_decimal}
use Rattle.std.proofs.lemmas.Fmt.{decimal_digit}
use lib.IntN.{nat_abs}
use Rattle.json_protocol.specs.Writing.{quoted}

-- a number of one digit
pub one_digit : (id : ℤ) → pos 0 ≤ℤ id → id <ℤ pos 10 → signed_decimal id ≡ (48 + nat_abs id) ∷ []
one_digit (pos n) low high = decimal_digit n (grind arith)
one_digit (negsuc n) low high = absurd (grind arith)

-- a field's id of one digit, the marks behind it and its kind
pub short_head : (old mid new name : List ℕ) (to middle result d : ℕ) (id : ℤ) → take middle mid ≡ take to old ++ (34 ∷ (48 + d) ∷ 34 ∷ 58 ∷ 123 ∷ []) → take result new ≡ take middle mid ++ name
    → signed_decimal id ≡ (48 + d) ∷ [] → take result new ≡ take to old ++ (quoted (signed_decimal id) ++ 58 ∷ 123 ∷ name)
short_head old mid new name to middle result d id first second digit =
    second ∙ ap (λ xs. xs ++ name) first ∙ append_assoc (take to old) (34 ∷ (48 + d) ∷ 34 ∷ 58 ∷ 123 ∷ []) name
    ∙ ap (λ ds. take to old ++ (quoted ds ++ 58 ∷ 123 ∷ name)) (sym digit)

-- a place that is told, if any, below another
pub short_of : (found : Option ℕ) (a b : ℕ) → IfSome found (λ x. x ≡ a) → a ≤ b → IfSome found (λ x. x ≤ b)
short_of (Some x) a b is few = omega (arith, is)
short_of None a b is few = tt
