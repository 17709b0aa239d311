-- The sign at the front of some bytes.
use Rattle.std.proofs.Common.{◌≡◌, ℕ, Bool, true, false, cond, List, [], ◌∷◌, ◌++◌, length, drop, refl, sym, ap, ◌∙◌, subst, ◌⊎◌, inl, inr}
use Rattle.std.specs.Prelude.{◌==◌}
use Rattle.std.proofs.lemmas.Bool.{cases_Bool, eqb-true, or_from}
use Rattle.idl_lexer.specs.Bytes.{is_sign}
use Rattle.idl_lexer.specs.Grammar.{IsSign}
use Rattle.idl_lexer.specs.Grammar as grammar
use Rattle.idl_lexer.specs.Pieces.{begins, sign_len}
use Rattle.lexis_laws.proofs.Fronts.{Apart, begins_cons, drop_front, same_front}
use Rattle.lexis_laws.proofs.Values.{Negates}
use Rattle.lexis_laws.proofs.Values as values

-- a sign, or none, and what stands behind it
pub record SignCut (xs : List ℕ) : Type 0 where
  pub sign : List ℕ
  pub rest : List ℕ
  pub negative : Bool
  pub joined : xs ≡ sign ++ rest
  pub is : IsSign sign
  pub negates : Negates negative sign
  pub many : sign_len xs ≡ length sign
  pub flag : begins (λ b. b == 45) xs ≡ negative

sign_len_by : (x : ℕ) (xs : List ℕ) (t : Bool) → is_sign x ≡ t → sign_len (x ∷ xs) ≡ cond t 1 0
sign_len_by x xs t e = ap (λ u. cond u 1 0) (begins_cons is_sign x xs ∙ e)

a_sign : (x : ℕ) (xs : List ℕ) → ((x == 43) ≡ true) ⊎ ((x == 43) ≡ false) → ((x == 45) ≡ true) ⊎ ((x == 45) ≡ false) → SignCut (x ∷ xs)
a_sign x xs (inl p) m = subst (λ y. SignCut (y ∷ xs)) (sym (eqb-true x 43 p))
    (record { sign = 43 ∷ []; rest = xs; negative = false; joined = refl; is = grammar.plus_sign; negates = values.plus_sign; many = sign_len_by 43 xs true refl; flag = begins_cons (λ b. b == 45) 43 xs })
a_sign x xs (inr p) (inl m) = subst (λ y. SignCut (y ∷ xs)) (sym (eqb-true x 45 m))
    (record { sign = 45 ∷ []; rest = xs; negative = true; joined = refl; is = grammar.minus_sign; negates = values.minus_sign; many = sign_len_by 45 xs true refl; flag = begins_cons (λ b. b == 45) 45 xs })
a_sign x xs (inr p) (inr m) = record {
  sign = [];
  rest = x ∷ xs;
  negative = false;
  joined = refl;
  is = grammar.no_sign;
  negates = values.no_sign;
  many = sign_len_by x xs false (or_from (x == 43) (x == 45) p m);
  flag = begins_cons (λ b. b == 45) x xs ∙ m;
}

pub sign_cut : (xs : List ℕ) → SignCut xs
sign_cut [] = record { sign = []; rest = []; negative = false; joined = refl; is = grammar.no_sign; negates = values.no_sign; many = refl; flag = refl }
sign_cut (x ∷ xs) = a_sign x xs (cases_Bool (x == 43)) (cases_Bool (x == 45))

pub behind_sign : (xs : List ℕ) (s : SignCut xs) → drop (sign_len xs) xs ≡ s.rest
behind_sign xs s = ap (λ n. drop n xs) s.many ∙ ap (λ ys. drop (length s.sign) ys) s.joined ∙ drop_front s.sign s.rest

-- a sign before what begins with none is found
pub sign_there : (sign rest : List ℕ) → IsSign sign → Apart is_sign rest → sign_len (sign ++ rest) ≡ length sign
sign_there sign [] grammar.no_sign apart = refl
sign_there sign (x ∷ xs) grammar.no_sign apart = sign_len_by x xs false apart
sign_there sign rest grammar.plus_sign apart = sign_len_by 43 rest true refl
sign_there sign rest grammar.minus_sign apart = sign_len_by 45 rest true refl

-- the bytes have one sign
pub one_sign : (a b r t : List ℕ) → IsSign a → IsSign b → Apart is_sign r → Apart is_sign t → a ++ r ≡ b ++ t → (a ≡ b) × (r ≡ t)
one_sign a b r t p q f g e = same_front a b r t (sym (sign_there a r p f) ∙ ap sign_len e ∙ sign_there b t q g) e
