-- The end of a literal is found where the closing quote stands, and nowhere where none does.
use Rattle.std.proofs.Common.{◌≡◌, ℕ, suc, ◌+◌, Bool, true, false, cond, List, [], ◌∷◌, ◌++◌, length, Option, Some, None, refl, sym, ap, ◌∙◌, arith, ◌⊎◌, inl, inr}
use Rattle.std.specs.Prelude.{◌==◌}
use Rattle.std.proofs.lemmas.Bool.{cases_Bool, cond-true, cond-false, eqb-true, eqb-false, eq-eqb, ne_eqb}
use Rattle.idl_lexer.specs.Bytes.{further, literal_end}
use Rattle.idl_lexer.specs.Grammar.{IsQuoted}
use Rattle.idl_lexer.specs.Grammar as grammar

pub further_some : (o : Option ℕ) (n : ℕ) → further 1 o ≡ Some n → (m : ℕ) × (o ≡ Some m) × (n ≡ suc m)
further_some None n e = absurd (cc)
further_some (Some m) n e = (m, refl, let same : 1 + m ≡ n = cc in omega (arith, same))

-- what is quoted, the closing quote, and the rest
pub record Closed (quote : ℕ) (xs : List ℕ) (n : ℕ) : Type 0 where
  pub bytes : List ℕ
  pub rest : List ℕ
  pub joined : xs ≡ bytes ++ quote ∷ rest
  pub quoted : IsQuoted quote bytes
  pub many : n ≡ length bytes + 1

-- behind a backslash one byte goes before
abbrev Ends : Bool → ℕ → List ℕ → ℕ → Type 0
Ends false quote xs n = Closed quote xs n
Ends true quote xs n = (b : ℕ) × (bs : List ℕ) × (m : ℕ) × (xs ≡ b ∷ bs) × (n ≡ suc m) × Closed quote bs m

closes_here : (quote b : ℕ) (bs : List ℕ) (n : ℕ) → b ≡ quote → n ≡ 1 → Closed quote (b ∷ bs) n
closes_here quote b bs n e size = record { bytes = []; rest = bs; joined = ap (λ x. x ∷ bs) e; quoted = grammar.ends quote; many = size }

closes_later : (quote b : ℕ) (bs : List ℕ) (n m : ℕ) (slash : Bool) → (b == 92) ≡ slash → (b ≡ quote → ⊥) → n ≡ suc m → Ends slash quote bs m → Closed quote (b ∷ bs) n
closes_later quote b bs n m true is other size (c, cs, k, joined, less, closed) = record {
  bytes = 92 ∷ c ∷ closed.bytes;
  rest = closed.rest;
  joined = ap (λ x. x ∷ bs) (eqb-true b 92 is) ∙ ap (λ x. 92 ∷ x) joined ∙ ap (λ x. 92 ∷ c ∷ x) closed.joined;
  quoted = grammar.taken quote c closed.bytes closed.quoted;
  many = let many = closed.many in omega (arith, size, less, many);
}
closes_later quote b bs n m false is other size closed = record {
  bytes = b ∷ closed.bytes;
  rest = closed.rest;
  joined = ap (λ x. b ∷ x) closed.joined;
  quoted = grammar.plain quote b closed.bytes other (eqb-false b 92 is) closed.quoted;
  many = let many = closed.many in omega (arith, size, many);
}

closes_by : (quote b : ℕ) (bs : List ℕ) (n : ℕ) → ((m : ℕ) → literal_end (b == 92) quote bs ≡ Some m → Ends (b == 92) quote bs m)
    → cond (b == quote) (Some 1) (further 1 (literal_end (b == 92) quote bs)) ≡ Some n → ((b == quote) ≡ true) ⊎ ((b == quote) ≡ false) → Closed quote (b ∷ bs) n
closes_by quote b bs n later e (inl t) =
    let one : Some 1 ≡ Some n = sym (cond-true (b == quote) (Some 1) (further 1 (literal_end (b == 92) quote bs)) t) ∙ e in
    let size : 1 ≡ n = cc in
    closes_here quote b bs n (eqb-true b quote t) (sym size)
closes_by quote b bs n later e (inr t) =
    let f = further_some (literal_end (b == 92) quote bs) n (sym (cond-false (b == quote) (Some 1) (further 1 (literal_end (b == 92) quote bs)) t) ∙ e) in
    closes_later quote b bs n f.0 (b == 92) refl (eqb-false b quote t) f.2 (later f.0 f.1)

literal_ends : (escaped : Bool) (quote : ℕ) (xs : List ℕ) (n : ℕ) → literal_end escaped quote xs ≡ Some n → Ends escaped quote xs n
literal_ends true quote [] n e = absurd (cc)
literal_ends false quote [] n e = absurd (cc)
literal_ends true quote (b ∷ bs) n e =
    let f = further_some (literal_end false quote bs) n e in
    (b, bs, f.0, refl, f.2, literal_ends false quote bs f.0 f.1)
literal_ends false quote (b ∷ bs) n e = closes_by quote b bs n (literal_ends (b == 92) quote bs) e (cases_Bool (b == quote))

pub literal_sound : (quote : ℕ) (xs : List ℕ) (n : ℕ) → literal_end false quote xs ≡ Some n → Closed quote xs n
literal_sound quote xs n e = literal_ends false quote xs n e

pub literal_whole : (quote : ℕ) (bytes rest : List ℕ) → (92 == quote) ≡ false → IsQuoted quote bytes → literal_end false quote (bytes ++ quote ∷ rest) ≡ Some (length bytes + 1)
literal_whole quote bytes rest h (grammar.ends q) = cond-true (q == q) (Some 1) (further 1 (literal_end (q == 92) q rest)) (eq-eqb q q refl)
literal_whole quote bytes rest h (grammar.taken q b bs t) =
    let size : 1 + (1 + (length bs + 1)) ≡ suc (suc (length bs)) + 1 = omega arith in
    cond-false (92 == q) (Some 1) (further 1 (literal_end true q (b ∷ (bs ++ q ∷ rest)))) h
    ∙ ap (λ o. further 1 (further 1 o)) (literal_whole q bs rest h t) ∙ ap Some size
literal_whole quote bytes rest h (grammar.plain q b bs other slash t) =
    let size : 1 + (length bs + 1) ≡ suc (length bs) + 1 = omega arith in
    cond-false (b == q) (Some 1) (further 1 (literal_end (b == 92) q (bs ++ q ∷ rest))) (ne_eqb b q other)
    ∙ ap (λ t. further 1 (literal_end t q (bs ++ q ∷ rest))) (ne_eqb b 92 slash)
    ∙ ap (further 1) (literal_whole q bs rest h t) ∙ ap Some size
