-- The end of a comment is found at the first star with a slash behind it, and nowhere where there is none.
use Rattle.std.proofs.Common.{◌≡◌, ℕ, suc, ◌+◌, Bool, true, false, cond, List, [], ◌∷◌, ◌++◌, length, Some, refl, sym, ap, ◌∙◌, subst, arith, ◌⊎◌, inl, inr}
use Rattle.std.specs.Prelude.{◌==◌}
use Rattle.std.proofs.lemmas.Bool.{cases_Bool, cond-true, cond-false, eqb-true, eqb-false, ne_eqb}
use Rattle.idl_lexer.specs.Bytes.{further, comment_end}
use Rattle.idl_lexer.specs.Grammar.{IsInComment}
use Rattle.idl_lexer.specs.Grammar as grammar
use Rattle.lexis_laws.proofs.Fronts.{same_head, same_tail}
use Rattle.lexis_laws.proofs.Literals.{further_some}

-- what stands in the comment, with its end, and the rest
pub record Shut (xs : List ℕ) (n : ℕ) : Type 0 where
  pub inside : List ℕ
  pub rest : List ℕ
  pub joined : xs ≡ inside ++ rest
  pub within : IsInComment inside
  pub many : n ≡ length inside

-- behind a star it stands before
abbrev Shuts : Bool → List ℕ → ℕ → Type 0
Shuts false xs n = Shut xs n
Shuts true xs n = Shut (42 ∷ xs) (suc n)

shut_later : (b : ℕ) (bs : List ℕ) (n m : ℕ) (star : Bool) → (b == 42) ≡ star → n ≡ suc m → Shuts star bs m → Shut (b ∷ bs) n
shut_later b bs n m true is size shut = subst (λ x. Shut (x ∷ bs) n) (sym (eqb-true b 42 is)) (subst (λ k. Shut (42 ∷ bs) k) (sym size) shut)
shut_later b bs n m false is size shut = record {
  inside = b ∷ shut.inside;
  rest = shut.rest;
  joined = ap (λ x. b ∷ x) shut.joined;
  within = grammar.goes_on b shut.inside (λ rest e. eqb-false b 42 is (same_head b 42 shut.inside (47 ∷ rest) e)) shut.within;
  many = size ∙ ap suc shut.many;
}

starred : (b : ℕ) (bs : List ℕ) (n : ℕ) → (b == 47) ≡ false → Shut (b ∷ bs) n → Shut (42 ∷ b ∷ bs) (suc n)
starred b bs n other shut = record {
  inside = 42 ∷ shut.inside;
  rest = shut.rest;
  joined = ap (λ x. 42 ∷ x) shut.joined;
  within = grammar.goes_on 42 shut.inside (λ rest e.
      let inside : shut.inside ≡ 47 ∷ rest = same_tail 42 42 shut.inside (47 ∷ rest) e in
      let same : b ∷ bs ≡ 47 ∷ (rest ++ shut.rest) = shut.joined ∙ ap (λ x. x ++ shut.rest) inside in
      eqb-false b 47 other (same_head b 47 bs (rest ++ shut.rest) same)) shut.within;
  many = ap suc shut.many;
}

slash_here : (b : ℕ) (bs : List ℕ) (n : ℕ) → b ≡ 47 → n ≡ 1 → Shut (42 ∷ b ∷ bs) (suc n)
slash_here b bs n is size = record { inside = 42 ∷ 47 ∷ []; rest = bs; joined = ap (λ x. 42 ∷ x ∷ bs) is; within = grammar.closed; many = ap suc size }

by_slash : (b : ℕ) (bs : List ℕ) (n : ℕ) → ((m : ℕ) → comment_end (b == 42) bs ≡ Some m → Shuts (b == 42) bs m)
    → cond (b == 47) (Some 1) (further 1 (comment_end (b == 42) bs)) ≡ Some n → ((b == 47) ≡ true) ⊎ ((b == 47) ≡ false) → Shut (42 ∷ b ∷ bs) (suc n)
by_slash b bs n later e (inl t) =
    let one : Some 1 ≡ Some n = sym (cond-true (b == 47) (Some 1) (further 1 (comment_end (b == 42) bs)) t) ∙ e in
    let size : 1 ≡ n = cc in
    slash_here b bs n (eqb-true b 47 t) (sym size)
by_slash b bs n later e (inr t) =
    let f = further_some (comment_end (b == 42) bs) n (sym (cond-false (b == 47) (Some 1) (further 1 (comment_end (b == 42) bs)) t) ∙ e) in
    starred b bs n t (shut_later b bs n f.0 (b == 42) refl f.2 (later f.0 f.1))

comment_ends : (star : Bool) (xs : List ℕ) (n : ℕ) → comment_end star xs ≡ Some n → Shuts star xs n
comment_ends true [] n e = absurd (cc)
comment_ends false [] n e = absurd (cc)
comment_ends true (b ∷ bs) n e = by_slash b bs n (comment_ends (b == 42) bs) e (cases_Bool (b == 47))
comment_ends false (b ∷ bs) n e =
    let f = further_some (comment_end (b == 42) bs) n e in
    shut_later b bs n f.0 (b == 42) refl f.2 (comment_ends (b == 42) bs f.0 f.1)

pub comment_sound : (xs : List ℕ) (n : ℕ) → comment_end false xs ≡ Some n → Shut xs n
comment_sound xs n e = comment_ends false xs n e

-- a star before makes a difference at a slash alone
star_is : (xs : List ℕ) → ((rest : List ℕ) → xs ≡ 47 ∷ rest → ⊥) → comment_end true xs ≡ comment_end false xs
star_is [] h = refl
star_is (b ∷ bs) h = cond-false (b == 47) (Some 1) (further 1 (comment_end (b == 42) bs)) (ne_eqb b 47 (λ e. h bs (ap (λ x. x ∷ bs) e)))

some_inside : (inside : List ℕ) → IsInComment inside → (b : ℕ) × (bs : List ℕ) × (inside ≡ b ∷ bs)
some_inside inside grammar.closed = (42, 47 ∷ [], refl)
some_inside inside (grammar.goes_on b bs never t) = (b, bs, refl)

by_star : (b : ℕ) (bs rest : List ℕ) → ((more : List ℕ) → b ∷ bs ≡ 42 ∷ 47 ∷ more → ⊥) → IsInComment bs → (star : Bool) → (b == 42) ≡ star
    → comment_end star (bs ++ rest) ≡ comment_end false (bs ++ rest)
by_star b bs rest never t false is = refl
by_star b bs rest never t true is =
    let s = some_inside bs t in
    star_is (bs ++ rest) (λ more e.
    let first : s.0 ≡ 47 = same_head s.0 47 (s.1 ++ rest) more (ap (λ x. x ++ rest) (sym s.2) ∙ e) in
    never s.1 (ap (λ x. x ∷ bs) (eqb-true b 42 is) ∙ ap (λ x. 42 ∷ x) s.2 ∙ ap (λ x. 42 ∷ x ∷ s.1) first))

pub comment_whole : (inside rest : List ℕ) → IsInComment inside → comment_end false (inside ++ rest) ≡ Some (length inside)
comment_whole inside rest grammar.closed = refl
comment_whole inside rest (grammar.goes_on b bs never t) =
    let size : 1 + length bs ≡ suc (length bs) = omega arith in
    ap (further 1) (by_star b bs rest never t (b == 42) refl ∙ comment_whole bs rest t) ∙ ap Some size
