-- What is read of a text is how it is cut, and the fault that is told is the first that stands there.
use Rattle.std.proofs.Common.{◌≡◌, ℕ, zero, suc, ◌+◌, ◌<◌, true, List, [], ◌∷◌, ◌++◌, length, Ok, Err, sym, ap, ◌∙◌, subst, arith, length-append}
use Rattle.std.specs.List.{list_all}
use Rattle.std.proofs.lemmas.Bool.{and_parts, and_from}
use Rattle.idl_lexer.specs.Bytes.{is_blank}
use Rattle.idl_lexer.specs.Tokens.{Read, joined, tokens_from}
use Rattle.idl_lexer.specs.declared.token.Token.{Token}
use Rattle.idl_lexer.specs.declared.token.TokenForm.{TokenForm}
use Rattle.lexis_laws.specs.Cutting.{Cuts}
use Rattle.lexis_laws.specs.Cutting as cuttings
use Rattle.lexis_laws.specs.Faults.{Fails}
use Rattle.lexis_laws.proofs.Right.{GapAt, TokenAt, AreGaps, blanks, a_comment}
use Rattle.lexis_laws.proofs.Steps.{Step, over_gap, over_token, at_fault, step, token_of}
use Rattle.lexis_laws.proofs.Single.{token_some}

-- ---- gaps are passed over

blanks_cut : (bytes : List ℕ) (at place : ℕ) (rest behind : List ℕ) (tokens : List Token) → list_all is_blank bytes ≡ true
    → Cuts (at + length bytes) rest tokens place behind → Cuts at (bytes ++ rest) tokens place behind
blanks_cut [] at place rest behind tokens all c = let none : at + 0 ≡ at = omega arith in subst (λ n. Cuts n rest tokens place behind) none c
blanks_cut (b ∷ bs) at place rest behind tokens all c =
    let both = and_parts (is_blank b) (list_all is_blank bs) all in
    let same : at + suc (length bs) ≡ at + 1 + length bs = omega arith in
    cuttings.gap at place (b ∷ []) (bs ++ rest) behind tokens (cuttings.whitespace b (bs ++ rest) both.0)
    (blanks_cut bs (at + 1) place rest behind tokens both.1 (subst (λ n. Cuts n rest tokens place behind) same c))

gaps_cut : (bytes : List ℕ) (at place : ℕ) (rest behind : List ℕ) (tokens : List Token) → AreGaps bytes rest
    → Cuts (at + length bytes) rest tokens place behind → Cuts at (bytes ++ rest) tokens place behind
gaps_cut bytes at place rest behind tokens (blanks b bs r is all apart) c =
    blanks_cut (b ∷ bs) at place r behind tokens (and_from (is_blank b) (list_all is_blank bs) is all) c
gaps_cut bytes at place rest behind tokens (a_comment bs r gap apart) c = cuttings.gap at place bs r behind tokens gap c

-- ---- what is read is cut

-- the tokens of a cutting to the end, or of one up to a fault
abbrev pub Told : ℕ → List ℕ → Read → Type 0
Told at text (Ok tokens) = Cuts at text tokens (at + length text) []
Told at text (Err fault) = (tokens : List Token) × (rest : List ℕ) × Cuts at text tokens fault.offset rest × Fails fault.reason rest

further_on : (at : ℕ) (bytes rest text : List ℕ) → text ≡ bytes ++ rest → at + length bytes + length rest ≡ at + length text
further_on at bytes rest text e =
    let size = ap length e in
    let total = length-append bytes rest in
    omega (arith, size, total)

gap_told : (at : ℕ) (text : List ℕ) (n : ℕ) (g : GapAt text n) (read : Read) → Told (at + length g.bytes) g.rest read → Told at text read
gap_told at text n g (Ok tokens) told =
    subst (λ xs. Cuts at xs tokens (at + length text) []) (sym g.joined)
    (gaps_cut g.bytes at (at + length text) g.rest [] tokens g.gaps (subst (λ p. Cuts (at + length g.bytes) g.rest tokens p []) (further_on at g.bytes g.rest text g.joined) told))
gap_told at text n g (Err fault) (tokens, rest, cut, why) =
    (tokens, rest, subst (λ xs. Cuts at xs tokens fault.offset rest) (sym g.joined) (gaps_cut g.bytes at fault.offset g.rest rest tokens g.gaps cut), why)

token_told : (at : ℕ) (text : List ℕ) (form : TokenForm) (n : ℕ) (t : TokenAt text form n) (read : Read) → Told (at + length t.bytes) t.rest read
    → Told at text (joined (token_of form at (length t.bytes) ∷ []) read)
token_told at text form n t (Ok tokens) told =
    subst (λ xs. Cuts at xs (token_of form at (length t.bytes) ∷ tokens) (at + length text) []) (sym t.joined)
    (cuttings.token at (at + length text) form t.bytes t.rest [] tokens t.stands t.fits (subst (λ p. Cuts (at + length t.bytes) t.rest tokens p []) (further_on at t.bytes t.rest text t.joined) told))
token_told at text form n t (Err fault) (tokens, rest, cut, why) = (
  token_of form at (length t.bytes) ∷ tokens,
  rest,
  subst (λ xs. Cuts at xs (token_of form at (length t.bytes) ∷ tokens) fault.offset rest) (sym t.joined) (cuttings.token at fault.offset form t.bytes t.rest rest tokens t.stands t.fits cut),
  why,
)

abbrev Reads : ℕ → Type 0
Reads size = (text : List ℕ) (at : ℕ) → length text < size → Told at text (tokens_from text 0 at)

nothing_told : (at : ℕ) → Told at [] (tokens_from [] 0 at)
unfolding tokens_from
nothing_told at = let none : at + 0 ≡ at = omega arith in subst (λ p. Cuts at [] [] p []) (sym none) (cuttings.here at [])

module _ (size : ℕ) (reads : Reads size) where
  by_step : (at : ℕ) (text : List ℕ) → length text < suc size → Step at text → Told at text (tokens_from text 0 at)
  by_step at text small (over_gap a xs n g read) =
      let some = g.some in
      let many = g.many in
      let total = ap length g.joined ∙ length-append g.bytes g.rest in
      let told = reads g.rest (a + length g.bytes) (omega (arith, some, many, total, small)) in
      subst (Told a xs) (sym read) (gap_told a xs n g (tokens_from g.rest 0 (a + length g.bytes)) told)
  by_step at text small (over_token a xs form n t read) =
      let some = token_some form t.bytes t.stands.token in
      let total = ap length t.joined ∙ length-append t.bytes t.rest in
      let told = reads t.rest (a + length t.bytes) (omega (arith, some, total, small)) in
      subst (Told a xs) (sym read) (token_told a xs form n t (tokens_from t.rest 0 (a + length t.bytes)) told)
  by_step at text small (at_fault a xs reason why read) = subst (Told a xs) (sym read) ([], xs, cuttings.here a xs, why)

reads_all : (size : ℕ) → Reads size
reads_all zero text at h = absurd (omega (arith, h))
reads_all (suc size) [] at h = nothing_told at
reads_all (suc size) (x ∷ xs) at h = by_step size (reads_all size) at (x ∷ xs) h (step x xs at)

pub read_told : (text : List ℕ) (at : ℕ) → Told at text (tokens_from text 0 at)
read_told text at = reads_all (suc (length text)) text at (omega arith)
