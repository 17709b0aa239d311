-- The grammar's own relation and a cutting up to the text's end say the same.
use Rattle.std.proofs.Common.{◌≡◌, ℕ, suc, ◌+◌, List, [], ◌∷◌, ◌++◌, length, refl, sym, subst, arith, length-append}
use Rattle.idl_lexer.specs.Grammar.{Lexes}
use Rattle.idl_lexer.specs.Grammar as grammar
use Rattle.idl_lexer.specs.declared.token.Token.{Token}
use Rattle.lexis_laws.specs.Cutting.{IsGap, Stands, Cuts}
use Rattle.lexis_laws.specs.Cutting as cuttings

-- ---- a cutting is one up to the end

moved : (at to place end : ℕ) (rest : List ℕ) (tokens : List Token) → at ≡ to → place ≡ end → Cuts at rest tokens place [] → Cuts to rest tokens end []
moved at to place end rest tokens e f c = subst (λ a. Cuts a rest tokens end []) e (subst (λ p. Cuts at rest tokens p []) f c)

gap_cut : (at to : ℕ) (bytes rest : List ℕ) (tokens : List Token) → IsGap bytes rest → to ≡ at + length bytes → Cuts to rest tokens (to + length rest) [] → Cuts at (bytes ++ rest) tokens (at + length (bytes ++ rest)) []
gap_cut at to bytes rest tokens gap e c =
    let total = length-append bytes rest in
    let end : to + length rest ≡ at + length (bytes ++ rest) = omega (arith, total, e) in
    cuttings.gap at (at + length (bytes ++ rest)) bytes rest [] tokens gap (moved to (at + length bytes) (to + length rest) (at + length (bytes ++ rest)) rest tokens e end c)

pub lexes_cut : (at : ℕ) (text : List ℕ) (tokens : List Token) → Lexes at text tokens → Cuts at text tokens (at + length text) []
lexes_cut at text tokens (grammar.nothing a) = let none : a ≡ a + 0 = omega arith in subst (λ p. Cuts a [] [] p []) none (cuttings.here a [])
lexes_cut at text tokens (grammar.blank a b rest ts is l) = gap_cut a (a + 1) (b ∷ []) rest ts (cuttings.whitespace b rest is) refl (lexes_cut (a + 1) rest ts l)
lexes_cut at text tokens (grammar.hash a line rest ts one ends l) =
    gap_cut a (a + 1 + length line) (35 ∷ line) rest ts (cuttings.hash line rest one ends) (omega arith) (lexes_cut (a + 1 + length line) rest ts l)
lexes_cut at text tokens (grammar.slashes a line rest ts one ends l) =
    gap_cut a (a + 2 + length line) (47 ∷ 47 ∷ line) rest ts (cuttings.slashes line rest one ends) (omega arith) (lexes_cut (a + 2 + length line) rest ts l)
lexes_cut at text tokens (grammar.comment a inside rest ts within l) =
    gap_cut a (a + 2 + length inside) (47 ∷ 42 ∷ inside) rest ts (cuttings.comment inside rest within) (omega arith) (lexes_cut (a + 2 + length inside) rest ts l)
lexes_cut at text tokens (grammar.token a form bytes rest ts is longest fits l) =
    let total = length-append bytes rest in
    let end : a + length bytes + length rest ≡ a + length (bytes ++ rest) = omega (arith, total) in
    cuttings.token a (a + length (bytes ++ rest)) form bytes rest [] ts (record { token = is; longest = longest }) fits
    (moved (a + length bytes) (a + length bytes) (a + length bytes + length rest) (a + length (bytes ++ rest)) rest ts refl end (lexes_cut (a + length bytes) rest ts l))

-- ---- and back

gap_lexes : (at : ℕ) (bytes rest : List ℕ) (tokens : List Token) → IsGap bytes rest → Lexes (at + length bytes) rest tokens → Lexes at (bytes ++ rest) tokens
gap_lexes at bytes rest tokens (cuttings.whitespace b r is) l = grammar.blank at b r tokens is l
gap_lexes at bytes rest tokens (cuttings.hash line r one ends) l =
    let same : at + suc (length line) ≡ at + 1 + length line = omega arith in grammar.hash at line r tokens one ends (subst (λ a. Lexes a r tokens) same l)
gap_lexes at bytes rest tokens (cuttings.slashes line r one ends) l =
    let same : at + suc (suc (length line)) ≡ at + 2 + length line = omega arith in grammar.slashes at line r tokens one ends (subst (λ a. Lexes a r tokens) same l)
gap_lexes at bytes rest tokens (cuttings.comment inside r within) l =
    let same : at + suc (suc (length inside)) ≡ at + 2 + length inside = omega arith in grammar.comment at inside r tokens within (subst (λ a. Lexes a r tokens) same l)

pub cut_lexes : (at place : ℕ) (text behind : List ℕ) (tokens : List Token) → behind ≡ [] → Cuts at text tokens place behind → Lexes at text tokens
cut_lexes at place text behind tokens e (cuttings.here a rest) = subst (λ xs. Lexes a xs []) (sym e) (grammar.nothing a)
cut_lexes at place text behind tokens e (cuttings.gap a p bytes rest b ts gap c) = gap_lexes a bytes rest ts gap (cut_lexes (a + length bytes) p rest b ts e c)
cut_lexes at place text behind tokens e (cuttings.token a p form bytes rest b ts s fits c) =
    grammar.token a form bytes rest ts s.token s.longest fits (cut_lexes (a + length bytes) p rest b ts e c)
