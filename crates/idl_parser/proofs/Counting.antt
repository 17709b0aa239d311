-- A text has no more definitions than bytes.
use Rattle.std.proofs.Common.{◌≡◌, ℕ, zero, suc, ◌+◌, ◌-◌, ◌≤◌, List, [], ◌∷◌, ◌++◌, length, drop, Ok, Err, Bool, true, false, cond, refl, ap, arith, length-append, length-drop}
use Rattle.idl_lexer.specs.declared.token.Token.{Token}
use Rattle.idl_lexer.specs.Tokens.{Spans}
use Rattle.idl_document.specs.declared.document.Definition.{Definition}
use Rattle.idl_document.specs.declared.document.Document.{Document}
use Rattle.idl_document.specs.declared.document.Name.{Name}
use Rattle.idl_parser.specs.Declarations.{definition_at, one_definition}
use Rattle.idl_document.specs.Trees.{DefinitionTree, definition_trees, DocumentTree, document_tree}
use Rattle.idl_parser.specs.Documents.{document_at, header_at, is_header}
use Rattle.idl_parser.specs.Lexemes.{Scan, onward, is_left}
use Rattle.idl_parser.specs.Run.{run, joined, after_one, at_end, listed}
use Rattle.idl_parser.specs.Seeing.{seen_all}
use Rattle.idl_parser.specs.Seen.{Seen}

-- tokens that stand one behind the other are no more than the bytes
tokens_few : (low high : ℕ) (tokens : List Token) → Spans low high tokens → low + length tokens ≤ high
tokens_few low high [] s = omega (arith, s)
tokens_few low high (t ∷ ts) s = omega (arith, s.0, s.1, tokens_few (t.from + t.len) high ts s.2)

module _ {Y : Type 0} where
  joined_more : (front : List Y) (k : ℕ) (scan : Scan (List Y)) (n : ℕ) (x : List Y × ℕ) → length front ≤ 1 → ((y : List Y × ℕ) → scan ≡ Ok y → length y.0 ≤ n) → joined front k scan ≡ Ok x → length x.0 ≤ suc n
  joined_more front k (Ok y) n x f r e =
      let is : x.0 ≡ front ++ y.0 = ap (λ p. p.0) (ok_is (front ++ y.0, k + y.1) x e) in
      omega (arith, f, r y refl, ap length is, length-append front y.0)
    where
      ok_is : (a b : List Y × ℕ) → (let r : Scan (List Y) = Ok a in r) ≡ Ok b → b ≡ a
      ok_is a b e = cc
  joined_more front k (Err fault) n x f r e = cc

  after_more : (scan : Scan (List Y)) (go : ℕ → Scan (List Y)) (n : ℕ) (x : List Y × ℕ) → ((y : List Y × ℕ) → scan ≡ Ok y → length y.0 ≤ 1) → ((skip : ℕ) (y : List Y × ℕ) → go skip ≡ Ok y → length y.0 ≤ n) →
      after_one scan go ≡ Ok x → length x.0 ≤ suc n
  after_more (Ok y) go n x f r e = joined_more y.0 1 (go (y.1 - 1)) n x (f y refl) (r (y.1 - 1)) e
  after_more (Err fault) go n x f r e = cc

  end_none : (edge : ℕ) (scan : Scan (List Y)) (x : List Y × ℕ) → at_end edge scan ≡ Ok x → length x.0 ≤ 0
  end_none edge (Ok y) x e = cc
  end_none edge (Err fault) x e = cc

  none_is : (x : List Y × ℕ) → (let r : Scan (List Y) = Ok ([], 0) in r) ≡ Ok x → length x.0 ≤ 0
  none_is x e = let is : x ≡ ([], 0) = cc in omega (arith, ap (λ p. length p.0) is)

  run_few : (more : List Seen → Bool) (one : List Seen → Scan (List Y)) (edge : ℕ) → ((tokens : List Seen) (x : List Y × ℕ) → one tokens ≡ Ok x → length x.0 ≤ 1) →
      (tokens : List Seen) (skip : ℕ) (x : List Y × ℕ) → run more one edge tokens skip ≡ Ok x → length x.0 ≤ length tokens
  unfolding run
  run_few more one edge few [] skip x e = by (more []) e
    where
      by : (t : Bool) → cond t (at_end edge (one [])) (Ok ([], 0)) ≡ Ok x → length x.0 ≤ 0
      by true e = end_none edge (one []) x e
      by false e = none_is x e
  run_few more one edge few (t ∷ ts) (suc skip) x e = joined_more [] 1 (run more one edge ts skip) (length ts) x (omega arith) (λ y r. run_few more one edge few ts skip y r) e
  run_few more one edge few (t ∷ ts) zero x e = by (more (t ∷ ts)) (λ skip y r. run_few more one edge few ts skip y r) e
    where
      by : (b : Bool) → ((skip : ℕ) (y : List Y × ℕ) → run more one edge ts skip ≡ Ok y → length y.0 ≤ length ts) →
          cond b (after_one (one (t ∷ ts)) (λ skip. run more one edge ts skip)) (Ok ([], 0)) ≡ Ok x → length x.0 ≤ suc (length ts)
      by true r e = after_more (one (t ∷ ts)) (λ skip. run more one edge ts skip) (length ts) x (few (t ∷ ts)) r e
      by false r e = omega (arith, none_is x e)

  listed_one : (scan : Scan Y) (x : List Y × ℕ) → listed scan ≡ Ok x → length x.0 ≤ 1
  listed_one (Ok y) x e = let is : x ≡ (y.0 ∷ [], y.1) = cc in omega (arith, ap (λ p. length p.0) is)
  listed_one (Err fault) x e = cc

seen_length : (text : List ℕ) (tokens : List Token) → length (seen_all text tokens) ≡ length tokens
seen_length text [] = refl
seen_length text (t ∷ ts) = ap suc (seen_length text ts)

definitions_few : (n edge : ℕ) (includes : List Name) (scan : Scan (List DefinitionTree)) (x : DocumentTree × ℕ) (bound : ℕ) → ((y : List DefinitionTree × ℕ) → scan ≡ Ok y → length y.0 ≤ bound) →
    (onward n scan λ definitions n. Ok (record { includes = includes; definitions = definitions }, n)) ≡ Ok x → length x.0.definitions ≤ bound
definitions_few n edge includes (Ok y) x bound r e =
    let is : x.0 ≡ record { includes = includes; definitions = y.0 } = ap (λ p. p.0) (ok_is _ x e) in
    omega (arith, r y refl, ap (λ (d : DocumentTree). length d.definitions) is)
  where
    ok_is : (a b : DocumentTree × ℕ) → (let r : Scan DocumentTree = Ok a in r) ≡ Ok b → b ≡ a
    ok_is a b e = cc
definitions_few n edge includes (Err fault) x bound r e = cc

document_few : (edge : ℕ) (tokens : List Seen) (x : DocumentTree × ℕ) → document_at edge tokens ≡ Ok x → length x.0.definitions ≤ length tokens
unfolding document_at
document_few edge tokens x e = by (run is_header (header_at edge) edge tokens 0) e
  where
    by : (headers : Scan (List Name)) →
        (onward 0 headers λ includes n. onward n (run is_left (one_definition edge) edge (drop n tokens) 0) λ definitions n. Ok (record { includes = includes; definitions = definitions }, n)) ≡ Ok x →
        length x.0.definitions ≤ length tokens
    by (Ok y) e =
        let n = 0 + y.1 in
        let few = definitions_few n edge y.0 (run is_left (one_definition edge) edge (drop n tokens) 0) x (length (drop n tokens))
        (λ z r. run_few is_left (one_definition edge) edge (λ ts z r. listed_one (definition_at edge ts) z r) (drop n tokens) 0 z r) e in
        omega (arith, few, length-drop n tokens)
    by (Err fault) e = cc

trees_length : (definitions : List Definition) → length (definition_trees definitions) ≡ length definitions
trees_length [] = refl
trees_length (d ∷ ds) = ap suc (trees_length ds)

-- a document that was read from the tokens of a text
pub definitions_of_text : (text : List ℕ) (tokens : List Token) (document : Document) (n : ℕ) → Spans 0 (length text) tokens → document_at (length text) (seen_all text tokens) ≡ Ok (document_tree document, n) →
    length document.definitions ≤ length text
definitions_of_text text tokens document n s e =
    omega (arith, tokens_few 0 (length text) tokens s, document_few (length text) (seen_all text tokens) (document_tree document, n) e, seen_length text tokens, trees_length document.definitions)
