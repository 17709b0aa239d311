-- The first token that continues no document, and the first that opens a level too many.
use Rattle.std.specs.Prelude.{◌≡◌, ℕ, suc, ◌<◌, List, ◌++◌, length, take, drop, Some, None}
use Rattle.idl_document.specs.Trees.{DocumentTree}
use Rattle.idl_parser.specs.Grammar.{Derives}
use Rattle.idl_parser.specs.Lexemes.{offset_of}
use Rattle.idl_parser.specs.Marks.{most_levels}
use Rattle.idl_parser.specs.Seen.{Seen}
use Rattle.grammar_laws.specs.Depth.{document_deep}

-- the grammar derives these tokens
abbrev pub IsDocument : List Seen → Type 0
IsDocument tokens = (d : DocumentTree) × Derives d tokens

-- Others complete these tokens to a document. A token is an offset, a lexeme and a word here, so what completes them has no bytes: no text need spell it.
abbrev pub Begins : List Seen → Type 0
Begins tokens = (rest : List Seen) × IsDocument (tokens ++ rest)

-- What stands before the place begins a document. With the token at the place it begins none; or no token stands there, and what there is is none.
pub data IsFaultPlace (tokens : List Seen) (n : ℕ) : Type 0 where
  at_token : n < length tokens → Begins (take n tokens) → (Begins (take (suc n) tokens) → ⊥) → IsFaultPlace tokens n
  at_end : n ≡ length tokens → Begins tokens → (IsDocument tokens → ⊥) → IsFaultPlace tokens n

-- the offset of the token there, or where the text ends
abbrev pub IsFaultAt : ℕ → List Seen → ℕ → Type 0
IsFaultAt edge tokens at = (n : ℕ) × IsFaultPlace tokens n × (at ≡ offset_of edge (drop n tokens))

-- Others complete these tokens to a document for which so many levels are enough.
abbrev pub BeginsWithin : ℕ → List Seen → Type 0
BeginsWithin levels tokens = (rest : List Seen) × (d : DocumentTree) × Derives d (tokens ++ rest) × (document_deep levels d ≡ None)

-- The first token that continues no document is told, and what stands before it nests no deeper than it may.
pub record IsSyntaxFault (edge : ℕ) (tokens : List Seen) (at : ℕ) : Type 0 where
  pub place : ℕ
  pub stands : IsFaultPlace tokens place
  pub within : BeginsWithin most_levels (take place tokens)
  pub told : at ≡ offset_of edge (drop place tokens)

-- The token is told with which what began a document that nests no deeper than it may begins only such as nest deeper: it opens the level that is
-- too many in each of them.
pub record IsDepthFault (edge : ℕ) (tokens : List Seen) (at : ℕ) : Type 0 where
  pub place : ℕ
  pub there : place < length tokens
  pub within : BeginsWithin most_levels (take place tokens)
  pub opens : Begins (take (suc place) tokens)
  pub deep : (rest : List Seen) (d : DocumentTree) → Derives d (take (suc place) tokens ++ rest) → document_deep most_levels d ≡ Some at
  pub told : at ≡ offset_of edge (drop place tokens)
