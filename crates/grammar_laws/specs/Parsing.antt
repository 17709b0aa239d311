-- What parsing has to do with the grammar.
use Rattle.std.specs.Prelude.{◌≡◌, ℕ, suc, ◌<◌, ◌≤◌, List, ◌++◌, length, take, drop, Some, None, Ok, Err}
use Rattle.idl_document.specs.Trees.{DocumentTree}
use Rattle.idl_parser.specs.declared.fault.Fault.{Fault}
use Rattle.idl_parser.specs.declared.fault.Fault.TheVariants as faults
use Rattle.idl_lexer.specs.declared.token.Token.{Token}
use Rattle.idl_lexer.specs.Grammar.{Lexes}
use Rattle.lexis_laws.specs.Faults.{IsFaultOf}
use Rattle.idl_parser.specs.declared.fault.ParseError.TheVariants as errors
use Rattle.idl_parser.specs.Documents.{Parsed, document_at}
use Rattle.idl_parser.specs.Grammar.{Derives}
use Rattle.idl_parser.specs.Lexemes.{offset_of}
use Rattle.idl_parser.specs.Marks.{most_levels}
use Rattle.idl_parser.specs.Seeing.{seen_all}
use Rattle.idl_parser.specs.Seen.{Seen}
use Rattle.grammar_laws.specs.Depth.{document_deep}
use Rattle.grammar_laws.specs.Faults.{IsDepthFault, IsSyntaxFault}

-- what is derived and nests no deeper than the levels that there are is parsed as what it is, with all its tokens
abbrev pub ParsesDerived : Type 0
ParsesDerived =
    (edge : ℕ) (tokens : List Seen) (d : DocumentTree) → Derives d tokens → document_deep most_levels d ≡ None → document_at edge tokens ≡ Ok (d, length tokens)

-- what nests deeper is refused where it first opens a level too many
abbrev pub RefusesDeeper : Type 0
RefusesDeeper =
    (edge : ℕ) (tokens : List Seen) (d : DocumentTree) (at : ℕ) → Derives d tokens → document_deep most_levels d ≡ Some at → document_at edge tokens ≡ Err (faults.Nested at)

-- what is parsed is derived, with all the tokens
abbrev pub DerivesParsed : Type 0
DerivesParsed = (edge : ℕ) (tokens : List Seen) (d : DocumentTree) (n : ℕ) → document_at edge tokens ≡ Ok (d, n) → (n ≡ length tokens) × Derives d tokens

-- tokens are one document at most
abbrev pub IsOneDocument : Type 0
IsOneDocument = (tokens : List Seen) (d e : DocumentTree) → Derives d tokens → Derives e tokens → d ≡ e

-- where a fault is told
abbrev pub place_of : Fault → ℕ
place_of (faults.Syntax at) = at
place_of (faults.Nested at) = at

-- the fault stands at the token of this place, or behind the last one, and whatever stands behind that token, it is the same
pub record LooksNoFurther (edge : ℕ) (tokens : List Seen) (fault : Fault) : Type 0 where
  pub place : ℕ
  pub within : place ≤ length tokens
  pub told : place_of fault ≡ offset_of edge (drop place tokens)
  pub same : (rest : List Seen) → place < length tokens → document_at edge (take (suc place) tokens ++ rest) ≡ Err fault

abbrev pub FaultsLookNoFurther : Type 0
FaultsLookNoFurther = (edge : ℕ) (tokens : List Seen) (fault : Fault) → document_at edge tokens ≡ Err fault → LooksNoFurther edge tokens fault

-- a syntax fault is told at the first token that continues no document, or where the text ends too early
abbrev pub TellsFirstFault : Type 0
TellsFirstFault = (edge : ℕ) (tokens : List Seen) (at : ℕ) → document_at edge tokens ≡ Err (faults.Syntax at) → IsSyntaxFault edge tokens at

-- a level too many is told where it is first opened
abbrev pub TellsFirstDepth : Type 0
TellsFirstDepth = (edge : ℕ) (tokens : List Seen) (at : ℕ) → document_at edge tokens ≡ Err (faults.Nested at) → IsDepthFault edge tokens at

-- what tokens are: a document that nests no deeper than it may, or a fault that stands there
abbrev pub IsRead : ℕ → List Seen → Parsed → Type 0
IsRead edge tokens (Ok d) = Derives d tokens × (document_deep most_levels d ≡ None)
IsRead edge tokens (Err (errors.Lex fault)) = ⊥
IsRead edge tokens (Err (errors.Syntax at)) = IsSyntaxFault edge tokens at
IsRead edge tokens (Err (errors.Nested at)) = IsDepthFault edge tokens at
IsRead edge tokens (Err errors.OutOfMemory) = ⊥

-- What a text is: what the tokens are into which the lexis cuts it, or the lexical fault where it can't be cut.
abbrev pub IsText : List ℕ → Parsed → Type 0
IsText text (Err (errors.Lex fault)) = IsFaultOf text fault
IsText text answer = (tokens : List Token) × Lexes 0 text tokens × IsRead (length text) (seen_all text tokens) answer
