-- Types and values are read without a case on the levels.
use Rattle.std.proofs.Common.{◌≡◌, ℕ, zero, suc, ◌-◌, List, drop, refl, ap, arith, Ok}
use Rattle.idl_parser.specs.declared.tokens.Lexeme.{Lexeme}
use Rattle.idl_parser.specs.declared.tokens.Lexeme.TheVariants as lexemes
use Rattle.idl_parser.specs.declared.words.Keyword.TheVariants as keywords
use Rattle.idl_parser.specs.Lexemes.{Scan, lexeme_of, syntax_at, onward}
use Rattle.idl_parser.specs.Notes.{notes_at}
use Rattle.idl_parser.specs.Seen.{Seen}
use Rattle.idl_document.specs.Trees.{TypeTree}
use Rattle.idl_parser.specs.Types.{Inner, form_by, form_at, type_by, type_at, type_step}
use Rattle.idl_parser.specs.Values.{Inner as Values, value_by, value_at, value_step}

none_left : (one other : Inner) (lexeme : Lexeme) (edge : ℕ) (tokens : List Seen) → form_by 0 one lexeme edge tokens ≡ form_by 0 other lexeme edge tokens
none_left one other (lexemes.Keyword (keywords.Base word)) edge tokens = refl
none_left one other (lexemes.Keyword keywords.Map) edge tokens = refl
none_left one other (lexemes.Keyword keywords.Set) edge tokens = refl
none_left one other (lexemes.Keyword keywords.List) edge tokens = refl
none_left one other (lexemes.Keyword keywords.CppType) edge tokens = refl
none_left one other (lexemes.Keyword keywords.Void) edge tokens = refl
none_left one other (lexemes.Keyword keywords.Oneway) edge tokens = refl
none_left one other (lexemes.Keyword keywords.Throws) edge tokens = refl
none_left one other (lexemes.Keyword keywords.Extends) edge tokens = refl
none_left one other (lexemes.Keyword keywords.Required) edge tokens = refl
none_left one other (lexemes.Keyword keywords.Optional) edge tokens = refl
none_left one other (lexemes.Keyword keywords.Include) edge tokens = refl
none_left one other (lexemes.Keyword keywords.CppInclude) edge tokens = refl
none_left one other (lexemes.Keyword keywords.Namespace) edge tokens = refl
none_left one other (lexemes.Keyword keywords.Const) edge tokens = refl
none_left one other (lexemes.Keyword keywords.Typedef) edge tokens = refl
none_left one other (lexemes.Keyword keywords.Enum) edge tokens = refl
none_left one other (lexemes.Keyword keywords.Struct) edge tokens = refl
none_left one other (lexemes.Keyword keywords.Union) edge tokens = refl
none_left one other (lexemes.Keyword keywords.Exception) edge tokens = refl
none_left one other (lexemes.Keyword keywords.Service) edge tokens = refl
none_left one other lexemes.Name edge tokens = refl
none_left one other (lexemes.Int value) edge tokens = refl
none_left one other lexemes.Double edge tokens = refl
none_left one other lexemes.Literal edge tokens = refl
none_left one other (lexemes.Mark mark) edge tokens = refl
none_left one other lexemes.End edge tokens = refl

-- a type and its notes, for a form that is read so
with_notes : ℕ → List Seen → Scan TypeTree → Scan TypeTree
with_notes edge tokens scan = onward 0 scan λ tree n. onward n (notes_at edge (drop n tokens)) λ u n. Ok (tree, n)

pub step_is : (levels : ℕ) (edge : ℕ) (tokens : List Seen) → type_step levels edge tokens ≡ type_at levels edge tokens
unfolding type_at type_step type_by form_at with_notes
step_is zero edge tokens = ap (with_notes edge tokens) (none_left (type_at (zero - 1) edge) (syntax_at edge) (lexeme_of tokens) edge tokens)
step_is (suc levels) edge tokens =
    let less : suc levels - 1 ≡ levels = omega arith in
    ap (λ (n : ℕ). type_by (suc levels) (type_at n edge) edge tokens) less

value_none_left : (one other : Values) (lexeme : Lexeme) (edge : ℕ) (tokens : List Seen) → value_by 0 one lexeme edge tokens ≡ value_by 0 other lexeme edge tokens
value_none_left one other (lexemes.Keyword word) edge tokens = refl
value_none_left one other lexemes.Name edge tokens = refl
value_none_left one other (lexemes.Int value) edge tokens = refl
value_none_left one other lexemes.Double edge tokens = refl
value_none_left one other lexemes.Literal edge tokens = refl
value_none_left one other (lexemes.Mark mark) edge tokens = refl
value_none_left one other lexemes.End edge tokens = refl

pub value_step_is : (levels : ℕ) (edge : ℕ) (tokens : List Seen) → value_step levels edge tokens ≡ value_at levels edge tokens
unfolding value_at value_step
value_step_is zero edge tokens = value_none_left (value_at (zero - 1) edge) (syntax_at edge) (lexeme_of tokens) edge tokens
value_step_is (suc levels) edge tokens =
    let less : suc levels - 1 ≡ levels = omega arith in
    ap (λ (n : ℕ). value_by (suc levels) (value_at n edge) (lexeme_of tokens) edge tokens) less
