-- Scans over what the grammar sees: a value and the number of tokens that it takes, or a fault.
use Rattle.std.specs.Prelude.{◌≡◌, ℕ, ◌+◌, ◌≤◌, ◌<◌, List, [], ◌∷◌, drop, Result, Ok, Err, Bool, true, false, ◌==◌, if◌then◌else◌}
use Rattle.idl_parser.specs.declared.fault.Fault.{Fault}
use Rattle.idl_parser.specs.declared.fault.Fault.TheVariants as faults
use Rattle.idl_parser.specs.declared.fault.Stop.{Stop}
use Rattle.idl_parser.specs.declared.fault.Stop.TheVariants as stops
use Rattle.idl_parser.specs.declared.tokens.Lexeme.{Lexeme}
use Rattle.idl_parser.specs.declared.tokens.Lexeme.TheVariants as lexemes
use Rattle.idl_parser.specs.Seen.{Seen, Input}
use Rattle.idl_parser.specs.Marks.{comma_mark, semicolon_mark}

abbrev pub lexeme_of : List Seen → Lexeme
lexeme_of [] = lexemes.End
lexeme_of (s ∷ rest) = s.lexeme

abbrev pub word_of : List Seen → List ℕ
word_of [] = []
word_of (s ∷ rest) = s.word

-- where the next token begins, or the text ends
abbrev pub offset_of : ℕ → List Seen → ℕ
offset_of edge [] = edge
offset_of edge (s ∷ rest) = s.at

-- whether a token is left
abbrev pub is_left : List Seen → Bool
is_left [] = false
is_left (s ∷ rest) = true

-- behind n tokens
abbrev pub rest_of : ℕ → Input → Input
rest_of n input = record { list = drop n input.list; edge = input.edge }

-- how many tokens a lexeme is
abbrev pub tokens_in : Lexeme → ℕ
tokens_in lexemes.End = 0
tokens_in lexeme = 1

abbrev pub Scan : Type 0 → Type 0
Scan X = Result (X × ℕ) Fault

-- the token here may not stand here
abbrev pub syntax_at : {X : Type 0} → ℕ → List Seen → Scan X
syntax_at edge tokens = Err (faults.Syntax (offset_of edge tokens))

-- go on behind n tokens and those of a scan
abbrev pub onward : {X Y : Type 0} → ℕ → Scan X → (X → ℕ → Scan Y) → Scan Y
onward n (Ok x) go = go x.0 (n + x.1)
onward n (Err fault) go = Err fault

abbrev pub stands_by : ℕ → Lexeme → Bool
stands_by mark (lexemes.Mark found) = found == mark
stands_by mark lexeme = false

-- whether this mark is at the front
unfoldable pub stands : ℕ → List Seen → Bool
stands mark tokens = stands_by mark (lexeme_of tokens)

-- one token, this mark
unfoldable pub mark_at : ℕ → ℕ → List Seen → Scan (Unit {0})
mark_at mark edge tokens = if stands mark tokens then Ok (tt, 1) else syntax_at edge tokens

-- a comma or a semicolon is taken where one stands
unfoldable pub sep_len : List Seen → ℕ
sep_len tokens = if stands comma_mark tokens then 1 else if stands semicolon_mark tokens then 1 else 0

-- what a function returned, seen by a view, is what a scan gives, unless memory ran out
abbrev pub Gives : {X Y : Type 0} → (X → Y) → Result (X × ℕ) Stop → Scan Y → Type 0
Gives view (Ok x) scan = scan ≡ Ok (view x.0, x.1)
Gives view (Err (stops.Fault fault)) scan = scan ≡ Err fault
Gives view (Err stops.OutOfMemory) scan = Unit {0}

abbrev pub itself : {X : Type 0} → X → X
itself x = x

-- a scan of what may be missing takes no more tokens than there are
abbrev pub IsUpTo : {X E : Type 0} → ℕ → Result (X × ℕ) E → Type 0
IsUpTo size (Ok x) = x.1 ≤ size
IsUpTo size (Err stop) = Unit {0}

-- another scan takes one at least
abbrev pub IsWithin : {X E : Type 0} → ℕ → Result (X × ℕ) E → Type 0
IsWithin size (Ok x) = (0 < x.1) × (x.1 ≤ size)
IsWithin size (Err stop) = Unit {0}
