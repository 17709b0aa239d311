-- How the tokens behind some are seen, and which forms are marks.
use Rattle.std.proofs.Common.{◌≡◌, ℕ, ◌-◌, ◌+◌, ◌≤◌, List, length, length-drop, take, drop, refl, ap, sym, ◌∙◌, arith, Option, Some, None}
use Rattle.std.proofs.lemmas.Grind.{common_steps}
use Rattle.std.proofs.lemmas.List.{drop-map, length-map}
use Rattle.idl_lexer.specs.declared.token.Token.{Token}
use Rattle.idl_parser.specs.declared.words.Keyword.{Keyword}
use Rattle.idl_parser.specs.Lexemes.{rest_of, stands_by}
use Rattle.idl_parser.specs.Seeing.{seen_all, seen_of, word_lexeme}
use Rattle.idl_parser.specs.Seen.{Seen, Input}
use Rattle.std.specs.Prelude.{false}

rest_is : (tokens : List Token) (n : ℕ) → take (length tokens - n) (drop n tokens) ≡ drop n tokens
rest_is tokens n = grind (arith, common_steps)

pub rest_seen : (text : List ℕ) (tokens : List Token) (n : ℕ) (input : Input) → record { list = seen_all text tokens; edge = length text } ≡ input →
    record { list = seen_all text (take (length tokens - n) (drop n tokens)); edge = length text } ≡ rest_of n input
rest_seen text tokens n input v =
    ap (λ (ts : List Token). let i : Input = record { list = seen_all text ts; edge = length text } in i) (rest_is tokens n)
    ∙ ap (λ (xs : List Seen). let i : Input = record { list = xs; edge = length text } in i) (sym (drop-map (seen_of text) n tokens))
    ∙ ap (rest_of n) v

pub no_mark : (mark : ℕ) (keyword : Option Keyword) → false ≡ stands_by mark (word_lexeme keyword)
no_mark mark None = refl
no_mark mark (Some keyword) = refl

pub room_of : (input rest : Input) (n : ℕ) → n ≤ length input.list → rest ≡ rest_of n input → n + length rest.list ≡ length input.list
room_of input rest n h e =
    let same : length rest.list ≡ length (drop n input.list) = ap (λ (t : Input). length t.list) e in
    omega (arith, length-drop n input.list)

pub seen_length : (text : List ℕ) (tokens : List Token) (input : Input) → record { list = seen_all text tokens; edge = length text } ≡ input → length input.list ≡ length tokens
seen_length text tokens input v = ap (λ (t : Input). length t.list) (sym v) ∙ simp length-map
