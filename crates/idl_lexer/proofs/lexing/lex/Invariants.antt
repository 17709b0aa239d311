use Rattle.std.proofs.Common.{◌≡◌, ◌-◌, ◌≤◌, length, drop}
use Rattle.idl_lexer.specs.Tokens.{tokens_from, tokens_of, joined, Spans}
use Rattle.idl_lexer.proofs.lexing.lex.Given as goal

abbrev pub invariant-loop-at : goal.invariant-loop-at
invariant-loop-at l = record {
  within : l.at ≤ length l.text;
  spans : Spans 0 l.at l.tokens.items;
  read : joined l.tokens.items (tokens_from (drop l.at l.text) 0 l.at) ≡ tokens_of l.text;
}

abbrev pub decreases-loop-at : goal.decreases-loop-at
decreases-loop-at l = length l.text - l.at
