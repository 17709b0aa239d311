use Rattle.std.proofs.Common.{arith}
use Rattle.std.proofs.lemmas.Grind.{common_steps}
use Rattle.idl_parser.specs.Lexemes.{stands}
use Rattle.idl_parser.proofs.tokens.Tokens.stands.Goals as goal

pub returns-in-empty-clause-value : goal.returns-in-empty-clause-value
unfolding stands
returns-in-empty-clause-value c = grind (arith, common_steps)

pub returns-in-len1-up-clause-room : goal.returns-in-len1-up-clause-room
unfolding stands
returns-in-len1-up-clause-room c = grind (arith, common_steps)

pub returns-in-len1-up-clause-value : goal.returns-in-len1-up-clause-value
unfolding stands
returns-in-len1-up-clause-value c = grind (arith, common_steps)
