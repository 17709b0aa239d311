use Rattle.std.proofs.Common.{arith}
use Rattle.std.proofs.lemmas.Grind.{common_steps}
use Rattle.idl_parser.proofs.tokens.Tokens.lexeme.Goals as goal

pub returns-in-len1-up-clause-value : goal.returns-in-len1-up-clause-value
returns-in-len1-up-clause-value c = grind (arith, common_steps)

pub returns-in-len1-up-clause-room : goal.returns-in-len1-up-clause-room
returns-in-len1-up-clause-room c = grind (arith, common_steps)
