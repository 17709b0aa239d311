use Rattle.std.proofs.Common.{subst}
use Rattle.idl_parser.specs.Lexemes.{Gives, Scan}
use Rattle.idl_document.specs.Trees.{TypeTree, type_tree}
use Rattle.idl_parser.proofs.Levels.{step_is}
use Rattle.idl_parser.proofs.types.+types.Goals as goal

pub type_at-returns-clause-exact : goal.type_at-returns-clause-exact
type_at-returns-clause-exact t c =
    subst (λ (scan : Scan TypeTree). Gives type_tree c.type_step.result scan) (step_is c.args.levels c.args.tokens.now.edge c.args.tokens.now.list) c.type_step.ensures.exact
