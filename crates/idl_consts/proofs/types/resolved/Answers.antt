use Rattle.std.proofs.Common.{◌∙◌, ◌+◌, ◌≤◌, ap, arith, Option}
use Rattle.idl_document.specs.Trees.{DefinitionTree}
use Rattle.idl_consts.specs.Meant.{defined_type, named_type}
use Rattle.idl_consts.specs.Views.{files_of}
use Rattle.idl_consts.proofs.Resolving.{resolved, below_more}
use Rattle.idl_consts.proofs.types.resolved.Goals as goal

pub returns : goal.returns
returns c =
    let d = files_of c.args.view.now in
    let l = c.resolve_chain-resolved_alias.result in
    let lands = c.resolve_chain-resolved_alias.ensures d c.args.view.now.follows in
    let fewer : l.left + 1 ≤ c.args.left + 1 = omega (arith, lands.2) in
    record {
      meant =
          c.defined.ensures.meant d ∙ ap (λ (o : Option DefinitionTree). defined_type (named_type d l.left) l.spot o) c.definition.ensures
          ∙ resolved d c.args.left c.args.spot l lands;
      fewer = below_more (l.left + 1) (c.args.left + 1) c.defined.result fewer c.defined.ensures.fewer;
    }
