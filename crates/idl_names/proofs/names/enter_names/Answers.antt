use Rattle.std.proofs.lemmas.Result.{on_ok_weaker}
use Rattle.idl_document.specs.Trees.{definition_tree}
use Rattle.idl_rules.specs.declared.scopes.Scope.TheVariants as scopes
use Rattle.idl_names.specs.Meaning.{name_in}
use Rattle.idl_names.specs.Paths.{base_name}
use Rattle.idl_names.proofs.Indexed.{tells_trees, tells_same}
use Rattle.idl_names.proofs.names.enter_names.Goals as goal

pub returns : goal.returns
returns c = on_ok_weaker c.enter_bases.result
    (λ told. record {
      types = tells_trees definition_tree (name_in scopes.Types) _ _ _ c.as_slice-definitions.ensures c.in_ok-enter_declared.ensures;
      constants = tells_trees definition_tree (name_in scopes.Constants) _ _ _ c.as_slice-definitions.ensures c.in_ok-enter_declared-2.ensures;
      services = tells_trees definition_tree (name_in scopes.Services) _ _ _ c.as_slice-definitions.ensures c.in_ok-enter_declared-3.ensures;
      bases = tells_same (λ path. base_name path.text) _ _ _ c.as_slice.ensures told;
    }) c.enter_bases.ensures
