use Rattle.std.proofs.Common.{◌≡◌, drop}
use Rattle.idl_document.specs.Trees.{definition_trees}
use Rattle.idl_schema.specs.Adding.{firsts}
use Rattle.idl_schema.specs.Shares.{shares, with_share}
use Rattle.idl_schema.specs.Indexes.{files_of}
use Rattle.idl_schema.proofs.making.add_definitions.Given as goal

abbrev pub invariant-loop-definition : goal.invariant-loop-definition
invariant-loop-definition l =
    with_share l.builder (shares (files_of l.index) l.file (firsts l.builder) (definition_trees (drop l.definition-index l.definitions)))
    ≡ with_share l.initial.builder (shares (files_of l.index) l.file (firsts l.initial.builder) (definition_trees l.definitions))
