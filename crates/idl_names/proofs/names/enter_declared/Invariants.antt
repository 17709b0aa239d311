use Rattle.std.proofs.Common.{take}
use Rattle.idl_document.specs.Trees.{definition_tree}
use Rattle.idl_names.specs.Meaning.{name_in}
use Rattle.idl_names.specs.Places.{TellsFirst}
use Rattle.idl_names.proofs.names.enter_declared.Given as goal

abbrev pub invariant-loop-place : goal.invariant-loop-place
invariant-loop-place l = TellsFirst (λ d. name_in l.scope (definition_tree d)) (take l.place l.definitions) l.places
