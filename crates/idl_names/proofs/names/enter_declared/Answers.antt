use Rattle.std.specs.Option.{option_copied}
use Rattle.idl_document.specs.Trees.{definition_tree}
use Rattle.idl_names.specs.Meaning.{name_in}
use Rattle.idl_names.proofs.First.{tells_more, tells_all}
use Rattle.idl_names.proofs.names.enter_declared.Goals as goal

pub loop-place-preserved : goal.loop-place-preserved
loop-place-preserved c =
    tells_more (λ d. name_in c.args.scope (definition_tree d)) c.args.definitions.now c.loop-place.places c.note.new.self c.index-definitions-place.result (option_copied c.name_in.result) c.loop-place.place
    c.loop-place-test.true c.index-definitions-place.is c.name_in.ensures c.loop-place.invariant c.in_ok-note.ensures

pub returns : goal.returns
returns c = tells_all (λ d. name_in c.args.scope (definition_tree d)) c.args.definitions.now c.loop-place.places c.loop-place.place c.loop-place-test.false c.loop-place.invariant
