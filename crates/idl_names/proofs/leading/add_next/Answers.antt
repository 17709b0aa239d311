use Rattle.std.proofs.Common.{◌∙◌, ap, Option}
use Rattle.std.proofs.lemmas.Result.{on_ok_weaker}
use Rattle.idl_document.specs.Trees.{DefinitionTree}
use Rattle.idl_names.specs.Cycles.{next_spots, spots_by}
use Rattle.idl_names.specs.Files.{file_trees}
use Rattle.idl_names.specs.Sets.{with_all}
use Rattle.idl_names.proofs.leading.add_next.Goals as goal

pub returns-in-None : goal.returns-in-None
unfolding next_spots
returns-in-None c =
    let files = file_trees c.args.names.now.files.now in
    ap (λ (d : Option DefinitionTree). with_all c.args.set.now (spots_by files c.args.spot.file d)) c.in-None.ensures

pub returns-in-Some : goal.returns-in-Some
unfolding next_spots
returns-in-Some c =
    let files = file_trees c.args.names.now.files.now in
    on_ok_weaker c.add_definition.result (λ e. e ∙ ap (λ (d : Option DefinitionTree). with_all c.args.set.now (spots_by files c.args.spot.file d)) c.in-Some.ensures) c.add_definition.ensures
