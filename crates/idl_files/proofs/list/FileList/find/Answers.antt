use Rattle.std.proofs.Common.{◌∙◌, ap}
use Rattle.idl_names.specs.Files.{file_trees}
use Rattle.idl_names.specs.declared.documents.FileDoc.{FileDoc}
use Rattle.std.proofs.Common.{List}
use Rattle.idl_files.specs.Listing.{place_of}
use Rattle.idl_files.proofs.Placing.{found}
use Rattle.idl_files.proofs.list.FileList.find.Goals as goal

pub returns-clause-place : goal.returns-clause-place
returns-clause-place c =
    c.get_index_of.ensures.index
    ∙ found c.args.name.now c.self.inside.names.keys (file_trees c.self.inside.docs.items) c.self.invariant.0
    ∙ ap (λ (files : List FileDoc). place_of c.args.name.now (file_trees files)) c.self.view_is
