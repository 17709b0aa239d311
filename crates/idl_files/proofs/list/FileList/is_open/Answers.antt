use Rattle.std.proofs.Common.{◌<◌, List, ℕ, length, nat_lt, sym, ◌∙◌, ap, subst}
use Rattle.idl_document.specs.declared.document.Name.{Name}
use Rattle.idl_names.specs.Files.{file_trees}
use Rattle.idl_names.specs.declared.documents.FileDoc.{FileDoc}
use Rattle.idl_files.specs.Listing.{is_open_at}
use Rattle.idl_files.proofs.Placing.{open_at}
use Rattle.idl_files.proofs.list.FileList.is_open.Goals as goal

pub returns : goal.returns
returns c =
    ap (λ (xs : List ℕ). nat_lt (length xs) (length c.as_slice-2.result.now)) c.as_slice.ensures
    ∙ ap (λ (xs : List Name). nat_lt (length c.index-file.result.now.includes) (length xs)) c.as_slice-2.ensures
    ∙ open_at c.self.inside.docs.items c.args.place c.index-file.result.now (subst (λ (xs : List FileDoc). c.args.place < length xs) (sym c.self.view_is) c.requires) c.index-file.ensures
    ∙ ap (λ (files : List FileDoc). is_open_at c.args.place (file_trees files)) c.self.view_is
