use Rattle.std.proofs.Common.{◌<◌, ◌≤◌, List, ℕ, length, sym, ◌∙◌, ap, subst}
use Rattle.std.proofs.Math.ListN.{length-set}
use Rattle.idl_names.specs.Files.{file_trees}
use Rattle.idl_names.specs.declared.documents.FileDoc.{FileDoc}
use Rattle.idl_files.specs.Listing.{with_includes}
use Rattle.idl_files.proofs.Placing.{names_set, set_trees}
use Rattle.idl_files.proofs.list.FileList.set_includes.Goals as goal

pub invariant_of-self : goal.invariant_of-self
invariant_of-self c =
    let inside = subst (λ (xs : List FileDoc). c.args.place < length xs) (sym c.self.view_is) c.requires in (
      c.self.invariant.0 ∙ sym (names_set c.self.inside.docs.items c.args.place c.index_mut.result.now c.args.includes inside c.index_mut.ensures.value),
      subst (λ (n : ℕ). n ≤ 256) (sym (length-set c.self.inside.docs.items c.args.place _)) c.self.invariant.1,
    )

pub returns : goal.returns
returns c =
    let inside = subst (λ (xs : List FileDoc). c.args.place < length xs) (sym c.self.view_is) c.requires in
    set_trees c.self.inside.docs.items c.args.place c.index_mut.result.now c.args.includes inside c.index_mut.ensures.value
    ∙ ap (λ (files : List FileDoc). with_includes c.args.place c.args.includes (file_trees files)) c.self.view_is
