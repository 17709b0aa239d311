use Rattle.std.proofs.Common.{arith, ◌≡◌, ℕ, ◌<◌, ◌^◌, ◌++◌, List, length, slice_index_or, ap, sym, ◌∙◌, subst}
use Rattle.idl_names.specs.declared.documents.FileDoc.{FileDoc}
use Rattle.idl_names.specs.Files.{FileTree, file_trees}
use Rattle.idl_files.specs.Answers.{AllWhole}
use Rattle.idl_files.proofs.Walking.{all_few}
use Rattle.idl_files.proofs.walk.read_files.Goals as goal
use Rattle.std.proofs.lemmas.Grind.{common_steps}
use Rattle.idl_files.specs.Walk.{walked}

pub returns-clause-few : goal.returns-clause-few
returns-clause-few g c =
    let all = c.in_ok-load.ensures.extends in
    let trees = file_trees c.load.new.list in
    let is : trees ≡ all.more = all.is ∙ ap (λ (files : List FileDoc). file_trees files ++ all.more) c.new-list.ensures in
    let whole = subst (AllWhole (length trees)) (sym is) all.whole in
    subst (λ (files : List FileDoc). (k : ℕ) (d : FileTree) → k < length (file_trees files) → length (slice_index_or (file_trees files) k d).document.definitions < 2 ^ 32)
    (sym c.in_ok-into_documents.ensures.same) (all_few (length trees) trees whole)

pub returns-clause-exact : goal.returns-clause-exact
unfolding walked
returns-clause-exact g c = grind (arith, common_steps)

pub returns-clause-whole : goal.returns-clause-whole
unfolding walked
returns-clause-whole g c = grind (arith, common_steps)
