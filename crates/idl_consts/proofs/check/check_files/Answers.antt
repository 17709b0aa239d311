use Rattle.std.proofs.Common.{◌∙◌, ap, subst, List, ℕ, Some, None, Option}
use Rattle.idl_document.specs.Trees.{definition_trees}
use Rattle.idl_names.specs.Files.{file_trees}
use Rattle.idl_consts.specs.Following.{Fault}
use Rattle.idl_consts.specs.Told.{Told, IsLeast, all_values}
use Rattle.idl_consts.proofs.Judged.{file_judged}
use Rattle.idl_consts.proofs.check.check_files.Goals as goal

pub returns-in-Some : goal.returns-in-Some
returns-in-Some c =
    let files = c.args.view.now.names.now.files.now in
    let d = file_trees files in
    let i = c.loop-place.place in
    let file = c.index-files-place.result in
    let fault : Fault = (c.in-Some.offset, c.in-Some.row) in
    let is = c.index-files-place.is in
    let within = c.loop-place-test.true in
    let found = subst (λ (o : Option Fault). IsLeast d i None (all_values (definition_trees file.document.definitions)) o) c.in-Some.is c.in_ok-offset.ensures.told in
    let name = ap (λ (n : List ℕ). let told : Option Told = Some (n, fault) in told) (c.in_ok-new.ensures ∙ c.as_slice.ensures) in
    c.loop-place.invariant.told (Some (c.in_ok-new.field-0, fault)) (file_judged files i file (Some fault) (Some (c.in_ok-new.field-0, fault)) within is found name)

pub loop-place-preserved : goal.loop-place-preserved
loop-place-preserved c =
    let files = c.args.view.now.names.now.files.now in
    let d = file_trees files in
    let i = c.loop-place.place in
    let file = c.index-files-place.result in
    let is = c.index-files-place.is in
    let within = c.loop-place-test.true in
    let found = subst (λ (o : Option Fault). IsLeast d i None (all_values (definition_trees file.document.definitions)) o) c.in_default.is c.in_ok-offset.ensures.told in
    record {
      told = λ told more. c.loop-place.invariant.told told (file_judged files i file None told within is found more);
      known = c.in_ok-offset.ensures.known;
    }
