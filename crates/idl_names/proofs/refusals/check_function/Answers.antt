use Rattle.std.proofs.Common.{◌∙◌, ◌++◌, ap, List}
use Rattle.idl_document.specs.declared.document.FieldDecl.{FieldDecl}
use Rattle.idl_document.specs.Trees.{function_tree, field_trees}
use Rattle.idl_rules.specs.Order.{lesser, least_of}
use Rattle.idl_names.specs.Files.{file_trees}
use Rattle.idl_names.specs.Refusals.{returned_refusals, fields_refusals, throws_refusals}
use Rattle.idl_names.proofs.Noting.{joined}
use Rattle.idl_names.proofs.refusals.check_function.Goals as goal

pub returns : goal.returns
returns c =
    let files = file_trees c.args.names.now.files.now in
    let told = c.args.cycles.now in
    let file = c.args.file in
    let f = function_tree c.args.function.now in
    let first = c.check_returned.new.least in
    let second = c.check_fields.new.least in
    let fields = c.check_fields.ensures ∙ ap (λ (fs : List FieldDecl). lesser first (least_of (fields_refusals files file (field_trees fs)))) c.as_slice.ensures in
    let throws = c.check_throws.ensures ∙ ap (λ (fs : List FieldDecl). lesser second (least_of (throws_refusals files told file (field_trees fs)))) c.as_slice-2.ensures in
    joined c.args.least.now second c.check_throws.new.least (returned_refusals files file f.returns ++ fields_refusals files file f.args) (throws_refusals files told file f.throws)
    (joined c.args.least.now first second (returned_refusals files file f.returns) (fields_refusals files file f.args) c.check_returned.ensures fields) throws
