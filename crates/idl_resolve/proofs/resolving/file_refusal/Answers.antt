use Rattle.idl_names.specs.Files.{file_trees}
use Rattle.idl_names.specs.Refusals.{name_refusals}
use Rattle.idl_document.specs.Trees.{document_tree}
use Rattle.idl_rules.specs.Rules.{rule_refusals}
use Rattle.idl_resolve.proofs.Asking.{noted_both}
use Rattle.idl_resolve.proofs.resolving.file_refusal.Goals as goal

pub returns : goal.returns
returns c =
    noted_both (rule_refusals (document_tree c.args.file.now.document)) (name_refusals (file_trees c.args.names.now.files.now) c.args.cycles.now c.args.place)
    c.found.result c.check_rules.new.least c.check_names.new.least c.new-least.result c.found.ensures c.check_names.ensures c.in_ok-check_rules.ensures c.new-least.ensures
