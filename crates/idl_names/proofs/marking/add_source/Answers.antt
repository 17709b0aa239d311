use Rattle.std.proofs.Common.{◌∙◌, sym}
use Rattle.std.proofs.lemmas.Result.{on_ok_weaker}
use Rattle.idl_names.specs.Files.{file_trees}
use Rattle.idl_names.proofs.Marked.{gains_one}
use Rattle.idl_names.proofs.marking.add_source.Goals as goal

pub returns : goal.returns
returns c =
    on_ok_weaker c.insert.result
    (λ e. gains_one (file_trees c.args.names.now.files.now) c.args.set.now c.args.to c.args.source c.args.round.now c.insert.new.self e (sym c.contains-2.ensures ∙ c.if-not-contains.false) (sym c.in_ok-leads.ensures ∙ c.if-not-leads.false))
    c.insert.ensures
