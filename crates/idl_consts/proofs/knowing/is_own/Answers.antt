use Rattle.std.proofs.Common.{◌∙◌, ap}
use Rattle.idl_consts.specs.Knowing.{own_by}
use Rattle.idl_consts.specs.Views.{files_of}
use Rattle.idl_consts.proofs.knowing.is_own.Goals as goal

pub returns-in-Some : goal.returns-in-Some
returns-in-Some c = λ yes.
    let d = files_of c.args.view.now in
    c.same_meaning.ensures.meant yes ∙ c.in-Some.ensures d c.definition_count.ensures.count ∙ ap (own_by d c.args.spot) c.definition.ensures
