use Rattle.idl_consts.specs.Views.{files_of}
use Rattle.idl_consts.proofs.same.same_meaning.Goals as goal

pub returns-then-same_ref-clause-meant : goal.returns-then-same_ref-clause-meant
returns-then-same_ref-clause-meant c = λ yes. c.same_ref.ensures.meant yes (files_of c.args.view.now)
