use Rattle.idl_consts.specs.Following.{constant_course}
use Rattle.idl_consts.specs.Meant.{meant_at}
use Rattle.idl_consts.specs.Pieces.{ending}
use Rattle.idl_consts.proofs.Trailing.{opened}
use Rattle.idl_consts.specs.Views.{files_of}
use Rattle.idl_consts.proofs.follow.open_frame.Goals as goal

pub returns-clause-whole : goal.returns-clause-whole
returns-clause-whole c =
    let d = files_of c.args.view.now in
    let survey = c.in_ok-survey.survey in
    opened d (constant_course d c.args.name.constant (meant_at d c.args.name.ty)) survey.references.items (ending survey.fault) c.in_ok-survey.ensures
