use Rattle.std.proofs.Common.{◌≡◌, drop, map}
use Rattle.idl_consts.specs.Course.{course_from}
use Rattle.idl_consts.specs.Pieces.{item_of, contexts, chained}
use Rattle.idl_consts.specs.Views.{files_of}
use Rattle.idl_consts.proofs.survey.survey_pieces.Given as goal

abbrev pub invariant-loop-piece : goal.invariant-loop-piece
invariant-loop-piece l =
    let d = files_of l.view in
    chained d l.references.items (course_from d l.file (contexts d l.levels.items) (map item_of (drop l.piece-index l.pieces)))
    ≡ chained d l.fn.references.items (course_from d l.file (contexts d l.fn.levels.items) (map item_of l.pieces))
