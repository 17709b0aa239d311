use Rattle.std.proofs.Common.{◌∙◌, sym, arith, drop, map, ◌+◌}
use Rattle.std.proofs.lemmas.Grind.{common_steps}
use Rattle.idl_consts.specs.Course.{course_from}
use Rattle.idl_consts.specs.Pieces.{item_of, contexts}
use Rattle.idl_consts.proofs.Chains.{one_piece, takes_none, takes_fault, none_open, next_piece}
use Rattle.idl_consts.specs.Views.{files_of}
use Rattle.idl_consts.proofs.survey.survey_pieces.Goals as goal

pub returns-in_default : goal.returns-in_default
returns-in_default c =
    let d = files_of c.args.view.now in
    sym (none_open d c.args.file c.loop-piece.references.items c.loop-piece.levels.items _ (grind (arith, common_steps, c.in_default.ensures.cases))) ∙ c.loop-piece.invariant

pub returns-then-is_some : goal.returns-then-is_some
returns-then-is_some c =
    let d = files_of c.args.view.now in
    let i = c.loop-piece.piece-index in
    let pieces = c.args.pieces.now in
    sym (takes_fault d c.turn_at-turn.result c.loop-piece.references.items c.pop.new.self.items c.in_ok-fault.fault c.take.new.references.items c.take.new.levels.items (sym c.if-is_some.ensures) (c.in_ok-fault.ensures d)
    (λ next. course_from d c.args.file next (map item_of (drop (i + 1) pieces))))
    ∙ sym (one_piece d c.args.file c.loop-piece.references.items c.loop-piece.levels.items c.pop.new.self.items c.in-Some.top (map item_of (drop i pieces)) (map item_of (drop (i + 1) pieces)) _ c.turn_at-turn.result
    c.in-Some.ensures.items (next_piece pieces i _ c.loop-piece-test.true) (c.turn_at-turn.ensures (contexts d c.pop.new.self.items)))
    ∙ c.loop-piece.invariant

pub loop-piece-preserved : goal.loop-piece-preserved
loop-piece-preserved c =
    let d = files_of c.args.view.now in
    let i = c.loop-piece.piece-index in
    let pieces = c.args.pieces.now in
    sym (takes_none d c.turn_at-turn.result c.loop-piece.references.items c.pop.new.self.items c.in_ok-fault.fault c.take.new.references.items c.take.new.levels.items (sym c.if-is_some.ensures) (c.in_ok-fault.ensures d)
    (λ next. course_from d c.args.file next (map item_of (drop (i + 1) pieces))))
    ∙ sym (one_piece d c.args.file c.loop-piece.references.items c.loop-piece.levels.items c.pop.new.self.items c.in-Some.top (map item_of (drop i pieces)) (map item_of (drop (i + 1) pieces)) _ c.turn_at-turn.result
    c.in-Some.ensures.items (next_piece pieces i _ c.loop-piece-test.true) (c.turn_at-turn.ensures (contexts d c.pop.new.self.items)))
    ∙ c.loop-piece.invariant
