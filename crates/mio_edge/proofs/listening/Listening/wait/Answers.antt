use Rattle.std.proofs.Common.{[], subst, sym, ap, ◌∙◌}
use Rattle.mio_edge.specs.Tables.{TableTells}
use Rattle.mio_edge.specs.Closing.{Winds}
use Rattle.mio_edge.specs.Order.{MovesOn}
use Rattle.mio_edge.specs.Lines.{moves_on_further, moves_on_recalled}
use Rattle.std.proofs.Common.{refl}
use Rattle.mio_edge.specs.Fixed.{fixed_kept}
use Rattle.mio_edge.specs.Numbered.{StayBelow}
use Rattle.mio_edge.specs.Stepping.{AreStepped}
use Rattle.mio_edge.proofs.listening.Listening.wait.Goals as goal

pub returns-clause-keeps : goal.returns-clause-keeps
returns-clause-keeps g c = λ world told. c.recall.ensures.keeps world (subst (λ table. TableTells g.S.Stream.tells table world) (sym c.wake.ensures.table) (c.wait-waited.ensures.0 world told))

pub returns-clause-winds : goal.returns-clause-winds
returns-clause-winds g c = subst (λ slab. Winds g.S.Stream.tells c.args.self.now.table.sessions slab) (sym (c.recall.ensures.sessions ∙ ap (λ table. table.sessions) c.wake.ensures.table)) c.wait-waited.ensures.1

pub returns-clause-turn : goal.returns-clause-turn
returns-clause-turn g c = λ world told.
    let a = c.args.self.now.table in
    let b = c.wake.new.self.table in
    let d = c.recall.new.self in
    let reported : MovesOn [] a b = subst (λ table. MovesOn [] a table) (sym c.wake.ensures.table) c.wait-waited.ensures.2 in
    let heard = subst (λ table. TableTells g.S.Stream.tells table world) (sym c.wake.ensures.table) (c.wait-waited.ensures.0 world told) in
    ([], moves_on_further [] [] a b d reported (moves_on_recalled b d (c.recall.ensures.order world heard) c.recall.ensures.entries))

pub returns-clause-same : goal.returns-clause-same
returns-clause-same g c =
    let a = c.args.self.now in
    let d = c.wake.new.self in
    fixed_kept d (record d { table = c.recall.new.self }) refl refl c.recall.ensures.same
    ∙ (c.wake.ensures.same ∙ fixed_kept a (record a { table = c.wait-waited.new.reports }) refl refl c.wait-waited.ensures.3)

pub returns-clause-below : goal.returns-clause-below
returns-clause-below g c = subst (λ slab. StayBelow c.args.self.now.table.sessions slab) (sym (c.recall.ensures.sessions ∙ ap (λ table. table.sessions) c.wake.ensures.table)) c.wait-waited.ensures.4

pub returns-clause-stepped : goal.returns-clause-stepped
returns-clause-stepped g c = λ world told stepped. subst (λ slab. AreStepped slab) (sym (c.recall.ensures.sessions ∙ ap (λ table. table.sessions) c.wake.ensures.table)) (c.wait-waited.ensures.5 world told stepped)
