use Rattle.std.proofs.Common.{arith, subst, sym}
use Rattle.mio_edge.specs.Tables.{TableTells}
use Rattle.mio_edge.specs.Turns.{IsIdleAt}
use Rattle.mio_edge.specs.Closing.{WindsBesideIfAny}
use Rattle.mio_edge.proofs.Closing.{beside_winds, beside_stays, others_on}
use Rattle.mio_edge.specs.Lines.{same_turns_on}
use Rattle.mio_edge.specs.Order.{SameTurns}
use Rattle.std.proofs.Common.{refl, ◌∙◌}
use Rattle.mio_edge.specs.Fixed.{fixed_kept}
use Rattle.mio_edge.proofs.Numbered.{below_gone}
use Rattle.mio_edge.specs.Numbered.{StayBelowBeside}
use Rattle.mio_edge.proofs.Stepping.{stepped_further, free_stepped, opened_stepped}
use Rattle.mio_edge.specs.Stepping.{OthersSteppedIfAny}
use Rattle.mio_edge.proofs.listening.Listening.admit.Goals as goal
use Rattle.std.proofs.lemmas.Grind.{common_steps}

pub returns-then-not-link-clause-kept : goal.returns-then-not-link-clause-kept
returns-then-not-link-clause-kept g c = λ is world told.
    let ready = c.in-Some.ensures.prepared world told in
    let after = c.link.ensures.keeps (ready.session, ready.stands, ready.shut, ready.quiet) in
    c.release.ensures.keeps after.0 world (after.1 world (c.begin.ensures.keeps world told))

pub returns-then-announce-clause-opens : goal.returns-then-announce-clause-opens
returns-then-announce-clause-opens g c = λ is telling says world told above.
    let ready = c.in-Some.ensures.prepared world told in
    let after = c.link.ensures.keeps (ready.session, ready.stands, ready.shut, ready.quiet) in
    c.announce.ensures.opens c.if-announce.true (c.link.ensures.prepared c.args.number telling says ready) world (after.1 world (c.begin.ensures.keeps world told)) above

pub returns-clause-kept : goal.returns-clause-kept
returns-clause-kept g c = λ is world told.
    let ready = c.in-Some.ensures.prepared world told in
    let after = c.link.ensures.keeps (ready.session, ready.stands, ready.shut, ready.quiet) in
    let same = c.announce.ensures.kept c.if-announce.false in
    c.release-2.ensures.keeps (subst (λ table. IsIdleAt table.sessions c.in-Some.place) (sym same) after.0) world
    (subst (λ table. TableTells g.S.Stream.tells table world) (sym same) (after.1 world (c.begin.ensures.keeps world told)))

pub returns-in_default-clause-winds : goal.returns-in_default-clause-winds
returns-in_default-clause-winds g c = subst (λ o. WindsBesideIfAny g.S.Stream.tells o c.args.self.now.table.sessions c.begin.new.self.sessions) c.in_default.is c.begin.ensures.winds

pub returns-then-not-link-clause-winds : goal.returns-then-not-link-clause-winds
returns-then-not-link-clause-winds g c =
    let t = g.S.Stream.tells in
    let a = c.args.self.now.table.sessions in
    let b = c.begin.new.self.sessions in
    let d = c.link.new.self.table.sessions in
    let e = c.release.new.self.sessions in
    beside_winds t c.in-Some.place a e (beside_stays t c.in-Some.place a d e (beside_stays t c.in-Some.place a b d c.in-Some.ensures.winds c.link.ensures.others) c.release.ensures.others)

pub returns-then-announce-clause-winds : goal.returns-then-announce-clause-winds
returns-then-announce-clause-winds g c =
    let t = g.S.Stream.tells in
    let a = c.args.self.now.table.sessions in
    let b = c.begin.new.self.sessions in
    let d = c.link.new.self.table.sessions in
    let e = c.announce.new.self.sessions in
    beside_winds t c.in-Some.place a e (beside_stays t c.in-Some.place a d e (beside_stays t c.in-Some.place a b d c.in-Some.ensures.winds c.link.ensures.others) c.announce.ensures.others)

pub returns-clause-winds : goal.returns-clause-winds
returns-clause-winds g c =
    let t = g.S.Stream.tells in
    let place = c.in-Some.place in
    let a = c.args.self.now.table.sessions in
    let b = c.begin.new.self.sessions in
    let d = c.link.new.self.table.sessions in
    let e = c.announce.new.self.sessions in
    let f = c.release-2.new.self.sessions in
    beside_winds t place a f (beside_stays t place a e f (beside_stays t place a d e (beside_stays t place a b d c.in-Some.ensures.winds c.link.ensures.others) c.announce.ensures.others) c.release-2.ensures.others)

pub returns-then-not-link-clause-turns : goal.returns-then-not-link-clause-turns
returns-then-not-link-clause-turns g c = λ refused.
    let a = c.args.self.now.table in
    let b = c.begin.new.self in
    let d = c.link.new.self.table in
    same_turns_on a d c.release.new.self (same_turns_on a b d c.begin.ensures.turns c.link.ensures.turns) c.release.ensures.turns

pub returns-clause-turns : goal.returns-clause-turns
returns-clause-turns g c = λ refused.
    let a = c.args.self.now.table in
    let b = c.begin.new.self in
    let d = c.link.new.self.table in
    let f = c.release-2.new.self in
    same_turns_on a d f (same_turns_on a b d c.begin.ensures.turns c.link.ensures.turns) (subst (λ table. SameTurns table f) (c.announce.ensures.kept c.if-announce.false) c.release-2.ensures.turns)

pub returns-in_default-clause-same : goal.returns-in_default-clause-same
returns-in_default-clause-same g c = fixed_kept c.args.self.now (record c.args.self.now { table = c.begin.new.self }) refl refl c.begin.ensures.same

pub returns-then-not-link-clause-same : goal.returns-then-not-link-clause-same
returns-then-not-link-clause-same g c =
    let a = c.args.self.now in
    let d = c.link.new.self in
    fixed_kept d (record d { table = c.release.new.self }) refl refl c.release.ensures.same
    ∙ (c.link.ensures.same ∙ fixed_kept a (record a { table = c.begin.new.self }) refl refl c.begin.ensures.same)

pub returns-then-announce-clause-same : goal.returns-then-announce-clause-same
returns-then-announce-clause-same g c =
    let a = c.args.self.now in
    let d = c.link.new.self in
    fixed_kept d (record d { table = c.announce.new.self }) refl refl c.announce.ensures.same
    ∙ (c.link.ensures.same ∙ fixed_kept a (record a { table = c.begin.new.self }) refl refl c.begin.ensures.same)

pub returns-clause-same : goal.returns-clause-same
returns-clause-same g c =
    let a = c.args.self.now in
    let d = c.link.new.self in
    fixed_kept d (record d { table = c.release-2.new.self }) refl refl (c.release-2.ensures.same ∙ c.announce.ensures.same)
    ∙ (c.link.ensures.same ∙ fixed_kept a (record a { table = c.begin.new.self }) refl refl c.begin.ensures.same)

pub returns-in_default-clause-refused : goal.returns-in_default-clause-refused
returns-in_default-clause-refused g c = λ refused. subst (λ o. StayBelowBeside c.args.number o c.args.self.now.table.sessions c.begin.new.self.sessions) c.in_default.is c.begin.ensures.below

pub returns-in_default-clause-below : goal.returns-in_default-clause-below
returns-in_default-clause-below g c = λ next less. subst (λ o. StayBelowBeside c.args.number o c.args.self.now.table.sessions c.begin.new.self.sessions) c.in_default.is c.begin.ensures.below next

pub returns-then-not-link-clause-refused : goal.returns-then-not-link-clause-refused
returns-then-not-link-clause-refused g c = λ refused.
    let place = c.in-Some.place in
    let b = c.begin.new.self.sessions in
    let d = c.link.new.self.table.sessions in
    let e = c.release.new.self.sessions in
    below_gone place c.args.self.now.table.sessions b e c.in-Some.ensures.below.1 (others_on place b d e c.link.ensures.others c.release.ensures.others) c.release.ensures.free

pub returns-then-not-link-clause-below : goal.returns-then-not-link-clause-below
returns-then-not-link-clause-below g c = λ next less below. c.release.ensures.below next (c.link.ensures.below next (c.in-Some.ensures.below.0 next less below))

pub returns-then-announce-clause-below : goal.returns-then-announce-clause-below
returns-then-announce-clause-below g c = λ next less below. c.announce.ensures.below next (c.link.ensures.below next (c.in-Some.ensures.below.0 next less below))

pub returns-clause-refused : goal.returns-clause-refused
returns-clause-refused g c = λ refused.
    let place = c.in-Some.place in
    let b = c.begin.new.self.sessions in
    let d = c.link.new.self.table.sessions in
    let e = c.announce.new.self.sessions in
    let f = c.release-2.new.self.sessions in
    below_gone place c.args.self.now.table.sessions b f c.in-Some.ensures.below.1 (others_on place b e f (others_on place b d e c.link.ensures.others c.announce.ensures.others) c.release-2.ensures.others) c.release-2.ensures.free

pub returns-clause-below : goal.returns-clause-below
returns-clause-below g c = λ next less below. c.release-2.ensures.below next (c.announce.ensures.below next (c.link.ensures.below next (c.in-Some.ensures.below.0 next less below)))

pub returns-in_default-clause-stepped : goal.returns-in_default-clause-stepped
returns-in_default-clause-stepped g c = λ stepped. subst (λ o. OthersSteppedIfAny o c.begin.new.self.sessions) c.in_default.is (c.begin.ensures.stepped stepped)

pub returns-then-not-link-clause-stepped : goal.returns-then-not-link-clause-stepped
returns-then-not-link-clause-stepped g c = λ stepped.
    let place = c.in-Some.place in
    let b = c.begin.new.self.sessions in
    let d = c.link.new.self.table.sessions in
    free_stepped place d c.release.new.self.sessions (stepped_further place b d (c.in-Some.ensures.stepped stepped) c.link.ensures.others) c.release.ensures.others c.release.ensures.free

pub returns-then-announce-clause-stepped : goal.returns-then-announce-clause-stepped
returns-then-announce-clause-stepped g c = λ stepped.
    let place = c.in-Some.place in
    let b = c.begin.new.self.sessions in
    let d = c.link.new.self.table.sessions in
    opened_stepped place d c.announce.new.self.sessions (stepped_further place b d (c.in-Some.ensures.stepped stepped) c.link.ensures.others) c.announce.ensures.others (c.announce.ensures.stepped c.if-announce.true)

pub returns-clause-stepped : goal.returns-clause-stepped
returns-clause-stepped g c = λ stepped.
    let place = c.in-Some.place in
    let b = c.begin.new.self.sessions in
    let d = c.link.new.self.table.sessions in
    let e = c.announce.new.self.sessions in
    free_stepped place e c.release-2.new.self.sessions (stepped_further place d e (stepped_further place b d (c.in-Some.ensures.stepped stepped) c.link.ensures.others) c.announce.ensures.others) c.release-2.ensures.others c.release-2.ensures.free

pub returns-clause-opens : goal.returns-clause-opens
returns-clause-opens g c = grind (arith, common_steps)

pub returns-then-not-link-clause-opens : goal.returns-then-not-link-clause-opens
returns-then-not-link-clause-opens g c = grind (arith, common_steps)

pub returns-then-announce-clause-turns : goal.returns-then-announce-clause-turns
returns-then-announce-clause-turns g c = grind (arith, common_steps)

pub returns-in_default-clause-opens : goal.returns-in_default-clause-opens
returns-in_default-clause-opens g c = grind (arith, common_steps)

pub returns-then-announce-clause-kept : goal.returns-then-announce-clause-kept
returns-then-announce-clause-kept g c = grind (arith, common_steps)

pub returns-then-announce-clause-refused : goal.returns-then-announce-clause-refused
returns-then-announce-clause-refused g c = grind (arith, common_steps)
