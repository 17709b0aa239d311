use Rattle.mio_edge.proofs.Closing.{others_on}
use Rattle.mio_edge.specs.Lines.{same_turns_on}
use Rattle.std.proofs.Common.{arith, refl, ◌∙◌}
use Rattle.mio_edge.specs.Fixed.{fixed_kept}
use Rattle.mio_edge.proofs.listening.Listening.link.Goals as goal
use Rattle.std.proofs.lemmas.Grind.{common_steps}

pub returns-then-eq-clause-prepared : goal.returns-then-eq-clause-prepared
returns-then-eq-clause-prepared g c = λ k telling says ready. c.attach.ensures.prepared k says (c.defer.ensures.prepared k ready)

pub returns-then-eq-clause-keeps : goal.returns-then-eq-clause-keeps
returns-then-eq-clause-keeps g c = λ shut. let after = c.attach.ensures.keeps (c.defer.ensures.idle shut) in (after.0, λ world told. after.1 world (c.defer.ensures.keeps world told))

pub returns-then-not-attach-clause-prepared : goal.returns-then-not-attach-clause-prepared
returns-then-not-attach-clause-prepared g c = λ k telling says ready. c.attach-2.ensures.prepared k says ready

pub returns-clause-prepared : goal.returns-clause-prepared
returns-clause-prepared g c = λ k telling says ready. c.connect_all.ensures.prepared k telling (c.attach-2.ensures.prepared k says ready)

pub returns-clause-keeps : goal.returns-clause-keeps
returns-clause-keeps g c = λ shut.
    let first = c.attach-2.ensures.keeps shut in
    let second = c.connect_all.ensures.keeps first.0 in
    (second.0, λ world told. second.1 world (first.1 world told))

pub returns-then-eq-clause-others : goal.returns-then-eq-clause-others
returns-then-eq-clause-others g c = others_on c.args.place c.args.self.now.table.sessions c.defer.new.self.sessions c.attach.new.self.table.sessions c.defer.ensures.others c.attach.ensures.others

pub returns-clause-others : goal.returns-clause-others
returns-clause-others g c = others_on c.args.place c.args.self.now.table.sessions c.attach-2.new.self.table.sessions c.connect_all.new.self.table.sessions c.attach-2.ensures.others c.connect_all.ensures.others

pub returns-then-eq-clause-turns : goal.returns-then-eq-clause-turns
returns-then-eq-clause-turns g c = same_turns_on c.args.self.now.table c.defer.new.self c.attach.new.self.table c.defer.ensures.turns c.attach.ensures.turns

pub returns-clause-turns : goal.returns-clause-turns
returns-clause-turns g c = same_turns_on c.args.self.now.table c.attach-2.new.self.table c.connect_all.new.self.table c.attach-2.ensures.turns c.connect_all.ensures.turns

pub returns-then-eq-clause-same : goal.returns-then-eq-clause-same
returns-then-eq-clause-same g c = c.attach.ensures.same ∙ fixed_kept c.args.self.now (record c.args.self.now { table = c.defer.new.self }) refl refl c.defer.ensures.same

pub returns-clause-same : goal.returns-clause-same
returns-clause-same g c = c.connect_all.ensures.same ∙ c.attach-2.ensures.same

pub returns-then-eq-clause-below : goal.returns-then-eq-clause-below
returns-then-eq-clause-below g c = λ next below. c.attach.ensures.below next (c.defer.ensures.below next below)

pub returns-clause-below : goal.returns-clause-below
returns-clause-below g c = λ next below. c.connect_all.ensures.below next (c.attach-2.ensures.below next below)

pub returns-then-not-attach-clause-below : goal.returns-then-not-attach-clause-below
returns-then-not-attach-clause-below g c = grind (arith, common_steps)
