use Rattle.std.proofs.Common.{arith, ℕ, ap, ◌∙◌, subst}
use Rattle.mio_edge.specs.Tables.{Shuts}
use Rattle.mio_edge.specs.Closing.{WindsAt, winds_on, winds_nowhere}
use Rattle.mio_edge.specs.Order.{Grows}
use Rattle.mio_edge.proofs.Stepping.{wound_stepped}
use Rattle.mio_edge.proofs.table.Table.close.Goals as goal
use Rattle.std.proofs.lemmas.Grind.{common_steps}

pub returns-in-Some-clause-leads : goal.returns-in-Some-clause-leads
returns-in-Some-clause-leads g c = λ world told some.
    let e = c.in-Some.ensures.here in
    let done = c.shut-place.ensures.shuts e.0 e.1 world told in
    (done.0, c.wind_up.ensures.keeps (c.shut-place.ensures.closed world told) done.0 done.1, subst (λ (k : ℕ). Shuts k world done.0) e.2 done.2)

pub returns-in-Some-clause-sends : goal.returns-in-Some-clause-sends
returns-in-Some-clause-sends g c = λ world links told is.
    let t = g.S.Stream.tells in
    let place = c.shut-place.result in
    let e = c.in-Some.ensures.here in
    (place, c.wind_up.ensures.sent, c.wind_up.ensures.winds.on place c.args.number links (subst (λ (k : ℕ). WindsAt t c.shut-place.new.self.sessions place k links) e.2 (c.shut-place.ensures.stands e.0 world links e.1 told (ap world e.2 ∙ is))))

pub returns-in-Some-clause-winds : goal.returns-in-Some-clause-winds
returns-in-Some-clause-winds g c = winds_on g.S.Stream.tells c.args.self.now.sessions c.shut-place.new.self.sessions c.wind_up.new.self.sessions c.shut-place.ensures.winds c.wind_up.ensures.winds

pub returns-in-Some-clause-joins : goal.returns-in-Some-clause-joins
returns-in-Some-clause-joins g c = record {
  ready = c.wind_up.ensures.ready ∙ c.shut-place.ensures.ready;
  behind = subst (λ queue. Grows queue c.wind_up.new.self.behind) c.shut-place.ensures.behind c.wind_up.ensures.behind;
}

pub returns-in-Some-clause-below : goal.returns-in-Some-clause-below
returns-in-Some-clause-below g c = λ next below. c.wind_up.ensures.below next (c.shut-place.ensures.below next below)

pub returns-in-Some-clause-stepped : goal.returns-in-Some-clause-stepped
returns-in-Some-clause-stepped g c = λ stepped. wound_stepped c.shut-place.result c.shut-place.new.self.sessions c.wind_up.new.self.sessions (c.shut-place.ensures.stepped stepped) c.wind_up.ensures.others c.wind_up.ensures.sent c.wind_up.ensures.told

pub returns-in_default-clause-winds : goal.returns-in_default-clause-winds
returns-in_default-clause-winds g c = winds_nowhere g.S.Stream.tells c.args.self.now.sessions

pub returns-in_default-clause-sends : goal.returns-in_default-clause-sends
returns-in_default-clause-sends g c = grind (arith, common_steps)

pub returns-in_default-clause-leads : goal.returns-in_default-clause-leads
returns-in_default-clause-leads g c = grind (arith, common_steps)

pub returns-in_default-clause-joins : goal.returns-in_default-clause-joins
returns-in_default-clause-joins g c = grind (arith, common_steps)
