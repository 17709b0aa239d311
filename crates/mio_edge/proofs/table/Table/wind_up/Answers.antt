use Rattle.std.proofs.Common.{arith, sym, ◌∙◌}
use Rattle.mio_edge.proofs.Standing.{closed_moved, put_idle}
use Rattle.slab.specs.Slab.{with_value}
use Rattle.mio_edge.specs.Closing.{winds_on, winds_nowhere}
use Rattle.mio_edge.proofs.Closing.{winds_moved, settled_at, flushed_at, flushed_none, others_put, others_on}
use Rattle.mio_edge.proofs.Steps.{stays_put, stays_on, stays_free}
use Rattle.mio_edge.specs.Lines.{grows_same}
use Rattle.mio_edge.specs.Closing.{TellsItsEnd}
use Rattle.mio_edge.proofs.Places.{each_at, each_free}
use Rattle.mio_edge.proofs.Numbered.{below_put}
use Rattle.mio_edge.proofs.table.Table.wind_up.Goals as goal
use Rattle.std.proofs.lemmas.Grind.{common_steps}

pub returns-in-Unsent-clause-keeps : goal.returns-in-Unsent-clause-keeps
returns-in-Unsent-clause-keeps g c = closed_moved g.S.Stream.tells c.args.self.now c.args.place c.in-Some.session.now c.wind_up.new.self (sym c.in-Some.ensures.value) c.wind_up.ensures.still

pub returns-in-Unread-clause-keeps : goal.returns-in-Unread-clause-keeps
returns-in-Unread-clause-keeps g c = λ shut world told. c.put_behind.ensures.keeps world (closed_moved g.S.Stream.tells c.args.self.now c.args.place c.in-Some.session.now c.wind_up.new.self (sym c.in-Some.ensures.value) c.wind_up.ensures.still shut world told)

pub returns-in-Gone-clause-keeps : goal.returns-in-Gone-clause-keeps
returns-in-Gone-clause-keeps g c = closed_moved g.S.Stream.tells c.args.self.now c.args.place c.in-Some.session.now c.wind_up.new.self (sym c.in-Some.ensures.value) c.wind_up.ensures.still

pub returns-in-Gone-2-clause-keeps : goal.returns-in-Gone-2-clause-keeps
returns-in-Gone-2-clause-keeps g c = λ shut world told.
    c.release.ensures.keeps (put_idle g.S.Stream.tells c.args.self.now.sessions c.args.place c.in-Some.session.now c.wind_up.new.self (sym c.in-Some.ensures.value) c.wind_up.ensures.still shut c.if-session.false) world
    (closed_moved g.S.Stream.tells c.args.self.now c.args.place c.in-Some.session.now c.wind_up.new.self (sym c.in-Some.ensures.value) c.wind_up.ensures.still shut world told)

pub returns-in-Unsent-clause-winds : goal.returns-in-Unsent-clause-winds
returns-in-Unsent-clause-winds g c =
    let t = g.S.Stream.tells in
    let s = c.args.self.now in
    let b = c.wind_up.new.self in
    winds_moved t s.sessions c.args.place c.in-Some.session.now b (sym c.in-Some.ensures.value) c.wind_up.ensures.still.number (λ shut. c.wind_up.ensures.still.is_open ∙ shut) c.wind_up.ensures.sends

pub returns-in-Gone-clause-winds : goal.returns-in-Gone-clause-winds
returns-in-Gone-clause-winds g c =
    let t = g.S.Stream.tells in
    let s = c.args.self.now in
    let b = c.wind_up.new.self in
    winds_moved t s.sessions c.args.place c.in-Some.session.now b (sym c.in-Some.ensures.value) c.wind_up.ensures.still.number (λ shut. c.wind_up.ensures.still.is_open ∙ shut) c.wind_up.ensures.sends

pub returns-in-Unread-clause-winds : goal.returns-in-Unread-clause-winds
returns-in-Unread-clause-winds g c =
    let t = g.S.Stream.tells in
    let s = c.args.self.now in
    let b = c.wind_up.new.self in
    winds_on t s.sessions (with_value s.sessions c.args.place b) c.put_behind.new.self.sessions
    (winds_moved t s.sessions c.args.place c.in-Some.session.now b (sym c.in-Some.ensures.value) c.wind_up.ensures.still.number (λ shut. c.wind_up.ensures.still.is_open ∙ shut) c.wind_up.ensures.sends)
    c.put_behind.ensures.winds

pub returns-in-Gone-2-clause-winds : goal.returns-in-Gone-2-clause-winds
returns-in-Gone-2-clause-winds g c =
    let t = g.S.Stream.tells in
    let s = c.args.self.now in
    let b = c.wind_up.new.self in
    winds_on t s.sessions (with_value s.sessions c.args.place b) c.release.new.self.sessions
    (winds_moved t s.sessions c.args.place c.in-Some.session.now b (sym c.in-Some.ensures.value) c.wind_up.ensures.still.number (λ shut. c.wind_up.ensures.still.is_open ∙ shut) c.wind_up.ensures.sends)
    (c.release.ensures.winds (settled_at s.sessions c.args.place c.in-Some.session.now b (sym c.in-Some.ensures.value) (c.wind_up.ensures.gone c.in-Gone-2.is)))

pub returns-in-Gone-2-clause-behind : goal.returns-in-Gone-2-clause-behind
returns-in-Gone-2-clause-behind g c = grows_same c.args.self.now.behind c.release.new.self.behind c.release.ensures.turns.behind

pub returns-in-Gone-2-clause-entries : goal.returns-in-Gone-2-clause-entries
returns-in-Gone-2-clause-entries g c = c.release.ensures.turns.entries

pub returns-in_default-clause-sent : goal.returns-in_default-clause-sent
returns-in_default-clause-sent g c = flushed_none c.args.self.now.sessions c.args.place (sym c.in_default.ensures.value)

pub returns-in-Unsent-clause-sent : goal.returns-in-Unsent-clause-sent
returns-in-Unsent-clause-sent g c = flushed_at c.args.self.now.sessions c.args.place c.in-Some.session.now c.wind_up.new.self (sym c.in-Some.ensures.value) c.wind_up.ensures.sent

pub returns-in-Unread-clause-sent : goal.returns-in-Unread-clause-sent
returns-in-Unread-clause-sent g c = c.put_behind.ensures.flushed (flushed_at c.args.self.now.sessions c.args.place c.in-Some.session.now c.wind_up.new.self (sym c.in-Some.ensures.value) c.wind_up.ensures.sent)

pub returns-in-Gone-clause-sent : goal.returns-in-Gone-clause-sent
returns-in-Gone-clause-sent g c = flushed_at c.args.self.now.sessions c.args.place c.in-Some.session.now c.wind_up.new.self (sym c.in-Some.ensures.value) c.wind_up.ensures.sent

pub returns-in-Gone-2-clause-sent : goal.returns-in-Gone-2-clause-sent
returns-in-Gone-2-clause-sent g c = flushed_none c.release.new.self.sessions c.args.place c.release.ensures.free

pub returns-in-Unsent-clause-others : goal.returns-in-Unsent-clause-others
returns-in-Unsent-clause-others g c = others_put c.args.self.now.sessions c.args.place c.in-Some.session.now c.wind_up.new.self (sym c.in-Some.ensures.value)

pub returns-in-Unsent-clause-shut : goal.returns-in-Unsent-clause-shut
returns-in-Unsent-clause-shut g c = stays_put c.args.place c.args.self.now.sessions c.in-Some.session.now c.wind_up.new.self (sym c.in-Some.ensures.value) c.wind_up.ensures.still.is_open

pub returns-in-Gone-clause-others : goal.returns-in-Gone-clause-others
returns-in-Gone-clause-others g c = others_put c.args.self.now.sessions c.args.place c.in-Some.session.now c.wind_up.new.self (sym c.in-Some.ensures.value)

pub returns-in-Gone-clause-shut : goal.returns-in-Gone-clause-shut
returns-in-Gone-clause-shut g c = stays_put c.args.place c.args.self.now.sessions c.in-Some.session.now c.wind_up.new.self (sym c.in-Some.ensures.value) c.wind_up.ensures.still.is_open

pub returns-in-Unread-clause-others : goal.returns-in-Unread-clause-others
returns-in-Unread-clause-others g c =
    let a = c.args.self.now.sessions in
    let b = with_value a c.args.place c.wind_up.new.self in
    others_on c.args.place a b c.put_behind.new.self.sessions (others_put a c.args.place c.in-Some.session.now c.wind_up.new.self (sym c.in-Some.ensures.value)) c.put_behind.ensures.others

pub returns-in-Unread-clause-shut : goal.returns-in-Unread-clause-shut
returns-in-Unread-clause-shut g c =
    let a = c.args.self.now.sessions in
    let b = with_value a c.args.place c.wind_up.new.self in
    stays_on c.args.place a b c.put_behind.new.self.sessions (stays_put c.args.place a c.in-Some.session.now c.wind_up.new.self (sym c.in-Some.ensures.value) c.wind_up.ensures.still.is_open) c.put_behind.ensures.shut

pub returns-in-Gone-2-clause-others : goal.returns-in-Gone-2-clause-others
returns-in-Gone-2-clause-others g c =
    let a = c.args.self.now.sessions in
    let b = with_value a c.args.place c.wind_up.new.self in
    others_on c.args.place a b c.release.new.self.sessions (others_put a c.args.place c.in-Some.session.now c.wind_up.new.self (sym c.in-Some.ensures.value)) c.release.ensures.others

pub returns-in-Gone-2-clause-shut : goal.returns-in-Gone-2-clause-shut
returns-in-Gone-2-clause-shut g c = stays_free c.args.place c.args.self.now.sessions c.release.new.self.sessions c.release.ensures.free

pub returns-in_default-clause-told : goal.returns-in_default-clause-told
returns-in_default-clause-told g c = each_free (λ port. TellsItsEnd port) c.args.self.now.sessions c.args.place (sym c.in_default.ensures.value)

pub returns-in-Unsent-clause-told : goal.returns-in-Unsent-clause-told
returns-in-Unsent-clause-told g c = each_at (λ port. TellsItsEnd port) c.args.self.now.sessions c.args.place c.in-Some.session.now c.wind_up.new.self (sym c.in-Some.ensures.value) c.wind_up.ensures.told

pub returns-in-Unread-clause-told : goal.returns-in-Unread-clause-told
returns-in-Unread-clause-told g c = c.put_behind.ensures.told (each_at (λ port. TellsItsEnd port) c.args.self.now.sessions c.args.place c.in-Some.session.now c.wind_up.new.self (sym c.in-Some.ensures.value) c.wind_up.ensures.told)

pub returns-in-Gone-clause-told : goal.returns-in-Gone-clause-told
returns-in-Gone-clause-told g c = each_at (λ port. TellsItsEnd port) c.args.self.now.sessions c.args.place c.in-Some.session.now c.wind_up.new.self (sym c.in-Some.ensures.value) c.wind_up.ensures.told

pub returns-in-Gone-2-clause-told : goal.returns-in-Gone-2-clause-told
returns-in-Gone-2-clause-told g c = each_free (λ port. TellsItsEnd port) c.release.new.self.sessions c.args.place c.release.ensures.free

pub returns-in-Unsent-clause-below : goal.returns-in-Unsent-clause-below
returns-in-Unsent-clause-below g c = below_put c.args.self.now.sessions c.args.place c.in-Some.session.now c.wind_up.new.self (sym c.in-Some.ensures.value) c.wind_up.ensures.still.number

pub returns-in-Gone-clause-below : goal.returns-in-Gone-clause-below
returns-in-Gone-clause-below g c = below_put c.args.self.now.sessions c.args.place c.in-Some.session.now c.wind_up.new.self (sym c.in-Some.ensures.value) c.wind_up.ensures.still.number

pub returns-in-Unread-clause-below : goal.returns-in-Unread-clause-below
returns-in-Unread-clause-below g c = λ next below. c.put_behind.ensures.below next (below_put c.args.self.now.sessions c.args.place c.in-Some.session.now c.wind_up.new.self (sym c.in-Some.ensures.value) c.wind_up.ensures.still.number next below)

pub returns-in-Gone-2-clause-below : goal.returns-in-Gone-2-clause-below
returns-in-Gone-2-clause-below g c = λ next below. c.release.ensures.below next (below_put c.args.self.now.sessions c.args.place c.in-Some.session.now c.wind_up.new.self (sym c.in-Some.ensures.value) c.wind_up.ensures.still.number next below)

pub returns-in_default-clause-winds : goal.returns-in_default-clause-winds
returns-in_default-clause-winds g c = winds_nowhere g.S.Stream.tells c.args.self.now.sessions

pub returns-in-Unsent-clause-behind : goal.returns-in-Unsent-clause-behind
returns-in-Unsent-clause-behind g c = grind (arith, common_steps)

pub returns-in_default-clause-shut : goal.returns-in_default-clause-shut
returns-in_default-clause-shut g c = grind (arith, common_steps)

pub returns-in-Gone-clause-behind : goal.returns-in-Gone-clause-behind
returns-in-Gone-clause-behind g c = grind (arith, common_steps)
