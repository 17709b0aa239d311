use Rattle.std.proofs.Common.{arith, ◌≡◌, ℕ, Option, Some, length, set, sym, ◌∙◌, ap, subst, inr}
use Rattle.std.proofs.lemmas.List.{set-get_or}
use Rattle.slab.specs.Slab.{get, with_value}
use Rattle.gate_hub.specs.Hubs.{LinkWrites}
use Rattle.mio_edge.specs.Closing.{Winds}
use Rattle.mio_edge.specs.Numbered.{StayBelow}
use Rattle.mio_edge.specs.Order.{JoinsBehind}
use Rattle.mio_edge.specs.Stepping.{StayStepped}
use Rattle.mio_edge.specs.Tables.{World, TableTells, MovesAt, AtSession, place_of}
use Rattle.mio_edge.specs.declared.session.Session.{Session}
use Rattle.mio_edge.specs.declared.table.Table.{Table}
use Rattle.mio_edge.proofs.Standing.{unspent}
use Rattle.mio_edge.proofs.Tables.{at_open, same_still}
use Rattle.mio_edge.proofs.Turns.{queues_still}
use Rattle.mio_edge.proofs.Closing.{winds_open}
use Rattle.mio_edge.proofs.Stepping.{stepped_put, open_stepped}
use Rattle.mio_edge.proofs.table.Table.write.Goals.{in_default-via-in-None-1, in_default-via-in-Some+else-session-number, in_default-via-in-Some+then-session-number+else-session, in_default-via-in-Some+then-session-number+then-session+else-session-2}
use Rattle.mio_edge.proofs.table.Table.write.Goals.{in_default-via-in-Some+then-session-number+then-session+then-session-2+else-not-is_spent}
use Rattle.mio_edge.proofs.table.Table.write.Goals as goal
use Rattle.std.proofs.lemmas.Grind.{common_steps}

-- a table in which a session stands where it stood is the same
put_back : {S : Type 0} (table : Table S) (place : ℕ) (a : Session S) → Some a ≡ get table.sessions place → record table { sessions = with_value table.sessions place a } ≡ table
put_back {S} table place a was =
    let slots = table.sessions.slots in
    ap (λ xs. record table { sessions = record table.sessions { slots = xs } }) (subst (λ (o : Option (Session S)). set slots place o ≡ slots) (sym was) (set-get_or slots place _))

pub returns-clause-leads : goal.returns-clause-leads
returns-clause-leads g c = λ world told some.
    let t = g.S.Stream.tells in
    let s = c.args.self.now in
    let a = c.in-Some.session.now in
    let d = c.write.new.self in
    let was = sym c.in-Some.ensures.value in
    let still = c.write.ensures.still in
    let moved = at_open t s.sessions s.entries.items s.closed.items s.spare.items c.args.number c.args.port s.turning a d (LinkWrites c.args.from.now c.write.result)
    (λ w tells. ap (place_of s.entries.items) (sym c.if-session-number.true) ∙ tells.listed s.turning a was c.if-session.true) was (same_still t a d still)
    (c.write.ensures.leads ((λ spent. absurd (unspent t a c.is_spent.result c.is_spent.ensures c.if-not-is_spent.true spent)), inr c.if-session-2.true)) world told.0 some in
    (moved.0, (moved.1, queues_still s.sessions s.ready s.behind s.written (length s.spare.items) s.turning a d was still.queued still.written told.1), moved.2)

pub returns-clause-winds : goal.returns-clause-winds
returns-clause-winds g c = λ world told. winds_open g.S.Stream.tells c.args.self.now.sessions c.args.self.now.turning c.in-Some.session.now c.write.new.self (sym c.in-Some.ensures.value) c.if-session.true

pub returns-clause-stepped : goal.returns-clause-stepped
returns-clause-stepped g c = λ world told stepped.
    let s = c.args.self.now in
    let d = c.write.new.self in
    stepped_put s.sessions s.turning c.in-Some.session.now d (sym c.in-Some.ensures.value) (λ was. open_stepped d (c.write.ensures.still.is_open ∙ c.if-session.true)) stepped

pub returns-2 : goal.returns-2
returns-2 g c =
    let t = g.S.Stream.tells in
    let s = c.args.self.now in
    let b = c.write_first.new.self in
    let was : c.in_default.self ≡ s = elim c.in_default.branch [
      | in_default-via-in-None-1 w ↦ w.self-is
      | in_default-via-in-Some+else-session-number w ↦ w.self-is ∙ put_back s s.turning w.in-Some.session.now w.in-Some.ensures.value
      | in_default-via-in-Some+then-session-number+else-session w ↦ w.self-is ∙ put_back s s.turning w.in-Some.session.now w.in-Some.ensures.value
      | in_default-via-in-Some+then-session-number+then-session+else-session-2 w ↦ w.self-is ∙ put_back s s.turning w.in-Some.session.now w.in-Some.ensures.value
      | in_default-via-in-Some+then-session-number+then-session+then-session-2+else-not-is_spent w ↦ w.self-is ∙ put_back s s.turning w.in-Some.session.now w.in-Some.ensures.value
    ] in record {
      within = c.write_first.ensures.within;
      leads = subst (λ x. MovesAt c.args.number (TableTells t x) (TableTells t b) (AtSession c.args.number c.args.port (LinkWrites c.args.from.now c.write_first.result))) was c.write_first.ensures.leads;
      winds = subst (λ x. (world : World) → TableTells t x world → Winds t x.sessions b.sessions) was c.write_first.ensures.winds;
      joins = subst (λ x. JoinsBehind x b) was c.write_first.ensures.joins;
      below = subst (λ x. StayBelow x.sessions b.sessions) was c.write_first.ensures.below;
      stepped = subst (λ x. StayStepped t x b) was c.write_first.ensures.stepped;
      same = c.write_first.ensures.same ∙ ap (λ x. x.settings) was;
    }

pub returns-clause-joins : goal.returns-clause-joins
returns-clause-joins g c = grind (arith, common_steps)

pub returns-clause-below : goal.returns-clause-below
returns-clause-below g c = grind (arith, common_steps)

pub write-requires : goal.write-requires
write-requires g c = grind (arith, common_steps)
