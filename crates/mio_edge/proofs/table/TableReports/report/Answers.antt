use Rattle.std.proofs.Common.{arith, ◌≡◌, ◌/◌, ◌%◌, length, true≢false, Some, sym, refl, ◌∙◌, ap, subst, inl}
use Rattle.std.specs.List.{slice_get}
use Rattle.slab.specs.Slab.{with_value}
use Rattle.mio_edge.specs.Sessions.{PortsTell}
use Rattle.mio_edge.specs.Moving.{noted}
use Rattle.mio_edge.specs.Turns.{QueuesStand, TableStands}
use Rattle.mio_edge.proofs.Sessions.{session_queued}
use Rattle.mio_edge.proofs.Standing.{still_kept, rest_same, Stood, stood_ready, put_over, put_twice, notes_at, news_at}
use Rattle.mio_edge.proofs.Tables.{kept_at, same_still, then_is}
use Rattle.mio_edge.proofs.Turns.{queues_still}
use Rattle.mio_edge.proofs.Closing.{winds_stays}
use Rattle.mio_edge.specs.Lines.{grows_same, line_grown, none_closed}
use Rattle.mio_edge.specs.Closing.{winds_nowhere}
use Rattle.mio_edge.proofs.Numbered.{below_put}
use Rattle.mio_edge.proofs.Stepping.{stepped_put, still_stepped}
use Rattle.mio_edge.proofs.table.TableReports.report.Goals as goal
use Rattle.std.proofs.lemmas.Grind.{common_steps}

pub returns-then-report : goal.returns-then-report
returns-then-report g c =
    let t = g.S.Stream.tells in
    let s = c.args.self.now in
    let place = c.args.token / s.settings.width in
    let port = c.args.token % s.settings.width in
    let a = c.in-Some.session.now in
    let b = c.report.new.self in
    let d = c.stand_in.new.self in
    let was = sym c.in-Some.ensures.value in
    let still = c.report.ensures.still in
    let ports : d.ports ≡ b.ports = ap (λ x. x.ports) c.stand_in.ensures.rest in
    let stood : (TableStands s → Stood t (with_value s.sessions place b) c.stand_in.new.queue s.behind s.written (length s.spare.items) place b d) = λ queues. stood_ready t (with_value s.sessions place b) s.ready c.stand_in.new.queue s.behind s.written (length s.spare.items) place b d (put_over t s.sessions place a b was) c.stand_in.ensures.was c.stand_in.ensures.stands c.stand_in.ensures.rest
    (queues_still s.sessions s.ready s.behind s.written (length s.spare.items) place a b was still.queued still.written queues) in record {
      goes = (
        (λ world told. (
          kept_at t s.sessions s.entries.items s.closed.items s.spare.items place a d was (then_is t a b d (same_still t a b still) (rest_same t b d c.stand_in.ensures.rest))
              (λ links tells. session_queued t d links (subst (λ v. PortsTell t v.items links) (sym ports) (c.report.ensures.keeps links tells.ports)) (stood told.1).queued) world told.0,
          subst (λ slab. QueuesStand slab c.stand_in.new.queue s.behind s.written (length s.spare.items)) (put_twice t s.sessions place b d) ((stood told.1).stands d refl (ap (λ x. x.is_written) c.stand_in.ensures.rest)),
        )),
        winds_stays t s.sessions place a d was (ap (λ x. x.number) c.stand_in.ensures.rest ∙ still.number) (ap (λ x. x.is_open) c.stand_in.ensures.rest ∙ still.is_open) (λ links tells. subst (λ v. PortsTell t v.items links) (sym ports) (c.report.ensures.keeps links tells)),
        record { line = line_grown s.ready s.behind c.stand_in.new.queue s.behind c.stand_in.ensures.grows (grows_same s.behind s.behind refl); closed = none_closed s.entries.items; entries = refl },
        refl,
        below_put s.sessions place a d was (ap (λ x. x.number) c.stand_in.ensures.rest ∙ still.number),
        (λ world told. stepped_put s.sessions place a d was (λ before shut. inl (stood told.1).queued)),
      );
      notes = λ some. record {
        notes = notes_at t s.sessions c.args.news place port a d was (λ x at. subst (λ v. slice_get v.items port ≡ Some (noted c.args.news x)) (sym ports) (c.report.ensures.notes x at));
        named = λ y x is at new world told. (d, put_over t s.sessions place a d was, (stood told.1).queued);
      };
    }

pub returns-else-report : goal.returns-else-report
returns-else-report g c =
    let t = g.S.Stream.tells in
    let s = c.args.self.now in
    let place = c.args.token / s.settings.width in
    let port = c.args.token % s.settings.width in
    let a = c.in-Some.session.now in
    let b = c.report.new.self in
    let was = sym c.in-Some.ensures.value in record {
      goes = (
        still_kept t s place a b was c.report.ensures.still (c.report.ensures.calm c.if-report.false),
        winds_stays t s.sessions place a b was c.report.ensures.still.number c.report.ensures.still.is_open c.report.ensures.keeps,
        record { line = line_grown s.ready s.behind s.ready s.behind (grows_same s.ready s.ready refl) (grows_same s.behind s.behind refl); closed = none_closed s.entries.items; entries = refl },
        refl,
        below_put s.sessions place a b was c.report.ensures.still.number,
        (λ world told. stepped_put s.sessions place a b was (still_stepped a b c.report.ensures.still.is_open c.report.ensures.still.queued (c.report.ensures.stepped c.if-report.false))),
      );
      notes = λ some. record {
        notes = notes_at t s.sessions c.args.news place port a b was c.report.ensures.notes;
        named = λ y x is at new world told. absurd (true≢false (sym (news_at t s.sessions c.args.news place port a c.report.result was c.report.ensures.news y x is at new) ∙ c.if-report.false));
      };
    }

pub returns-then-self-eq0-clause-goes : goal.returns-then-self-eq0-clause-goes
returns-then-self-eq0-clause-goes g c =
    let s = c.args.self.now in (
      (λ world told. told),
      winds_nowhere g.S.Stream.tells s.sessions,
      record { line = line_grown s.ready s.behind s.ready s.behind (grows_same s.ready s.ready refl) (grows_same s.behind s.behind refl); closed = none_closed s.entries.items; entries = refl },
      refl,
      (λ next below. below),
      (λ world told stepped. stepped),
    )

pub returns-in_default-clause-goes : goal.returns-in_default-clause-goes
returns-in_default-clause-goes g c =
    let s = c.args.self.now in (
      (λ world told. told),
      winds_nowhere g.S.Stream.tells s.sessions,
      record { line = line_grown s.ready s.behind s.ready s.behind (grows_same s.ready s.ready refl) (grows_same s.behind s.behind refl); closed = none_closed s.entries.items; entries = refl },
      refl,
      (λ next below. below),
      (λ world told stepped. stepped),
    )

pub returns-then-self-eq0-clause-notes : goal.returns-then-self-eq0-clause-notes
returns-then-self-eq0-clause-notes g c = grind (arith, common_steps)

pub returns-in_default-clause-notes : goal.returns-in_default-clause-notes
returns-in_default-clause-notes g c = grind (arith, common_steps)
