use Rattle.std.proofs.Common.{rules, ◌≡◌, ◌+◌, None, Ok, Err, arith, refl, ap, sym, ◌∙◌}
use Rattle.service_router.specs.Router.{targets_of}
use Rattle.route_server.specs.Matching.{Matches}
use Rattle.route_server.specs.Turning.{Runs, to_write, first_of, first_port, IsWritten}
use Rattle.route_server.proofs.Running.{telling_on, telling_by, telling_none, goes_nowhere, runs_not, runs_at, same_not, same_on, later_not, later_on, marks_not, marks_on, port_runs, port_breaks, idle_next, idle_wider, done_next, done_all, written_still, ok_is}
use Rattle.route_server.proofs.turning.write_all.Goals as goal

pub ports-init : goal.ports-init
ports-init g c =
    let r = c.args.router.now in
    let w = c.args.waits.now in
    let k = c.args.k in
    record {
      goes = telling_none _ _ _ (Matches r) (Matches r) k _ (g.met.N.Notes.stays _) (λ past. goes_nowhere (g.M.Fan.tells c.args.fan.now) (Matches r past) k (Runs k (targets_of r) None 0 w w) (runs_not k (targets_of r) w));
      idle = λ _. (refl, refl);
      same = same_not r;
      holds = λ some. absurd (omega (arith, some));
      later = later_not _;
      count = refl;
      quiet = λ _. (refl, λ x within. absurd (omega (arith, within)));
      marks = marks_not w;
      few = omega arith;
      within = omega arith;
    }

pub write-requires-clause-targets : goal.write-requires-clause-targets
write-requires-clause-targets g c =
    let i = c.ports.invariant in
    i.count ∙ (c.requires.targets ∙ sym i.same.targets)

pub ports-preserved : goal.ports-preserved
ports-preserved g c =
    let tells = g.M.Fan.tells in
    let i = c.ports.invariant in
    let k = c.args.k in
    let r0 = c.args.router.now in
    let w0 = c.args.waits.now in
    let r = c.ports.router in
    let w = c.ports.waits in
    let at = c.ports.port in
    let new = c.write.new in
    let does = c.write.ensures in
    let n = c.in_ok-count.count in
    record {
      goes = telling_on _ _ _ (tells c.args.fan.now) (tells c.ports.fan) (tells new.fan) (Matches r0) (Matches r) (Matches new.router) k _ _ _ (λ xs ys. g.met.N.Notes.follows _ _ _ xs ys)
          (λ a b d p q. port_runs to_write (tells c.args.fan.now) (tells c.ports.fan) (tells new.fan) (Matches r0 a) (Matches r b) (Matches new.router d) r0 r k (targets_of r0) at c.ports.moved n w0 w new.waits i.same.targets i.idle p q) i.goes c.in_ok-count.ensures.goes;
      idle = idle_next to_write at r0 r new.router w0 w new.waits i.idle does.idle;
      same = same_on r0 r new.router i.same does.same;
      holds = λ _. does.holds;
      later = later_on _ _ _ i.later does.later;
      count = does.targets ∙ i.count;
      quiet = λ none.
          let before = i.quiet (omega (arith, none)) in
          let last = c.in_ok-count.ensures.quiet (ap Ok (let is : n ≡ 0 = omega (arith, none) in is)) in
          (last.0 ∙ before.0, done_next IsWritten at r new.router w new.waits (written_still r w new.waits does.marks) last.0 before.1 last.1);
      marks = marks_on w0 w new.waits i.marks does.marks;
      few = omega (arith, i.few, c.in_ok-count.ensures.few);
      within = omega (arith, c.ports-test.true, c.targets.ensures.count, i.same.targets);
    }

pub ports-smaller : goal.ports-smaller
ports-smaller g c = omega (arith, c.ports-test.true, c.targets.ensures.count, c.ports.invariant.same.targets)

pub returns-in_err-count-clause-goes : goal.returns-in_err-count-clause-goes
returns-in_err-count-clause-goes g c =
    let is : c.from_residual.result ≡ Err c.in_err-count.field-0.0 = search rules in
    let tells = g.M.Fan.tells in
    let i = c.ports.invariant in
    let r0 = c.args.router.now in
    let new = c.write.new in
    let r = c.ports.router in
    telling_on _ _ _ (tells c.args.fan.now) (tells c.ports.fan) (tells new.fan) (Matches r0) (Matches r) (Matches new.router) c.args.k _ _ _ (λ xs ys. g.met.N.Notes.follows _ _ _ xs ys)
    (λ a b d p q. port_breaks to_write (tells c.args.fan.now) (tells c.ports.fan) (tells new.fan) (Matches r0 a) (Matches r b) (Matches new.router d) r0 r c.args.k (targets_of r0) c.ports.port c.ports.moved c.in_err-count.field-0.0 c.args.waits.now c.ports.waits new.waits _ is
    (omega (arith, c.ports-test.true, c.targets.ensures.count, i.same.targets)) i.idle p q) i.goes c.in_err-count.ensures.goes

pub returns-in_err-count-clause-idle : goal.returns-in_err-count-clause-idle
returns-in_err-count-clause-idle g c =
    let i = c.ports.invariant in
    let r0 = c.args.router.now in
    let w0 = c.args.waits.now in
    let at = c.ports.port in
    let new = c.write.new in
    idle_wider to_write (at + 1) (targets_of r0 + 1) r0 new.router w0 new.waits (omega (arith, c.ports-test.true, c.targets.ensures.count, i.same.targets))
    (idle_next to_write at r0 c.ports.router new.router w0 c.ports.waits new.waits i.idle c.write.ensures.idle)

pub returns-clause-goes : goal.returns-clause-goes
returns-clause-goes g c =
    let tells = g.M.Fan.tells in
    let i = c.ports.invariant in
    let r0 = c.args.router.now in
    let w0 = c.args.waits.now in
    let at = c.ports.port in
    let end : at ≡ targets_of r0 + 1 = omega (arith, c.ports-test.false, c.targets.ensures.count, i.within, i.same.targets) in
    telling_by _ (tells c.args.fan.now) (tells c.ports.fan) (Matches r0) (Matches c.ports.router) c.args.k _ _
    (λ a b p. runs_at (tells c.args.fan.now) (tells c.ports.fan) (Matches r0 a) (Matches c.ports.router b) c.args.k c.ports.moved (targets_of r0) (targets_of r0) (first_of to_write at w0 r0) (first_port to_write w0 r0) w0 c.ports.waits refl
    (ap (λ z. first_of to_write z w0 r0) end) p) i.goes

pub returns-clause-idle : goal.returns-clause-idle
returns-clause-idle g c =
    let i = c.ports.invariant in
    let r0 = c.args.router.now in
    idle_wider to_write c.ports.port (targets_of r0 + 1) r0 c.ports.router c.args.waits.now c.ports.waits i.within i.idle

pub returns-clause-holds : goal.returns-clause-holds
returns-clause-holds g c = c.ports.invariant.holds (omega (arith, c.ports-test.false, c.targets.ensures.some))

pub returns-clause-quiet : goal.returns-clause-quiet
returns-clause-quiet g c =
    let i = c.ports.invariant in
    λ none.
    let q = i.quiet (ok_is _ _ _ refl none) in
    (q.0, done_all IsWritten c.ports.port c.ports.router c.ports.waits (omega (arith, c.ports-test.false, c.targets.ensures.count)) q.1)

pub returns-clause-few : goal.returns-clause-few
returns-clause-few g c =
    let i = c.ports.invariant in
    omega (arith, i.few, i.within, i.same.targets, c.targets.ensures.count, c.targets.ensures.few)
