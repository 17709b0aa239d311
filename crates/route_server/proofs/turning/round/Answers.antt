use Rattle.std.proofs.Common.{rules, arith, ◌≡◌, ◌+◌, Ok, Err, refl, ap, sym, ◌∙◌}
use Rattle.service_router.specs.Router.{targets_of}
use Rattle.route_server.specs.Matching.{Matches}
use Rattle.route_server.specs.Turning.{to_write, to_read, first_port, or_else, wanted}
use Rattle.route_server.proofs.Running.{telling_on, telling_by, then_runs, then_breaks, runs_at, breaks_at, or_first, or_none, wants_round, idle_round, quiet_both, ok_is}
use Rattle.route_server.proofs.turning.round.Goals as goal

pub returns-in_err-written-clause-goes : goal.returns-in_err-written-clause-goes
returns-in_err-written-clause-goes g c =
    let is : c.from_residual.result ≡ Err c.in_err-written.field-0.0 = search rules in
    let tells = g.M.Fan.tells in
    let r0 = c.args.router.now in
    let w0 = c.args.waits.now in
    let mid = c.write_all.new in
    telling_by _ (tells c.args.fan.now) (tells mid.fan) (Matches r0) (Matches mid.router) c.args.k _ _
    (λ a b p. breaks_at (tells c.args.fan.now) (tells mid.fan) (Matches r0 a) (Matches mid.router b) c.args.k (targets_of r0) (first_port to_write w0 r0) (wanted w0 r0) w0 mid.waits c.in_err-written.field-0.0 _ is
    (λ v e. or_first (first_port to_write w0 r0) (first_port to_read w0 r0) v e) p) c.in_err-written.ensures.goes

pub returns-in_err-written-clause-idle : goal.returns-in_err-written-clause-idle
returns-in_err-written-clause-idle g c = λ none. c.write_all.ensures.idle (or_none _ _ none).0

pub read_all-requires-clause-targets : goal.read_all-requires-clause-targets
read_all-requires-clause-targets g c = c.write_all.ensures.targets ∙ (c.requires.targets ∙ sym c.write_all.ensures.same.targets)

pub returns-in_err-taken-clause-goes : goal.returns-in_err-taken-clause-goes
returns-in_err-taken-clause-goes g c =
    let is : c.from_residual-in_err-taken.result ≡ Err c.in_err-taken.field-0.0 = search rules in
    let tells = g.M.Fan.tells in
    let k = c.args.k in
    let x = c.in_err-taken.field-0.0 in
    let r0 = c.args.router.now in
    let w0 = c.args.waits.now in
    let mid = c.write_all.new in
    let new = c.read_all.new in
    let a = first_port to_write w0 r0 in
    let b = first_port to_read mid.waits mid.router in
    telling_on _ _ _ (tells c.args.fan.now) (tells mid.fan) (tells new.fan) (Matches r0) (Matches mid.router) (Matches new.router) k _ _ _ (λ xs ys. g.met.N.Notes.follows _ _ _ xs ys)
    (λ d e f p q. breaks_at (tells c.args.fan.now) (tells new.fan) (Matches r0 d) (Matches new.router f) k (targets_of r0) (or_else a b) (wanted w0 r0) w0 new.waits x _ is
    (λ v is_v. sym (wants_round r0 mid.router w0 mid.waits c.write_all.ensures.idle) ∙ is_v)
    (then_breaks (tells c.args.fan.now) (tells mid.fan) (tells new.fan) (Matches r0 d) (Matches mid.router e) (Matches new.router f) k (targets_of r0) a b c.in_ok-written.written w0 mid.waits x p q))
    c.in_ok-written.ensures.goes c.in_err-taken.ensures.goes

pub returns-in_err-taken-clause-idle : goal.returns-in_err-taken-clause-idle
returns-in_err-taken-clause-idle g c = idle_round c.args.router.now c.write_all.new.router c.read_all.new.router c.args.waits.now c.write_all.new.waits c.read_all.new.waits c.write_all.ensures.idle c.read_all.ensures.idle

pub returns-clause-goes : goal.returns-clause-goes
returns-clause-goes g c =
    let tells = g.M.Fan.tells in
    let k = c.args.k in
    let r0 = c.args.router.now in
    let w0 = c.args.waits.now in
    let mid = c.write_all.new in
    let new = c.read_all.new in
    let n = c.in_ok-written.written in
    let m = c.in_ok-taken.taken in
    let a = first_port to_write w0 r0 in
    let b = first_port to_read mid.waits mid.router in
    telling_on _ _ _ (tells c.args.fan.now) (tells mid.fan) (tells new.fan) (Matches r0) (Matches mid.router) (Matches new.router) k _ _ _ (λ xs ys. g.met.N.Notes.follows _ _ _ xs ys)
    (λ d e f p q.
    let second = runs_at (tells mid.fan) (tells new.fan) (Matches mid.router e) (Matches new.router f) k m (targets_of r0) (targets_of mid.router) b b mid.waits new.waits c.write_all.ensures.same.targets refl q in
    runs_at (tells c.args.fan.now) (tells new.fan) (Matches r0 d) (Matches new.router f) k (n + m) (targets_of r0) (targets_of r0) (or_else a b) (wanted w0 r0) w0 new.waits refl
    (wants_round r0 mid.router w0 mid.waits c.write_all.ensures.idle)
    (then_runs (tells c.args.fan.now) (tells mid.fan) (tells new.fan) (Matches r0 d) (Matches mid.router e) (Matches new.router f) k (targets_of r0) a b n m w0 mid.waits new.waits p second))
    c.in_ok-written.ensures.goes c.in_ok-taken.ensures.goes

pub returns-clause-idle : goal.returns-clause-idle
returns-clause-idle g c = idle_round c.args.router.now c.write_all.new.router c.read_all.new.router c.args.waits.now c.write_all.new.waits c.read_all.new.waits c.write_all.ensures.idle c.read_all.ensures.idle

pub returns-clause-quiet : goal.returns-clause-quiet
returns-clause-quiet g c =
    let mid = c.write_all.new in
    let new = c.read_all.new in
    let n = c.in_ok-written.written in
    let m = c.in_ok-taken.taken in
    λ e.
    let none : n + m ≡ 0 = ok_is _ _ _ refl e in
    let first : n ≡ 0 = omega (arith, none) in
    let second : m ≡ 0 = omega (arith, none) in
    quiet_both c.args.router.now mid.router new.router mid.waits new.waits c.read_all.ensures.marks (c.in_ok-written.ensures.quiet (ap Ok first)) (c.in_ok-taken.ensures.quiet (ap Ok second))
