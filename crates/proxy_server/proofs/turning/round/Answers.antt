use Rattle.std.proofs.Common.{rules, arith, ◌≡◌, ◌+◌, None, Err, refl, subst, ◌∙◌}
use Rattle.gate_hub.specs.declared.hub.Side.TheVariants as side
use Rattle.proxy_server.specs.Matching.{Matches}
use Rattle.proxy_server.specs.Turning.{GoesTelling, Runs, wanted, wanted_write, wanted_read, most_behind, or_else}
use Rattle.proxy_server.proofs.Telling.{then_runs, then_breaks, runs_at, breaks_at}
use Rattle.proxy_server.proofs.Running.{wants_two, wants_three, wants_four, idle_two, idle_three, idle_four, or_last}
use Rattle.proxy_server.proofs.turning.round.Goals as goal

pub returns-in_err-passed_on-clause-idle : goal.returns-in_err-passed_on-clause-idle
returns-in_err-passed_on-clause-idle g c = idle_two c.args.session.now c.write.new.session c.write-2.new.session c.args.waits.now c.write.new.waits c.write-2.new.waits c.write.ensures.idle c.write-2.ensures.idle

pub returns-in_err-passed_on-clause-goes : goal.returns-in_err-passed_on-clause-goes
returns-in_err-passed_on-clause-goes g c =
    let is : c.from_residual-in_err-passed_on.result ≡ Err c.in_err-passed_on.field-0.0 = search rules in
    let tells = g.H.Hub.tells in
    let says = g.N.Notes.tells in
    let follows = g.met.N.Notes.follows in
    let matches = Matches _ g.J.Judge.rules in
    let k = c.args.k in
    let x = c.in_err-passed_on.field-0.0 in
    let s0 = c.args.session.now in
    let w0 = c.args.waits.now in
    let a = wanted_write side.Client w0 s0.standing in
    let b = wanted_write side.Upstream c.write.new.waits c.write.new.session.standing in
    breaks_at (says c.args.notes.now c.write-2.new.notes) (tells c.args.hub.now) (tells c.write-2.new.hub) (matches s0) (matches c.write-2.new.session) k (or_else a b) _ (wanted w0 s0) w0 c.write-2.new.waits x _ is
    (wants_two s0 c.write.new.session w0 c.write.new.waits c.write.ensures.idle)
    (then_breaks says follows c.args.notes.now c.write.new.notes c.write-2.new.notes (tells c.args.hub.now) (tells c.write.new.hub) (tells c.write-2.new.hub) (matches s0) (matches c.write.new.session) (matches c.write-2.new.session) k a b c.in_ok-written.written w0 c.write.new.waits x
    c.in_ok-written.ensures.goes c.in_err-passed_on.ensures.goes)

pub returns-in_err-answered-clause-idle : goal.returns-in_err-answered-clause-idle
returns-in_err-answered-clause-idle g c =
    let n = most_behind c.write-2.new.session.standing.to_client in
    idle_three c.args.session.now c.write.new.session c.write-2.new.session c.read_behind.new.session c.args.waits.now c.write.new.waits c.write-2.new.waits c.read_behind.new.waits n c.write.ensures.idle c.write-2.ensures.idle refl c.read_behind.ensures.idle

pub returns-in_err-answered-clause-goes : goal.returns-in_err-answered-clause-goes
returns-in_err-answered-clause-goes g c =
    let is : c.from_residual-in_err-answered.result ≡ Err c.in_err-answered.field-0.0 = search rules in
    let tells = g.H.Hub.tells in
    let says = g.N.Notes.tells in
    let follows = g.met.N.Notes.follows in
    let matches = Matches _ g.J.Judge.rules in
    let k = c.args.k in
    let x = c.in_err-answered.field-0.0 in
    let s0 = c.args.session.now in
    let w0 = c.args.waits.now in
    let n = most_behind c.write-2.new.session.standing.to_client in
    let a = wanted_write side.Client w0 s0.standing in
    let b = wanted_write side.Upstream c.write.new.waits c.write.new.session.standing in
    let d = wanted_read n side.Upstream c.write-2.new.waits c.write-2.new.session in
    breaks_at (says c.args.notes.now c.read_behind.new.notes) (tells c.args.hub.now) (tells c.read_behind.new.hub) (matches s0) (matches c.read_behind.new.session) k (or_else a (or_else b d)) _ (wanted w0 s0) w0 c.read_behind.new.waits x _ is
    (wants_three s0 c.write.new.session c.write-2.new.session w0 c.write.new.waits c.write-2.new.waits n c.write.ensures.idle c.write-2.ensures.idle refl)
    (then_breaks says follows c.args.notes.now c.write.new.notes c.read_behind.new.notes (tells c.args.hub.now) (tells c.write.new.hub) (tells c.read_behind.new.hub) (matches s0) (matches c.write.new.session) (matches c.read_behind.new.session) k a (or_else b d) c.in_ok-written.written w0 c.write.new.waits x
    c.in_ok-written.ensures.goes
    (then_breaks says follows c.write.new.notes c.write-2.new.notes c.read_behind.new.notes (tells c.write.new.hub) (tells c.write-2.new.hub) (tells c.read_behind.new.hub) (matches c.write.new.session) (matches c.write-2.new.session) (matches c.read_behind.new.session) k b d c.in_ok-passed_on.passed_on c.write.new.waits c.write-2.new.waits x
    c.in_ok-passed_on.ensures.goes c.in_err-answered.ensures.goes))

pub returns-in_err-taken-clause-idle : goal.returns-in_err-taken-clause-idle
returns-in_err-taken-clause-idle g c =
    let n = most_behind c.write-2.new.session.standing.to_client in
    let n' = most_behind c.read_behind.new.session.standing.to_upstream in
    idle_four c.args.session.now c.write.new.session c.write-2.new.session c.read_behind.new.session c.read_behind-2.new.session c.args.waits.now c.write.new.waits c.write-2.new.waits c.read_behind.new.waits c.read_behind-2.new.waits n n'
    (record { one = c.write.ensures.idle; two = c.write-2.ensures.idle; three = c.read_behind.ensures.idle; reads = refl; reads_last = refl }) c.read_behind-2.ensures.idle

pub returns-clause-idle : goal.returns-clause-idle
returns-clause-idle g c =
    let n = most_behind c.write-2.new.session.standing.to_client in
    let n' = most_behind c.read_behind.new.session.standing.to_upstream in
    idle_four c.args.session.now c.write.new.session c.write-2.new.session c.read_behind.new.session c.read_behind-2.new.session c.args.waits.now c.write.new.waits c.write-2.new.waits c.read_behind.new.waits c.read_behind-2.new.waits n n'
    (record { one = c.write.ensures.idle; two = c.write-2.ensures.idle; three = c.read_behind.ensures.idle; reads = refl; reads_last = refl }) c.read_behind-2.ensures.idle

pub returns-in_err-taken-clause-goes : goal.returns-in_err-taken-clause-goes
returns-in_err-taken-clause-goes g c =
    let is : c.from_residual-in_err-taken.result ≡ Err c.in_err-taken.field-0.0 = search rules in
    let tells = g.H.Hub.tells in
    let says = g.N.Notes.tells in
    let follows = g.met.N.Notes.follows in
    let matches = Matches _ g.J.Judge.rules in
    let k = c.args.k in
    let x = c.in_err-taken.field-0.0 in
    let s0 = c.args.session.now in
    let w0 = c.args.waits.now in
    let n = most_behind c.write-2.new.session.standing.to_client in
    let n' = most_behind c.read_behind.new.session.standing.to_upstream in
    let a = wanted_write side.Client w0 s0.standing in
    let b = wanted_write side.Upstream c.write.new.waits c.write.new.session.standing in
    let d = wanted_read n side.Upstream c.write-2.new.waits c.write-2.new.session in
    let e = wanted_read n' side.Client c.read_behind.new.waits c.read_behind.new.session in
    breaks_at (says c.args.notes.now c.read_behind-2.new.notes) (tells c.args.hub.now) (tells c.read_behind-2.new.hub) (matches s0) (matches c.read_behind-2.new.session) k (or_else a (or_else b (or_else d e))) None (wanted w0 s0) w0 c.read_behind-2.new.waits x _ is
    (or_last _ ∙ wants_four s0 c.write.new.session c.write-2.new.session c.read_behind.new.session w0 c.write.new.waits c.write-2.new.waits c.read_behind.new.waits n n' (record { one = c.write.ensures.idle; two = c.write-2.ensures.idle; three = c.read_behind.ensures.idle; reads = refl; reads_last = refl }))
    (then_breaks says follows c.args.notes.now c.write.new.notes c.read_behind-2.new.notes (tells c.args.hub.now) (tells c.write.new.hub) (tells c.read_behind-2.new.hub) (matches s0) (matches c.write.new.session) (matches c.read_behind-2.new.session) k a (or_else b (or_else d e)) c.in_ok-written.written w0 c.write.new.waits x
    c.in_ok-written.ensures.goes
    (then_breaks says follows c.write.new.notes c.write-2.new.notes c.read_behind-2.new.notes (tells c.write.new.hub) (tells c.write-2.new.hub) (tells c.read_behind-2.new.hub) (matches c.write.new.session) (matches c.write-2.new.session) (matches c.read_behind-2.new.session) k b (or_else d e) c.in_ok-passed_on.passed_on c.write.new.waits c.write-2.new.waits x
    c.in_ok-passed_on.ensures.goes
    (then_breaks says follows c.write-2.new.notes c.read_behind.new.notes c.read_behind-2.new.notes (tells c.write-2.new.hub) (tells c.read_behind.new.hub) (tells c.read_behind-2.new.hub) (matches c.write-2.new.session) (matches c.read_behind.new.session) (matches c.read_behind-2.new.session) k d e c.in_ok-answered.answered c.write-2.new.waits c.read_behind.new.waits x
    c.in_ok-answered.ensures.goes c.in_err-taken.ensures.goes)))

pub returns-clause-goes : goal.returns-clause-goes
returns-clause-goes g c =
    let tells = g.H.Hub.tells in
    let says = g.N.Notes.tells in
    let follows = g.met.N.Notes.follows in
    let matches = Matches _ g.J.Judge.rules in
    let k = c.args.k in
    let s0 = c.args.session.now in
    let w0 = c.args.waits.now in
    let n = most_behind c.write-2.new.session.standing.to_client in
    let n' = most_behind c.read_behind.new.session.standing.to_upstream in
    let a = wanted_write side.Client w0 s0.standing in
    let b = wanted_write side.Upstream c.write.new.waits c.write.new.session.standing in
    let d = wanted_read n side.Upstream c.write-2.new.waits c.write-2.new.session in
    let e = wanted_read n' side.Client c.read_behind.new.waits c.read_behind.new.session in
    let sum : c.in_ok-written.written + (c.in_ok-passed_on.passed_on + (c.in_ok-answered.answered + c.in_ok-taken.taken)) ≡ c.in_ok-written.written + c.in_ok-passed_on.passed_on + c.in_ok-answered.answered + c.in_ok-taken.taken = omega arith in
    subst (λ m. GoesTelling (says c.args.notes.now c.read_behind-2.new.notes) (tells c.args.hub.now) (tells c.read_behind-2.new.hub) (matches s0) (matches c.read_behind-2.new.session) k (Runs k (wanted w0 s0) m w0 c.read_behind-2.new.waits)) sum
    (runs_at (says c.args.notes.now c.read_behind-2.new.notes) (tells c.args.hub.now) (tells c.read_behind-2.new.hub) (matches s0) (matches c.read_behind-2.new.session) k (or_else a (or_else b (or_else d e))) (wanted w0 s0) _ w0 c.read_behind-2.new.waits
    (wants_four s0 c.write.new.session c.write-2.new.session c.read_behind.new.session w0 c.write.new.waits c.write-2.new.waits c.read_behind.new.waits n n' (record { one = c.write.ensures.idle; two = c.write-2.ensures.idle; three = c.read_behind.ensures.idle; reads = refl; reads_last = refl }))
    (then_runs says follows c.args.notes.now c.write.new.notes c.read_behind-2.new.notes (tells c.args.hub.now) (tells c.write.new.hub) (tells c.read_behind-2.new.hub) (matches s0) (matches c.write.new.session) (matches c.read_behind-2.new.session) k a (or_else b (or_else d e)) c.in_ok-written.written _ w0 c.write.new.waits c.read_behind-2.new.waits
    c.in_ok-written.ensures.goes
    (then_runs says follows c.write.new.notes c.write-2.new.notes c.read_behind-2.new.notes (tells c.write.new.hub) (tells c.write-2.new.hub) (tells c.read_behind-2.new.hub) (matches c.write.new.session) (matches c.write-2.new.session) (matches c.read_behind-2.new.session) k b (or_else d e) c.in_ok-passed_on.passed_on _ c.write.new.waits c.write-2.new.waits c.read_behind-2.new.waits
    c.in_ok-passed_on.ensures.goes
    (then_runs says follows c.write-2.new.notes c.read_behind.new.notes c.read_behind-2.new.notes (tells c.write-2.new.hub) (tells c.read_behind.new.hub) (tells c.read_behind-2.new.hub) (matches c.write-2.new.session) (matches c.read_behind.new.session) (matches c.read_behind-2.new.session) k d e c.in_ok-answered.answered c.in_ok-taken.taken c.write-2.new.waits c.read_behind.new.waits c.read_behind-2.new.waits
    c.in_ok-answered.ensures.goes c.in_ok-taken.ensures.goes))))

pub returns-in_err-written-clause-goes : goal.returns-in_err-written-clause-goes
returns-in_err-written-clause-goes g c =
    let is : c.from_residual.result ≡ Err c.in_err-written.field-0.0 = search rules in
    let matches = Matches _ g.J.Judge.rules in
    let k = c.args.k in
    let s0 = c.args.session.now in
    let w0 = c.args.waits.now in
    let rest = or_else (wanted_write side.Upstream w0 s0.standing) (or_else (wanted_read (most_behind s0.standing.to_client) side.Upstream w0 s0) (wanted_read (most_behind s0.standing.to_upstream) side.Client w0 s0)) in
    breaks_at (g.N.Notes.tells c.args.notes.now c.write.new.notes) (g.H.Hub.tells c.args.hub.now) (g.H.Hub.tells c.write.new.hub) (matches s0) (matches c.write.new.session) k (wanted_write side.Client w0 s0.standing) rest (wanted w0 s0) w0 c.write.new.waits c.in_err-written.field-0.0 _ is refl c.in_err-written.ensures.goes
