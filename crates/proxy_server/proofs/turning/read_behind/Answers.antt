use Rattle.std.proofs.Common.{◌≡◌, length, take, ap, sym, ◌∙◌, subst, inr}
use Rattle.session_core.specs.Session.{due_to}
use Rattle.proxy_server.specs.Matching.{Matches}
use Rattle.proxy_server.specs.Turning.{GoesTelling, CallDoes, wanted_read, most_behind, other}
use Rattle.proxy_server.proofs.Running.{Idle, leaves_out, most_length, read_is_left}
use Rattle.proxy_server.proofs.Telling.{quietly}
use Rattle.proxy_server.proofs.turning.read_behind.Goals as goal

pub returns-then-read-clause-goes : goal.returns-then-read-clause-goes
returns-then-read-clause-goes g c =
    let x = c.args.side in
    let w = c.args.waits.now in
    let s = c.args.session.now in
    let most = most_behind (due_to (other x) s.standing) in
    let matches = Matches _ g.J.Judge.rules s in
    let tells = g.H.Hub.tells c.args.hub.now in
    let notes = c.args.notes.now in
    quietly (g.N.Notes.tells notes notes) tells tells matches matches c.args.k _ (g.met.N.Notes.stays notes)
    (λ past. leaves_out tells (matches past) c.args.k (wanted_read most x w s) w (read_is_left most x w s (inr (sym c.read.ensures ∙ c.if-read.true))))

pub returns-clause-goes : goal.returns-clause-goes
returns-clause-goes g c =
    let tells = g.H.Hub.tells in
    let matches = Matches _ g.J.Judge.rules in
    let x = c.args.side in
    let s = c.args.session.now in
    let w = c.args.waits.now in
    let piece = c.args.piece.now in
    let most = c.most_read-most.result in
    let n : length (take most piece) ≡ most_behind (due_to (other x) s.standing) =
    most_length piece c.due-due.result.now most c.requires c.most_read-most.ensures ∙ ap most_behind (c.due-due.ensures.bytes ∙ ap (λ y. due_to y s.standing) c.other.ensures) in
    subst (λ m. GoesTelling (g.N.Notes.tells c.args.notes.now c.read-2.new.notes) (tells c.args.hub.now) (tells c.read-2.new.hub) (matches s) (matches c.read-2.new.session) c.args.k (CallDoes c.args.k (wanted_read m x w s) c.read-2.result w c.read-2.new.waits)) n c.read-2.ensures.goes

pub returns-clause-idle : goal.returns-clause-idle
returns-clause-idle g c =
    let x = c.args.side in
    let s = c.args.session.now in
    let w = c.args.waits.now in
    let piece = c.args.piece.now in
    let most = c.most_read-most.result in
    let n : length (take most piece) ≡ most_behind (due_to (other x) s.standing) =
    most_length piece c.due-due.result.now most c.requires c.most_read-most.ensures ∙ ap most_behind (c.due-due.ensures.bytes ∙ ap (λ y. due_to y s.standing) c.other.ensures) in
    subst (λ m. Idle (wanted_read m x w s) s c.read-2.new.session w c.read-2.new.waits) n c.read-2.ensures.idle
