use Rattle.std.proofs.Common.{rules, ◌≡◌, ◌⊎◌, ◌==◌, inl, inr, true, length, refl, ap, sym, ◌∙◌, subst, take, ◌++◌}
use Rattle.gate_hub.specs.Meaning.{Wrote}
use Rattle.gate_hub.specs.declared.hub.LinkPut.TheVariants as put
use Rattle.session_core.specs.Session.{and_sent}
use Rattle.proxy_server.specs.Matching.{Matches}
use Rattle.proxy_server.specs.Turning.{wanted_write, write_waits}
use Rattle.proxy_server.proofs.Telling.{quietly}
use Rattle.proxy_server.proofs.Running.{goes_by, took, write_waited, write_failed, take_of_front, leaves_out, write_wants, write_left_out, writes_first}
use Rattle.proxy_server.proofs.turning.write.Goals.{then-is_empty-via-then-is_empty, then-is_empty-via-else-is_empty+then-write}
use Rattle.proxy_server.proofs.turning.write.Goals as goal

pub returns-then-is_empty-clause-goes : goal.returns-then-is_empty-clause-goes
returns-then-is_empty-clause-goes g c =
    let x = c.args.side in
    let w = c.args.waits.now in
    let due = c.due-due.result.now in
    let why : ((length due == 0) ≡ true) ⊎ (write_waits w x ≡ true) =
    elim c.then-is_empty.branch [
      | then-is_empty-via-then-is_empty v ↦ inl (sym c.is_empty.ensures ∙ v.if-is_empty.true)
      | then-is_empty-via-else-is_empty+then-write v ↦ inr (sym v.write.ensures ∙ v.if-write.true)
    ] in
    let matches = Matches _ g.J.Judge.rules c.args.session.now in
    let tells = g.H.Hub.tells c.args.hub.now in
    let notes = c.args.notes.now in
    quietly (g.N.Notes.tells notes notes) tells tells matches matches c.args.k _ (g.met.N.Notes.stays notes)
    (λ past. leaves_out tells (matches past) c.args.k (wanted_write x w c.args.session.now.standing) w (write_left_out x w c.args.session.now.standing due c.due-due.ensures.bytes why))

pub returns-in-Took-clause-goes : goal.returns-in-Took-clause-goes
returns-in-Took-clause-goes g c =
    let k = c.args.k in
    let x = c.args.side in
    let n = c.in-Took.count in
    let w = c.args.waits.now in
    let s = c.args.session.now.standing in
    let due = c.due-due.result.now in
    let matches = Matches _ g.J.Judge.rules c.args.session.now in
    let matches' = Matches _ g.J.Judge.rules c.pass_on.new.session in
    let from = take c.min-count.result due in
    let same = take_of_front n c.min-count.result due (search rules) ∙ ap (take n) c.due-due.ensures.bytes in
    let wants = write_wants x w s due c.min-count.result c.due-due.ensures.bytes (sym c.if-is_empty.ensures) (sym c.if-write.ensures) c.min-count.ensures in
    let call = Wrote k x (length from) (put.Took n) in (
      c.pass_on.ensures.matches.0,
      c.pass_on.ensures.matches.1,
      λ past.
          let told = past ++ c.pass_on.ensures.matches.0 in
          goes_by _ _ (matches past) (matches' told) k call _ _ (refl, wants.1) c.in-Took.ensures.leads
          (λ a b fit does. took k (wanted_write x w s) call x from n w (matches past) (matches' told) a b (writes_first k x (length from) (put.Took n) (wanted_write x w s) wants.0) c.in-Took.ensures.within.0 c.in-Took.ensures.within.1 (sym c.if-write.ensures)
          (λ h m. subst (λ xs. matches' told (and_sent x h xs)) (sym same) (c.pass_on.ensures.matches.2 past h m)) fit does),
    )

pub returns-in-NotReady-clause-goes : goal.returns-in-NotReady-clause-goes
returns-in-NotReady-clause-goes g c =
    let k = c.args.k in
    let x = c.args.side in
    let w = c.args.waits.now in
    let s = c.args.session.now.standing in
    let due = c.due-due.result.now in
    let from = take c.min-count.result due in
    let matches = Matches _ g.J.Judge.rules c.args.session.now in
    let wants = write_wants x w s due c.min-count.result c.due-due.ensures.bytes (sym c.if-is_empty.ensures) (sym c.if-write.ensures) c.min-count.ensures in
    let call = Wrote k x (length from) put.NotReady in
    let notes = c.args.notes.now in
    quietly (g.N.Notes.tells notes notes) _ _ matches matches k _ (g.met.N.Notes.stays notes)
    (λ past. goes_by _ _ (matches past) (matches past) k call _ _ (refl, wants.1) c.in-NotReady.ensures.leads
    (λ a b fit does. write_waited k (wanted_write x w s) call x from w c.mark_write.new.self (matches past) a b (writes_first k x (length from) put.NotReady (wanted_write x w s) wants.0) c.mark_write.ensures fit does))

pub returns-in-Failed-clause-goes : goal.returns-in-Failed-clause-goes
returns-in-Failed-clause-goes g c =
    let k = c.args.k in
    let x = c.args.side in
    let w = c.args.waits.now in
    let s = c.args.session.now.standing in
    let due = c.due-due.result.now in
    let from = take c.min-count.result due in
    let matches = Matches _ g.J.Judge.rules c.args.session.now in
    let wants = write_wants x w s due c.min-count.result c.due-due.ensures.bytes (sym c.if-is_empty.ensures) (sym c.if-write.ensures) c.min-count.ensures in
    let call = Wrote k x (length from) put.Failed in
    let notes = c.args.notes.now in
    quietly (g.N.Notes.tells notes notes) _ _ matches matches k _ (g.met.N.Notes.stays notes)
    (λ past. goes_by _ _ (matches past) (matches past) k call _ _ (refl, wants.1) c.in-Failed.ensures.leads
    (λ a b fit does. write_failed k (wanted_write x w s) call x from (matches past) a b (writes_first k x (length from) put.Failed (wanted_write x w s) wants.0) (refl, refl, refl) fit does))
