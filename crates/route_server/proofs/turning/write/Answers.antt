use Rattle.std.proofs.Common.{rules, arith, ◌≡◌, ◌⊎◌, ◌==◌, inl, inr, true, length, ◌++◌, refl, ap, sym, ◌∙◌, subst, take}
use Rattle.gate_fan.specs.Meaning.{Wrote}
use Rattle.gate_hub.specs.declared.hub.LinkPut.TheVariants as put
use Rattle.service_router.specs.Standing.{and_sent}
use Rattle.service_router.specs.Router.{targets_of}
use Rattle.route_server.specs.Matching.{Matches}
use Rattle.route_server.specs.Turning.{to_write, write_waits}
use Rattle.route_server.proofs.Running.{telling_none, goes_by, took, write_waited, write_failed, take_of_front, leaves_out, write_wants, write_left_out, writes_first}
use Rattle.route_server.proofs.turning.write.Goals.{then-is_empty-via-then-is_empty, then-is_empty-via-else-is_empty+then-write}
use Rattle.route_server.proofs.turning.write.Goals as goal

pub returns-then-is_empty-clause-goes : goal.returns-then-is_empty-clause-goes
returns-then-is_empty-clause-goes g c =
    let x = c.args.port in
    let w = c.args.waits.now in
    let r = c.args.router.now in
    let due = c.due-due.result.now in
    let why : ((length due == 0) ≡ true) ⊎ (write_waits w x ≡ true) =
    elim c.then-is_empty.branch [
      | then-is_empty-via-then-is_empty v ↦ inl (sym c.is_empty.ensures ∙ v.if-is_empty.true)
      | then-is_empty-via-else-is_empty+then-write v ↦ inr (sym v.write.ensures ∙ v.if-write.true)
    ] in
    telling_none _ _ _ (Matches r) (Matches r) c.args.k _ (g.met.N.Notes.stays _)
    (λ past. leaves_out (g.M.Fan.tells c.args.fan.now) (Matches r past) c.args.k (targets_of r) (to_write x w r) w (write_left_out x w r due c.due-due.ensures.bytes why))

pub returns-in-Took-clause-goes : goal.returns-in-Took-clause-goes
returns-in-Took-clause-goes g c =
    let k = c.args.k in
    let x = c.args.port in
    let n = c.in-Took.count in
    let w = c.args.waits.now in
    let r = c.args.router.now in
    let r' = c.pass_on.new.router in
    let due = c.due-due.result.now in
    let from = take c.min-count.result due in
    let same = take_of_front n c.min-count.result due (search rules) ∙ ap (take n) c.due-due.ensures.bytes in
    let wants = write_wants x w r due c.min-count.result c.due-due.ensures.bytes (sym c.if-is_empty.ensures) (sym c.if-write.ensures) c.min-count.ensures in
    let first = to_write x w r in
    let call = Wrote k x (length from) (put.Took n) in
    let m = c.pass_on.ensures.matches in (
      m.0,
      m.1,
      λ past. goes_by _ _ (Matches r past) (Matches r' (past ++ m.0)) k x _ call _ _ (omega (arith, c.requires.port, c.requires.targets)) (refl, wants.1) c.in-Took.ensures.leads
          (λ a b fit does. took k (targets_of r) first call x from n w r r' past (past ++ m.0) a b (writes_first k x (length from) (put.Took n) first wants.0) c.requires.port c.in-Took.ensures.within.0 c.in-Took.ensures.within.1 (sym c.if-write.ensures)
          (λ h q. subst (λ xs. Matches r' (past ++ m.0) (and_sent x h xs)) (sym same) (m.2 past h q)) fit does),
    )

pub returns-in-NotReady-clause-goes : goal.returns-in-NotReady-clause-goes
returns-in-NotReady-clause-goes g c =
    let k = c.args.k in
    let x = c.args.port in
    let w = c.args.waits.now in
    let r = c.args.router.now in
    let due = c.due-due.result.now in
    let from = take c.min-count.result due in
    let wants = write_wants x w r due c.min-count.result c.due-due.ensures.bytes (sym c.if-is_empty.ensures) (sym c.if-write.ensures) c.min-count.ensures in
    let first = to_write x w r in
    let call = Wrote k x (length from) put.NotReady in
    telling_none _ _ _ (Matches r) (Matches r) k _ (g.met.N.Notes.stays _)
    (λ past. goes_by _ _ (Matches r past) (Matches r past) k x _ call _ _ (omega (arith, c.requires.port, c.requires.targets)) (refl, wants.1) c.in-NotReady.ensures.leads
    (λ a b fit does. write_waited k (targets_of r) first call x from w c.mark_write.new.self r past a b (writes_first k x (length from) put.NotReady first wants.0) c.requires.port c.mark_write.ensures fit does))

pub returns-in-Failed-clause-goes : goal.returns-in-Failed-clause-goes
returns-in-Failed-clause-goes g c =
    let k = c.args.k in
    let x = c.args.port in
    let w = c.args.waits.now in
    let r = c.args.router.now in
    let due = c.due-due.result.now in
    let from = take c.min-count.result due in
    let wants = write_wants x w r due c.min-count.result c.due-due.ensures.bytes (sym c.if-is_empty.ensures) (sym c.if-write.ensures) c.min-count.ensures in
    let first = to_write x w r in
    let call = Wrote k x (length from) put.Failed in
    telling_none _ _ _ (Matches r) (Matches r) k _ (g.met.N.Notes.stays _)
    (λ past. goes_by _ _ (Matches r past) (Matches r past) k x _ call _ _ (omega (arith, c.requires.port, c.requires.targets)) (refl, wants.1) c.in-Failed.ensures.leads
    (λ a b fit does. write_failed k first call x from r past a b (writes_first k x (length from) put.Failed first wants.0) (refl, refl, refl) fit does))
