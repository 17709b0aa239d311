use Rattle.std.proofs.Common.{rules, arith, ◌≡◌, ◌⊎◌, inl, inr, true, length, ◌++◌, refl, sym, ◌∙◌, subst, drop, take}
use Rattle.std.proofs.lemmas.List.{take-append-le}
use Rattle.gate_fan.specs.Meaning.{Read}
use Rattle.gate_hub.specs.declared.hub.LinkGot.TheVariants as got
use Rattle.service_router.specs.Standing.{and_received}
use Rattle.service_router.specs.Router.{targets_of}
use Rattle.route_server.specs.Matching.{Matches}
use Rattle.route_server.specs.Turning.{to_read, read_waits}
use Rattle.route_server.proofs.Running.{telling_none, goes_by, got_bytes, got_end, read_waited, read_failed, not_ended, leaves_out, read_wants, read_left_out, reads_first}
use Rattle.route_server.proofs.turning.read.Goals.{then-room-eq0-via-then-room-eq0, then-room-eq0-via-else-room-eq0+then-read}
use Rattle.route_server.proofs.turning.read.Goals as goal

pub returns-then-room-eq0-clause-goes : goal.returns-then-room-eq0-clause-goes
returns-then-room-eq0-clause-goes g c =
    let x = c.args.port in
    let w = c.args.waits.now in
    let r = c.args.router.now in
    let why : (c.min-room.result ≡ 0) ⊎ (read_waits w x ≡ true) =
    elim c.then-room-eq0.branch [
      | then-room-eq0-via-then-room-eq0 v ↦ inl v.if-room-eq0.true
      | then-room-eq0-via-else-room-eq0+then-read v ↦ inr (sym v.read.ensures ∙ v.if-read.true)
    ] in
    telling_none _ _ _ (Matches r) (Matches r) c.args.k _ (g.met.N.Notes.stays _)
    (λ past. leaves_out (g.M.Fan.tells c.args.fan.now) (Matches r past) c.args.k (targets_of r) (to_read x w r) w (read_left_out x w r c.room.result c.min-room.result c.room.ensures.room c.min-room.ensures why))

pub returns-in-Bytes-clause-goes : goal.returns-in-Bytes-clause-goes
returns-in-Bytes-clause-goes g c =
    let k = c.args.k in
    let x = c.args.port in
    let n = c.in-Bytes.count in
    let w = c.args.waits.now in
    let r = c.args.router.now in
    let r' = c.give.new.router in
    let piece = c.args.piece.now in
    let into = c.read-2.new.into in
    let asked = length (take c.min-room.result piece) in
    let some = c.in-Bytes.ensures.within in
    let wants = read_wants x w r piece c.room.result c.min-room.result c.room.ensures.room c.min-room.ensures c.if-room-eq0.false (sym c.if-read.ensures) c.requires.piece in
    let first = to_read x w r in
    let call = Read k x asked (got.Bytes n) in
    let m = c.give.ensures.matches in (
      m.0,
      m.1,
      λ past. goes_by _ _ (Matches r past) (Matches r' (past ++ m.0)) k x _ call _ _ (omega (arith, c.requires.port, c.requires.targets)) (refl, wants.1) c.in-Bytes.ensures.leads
          (λ a b fit does. got_bytes k (targets_of r) first call x into n w r r' past (past ++ m.0) a b (reads_first k x asked (got.Bytes n) first wants.0) c.requires.port some.0 some.1 (sym c.if-read.ensures)
          (λ h q. subst (λ xs. Matches r' (past ++ m.0) (and_received x h xs)) (take-append-le n into (drop c.min-room.result piece) some.1) (m.2 past h q)) fit does),
    )

pub returns-in-End-clause-goes : goal.returns-in-End-clause-goes
returns-in-End-clause-goes g c =
    let k = c.args.k in
    let x = c.args.port in
    let w = c.args.waits.now in
    let r = c.args.router.now in
    let r' = c.finish.new.router in
    let piece = c.args.piece.now in
    let asked = length (take c.min-room.result piece) in
    let wants = read_wants x w r piece c.room.result c.min-room.result c.room.ensures.room c.min-room.ensures c.if-room-eq0.false (sym c.if-read.ensures) c.requires.piece in
    let first = to_read x w r in
    let call = Read k x asked got.End in
    let m = c.finish.ensures.matches in (
      m.0,
      m.1,
      λ past. goes_by _ _ (Matches r past) (Matches r' (past ++ m.0)) k x _ call _ _ (omega (arith, c.requires.port, c.requires.targets)) (refl, wants.1) c.in-End.ensures.leads
          (λ a b fit does. got_end k (targets_of r) first call x c.read-2.new.into w r r' past (past ++ m.0) a b (reads_first k x asked got.End first wants.0) c.requires.port (not_ended x r past a fit (search rules)) (sym c.if-read.ensures) (m.2 past) fit does),
    )

pub returns-in-NotReady-clause-goes : goal.returns-in-NotReady-clause-goes
returns-in-NotReady-clause-goes g c =
    let k = c.args.k in
    let x = c.args.port in
    let w = c.args.waits.now in
    let r = c.args.router.now in
    let piece = c.args.piece.now in
    let asked = length (take c.min-room.result piece) in
    let wants = read_wants x w r piece c.room.result c.min-room.result c.room.ensures.room c.min-room.ensures c.if-room-eq0.false (sym c.if-read.ensures) c.requires.piece in
    let first = to_read x w r in
    let call = Read k x asked got.NotReady in
    telling_none _ _ _ (Matches r) (Matches r) k _ (g.met.N.Notes.stays _)
    (λ past. goes_by _ _ (Matches r past) (Matches r past) k x _ call _ _ (omega (arith, c.requires.port, c.requires.targets)) (refl, wants.1) c.in-NotReady.ensures.leads
    (λ a b fit does. read_waited k (targets_of r) first call x c.read-2.new.into w c.mark_read.new.self r past a b (reads_first k x asked got.NotReady first wants.0) c.requires.port c.mark_read.ensures fit does))

pub returns-in-Failed-clause-goes : goal.returns-in-Failed-clause-goes
returns-in-Failed-clause-goes g c =
    let k = c.args.k in
    let x = c.args.port in
    let w = c.args.waits.now in
    let r = c.args.router.now in
    let piece = c.args.piece.now in
    let asked = length (take c.min-room.result piece) in
    let wants = read_wants x w r piece c.room.result c.min-room.result c.room.ensures.room c.min-room.ensures c.if-room-eq0.false (sym c.if-read.ensures) c.requires.piece in
    let first = to_read x w r in
    let call = Read k x asked got.Failed in
    telling_none _ _ _ (Matches r) (Matches r) k _ (g.met.N.Notes.stays _)
    (λ past. goes_by _ _ (Matches r past) (Matches r past) k x _ call _ _ (omega (arith, c.requires.port, c.requires.targets)) (refl, wants.1) c.in-Failed.ensures.leads
    (λ a b fit does. read_failed k first call x c.read-2.new.into r past a b (reads_first k x asked got.Failed first wants.0) (refl, refl, refl) fit does))
