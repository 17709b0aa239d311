use Rattle.std.proofs.Common.{rules, ◌≡◌, ◌⊎◌, inl, inr, true, length, refl, sym, ◌∙◌, subst, drop, take, ◌++◌}
use Rattle.std.proofs.lemmas.List.{take-append-le}
use Rattle.gate_hub.specs.Meaning.{Read}
use Rattle.gate_hub.specs.declared.hub.LinkGot.TheVariants as got
use Rattle.proxy_server.specs.Matching.{Matches, and_received}
use Rattle.proxy_server.specs.Turning.{wanted_read, read_waits}
use Rattle.proxy_server.proofs.Telling.{quietly}
use Rattle.proxy_server.proofs.Running.{goes_by, got_bytes, got_end, read_waited, read_failed, not_ended, leaves_out, read_wants, read_left_out, reads_first}
use Rattle.proxy_server.proofs.turning.read.Goals.{then-room-eq0-via-then-room-eq0, then-room-eq0-via-else-room-eq0+then-read}
use Rattle.proxy_server.proofs.turning.read.Goals as goal

pub returns-then-room-eq0-clause-goes : goal.returns-then-room-eq0-clause-goes
returns-then-room-eq0-clause-goes g c =
    let x = c.args.side in
    let w = c.args.waits.now in
    let s = c.args.session.now in
    let into = c.args.piece.now in
    let why : (c.min-room.result ≡ 0) ⊎ (read_waits w x ≡ true) =
    elim c.then-room-eq0.branch [
      | then-room-eq0-via-then-room-eq0 v ↦ inl v.if-room-eq0.true
      | then-room-eq0-via-else-room-eq0+then-read v ↦ inr (sym v.read.ensures ∙ v.if-read.true)
    ] in
    let matches = Matches _ g.J.Judge.rules s in
    let tells = g.H.Hub.tells c.args.hub.now in
    let notes = c.args.notes.now in
    quietly (g.N.Notes.tells notes notes) tells tells matches matches c.args.k _ (g.met.N.Notes.stays notes)
    (λ past. leaves_out tells (matches past) c.args.k (wanted_read (length into) x w s) w (read_left_out x w s into c.room.result c.min-room.result c.room.ensures.room c.min-room.ensures c.requires.some why))

pub returns-in-Bytes-clause-goes : goal.returns-in-Bytes-clause-goes
returns-in-Bytes-clause-goes g c =
    let k = c.args.k in
    let x = c.args.side in
    let n = c.in-Bytes.count in
    let w = c.args.waits.now in
    let s = c.args.session.now in
    let piece = c.args.piece.now in
    let matches = Matches _ g.J.Judge.rules s in
    let matches' = Matches _ g.J.Judge.rules c.give.new.session in
    let into = c.read-2.new.into in
    let asked = length (take c.min-room.result piece) in
    let some = c.in-Bytes.ensures.within in
    let wants = read_wants x w s piece c.room.result c.min-room.result c.room.ensures.room c.min-room.ensures c.if-room-eq0.false (sym c.if-read.ensures) c.requires.few in
    let call = Read k x asked (got.Bytes n) in
    let first = wanted_read (length piece) x w s in (
      c.give.ensures.matches.0,
      c.give.ensures.matches.1,
      λ past.
          let told = past ++ c.give.ensures.matches.0 in
          goes_by _ _ (matches past) (matches' told) k call _ _ (refl, wants.1) c.in-Bytes.ensures.leads
          (λ a b fit does. got_bytes k first call x into n w (matches past) (matches' told) a b (reads_first k x asked (got.Bytes n) first wants.0) some.0 some.1 (sym c.if-read.ensures)
          (λ h m. subst (λ xs. matches' told (and_received x h xs)) (take-append-le n into (drop c.min-room.result piece) some.1) (c.give.ensures.matches.2 past h m)) fit does),
    )

pub returns-in-End-clause-goes : goal.returns-in-End-clause-goes
returns-in-End-clause-goes g c =
    let k = c.args.k in
    let x = c.args.side in
    let w = c.args.waits.now in
    let s = c.args.session.now in
    let piece = c.args.piece.now in
    let matches = Matches _ g.J.Judge.rules s in
    let matches' = Matches _ g.J.Judge.rules c.finish.new.session in
    let asked = length (take c.min-room.result piece) in
    let wants = read_wants x w s piece c.room.result c.min-room.result c.room.ensures.room c.min-room.ensures c.if-room-eq0.false (sym c.if-read.ensures) c.requires.few in
    let call = Read k x asked got.End in
    let first = wanted_read (length piece) x w s in (
      c.finish.ensures.matches.0,
      c.finish.ensures.matches.1,
      λ past.
          let told = past ++ c.finish.ensures.matches.0 in
          goes_by _ _ (matches past) (matches' told) k call _ _ (refl, wants.1) c.in-End.ensures.leads
          (λ a b fit does. got_end k first call x c.read-2.new.into w (matches past) (matches' told) a b (reads_first k x asked got.End first wants.0) (not_ended x _ g.J.Judge.rules s past a fit (search rules)) (sym c.if-read.ensures) (c.finish.ensures.matches.2 past) fit does),
    )

pub returns-in-NotReady-clause-goes : goal.returns-in-NotReady-clause-goes
returns-in-NotReady-clause-goes g c =
    let k = c.args.k in
    let x = c.args.side in
    let w = c.args.waits.now in
    let s = c.args.session.now in
    let piece = c.args.piece.now in
    let matches = Matches _ g.J.Judge.rules s in
    let asked = length (take c.min-room.result piece) in
    let wants = read_wants x w s piece c.room.result c.min-room.result c.room.ensures.room c.min-room.ensures c.if-room-eq0.false (sym c.if-read.ensures) c.requires.few in
    let call = Read k x asked got.NotReady in
    let first = wanted_read (length piece) x w s in
    let notes = c.args.notes.now in
    quietly (g.N.Notes.tells notes notes) _ _ matches matches k _ (g.met.N.Notes.stays notes)
    (λ past. goes_by _ _ (matches past) (matches past) k call _ _ (refl, wants.1) c.in-NotReady.ensures.leads
    (λ a b fit does. read_waited k first call x c.read-2.new.into w c.mark_read.new.self (matches past) a b (reads_first k x asked got.NotReady first wants.0) c.mark_read.ensures fit does))

pub returns-in-Failed-clause-goes : goal.returns-in-Failed-clause-goes
returns-in-Failed-clause-goes g c =
    let k = c.args.k in
    let x = c.args.side in
    let w = c.args.waits.now in
    let s = c.args.session.now in
    let piece = c.args.piece.now in
    let matches = Matches _ g.J.Judge.rules s in
    let asked = length (take c.min-room.result piece) in
    let wants = read_wants x w s piece c.room.result c.min-room.result c.room.ensures.room c.min-room.ensures c.if-room-eq0.false (sym c.if-read.ensures) c.requires.few in
    let call = Read k x asked got.Failed in
    let first = wanted_read (length piece) x w s in
    let notes = c.args.notes.now in
    quietly (g.N.Notes.tells notes notes) _ _ matches matches k _ (g.met.N.Notes.stays notes)
    (λ past. goes_by _ _ (matches past) (matches past) k call _ _ (refl, wants.1) c.in-Failed.ensures.leads
    (λ a b fit does. read_failed k first call x c.read-2.new.into (matches past) a b (reads_first k x asked got.Failed first wants.0) (refl, refl, refl) fit does))
