use Rattle.std.proofs.Common.{take, ap}
use Rattle.session_core.specs.Session.{and_sent}
use Rattle.session_core.specs.Working.{limit_of, half_of}
use Rattle.session_core.proofs.Keeping.{keeps_left, keeps_on, works_on, settled_on, fits_through, fits_quietly, fits_sent}
use Rattle.session_core.specs.declared.half.Half.{Half}
use Rattle.session_core.proofs.Resting.{owes, rests_owing}
use Rattle.session_core.proofs.state.State.sent.Goals as goal

pub settle-requires : goal.settle-requires
settle-requires g c =
    let rules = g.J.Judge.rules c.args.judge.now in
    let longest = g.J.Judge.longest c.args.judge.now in
    record { works = works_on rules longest c.args.self.now c.let_go.new.self c.requires.works (keeps_left c.args.side rules longest c.args.self.now c.let_go.new.self c.args.n c.let_go.ensures c.requires.works) }

pub returns-then-is_paid-clause-keeps : goal.returns-then-is_paid-clause-keeps
returns-then-is_paid-clause-keeps g c =
    let rules = g.J.Judge.rules c.args.judge.now in
    keeps_on rules c.args.self.now c.let_go.new.self c.settle.new.self (keeps_left c.args.side rules (g.J.Judge.longest c.args.judge.now) c.args.self.now c.let_go.new.self c.args.n c.let_go.ensures c.requires.works) c.settle.ensures.keeps

pub returns-then-is_paid-clause-settled : goal.returns-then-is_paid-clause-settled
returns-then-is_paid-clause-settled g c =
    let rules = g.J.Judge.rules c.args.judge.now in
    settled_on rules c.args.self.now c.let_go.new.self c.settle.new.self (keeps_left c.args.side rules (g.J.Judge.longest c.args.judge.now) c.args.self.now c.let_go.new.self c.args.n c.let_go.ensures c.requires.works) c.settle.ensures.settled

pub returns-then-is_paid-clause-fits : goal.returns-then-is_paid-clause-fits
returns-then-is_paid-clause-fits g c =
    let rules = g.J.Judge.rules c.args.judge.now in
    let old = c.args.self.now in
    let told = fits_through rules old c.let_go.new.self c.settle.new.self (g.N.Notes.tells c.args.notes.now c.settle.new.notes) (keeps_left c.args.side rules (g.J.Judge.longest c.args.judge.now) old c.let_go.new.self c.args.n c.let_go.ensures c.requires.works) c.settle.ensures.fits in (
      told.0,
      told.1,
      λ h past f. told.2 (and_sent c.args.side h (take c.args.n (half_of c.args.side old).due.bytes)) past
          (fits_sent c.args.side rules (limit_of old) old.calls.capacity old c.let_go.new.self c.args.n h past c.let_go.ensures f),
    )

pub returns-else-is_paid-clause-keeps : goal.returns-else-is_paid-clause-keeps
returns-else-is_paid-clause-keeps g c = keeps_left c.args.side (g.J.Judge.rules c.args.judge.now) (g.J.Judge.longest c.args.judge.now) c.args.self.now c.let_go.new.self c.args.n c.let_go.ensures c.requires.works

pub returns-else-is_paid-clause-settled : goal.returns-else-is_paid-clause-settled
returns-else-is_paid-clause-settled g c =
    let old = c.args.self.now in
    rests_owing c.args.side (g.J.Judge.rules c.args.judge.now) (limit_of old) old.calls.capacity old c.let_go.new.self c.args.n c.let_go.ensures
    (owes c.is_paid.result c.half.result.now.due.bytes (half_of c.args.side c.let_go.new.self).due.bytes c.if-is_paid.false (ap (λ (half : Half). half.due.bytes) c.half.ensures) c.is_paid.ensures) c.requires.settled

pub returns-else-is_paid-clause-fits : goal.returns-else-is_paid-clause-fits
returns-else-is_paid-clause-fits g c =
    let old = c.args.self.now in
    let notes = c.args.notes.now in
    fits_quietly (g.J.Judge.rules c.args.judge.now) old c.let_go.new.self (g.N.Notes.tells notes notes) (λ h. and_sent c.args.side h (take c.args.n (half_of c.args.side old).due.bytes)) (g.met.N.Notes.stays notes)
    (λ h past f. fits_sent c.args.side (g.J.Judge.rules c.args.judge.now) (limit_of old) old.calls.capacity old c.let_go.new.self c.args.n h past c.let_go.ensures f)
