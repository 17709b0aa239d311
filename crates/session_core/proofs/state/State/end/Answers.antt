use Rattle.session_core.specs.Session.{and_ended}
use Rattle.session_core.specs.Working.{limit_of}
use Rattle.session_core.proofs.Keeping.{keeps_ended, keeps_on, works_on, settled_on, fits_through, fits_ended}
use Rattle.session_core.proofs.state.State.end.Goals as goal

pub settle-requires : goal.settle-requires
settle-requires g c =
    let rules = g.J.Judge.rules c.args.judge.now in
    let longest = g.J.Judge.longest c.args.judge.now in
    record { works = works_on rules longest c.args.self.now c.mark_ended.new.self c.requires.works (keeps_ended c.args.side rules longest c.args.self.now c.mark_ended.new.self c.mark_ended.ensures c.requires.works) }

pub returns-clause-keeps : goal.returns-clause-keeps
returns-clause-keeps g c =
    let rules = g.J.Judge.rules c.args.judge.now in
    keeps_on rules c.args.self.now c.mark_ended.new.self c.settle.new.self (keeps_ended c.args.side rules (g.J.Judge.longest c.args.judge.now) c.args.self.now c.mark_ended.new.self c.mark_ended.ensures c.requires.works) c.settle.ensures.keeps

pub returns-clause-settled : goal.returns-clause-settled
returns-clause-settled g c =
    let rules = g.J.Judge.rules c.args.judge.now in
    settled_on rules c.args.self.now c.mark_ended.new.self c.settle.new.self (keeps_ended c.args.side rules (g.J.Judge.longest c.args.judge.now) c.args.self.now c.mark_ended.new.self c.mark_ended.ensures c.requires.works) c.settle.ensures.settled

pub returns-clause-fits : goal.returns-clause-fits
returns-clause-fits g c =
    let rules = g.J.Judge.rules c.args.judge.now in
    let old = c.args.self.now in
    let told = fits_through rules old c.mark_ended.new.self c.settle.new.self (g.N.Notes.tells c.args.notes.now c.settle.new.notes) (keeps_ended c.args.side rules (g.J.Judge.longest c.args.judge.now) old c.mark_ended.new.self c.mark_ended.ensures c.requires.works) c.settle.ensures.fits in
    (told.0, told.1, λ h past f. told.2 (and_ended c.args.side h) past (fits_ended c.args.side rules (limit_of old) old.calls.capacity old c.mark_ended.new.self h past c.mark_ended.ensures f))
