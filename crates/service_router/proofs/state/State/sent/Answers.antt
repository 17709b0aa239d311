use Rattle.std.proofs.Common.{[], take}
use Rattle.service_router.specs.Judging.{rules_of}
use Rattle.service_router.specs.Standing.{and_sent, due_to}
use Rattle.service_router.specs.Working.{standing}
use Rattle.service_router.proofs.Keeping.{keeps_left, keeps_on, works_on, settled_on, fits_through, fits_sent, none_told}
use Rattle.service_router.proofs.Resting.{rests_owing, not_none}
use Rattle.service_router.proofs.state.State.sent.Goals as goal

pub settle-requires : goal.settle-requires
settle-requires g c =
    let r = c.args.judge.now in
    record { works = works_on r c.args.self.now c.let_go.new.self c.requires.works (keeps_left c.args.port r c.args.self.now c.let_go.new.self c.args.n c.let_go.ensures c.requires.works) }

pub returns-then-is_empty-clause-keeps : goal.returns-then-is_empty-clause-keeps
returns-then-is_empty-clause-keeps g c =
    let r = c.args.judge.now in
    keeps_on r c.args.self.now c.let_go.new.self c.settle.new.self (keeps_left c.args.port r c.args.self.now c.let_go.new.self c.args.n c.let_go.ensures c.requires.works) c.settle.ensures.keeps

pub returns-then-is_empty-clause-settled : goal.returns-then-is_empty-clause-settled
returns-then-is_empty-clause-settled g c =
    let r = c.args.judge.now in
    settled_on r c.args.self.now c.let_go.new.self c.settle.new.self (keeps_left c.args.port r c.args.self.now c.let_go.new.self c.args.n c.let_go.ensures c.requires.works) c.settle.ensures.settled

pub returns-then-is_empty-clause-fits : goal.returns-then-is_empty-clause-fits
returns-then-is_empty-clause-fits g c =
    let r = c.args.judge.now in
    let old = c.args.self.now in
    let more = c.settle.ensures.fits in (
      more.0,
      more.1,
      λ h past f. fits_through r old c.let_go.new.self c.settle.new.self more.0 (keeps_left c.args.port r old c.let_go.new.self c.args.n c.let_go.ensures c.requires.works) more.2
          (and_sent c.args.port h (take c.args.n (due_to c.args.port (standing old)))) past
          (fits_sent c.args.port r old.client.limit old.calls.capacity old c.let_go.new.self c.args.n h past c.let_go.ensures f),
    )

pub returns-else-is_empty-clause-keeps : goal.returns-else-is_empty-clause-keeps
returns-else-is_empty-clause-keeps g c = keeps_left c.args.port c.args.judge.now c.args.self.now c.let_go.new.self c.args.n c.let_go.ensures c.requires.works

pub returns-else-is_empty-clause-settled : goal.returns-else-is_empty-clause-settled
returns-else-is_empty-clause-settled g c =
    let old = c.args.self.now in
    rests_owing c.args.port c.args.n (rules_of c.args.judge.now) old.client.limit old.calls.capacity old c.let_go.new.self c.due.result.now c.let_go.ensures c.due.ensures
    (not_none c.is_empty.result c.due.result.now c.if-is_empty.false c.is_empty.ensures) c.requires.settled

pub returns-else-is_empty-clause-fits : goal.returns-else-is_empty-clause-fits
returns-else-is_empty-clause-fits g c =
    let old = c.args.self.now in (
      [],
      g.met.N.Notes.stays _,
      λ h past f. none_told _ _ _ _ past _ (fits_sent c.args.port c.args.judge.now old.client.limit old.calls.capacity old c.let_go.new.self c.args.n h past c.let_go.ensures f),
    )
