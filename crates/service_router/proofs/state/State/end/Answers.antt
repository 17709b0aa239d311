use Rattle.service_router.specs.Standing.{and_ended}
use Rattle.service_router.proofs.Keeping.{keeps_ended, keeps_on, works_on, settled_on, fits_through, fits_ended}
use Rattle.service_router.proofs.state.State.end.Goals as goal

pub settle-requires : goal.settle-requires
settle-requires g c =
    let r = c.args.judge.now in
    record { works = works_on r c.args.self.now c.mark_ended.new.self c.requires.works (keeps_ended c.args.port r c.args.self.now c.mark_ended.new.self c.requires.port c.mark_ended.ensures c.requires.works) }

pub returns-clause-keeps : goal.returns-clause-keeps
returns-clause-keeps g c =
    let r = c.args.judge.now in
    keeps_on r c.args.self.now c.mark_ended.new.self c.settle.new.self (keeps_ended c.args.port r c.args.self.now c.mark_ended.new.self c.requires.port c.mark_ended.ensures c.requires.works) c.settle.ensures.keeps

pub returns-clause-settled : goal.returns-clause-settled
returns-clause-settled g c =
    let r = c.args.judge.now in
    settled_on r c.args.self.now c.mark_ended.new.self c.settle.new.self (keeps_ended c.args.port r c.args.self.now c.mark_ended.new.self c.requires.port c.mark_ended.ensures c.requires.works) c.settle.ensures.settled

pub returns-clause-fits : goal.returns-clause-fits
returns-clause-fits g c =
    let r = c.args.judge.now in
    let old = c.args.self.now in
    let more = c.settle.ensures.fits in (
      more.0,
      more.1,
      λ h past f. fits_through r old c.mark_ended.new.self c.settle.new.self more.0 (keeps_ended c.args.port r old c.mark_ended.new.self c.requires.port c.mark_ended.ensures c.requires.works) more.2
          (and_ended c.args.port h) past
          (fits_ended c.args.port r old.client.limit old.calls.capacity old c.mark_ended.new.self h past c.requires.port c.mark_ended.ensures f),
    )
