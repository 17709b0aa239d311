use Rattle.std.proofs.Common.{◌⊎◌, ◌∙◌, [], ◌++◌, ap, Some, None, refl}
use Rattle.service_router.specs.Judging.{rules_of}
use Rattle.service_router.specs.Working.{standing, Goes, Answers, Asks}
use Rattle.service_router.proofs.Fitting.{fits_on}
use Rattle.service_router.proofs.Keeping.{keeps_still, keeps_on, keeps_by, works_on, works_at, sound_of, none_told, told_then, stood_still}
use Rattle.service_router.proofs.Moves.{then_none}
use Rattle.service_router.proofs.Endings.{goes_at, outcome_at, still_at, asked_one, falls}
use Rattle.service_router.proofs.state.State.advance.Goals as goal

pub frames-init : goal.frames-init
frames-init g c = record {
  keeps = keeps_still c.args.judge.now c.args.self.now c.requires.works;
  same = refl;
  fits = ([], g.met.N.Notes.stays _, λ h past f. none_told _ _ _ h past _ f);
}

pub step-requires : goal.step-requires
step-requires g c =
    record { works = works_at c.args.judge.now c.frames.judge c.frames.self c.frames.invariant.same (works_on c.args.judge.now c.args.self.now c.frames.self c.requires.works c.frames.invariant.keeps) }

pub ending-requires : goal.ending-requires
ending-requires g c =
    let s = c.frames.self in
    let t = c.step.new.self in
    record {
      ready = sound_of s.client.limit s.calls.capacity _ t c.in-Some.ensures.keeps.ready;
      asked = λ h is. asked_one (rules_of c.frames.judge) s.client.limit s.calls.capacity (standing s) (standing t) c.in-Some.ensures.goes.0 c.in-Some.standstill h c.in-Some.ensures.goes.2 is;
    }

pub returns-in-Some-clause-keeps : goal.returns-in-Some-clause-keeps
returns-in-Some-clause-keeps g c =
    let i = c.frames.invariant in
    keeps_on c.args.judge.now c.args.self.now c.frames.self c.step.new.self i.keeps (keeps_by c.args.judge.now c.frames.judge c.frames.self c.step.new.self i.same c.in-Some.ensures.keeps)

pub returns-in-Some-clause-still : goal.returns-in-Some-clause-still
returns-in-Some-clause-still g c =
    let i = c.frames.invariant in
    let old = c.args.self.now in
    let s = c.frames.self in
    let t = c.step.new.self in
    still_at (rules_of c.args.judge.now) old.client.limit old.calls.capacity (standing s) (standing t) c.in-Some.ensures.goes.0 c.in-Some.standstill
    (goes_at (rules_of c.args.judge.now) (rules_of c.frames.judge) old.client.limit s.client.limit old.calls.capacity s.calls.capacity (standing s) (standing t) c.in-Some.ensures.goes.0 (Some c.in-Some.standstill) (ap rules_of i.same) i.keeps.ready.client.limit_is i.keeps.ready.capacity c.in-Some.ensures.goes.2)

pub returns-in-Some-clause-outcome : goal.returns-in-Some-clause-outcome
returns-in-Some-clause-outcome g c =
    let i = c.frames.invariant in
    let rules = rules_of c.args.judge.now in
    let old = c.args.self.now in
    let s = c.frames.self in
    let t = c.step.new.self in
    let goes : Goes rules old.client.limit old.calls.capacity (standing s) (standing t) c.in-Some.ensures.goes.0 (Some c.in-Some.standstill) =
    goes_at rules (rules_of c.frames.judge) old.client.limit s.client.limit old.calls.capacity s.calls.capacity (standing s) (standing t) c.in-Some.ensures.goes.0 (Some c.in-Some.standstill) (ap rules_of i.same) i.keeps.ready.client.limit_is i.keeps.ready.capacity c.in-Some.ensures.goes.2 in
    outcome_at rules old.client.limit t.client.limit old.calls.capacity (standing s) (standing t) c.in-Some.ensures.goes.0 c.in-Some.standstill c.ending.result goes (c.in-Some.ensures.keeps.ready.client.limit_is ∙ i.keeps.ready.client.limit_is) c.ending.ensures

pub frames-smaller : goal.frames-smaller
frames-smaller g c =
    let s = c.frames.self in
    falls (rules_of c.frames.judge) s.client.limit s.calls.capacity (standing s) (standing c.step.new.self) c.in_default.ensures.goes.0 c.in_default.ensures.goes.2

pub frames-preserved : goal.frames-preserved
frames-preserved g c =
    let i = c.frames.invariant in
    let rules = rules_of c.args.judge.now in
    let old = c.args.self.now in
    let s = c.frames.self in
    let t = c.step.new.self in
    let step = c.in_default.ensures.goes in
    let goes : Answers rules.judging old.client.limit (standing s) (standing t) step.0 ⊎ Asks rules old.client.limit old.calls.capacity (standing s) (standing t) step.0 =
    goes_at rules (rules_of c.frames.judge) old.client.limit s.client.limit old.calls.capacity s.calls.capacity (standing s) (standing t) step.0 None (ap rules_of i.same) i.keeps.ready.client.limit_is i.keeps.ready.capacity step.2 in
    record {
      keeps = keeps_on c.args.judge.now old s t i.keeps (keeps_by c.args.judge.now c.frames.judge s t i.same c.in_default.ensures.keeps);
      same = c.in_default.ensures.same ∙ i.same;
      fits = (
        i.fits.0 ++ step.0,
        g.met.N.Notes.follows _ _ _ i.fits.0 step.0 i.fits.1 step.1,
        λ h past f. told_then _ _ _ h past i.fits.0 step.0 _ (fits_on rules old.client.limit old.calls.capacity h (past ++ i.fits.0) step.0 (standing s) (standing t) goes (i.fits.2 h past f)),
      );
    }

pub returns-in-Some-clause-fits : goal.returns-in-Some-clause-fits
returns-in-Some-clause-fits g c =
    let i = c.frames.invariant in
    let step = c.in-Some.ensures.goes in (
      i.fits.0,
      then_none g.met.N.Notes.follows i.fits.0 step.0 step.2.2 i.fits.1 step.1,
      λ h past f. stood_still (rules_of c.args.judge.now) c.args.self.now.client.limit c.args.self.now.calls.capacity h (past ++ i.fits.0) (standing c.frames.self) (standing c.step.new.self) step.2.0 (i.fits.2 h past f),
    )
