use Rattle.std.proofs.Common.{arith, ◌∙◌, ap, Some, None, refl}
use Rattle.std.proofs.lemmas.Grind.{common_steps}
use Rattle.session_core.specs.Working.{standing, limit_of, Goes, Took}
use Rattle.session_core.proofs.Fitting.{fits_on}
use Rattle.session_core.proofs.Keeping.{fits_quietly, fits_then, stood, keeps_still, keeps_on, keeps_by, works_on, works_at}
use Rattle.session_core.specs.Looks.{stopped}
use Rattle.session_core.specs.declared.state.Standstill.TheVariants as standstill
use Rattle.session_core.proofs.Endings.{goes_at, ending_at, ended_by, falls, rests_at}
use Rattle.session_core.proofs.state.State.advance.Goals as goal

pub frames-init : goal.frames-init
frames-init g c = record {
  keeps = keeps_still (g.J.Judge.rules c.args.judge.now) _ c.args.self.now c.requires.works;
  same = refl;
  fits = fits_quietly (g.J.Judge.rules c.args.judge.now) c.args.self.now c.args.self.now (g.N.Notes.tells c.args.notes.now c.args.notes.now) (λ h. h) (g.met.N.Notes.stays c.args.notes.now) (λ h past f. f);
}

pub returns-in-Some-clause-ending : goal.returns-in-Some-clause-ending
returns-in-Some-clause-ending g c =
    let i = c.frames.invariant in
    let rules = g.J.Judge.rules c.args.judge.now in
    let old = c.args.self.now in
    let s = c.frames.self in
    let t = c.step.new.self in
    let why = stopped c.in-Some.stop t.halt in
    let told = c.in-Some.ensures.goes in
    let goes : Goes rules (limit_of old) old.calls.capacity (standing s) (standing t) told.0 (Some why) =
    goes_at rules (g.J.Judge.rules c.frames.judge) (limit_of old) (limit_of s) old.calls.capacity s.calls.capacity (standing s) (standing t) told.0 (Some why) (ap g.J.Judge.rules i.same) i.keeps.ready.client.limit_is i.keeps.ready.capacity told.2 in
    ending_at rules (limit_of old) old.calls.capacity (standing s) (standing t) told.0 why goes

pub frames-smaller : goal.frames-smaller
frames-smaller g c =
    let s = c.frames.self in
    falls (g.J.Judge.rules c.frames.judge) (limit_of s) s.calls.capacity (standing s) (standing c.step.new.self) c.in_default.ensures.goes.0 c.in_default.ensures.goes.2

pub frames-preserved : goal.frames-preserved
frames-preserved g c =
    let i = c.frames.invariant in
    let rules = g.J.Judge.rules c.args.judge.now in
    let old = c.args.self.now in
    let s = c.frames.self in
    let t = c.step.new.self in
    let told = c.in_default.ensures.goes in
    let goes : Took rules (limit_of old) old.calls.capacity (standing s) (standing t) told.0 =
    goes_at rules (g.J.Judge.rules c.frames.judge) (limit_of old) (limit_of s) old.calls.capacity s.calls.capacity (standing s) (standing t) told.0 None (ap g.J.Judge.rules i.same) i.keeps.ready.client.limit_is i.keeps.ready.capacity told.2 in
    record {
      keeps = keeps_on rules old s t i.keeps (keeps_by _ g.J.Judge.rules c.args.judge.now c.frames.judge s t i.same c.in_default.ensures.keeps);
      same = c.in_default.ensures.same ∙ i.same;
      fits = fits_then rules old s t (g.N.Notes.tells c.args.notes.now c.frames.notes) (g.N.Notes.tells c.frames.notes c.step.new.notes) (g.N.Notes.tells c.args.notes.now c.step.new.notes) (λ h. h) (λ xs ys. g.met.N.Notes.follows c.args.notes.now c.frames.notes c.step.new.notes xs ys) i.fits
          (told.0, told.1, λ h past f. fits_on rules (limit_of old) old.calls.capacity h past told.0 (standing s) (standing t) goes f);
    }

pub step-requires : goal.step-requires
step-requires g c =
    record {
      works = works_at _ g.J.Judge.rules g.J.Judge.longest c.args.judge.now c.frames.judge c.frames.self c.frames.invariant.same
          (works_on (g.J.Judge.rules c.args.judge.now) _ c.args.self.now c.frames.self c.requires.works c.frames.invariant.keeps);
    }

pub returns-in-Some-clause-keeps : goal.returns-in-Some-clause-keeps
returns-in-Some-clause-keeps g c =
    let i = c.frames.invariant in
    keeps_on (g.J.Judge.rules c.args.judge.now) c.args.self.now c.frames.self c.step.new.self i.keeps (keeps_by _ g.J.Judge.rules c.args.judge.now c.frames.judge c.frames.self c.step.new.self i.same c.in-Some.ensures.keeps)

pub returns-in-Some-clause-fits : goal.returns-in-Some-clause-fits
returns-in-Some-clause-fits g c =
    let i = c.frames.invariant in
    let rules = g.J.Judge.rules c.args.judge.now in
    let old = c.args.self.now in
    let s = c.frames.self in
    let t = c.step.new.self in
    let why = stopped c.in-Some.stop t.halt in
    let told = c.in-Some.ensures.goes in
    let goes : Goes rules (limit_of old) old.calls.capacity (standing s) (standing t) told.0 (Some why) =
    goes_at rules (g.J.Judge.rules c.frames.judge) (limit_of old) (limit_of s) old.calls.capacity s.calls.capacity (standing s) (standing t) told.0 (Some why) (ap g.J.Judge.rules i.same) i.keeps.ready.client.limit_is i.keeps.ready.capacity told.2 in
    fits_then rules old s t (g.N.Notes.tells c.args.notes.now c.frames.notes) (g.N.Notes.tells c.frames.notes c.step.new.notes) (g.N.Notes.tells c.args.notes.now c.step.new.notes) (λ h. h) (λ xs ys. g.met.N.Notes.follows c.args.notes.now c.frames.notes c.step.new.notes xs ys) i.fits
    (stood rules (limit_of old) old.calls.capacity (standing s) (standing t) told.0 why (g.N.Notes.tells c.frames.notes c.step.new.notes) goes told.1)

pub returns-then-rests-clause-ending : goal.returns-then-rests-clause-ending
returns-then-rests-clause-ending g c =
    let rules = g.J.Judge.rules c.args.judge.now in
    let old = c.args.self.now in
    let s = c.frames.self in
    let t = c.step.new.self in
    let i = c.frames.invariant in
    let keeps = keeps_on rules old s t i.keeps (keeps_by _ g.J.Judge.rules c.args.judge.now c.frames.judge s t i.same c.in_default.ensures.keeps) in
    ended_by rules (limit_of old) old.calls.capacity (standing t) standstill.Waits
    (rests_at rules old t keeps (c.rests.ensures.upstream rules c.if-rests.true) (c.rests.ensures.client rules c.if-rests.true))

pub returns-then-rests-clause-fits : goal.returns-then-rests-clause-fits
returns-then-rests-clause-fits g c =
    let i = c.frames.invariant in
    let rules = g.J.Judge.rules c.args.judge.now in
    let old = c.args.self.now in
    let s = c.frames.self in
    let t = c.step.new.self in
    let told = c.in_default.ensures.goes in
    let goes : Took rules (limit_of old) old.calls.capacity (standing s) (standing t) told.0 =
    goes_at rules (g.J.Judge.rules c.frames.judge) (limit_of old) (limit_of s) old.calls.capacity s.calls.capacity (standing s) (standing t) told.0 None (ap g.J.Judge.rules i.same) i.keeps.ready.client.limit_is i.keeps.ready.capacity told.2 in
    fits_then rules old s t (g.N.Notes.tells c.args.notes.now c.frames.notes) (g.N.Notes.tells c.frames.notes c.step.new.notes) (g.N.Notes.tells c.args.notes.now c.step.new.notes) (λ h. h) (λ xs ys. g.met.N.Notes.follows c.args.notes.now c.frames.notes c.step.new.notes xs ys) i.fits
    (told.0, told.1, λ h past f. fits_on rules (limit_of old) old.calls.capacity h past told.0 (standing s) (standing t) goes f)

pub returns-in-Some-clause-same : goal.returns-in-Some-clause-same
returns-in-Some-clause-same g c = grind (arith, common_steps)

pub returns-then-rests-clause-same : goal.returns-then-rests-clause-same
returns-then-rests-clause-same g c = grind (arith, common_steps)

pub returns-then-rests-clause-keeps : goal.returns-then-rests-clause-keeps
returns-then-rests-clause-keeps g c = grind (arith, common_steps)
