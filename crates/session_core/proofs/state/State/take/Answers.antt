use Rattle.std.proofs.Common.{◌≡◌, ◌≤◌, ◌-◌, ◌+◌, List, ℕ, [], ◌++◌, length, take, drop, arith, sym, ◌∙◌, ap, subst, refl}
use Rattle.std.proofs.lemmas.Grind.{common_steps}
use Rattle.session_core.specs.Standing.{History}
use Rattle.session_core.specs.Telling.{FitsTold}
use Rattle.session_core.specs.Session.{and_came}
use Rattle.session_core.specs.Working.{standing, limit_of, half_of, Keeps}
use Rattle.session_core.specs.declared.half.Half.{Half}
use Rattle.session_core.specs.declared.state.State.{State}
use Rattle.session_core.proofs.Feeding.{take_pieces, count_within, feeds_some, feeds_whole}
use Rattle.session_core.proofs.Keeping.{keeps_still, keeps_on, keeps_by, keeps_fed, works_on, works_at, settled_on, settled_by, fits_by, fits_through, fits_quietly, fits_then, fits_fed, limit_by, came_on, came_none}
use Rattle.session_core.proofs.state.State.take.Goals as goal

pub pieces-init : goal.pieces-init
pieces-init g c = record {
  keeps = keeps_still (g.J.Judge.rules c.args.judge.now) _ c.args.self.now c.requires.works;
  same = refl;
  settled = c.requires.settled;
  within = omega arith;
  start = λ none. refl;
  whole = λ fits some. absurd (omega (arith, some));
  fits = fits_quietly (g.J.Judge.rules c.args.judge.now) c.args.self.now c.args.self.now (g.N.Notes.tells c.args.notes.now c.args.notes.now) (λ h. and_came c.args.side h []) (g.met.N.Notes.stays c.args.notes.now)
      (λ h past f. subst (λ (k : History). FitsTold (g.J.Judge.rules c.args.judge.now) (limit_of c.args.self.now) c.args.self.now.calls.capacity k past (standing c.args.self.now)) (sym (came_none c.args.side h)) f);
}

pub pieces-preserved : goal.pieces-preserved
pieces-preserved g c =
    let i = c.pieces.invariant in
    let rules = g.J.Judge.rules c.args.judge.now in
    let x = c.args.side in
    let old = c.args.self.now in
    let s = c.pieces.self in
    let mid = c.feed-taken.new.self in
    let t = c.settle.new.self in
    let bytes = c.args.bytes.now in
    let n = c.pieces.taken in
    let count = c.feed-taken.result in
    let piece = take count (take (length bytes - n) (drop n bytes)) in
    let limit : (half_of x s).held.limit ≡ limit_of old = limit_by x (limit_of old) old.calls.capacity s i.keeps.ready in
    let room : c.room.result + length (half_of x s).held.held ≡ (half_of x s).held.limit + 4 = subst (λ (h : Half). c.room.result + length h.held.held ≡ h.held.limit + 4) c.half-then-is_none.ensures c.room.ensures.room in
    let less : count ≤ length bytes - n = count_within bytes n count _ i.within c.feed-taken.ensures.count in
    let works = works_on rules (g.J.Judge.longest c.args.judge.now) old s c.requires.works i.keeps in
    let fed : Keeps rules old mid = keeps_on rules old s mid i.keeps (keeps_fed x rules (g.J.Judge.longest c.args.judge.now) s mid _ count c.frame_stands_at_the_front.ensures c.feed-taken.ensures.count c.feed-taken.ensures.fed works) in
    record {
      keeps = keeps_on rules old mid t fed (keeps_by _ g.J.Judge.rules c.args.judge.now c.pieces.judge mid t i.same c.settle.ensures.keeps);
      same = c.settle.ensures.same ∙ i.same;
      settled = settled_on rules old mid t fed (settled_by _ g.J.Judge.rules c.args.judge.now c.pieces.judge mid t i.same c.settle.ensures.settled);
      within = omega (arith, less, i.within);
      start = λ none. absurd (omega (arith, none, feeds_some bytes n count (half_of x s).held.limit (length (half_of x s).held.held) c.room.result c.pieces-test.true room c.if-room-gt0.true c.feed-taken.ensures.count));
      whole = λ fits some. feeds_whole bytes n count (limit_of old) (half_of x s).held.limit (length (half_of x old).held.held) (length (half_of x s).held.held) c.pieces-test.true c.feed-taken.ensures.count limit (λ none. ap (λ (u : State). length (half_of x u).held.held) (i.start none)) i.whole fits;
      fits =
          let told = fits_through rules old mid t (g.N.Notes.tells c.pieces.notes c.settle.new.notes) fed (fits_by _ g.J.Judge.rules c.args.judge.now c.pieces.judge mid t (g.N.Notes.tells c.pieces.notes c.settle.new.notes) i.same c.settle.ensures.fits) in
          fits_then rules old mid t (g.N.Notes.tells c.args.notes.now c.pieces.notes) (g.N.Notes.tells c.pieces.notes c.settle.new.notes) (g.N.Notes.tells c.args.notes.now c.settle.new.notes) (λ h. and_came x h (take (n + count) bytes)) (λ xs ys. g.met.N.Notes.follows c.args.notes.now c.pieces.notes c.settle.new.notes xs ys) (
            i.fits.0,
            i.fits.1,
            λ h past f.
                subst (λ (k : History). FitsTold rules (limit_of old) old.calls.capacity k (past ++ i.fits.0) (standing mid)) (came_on x h (take n bytes) piece ∙ ap (λ (xs : List ℕ). and_came x h xs) (take_pieces bytes n count i.within less))
                (fits_fed x rules (limit_of old) old.calls.capacity s mid piece (and_came x h (take n bytes)) (past ++ i.fits.0) c.feed-taken.ensures.fed (i.fits.2 h past f)),
          )
          told;
    }

pub settle-requires : goal.settle-requires
settle-requires g c =
    let i = c.pieces.invariant in
    let rules = g.J.Judge.rules c.args.judge.now in
    let longest = g.J.Judge.longest c.args.judge.now in
    let old = c.args.self.now in
    let s = c.pieces.self in
    let mid = c.feed-taken.new.self in
    let works = works_on rules longest old s c.requires.works i.keeps in
    record {
      works = works_at _ g.J.Judge.rules g.J.Judge.longest c.args.judge.now c.pieces.judge mid i.same
          (works_on rules longest s mid works (keeps_fed c.args.side rules longest s mid _ c.feed-taken.result c.frame_stands_at_the_front.ensures c.feed-taken.ensures.count c.feed-taken.ensures.fed works));
    }

-- nothing is taken, and nothing told
pub returns-then-half-clause-fits : goal.returns-then-half-clause-fits
returns-then-half-clause-fits g c =
    fits_quietly (g.J.Judge.rules c.args.judge.now) c.args.self.now c.args.self.now (g.N.Notes.tells c.args.notes.now c.args.notes.now) (λ h. and_came c.args.side h []) (g.met.N.Notes.stays c.args.notes.now)
    (λ h past f. subst (λ (k : History). FitsTold (g.J.Judge.rules c.args.judge.now) (limit_of c.args.self.now) c.args.self.now.calls.capacity k past (standing c.args.self.now)) (sym (came_none c.args.side h)) f)

pub returns-else-room-gt0-clause-fewer : goal.returns-else-room-gt0-clause-fewer
returns-else-room-gt0-clause-fewer g c = grind (arith, common_steps)

pub returns-else-is_none-clause-whole : goal.returns-else-is_none-clause-whole
returns-else-is_none-clause-whole g c = grind (arith, common_steps)

pub returns-else-room-gt0-clause-ended : goal.returns-else-room-gt0-clause-ended
returns-else-room-gt0-clause-ended g c = grind (arith, common_steps)

pub returns-else-room-gt0-clause-whole : goal.returns-else-room-gt0-clause-whole
returns-else-room-gt0-clause-whole g c = grind (arith, common_steps)

pub returns-else-is_none-clause-fewer : goal.returns-else-is_none-clause-fewer
returns-else-is_none-clause-fewer g c = grind (arith, common_steps)

pub pieces-smaller : goal.pieces-smaller
pieces-smaller g c = grind (arith, common_steps)

pub returns-else-room-gt0-clause-over : goal.returns-else-room-gt0-clause-over
returns-else-room-gt0-clause-over g c = grind (arith, common_steps)
