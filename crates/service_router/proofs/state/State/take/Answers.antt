use Rattle.std.proofs.Common.{◌≡◌, ◌≤◌, ◌-◌, ◌+◌, List, [], ◌++◌, ℕ, length, take, drop, arith, ◌∙◌, ap, subst, refl}
use Rattle.session_core.proofs.Feeding.{take_pieces, count_within, feeds_some, feeds_whole}
use Rattle.service_router.specs.Judging.{rules_of}
use Rattle.service_router.specs.Standing.{Inbox, and_received}
use Rattle.service_router.specs.Telling.{FitsTold}
use Rattle.service_router.specs.Working.{standing, inbox_in, Keeps}
use Rattle.service_router.specs.declared.state.State.{State}
use Rattle.service_router.proofs.Feeding.{fits_none, fits_pieces}
use Rattle.service_router.proofs.Keeping.{keeps_still, keeps_on, keeps_by, keeps_fed, works_on, works_at, settled_on, settled_by, fits_by, fits_through, fits_fed, room_at, none_told, told_then}
use Rattle.service_router.proofs.state.State.take.Goals as goal

pub pieces-init : goal.pieces-init
pieces-init g c = record {
  keeps = keeps_still c.args.judge.now c.args.self.now c.requires.works;
  same = refl;
  settled = c.requires.settled;
  within = omega arith;
  start = λ none. refl;
  whole = λ fits some. absurd (omega (arith, some));
  fits = ([], g.met.N.Notes.stays _, λ h past f. none_told _ _ _ _ past _ (fits_none (rules_of c.args.judge.now) c.args.self.now.client.limit c.args.self.now.calls.capacity c.args.port h past (standing c.args.self.now) f));
}

pub pieces-preserved : goal.pieces-preserved
pieces-preserved g c =
    let i = c.pieces.invariant in
    let r = c.args.judge.now in
    let p = c.args.port in
    let old = c.args.self.now in
    let s = c.pieces.self in
    let mid = c.feed-taken.new.self in
    let t = c.settle.new.self in
    let bytes = c.args.bytes.now in
    let n = c.pieces.taken in
    let count = c.feed-taken.result in
    let piece = take count (take (length bytes - n) (drop n bytes)) in
    let within : p ≤ length s.ports.items = omega (arith, c.requires.port, i.keeps.ready.count) in
    let limit : (inbox_in p s).limit ≡ old.client.limit = (room_at p old.client.limit old.calls.capacity (length old.ports.items) s within i.keeps.ready).limit_is in
    let room : c.room.result + length (inbox_in p s).held ≡ (inbox_in p s).limit + 4 = subst (λ (b : Inbox). c.room.result + length b.held ≡ b.limit + 4) c.port-then-is_none.ensures c.room.ensures in
    let less : count ≤ length bytes - n = count_within bytes n count _ i.within c.feed-taken.ensures.count in
    let works = works_on r old s c.requires.works i.keeps in
    let fed : Keeps r old mid = keeps_on r old s mid i.keeps (keeps_fed p r s mid _ count c.frame_stands_at_the_front.ensures within c.feed-taken.ensures.count c.feed-taken.ensures.fed works) in
    let more = fits_by r c.pieces.judge mid t _ i.same c.settle.ensures.fits in
    record {
      keeps = keeps_on r old mid t fed (keeps_by r c.pieces.judge mid t i.same c.settle.ensures.keeps);
      same = c.settle.ensures.same ∙ i.same;
      settled = settled_on r old mid t fed (settled_by r c.pieces.judge mid t i.same c.settle.ensures.settled);
      within = omega (arith, less, i.within);
      start = λ none. absurd (omega (arith, none, feeds_some bytes n count (inbox_in p s).limit (length (inbox_in p s).held) c.room.result c.pieces-test.true room c.if-room-gt0.true c.feed-taken.ensures.count));
      whole = λ fits some. feeds_whole bytes n count old.client.limit (inbox_in p s).limit (length (inbox_in p old).held) (length (inbox_in p s).held) c.pieces-test.true c.feed-taken.ensures.count limit (λ none. ap (λ (u : State). length (inbox_in p u).held) (i.start none)) i.whole fits;
      fits = (
        i.fits.0 ++ more.0,
        g.met.N.Notes.follows _ _ _ i.fits.0 more.0 i.fits.1 more.1,
        λ h past f. told_then _ _ _ _ past i.fits.0 more.0 _ (fits_through r old mid t more.0 fed more.2 (and_received p h (take (n + count) bytes)) (past ++ i.fits.0)
            (subst (λ (xs : List ℕ). FitsTold (rules_of r) old.client.limit old.calls.capacity (and_received p h xs) (past ++ i.fits.0) (standing mid)) (take_pieces bytes n count i.within less)
            (fits_pieces (rules_of r) old.client.limit old.calls.capacity p h (past ++ i.fits.0) (take n bytes) piece (standing mid)
            (fits_fed p r old.client.limit old.calls.capacity s mid piece (and_received p h (take n bytes)) (past ++ i.fits.0) within c.feed-taken.ensures.fed (i.fits.2 h past f))))),
      );
    }

pub settle-requires : goal.settle-requires
settle-requires g c =
    let i = c.pieces.invariant in
    let r = c.args.judge.now in
    let old = c.args.self.now in
    let s = c.pieces.self in
    let mid = c.feed-taken.new.self in
    let within : c.args.port ≤ length s.ports.items = omega (arith, c.requires.port, i.keeps.ready.count) in
    let works = works_on r old s c.requires.works i.keeps in
    record {
      works = works_at r c.pieces.judge mid i.same
          (works_on r s mid works (keeps_fed c.args.port r s mid _ c.feed-taken.result c.frame_stands_at_the_front.ensures within c.feed-taken.ensures.count c.feed-taken.ensures.fed works));
    }

pub returns-then-has_ended-clause-fits : goal.returns-then-has_ended-clause-fits
returns-then-has_ended-clause-fits g c = (
  [],
  g.met.N.Notes.stays _,
  λ h past f. none_told _ _ _ _ past _ (fits_none (rules_of c.args.judge.now) c.args.self.now.client.limit c.args.self.now.calls.capacity c.args.port h past (standing c.args.self.now) f),
)
