use Rattle.std.proofs.Common.{[], ◌++◌, take, drop, refl, sym, subst, arith}
use Rattle.stream_messages.specs.Fronts.{whole, cut, bad}
use Rattle.stream_messages.specs.Feeding.{HasRead, EndsAt}
use Rattle.stream_messages.specs.Messages.{IsFirst}
use Rattle.stream_messages.proofs.Searching.{whole_piece, ends_within, found_first, found_over, found_open, read_on}
use Rattle.stream_messages.proofs.search.Search.go_on.Goals as goal

pub returns-in-More : goal.returns-in-More
returns-in-More c =
    let s = c.args.self.now in
    let held = c.args.held.now in
    let a = c.in-More.ensures (take s.scanned held) c.requires.searches.read in
    let read : HasRead c.feed.new.self (take s.scanned held ++ drop s.scanned held) = subst (λ p. HasRead c.feed.new.self (take s.scanned held ++ p)) (whole_piece s held c.requires.searches) a.0 in
    record {
      finds = record {
        begins = (found_open s held c.requires.searches c.feed.new.self read a.1 a.2, read_on s held c.requires.searches c.feed.new.self _ refl refl refl refl read a.1 a.2);
        wire_is = refl;
        limit_is = refl;
      };
    }

pub returns-in-Whole : goal.returns-in-Whole
returns-in-Whole c =
    let s = c.args.self.now in
    let held = c.args.held.now in
    let e : EndsAt s.scan (take s.scanned held) (drop s.scanned held) whole c.in-Whole.more =
    subst (λ p. EndsAt s.scan (take s.scanned held) p whole c.in-Whole.more) (whole_piece s held c.requires.searches) (c.in-Whole.ensures (take s.scanned held) c.requires.searches.read) in
    let count = c.begin_behind.ensures.count in
    record {
      finds = record {
        begins = (
          omega (arith, count, e.some),
          omega (arith, count, ends_within s held c.requires.searches whole c.in-Whole.more e),
          subst (λ k. IsFirst s.wire s.limit whole (take k held)) (sym count) (found_first s held c.requires.searches whole c.in-Whole.more e),
          c.begin_behind.ensures.searches (drop c.begin_behind.result held),
        );
        wire_is = c.begin_behind.ensures.wire.0;
        limit_is = c.begin_behind.ensures.wire.1;
      };
    }

pub returns-in-Bad : goal.returns-in-Bad
returns-in-Bad c =
    let s = c.args.self.now in
    let held = c.args.held.now in
    let e : EndsAt s.scan (take s.scanned held) (drop s.scanned held) bad c.in-Bad.more =
    subst (λ p. EndsAt s.scan (take s.scanned held) p bad c.in-Bad.more) (whole_piece s held c.requires.searches) (c.in-Bad.ensures (take s.scanned held) c.requires.searches.read) in
    let count = c.begin_behind-in-Bad.ensures.count in
    record {
      finds = record {
        begins = (
          omega (arith, count, e.some),
          omega (arith, count, ends_within s held c.requires.searches bad c.in-Bad.more e),
          subst (λ k. IsFirst s.wire s.limit bad (take k held)) (sym count) (found_first s held c.requires.searches bad c.in-Bad.more e),
          c.begin_behind-in-Bad.ensures.searches (drop c.begin_behind-in-Bad.result held),
        );
        wire_is = c.begin_behind-in-Bad.ensures.wire.0;
        limit_is = c.begin_behind-in-Bad.ensures.wire.1;
      };
    }

pub returns-in-Over : goal.returns-in-Over
returns-in-Over c =
    let s = c.args.self.now in
    let held = c.args.held.now in
    let o = c.in-Over.ensures (take s.scanned held) c.requires.searches.read in
    let e : EndsAt s.scan (take s.scanned held) (drop s.scanned held) cut c.in-Over.field-0 =
    subst (λ p. EndsAt s.scan (take s.scanned held) p cut c.in-Over.field-0) (whole_piece s held c.requires.searches) o.0 in
    record {
      finds = record {
        begins = (found_over s held c.requires.searches c.in-Over.field-0 e o.1, c.restart.ensures.searches []);
        wire_is = c.restart.ensures.wire.0;
        limit_is = c.restart.ensures.wire.1;
      };
    }
