use Rattle.std.proofs.Common.{◌-◌, List, ℕ, Option, length, drop, take, arith, subst}
use Rattle.std.proofs.lemmas.List.{take_rest}
use Rattle.memchr.specs.Find.{IsFirstByte, is_byte}
use Rattle.line_transport.proofs.Searching.{length_within, found_at, found, none_found}
use Rattle.line_transport.proofs.Searching.{searched_within}
use Rattle.line_transport.proofs.lines.length_from.Goals as goal

-- what was searched is all that stands behind
in_rest : (bytes : List ℕ) (n : ℕ) (answer : Option ℕ) → IsFirstByte (is_byte 10) (take (length bytes - n) (drop n bytes)) answer → IsFirstByte (is_byte 10) (drop n bytes) answer
in_rest bytes n answer h = subst (λ (l : List ℕ). IsFirstByte (is_byte 10) l answer) (take_rest bytes n) h

pub returns-then-is_feed_at-clause-value : goal.returns-then-is_feed_at-clause-value
returns-then-is_feed_at-clause-value c =
    found_at c.args.held.now c.args.searched c.requires (c.is_feed_at.ensures.within c.if-is_feed_at.true) (c.is_feed_at.ensures.feed c.if-is_feed_at.true)

pub slice_bounds-memchr-count : goal.slice_bounds-memchr-count
slice_bounds-memchr-count c = omega (arith, c.requires, length_within c.args.held.now)

pub returns-in-Some-clause-value : goal.returns-in-Some-clause-value
returns-in-Some-clause-value c =
    (found c.args.held.now c.args.searched c.memchr.result c.requires (in_rest c.args.held.now c.args.searched c.memchr.result c.memchr.ensures) c.in-Some.more c.in-Some.is).1

pub returns-in-None-clause-value : goal.returns-in-None-clause-value
returns-in-None-clause-value c = none_found c.args.held.now c.args.searched c.memchr.result c.requires (in_rest c.args.held.now c.args.searched c.memchr.result c.memchr.ensures) c.in-None.is

pub slice_bounds-memchr-start : goal.slice_bounds-memchr-start
slice_bounds-memchr-start c = grind (arith, searched_within)
