use Rattle.std.proofs.Common.{Some, sym, ap, ◌∙◌, arith}
use Rattle.thrift_value.specs.Items.{item_of}
use Rattle.conform_check.specs.Checking.{placed}
use Rattle.conform_check.specs.Fitting.{Opened}
use Rattle.conform_check.proofs.Levels.{fits_behind, same_length}
use Rattle.conform_check.proofs.check.look_first.Goals as goal

pub look-requires-clause-same : goal.look-requires-clause-same
look-requires-clause-same c = sym (same_length c.args.schema.now c.args.walk.now.levels c.args.trail.now.levels c.requires.fitting)

pub lay-requires-clause-open : goal.lay-requires-clause-open
lay-requires-clause-open c =
    let kept = c.look.ensures.kept (λ none. absurd (cc (none, c.in-Some.is))) in
    rw kept (omega (arith, same_length c.args.schema.now c.args.walk.now.levels c.args.trail.now.levels c.requires.fitting, c.requires.open))

pub returns-in-Some-clause-first : goal.returns-in-Some-clause-first
returns-in-Some-clause-first c =
    let kept = c.look.ensures.kept (λ none. absurd (cc (none, c.in-Some.is))) in
    c.lay.ensures.path ∙ ap (λ (t : Opened). placed t.levels (Some c.in-Some.next)) kept ∙ ap (placed c.args.trail.now.levels) (sym c.in-Some.is ∙ c.look.ensures.found)

pub returns-in-None-clause-first : goal.returns-in-None-clause-first
returns-in-None-clause-first c = ap (placed c.args.trail.now.levels) (sym c.in-None.is ∙ c.look.ensures.found)

pub returns-in-None-clause-fitting : goal.returns-in-None-clause-fitting
returns-in-None-clause-fitting c e =
    let none = sym c.look.ensures.found ∙ c.in-None.is in
    rw (c.look.ensures.passed c.in-None.is) (fits_behind c.args.schema.now c.args.walk.now c.args.trail.now.levels (item_of c.args.event.now) c.requires.schema c.requires.fitting c.requires.open none)
