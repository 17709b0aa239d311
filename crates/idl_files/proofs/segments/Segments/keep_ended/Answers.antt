use Rattle.std.proofs.Common.{arith}
use Rattle.idl_files.proofs.Cutting.{cut_within, kept_on, last_on, last_left, kept_all}
use Rattle.idl_files.proofs.segments.Segments.keep_ended.Goals as goal

pub overflow_add-from : goal.overflow_add-from
overflow_add-from c =
    let w = cut_within c.args.name.now c.segments.from c.in-Some.len c.segments.invariant.within c.in-Some.ensures in
    grind (arith, w)

pub slice_bounds-keep-end : goal.slice_bounds-keep-end
slice_bounds-keep-end c =
    let w = cut_within c.args.name.now c.segments.from c.in-Some.len c.segments.invariant.within c.in-Some.ensures in
    grind (arith, w)

pub segments-preserved : goal.segments-preserved
segments-preserved c =
    let w = cut_within c.args.name.now c.segments.from c.in-Some.len c.segments.invariant.within c.in-Some.ensures in
    record {
      within = omega (arith, w);
      kept = kept_on c.segments.self c.keep.new.self c.args.name.now c.segments.from c.in-Some.len _ c.in-Some.ensures c.in_ok-keep.ensures c.segments.invariant.kept;
      last = last_on c.args.name.now c.segments.from c.in-Some.len _ c.in-Some.ensures c.segments.invariant.last;
    }

pub returns-clause-last : goal.returns-clause-last
returns-clause-last c = last_left c.args.name.now c.segments.from _ c.in_default.ensures c.segments.invariant.last

pub returns-clause-kept : goal.returns-clause-kept
returns-clause-kept c = kept_all c.segments.self c.args.name.now c.segments.from _ c.in_default.ensures c.segments.invariant.kept
