use Rattle.std.proofs.Common.{arith, ◌∙◌, refl, ap}
use Rattle.std.proofs.lemmas.Grind.{common_steps}
use Rattle.http_front.specs.Fronts.{Front, is_asking}
use Rattle.http_front.proofs.Counted.{later_on, later_same}
use Rattle.http_front.proofs.Handing.{turns_none, turns_kept, turns_read, turns_ended}
use Rattle.http_front.proofs.asking.fill.Goals as goal

pub reads-init : goal.reads-init
reads-init g c = record {
  goes = turns_none (g.H.Hub.tells c.args.inner.now) c.args.k c.args.front.now c.args.front.now refl;
  asking = c.requires.asking;
  limit = refl;
  later = later_same (g.H.Hub.counts c.args.inner.now);
  kept = refl;
}

pub returns-then-count-eq0-clause-goes : goal.returns-then-count-eq0-clause-goes
returns-then-count-eq0-clause-goes g c =
    let tells = g.H.Hub.tells in
    turns_kept (tells c.args.inner.now) (tells c.reads.inner) c.args.k c.args.front.now c.reads.front c.settle.new.self c.reads.invariant.goes c.settle.ensures.keeps

pub returns-in-NotReady-clause-goes : goal.returns-in-NotReady-clause-goes
returns-in-NotReady-clause-goes g c =
    let tells = g.H.Hub.tells in
    turns_read (tells c.args.inner.now) (tells c.reads.inner) (tells c.read_more.new.inner) c.args.k c.args.front.now c.settle.new.self c.read_more.new.self _
    (turns_kept (tells c.args.inner.now) (tells c.reads.inner) c.args.k c.args.front.now c.reads.front c.settle.new.self c.reads.invariant.goes c.settle.ensures.keeps) c.in-NotReady.ensures.goes

pub returns-in-Failed-clause-goes : goal.returns-in-Failed-clause-goes
returns-in-Failed-clause-goes g c =
    let tells = g.H.Hub.tells in
    turns_read (tells c.args.inner.now) (tells c.reads.inner) (tells c.read_more.new.inner) c.args.k c.args.front.now c.settle.new.self c.read_more.new.self _
    (turns_kept (tells c.args.inner.now) (tells c.reads.inner) c.args.k c.args.front.now c.reads.front c.settle.new.self c.reads.invariant.goes c.settle.ensures.keeps) c.in-Failed.ensures.goes

pub returns-in-End-clause-goes : goal.returns-in-End-clause-goes
returns-in-End-clause-goes g c =
    let tells = g.H.Hub.tells in
    turns_ended (tells c.args.inner.now) (tells c.reads.inner) (tells c.read_more.new.inner) c.args.k c.args.front.now c.settle.new.self c.read_more.new.self c.end.new.self
    (turns_kept (tells c.args.inner.now) (tells c.reads.inner) c.args.k c.args.front.now c.reads.front c.settle.new.self c.reads.invariant.goes c.settle.ensures.keeps) c.in-End.ensures.goes c.end.ensures.ends

pub reads-preserved : goal.reads-preserved
reads-preserved g c =
    let tells = g.H.Hub.tells in
    let i = c.reads.invariant in
    record {
      goes = turns_read (tells c.args.inner.now) (tells c.reads.inner) (tells c.read_more.new.inner) c.args.k c.args.front.now c.settle.new.self c.read_more.new.self _
          (turns_kept (tells c.args.inner.now) (tells c.reads.inner) c.args.k c.args.front.now c.reads.front c.settle.new.self i.goes c.settle.ensures.keeps) c.in-Bytes.ensures.goes;
      asking = ap (λ (f : Front). is_asking f.stage) c.in-Bytes.ensures.within.2.2 ∙ c.settle.ensures.asking i.asking;
      limit = ap (λ (f : Front). f.limit) c.in-Bytes.ensures.within.2.2 ∙ (c.settle.ensures.limit ∙ i.limit);
      later = later_on _ _ _ i.later c.in-Bytes.ensures.later;
      kept = c.in-Bytes.ensures.kept ∙ i.kept;
    }

pub returns-in-NotReady-clause-kept : goal.returns-in-NotReady-clause-kept
returns-in-NotReady-clause-kept g c = grind (arith, common_steps)

pub returns-in-End-clause-cause : goal.returns-in-End-clause-cause
returns-in-End-clause-cause g c = grind (arith, common_steps)

pub returns-in-NotReady-clause-enough : goal.returns-in-NotReady-clause-enough
returns-in-NotReady-clause-enough g c = grind (arith, common_steps)

pub returns-in-NotReady-clause-later : goal.returns-in-NotReady-clause-later
returns-in-NotReady-clause-later g c = grind (arith, common_steps)

pub returns-in-Failed-clause-later : goal.returns-in-Failed-clause-later
returns-in-Failed-clause-later g c = grind (arith, common_steps)

pub returns-in-End-clause-kept : goal.returns-in-End-clause-kept
returns-in-End-clause-kept g c = grind (arith, common_steps)

pub reads-smaller : goal.reads-smaller
reads-smaller g c = grind (arith, common_steps)

pub returns-in-Failed-clause-kept : goal.returns-in-Failed-clause-kept
returns-in-Failed-clause-kept g c = grind (arith, common_steps)

pub returns-in-End-clause-wait : goal.returns-in-End-clause-wait
returns-in-End-clause-wait g c = grind (arith, common_steps)

pub returns-in-Failed-clause-enough : goal.returns-in-Failed-clause-enough
returns-in-Failed-clause-enough g c = grind (arith, common_steps)

pub returns-in-End-clause-later : goal.returns-in-End-clause-later
returns-in-End-clause-later g c = grind (arith, common_steps)
